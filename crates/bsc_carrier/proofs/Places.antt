-- Lists of ends: one place or every place, and lists that were lent as slices.
use Rattle.std.proofs.Common.{◌≡◌, ℕ, zero, suc, ◌-◌, ◌<◌, ◌≤◌, List, [], ◌∷◌, ◌++◌, length, get_or}
use Rattle.std.proofs.Common.{take, drop, set, refl, sym, ap, ◌∙◌, subst, append-nil, arith}
use Rattle.std.proofs.lemmas.List.{take_rest, drop_all}
use Rattle.std.proofs.Math.Seq.{take-append_seam}
use Rattle.std.proofs.lemmas.Result.{IfOk-from_err}
use Rattle.std.specs.List.{AllZip, Any}
use Rattle.std.specs.Prelude.{Result, IsErr, OnOk}
use borrow.Rule.Slice.PartMut.{put_mid}
use Rattle.bsc_carrier.specs.Cable.{ChangesAt}
use Rattle.bsc_carrier.specs.declared.cable.Cable.{Cable as CableValue}
use Rattle.bsc_carrier.specs.declared.limits.TheConstants.{MAX_CONNECTIONS}

module _ {S : Type 0} where
  -- An end that is unchanged.
  pub stays_at : (P : S → S → Type 0) → ((end : S) → P end end) → (ends : List S) (t : ℕ) → t
      < length ends → ChangesAt t P ends ends
  stays_at P same [] t there = absurd (omega (arith, there))
  stays_at P same (end ∷ ends) zero there = (end, end, refl, refl, same end)
  stays_at P same (end ∷ ends) (suc t) there =
      let (before, after, here, set_is, holds) = stays_at P same ends t (omega (arith, there)) in
      (before, after, here, ap (λ l. end ∷ l) set_is, holds)

  -- What holds at each place holds of the whole list.
  pub AllZip-from_places : (R : S → S → Type 0) (old new : List S) → length new ≡ length old
      → ((i : ℕ) (d : S) → i < length old → R (get_or old i d) (get_or new i d)) → AllZip R old new
  AllZip-from_places R [] [] long each = tt
  AllZip-from_places R [] (y ∷ new) long each = absurd (omega (arith, long))
  AllZip-from_places R (x ∷ old) [] long each = absurd (omega (arith, long))
  AllZip-from_places R (x ∷ old) (y ∷ new) long each = (
    each 0 x (omega arith),
    AllZip-from_places R old new (omega (arith, long))
        (λ i d below. each (suc i) d (omega (arith, below))),
  )

  -- The ends after the first do not depend on a change of the first.
  pub ends_after : (ends : List S) (first : S)
      → take (length (set ends 0 first) - 1) (drop 1 (set ends 0 first)) ≡ drop 1 ends
  ends_after [] first = refl
  ends_after (end ∷ ends) first = take_rest (first ∷ ends) 1

  -- What holds of an end after the first holds of one of the whole list.
  pub Any-later : (P : S → Type 0) (ends : List S) → Any P (drop 1 ends) → Any P ends
  Any-later P [] any = any
  Any-later P (end ∷ ends) (place, found, below, is, holds) =
      (suc place, found, omega (arith, below), is, holds)

  pub Any-first : (P : S → Type 0) (ends : List S) (d : S) → 1 ≤ length ends → P (get_or ends 0 d)
      → Any P ends
  Any-first P [] d some holds = absurd (omega (arith, some))
  Any-first P (end ∷ ends) d some holds = (0, end, omega arith, refl, holds)

  -- What holds of the first end and of those after it holds of the whole list.
  pub AllZip-first_and_later : (R : S → S → Type 0) (old later : List S) (first d : S) → 1
      ≤ length old → R (get_or old 0 d) first → AllZip R (drop 1 old) later
      → AllZip R old (put_mid 1 (length (set old 0 first) - 1) (set old 0 first) later)
  AllZip-first_and_later R [] later first d some one more = absurd (omega (arith, some))
  AllZip-first_and_later R (end ∷ old) later first d some one more =
      let none : drop (length (first ∷ old) - 1) old ≡ [] =
      drop_all (length (first ∷ old) - 1) old (omega arith) in
      (one, subst (AllZip R old) (sym (append-nil later) ∙ ap (λ l. later ++ l) (sym none)) more)

  -- To write back a whole list gives that list.
  pub written_back : (n : ℕ) (new rest : List S) → length new ≡ n → take n (new ++ rest) ≡ new
  written_back n new rest long = ap (λ k. take k (new ++ rest)) (sym long)
      ∙ take-append_seam new rest

  pub written_back_length : (n : ℕ) (new rest : List S) → length new ≡ n
      → length (take n (new ++ rest)) ≡ n
  written_back_length n new rest long = ap length (written_back n new rest long) ∙ long

  -- Both sides of a cable have as many ends after they are written back as before.
  pub counts_written_back : (n m : ℕ) (left right left_new right_new left_rest right_rest : List S)
      → length left ≡ n → length right ≡ m → length left_new ≡ n → length right_new ≡ m
      → (length left ≡ length right) × (1 ≤ length left) × (length left ≤ MAX_CONNECTIONS)
      → (length (take n (left_new ++ left_rest)) ≡ length (take m (right_new ++ right_rest)))
      × (1 ≤ length (take n (left_new ++ left_rest)))
      × (length (take n (left_new ++ left_rest)) ≤ MAX_CONNECTIONS)
  counts_written_back n m left right left_new right_new left_rest right_rest l r l_new r_new counts =
      let l_back = written_back_length n left_new left_rest l_new in
      let r_back = written_back_length m right_new right_rest r_new in (
        l_back ∙ sym l ∙ counts.0 ∙ r ∙ sym r_back,
        omega (arith, l_back, l, counts.1),
        omega (arith, l_back, l, counts.2),
      )

  -- Ends that were lent, did not change and were written back.
  pub same_back : (n : ℕ) (old lent new rest : List S) → lent ≡ old → length new ≡ n → new ≡ lent
      → take n (new ++ rest) ≡ old
  same_back n old lent new rest same long stays = written_back n new rest long ∙ stays ∙ same

  -- A change at one place of ends that were lent and written back.
  pub changes_back : (P : S → S → Type 0) (t n : ℕ) (old lent new rest : List S) → lent ≡ old
      → length new ≡ n → ChangesAt t P lent new → ChangesAt t P old (take n (new ++ rest))
  changes_back P t n old lent new rest same long changes =
      subst (ChangesAt t P old) (sym (written_back n new rest long))
      (subst (λ l. ChangesAt t P l new) same changes)

  -- What holds of all ends that were lent and written back.
  pub all_written_back : {T E : Type 0} (result : Result T E) (R : S → S → Type 0) (n : ℕ)
      (old lent new rest : List S) → lent ≡ old → length new ≡ n → OnOk result (AllZip R lent new)
      → OnOk result (AllZip R old (take n (new ++ rest)))
  all_written_back result R n old lent new rest same long all =
      subst (λ l. OnOk result (AllZip R old l)) (sym (written_back n new rest long))
      (subst (λ l. OnOk result (AllZip R l new)) same all)

  -- After an error the ends are unchanged.
  pub stays_after_error : {T E : Type 0} (result : Result T E) (P : S → S → Type 0) (ends : List S)
      (t : ℕ) → t < length ends → IsErr result
      → ChangesAt t (λ before after. OnOk result (P before after)) ends ends
  stays_after_error result P ends t there failed =
      stays_at (λ before after. OnOk result (P before after))
      (λ end. IfOk-from_err result (λ _. P end end) failed) ends t there

-- Cables with the same ends and the same fault.
pub same_cable : {S : Type 0} (A : Type 0) (a b : CableValue S A) → a.control_ends ≡ b.control_ends
    → a.terminal_ends ≡ b.terminal_ends → a.fault ≡ b.fault → a ≡ b
same_cable {S} A a b control terminals fault =
    ap {B = CableValue S A} (λ x. record a { control_ends = x }) control
    ∙ ap {B = CableValue S A} (λ x. record b { terminal_ends = x; fault = a.fault }) terminals
    ∙ ap {B = CableValue S A} (λ x. record b { fault = x }) fault
