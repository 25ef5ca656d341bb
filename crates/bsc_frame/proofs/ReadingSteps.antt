-- The steps of reading from left to right.
use Rattle.std.proofs.Common.{◌≡◌, ◌≢◌, ◌⊎◌, inl, inr, ℕ, zero, suc, ◌+◌, ◌-◌, ◌<◌, ◌≤◌, ◌==◌, Bool}
use Rattle.std.proofs.Common.{true, false}
use Rattle.std.proofs.Common.{cond, refl}
use Rattle.std.proofs.Common.{sym, ap, ◌∙◌, arith, List, [], ◌∷◌, ◌++◌, length, take, drop, get_or}
use Rattle.std.proofs.Common.{drop-cons}
use Rattle.std.proofs.Common.{add-one, append-nil, append_assoc, length-append, length-drop, Option}
use Rattle.std.proofs.Common.{Some}
use Rattle.std.proofs.Common.{None}
use Rattle.std.proofs.lemmas.List.{drop_all, take_more, take_all}
use Rattle.std.proofs.lemmas.Bool.Decides.{nat_tests}
use Rattle.std.proofs.lemmas.Bool.{eqb-true}
use Rattle.std.proofs.lemmas.Slice.Eq.{bytes_eq-Decides}
use Rattle.std.specs.Str.{bytes_eq}
use Rattle.bsc_octet.specs.Octet.{code_of}
use Rattle.bsc_frame.specs.Reading.{trimmed, before_rest, called, with_code, at_end}
use Rattle.bsc_frame.specs.declared.limits.TheConstants.{MAX_ADDRESS}
use Rattle.bsc_octet.specs.declared.controls.TheConstants.{ENQ, PAD}

-- numbers that differ fail the test
pub test_false : (a b : ℕ) → (a ≡ b → ⊥) → (a == b) ≡ false
test_false a b h = grind (arith, nat_tests)

-- what `&s[i..]` is
pub rest_is : (s : List ℕ) (i : ℕ) → take (length s - i) (drop i s) ≡ drop i s
rest_is s i = take_all (length s - i) (drop i s) (omega (arith, length-drop i s))

-- ---- trimmed

-- one PAD more at the end changes nothing
pub trimmed_push_pad : (xs : List ℕ) → trimmed (xs ++ PAD ∷ []) ≡ trimmed xs
unfolding trimmed
trimmed_push_pad [] = refl
trimmed_push_pad (x ∷ xs) = ap (before_rest x) (trimmed_push_pad xs)

-- an octet that is not PAD stays
other_stays : (x : ℕ) (b : Bool) → (x == PAD) ≡ b → x ≢ PAD → cond b [] (x ∷ []) ≡ x ∷ []
other_stays x true e h = absurd (h (eqb-true x PAD e))
other_stays x false e h = refl

-- a list that ends with another octet than PAD is left whole
pub trimmed_push_other : (xs : List ℕ) (x : ℕ) → x ≢ PAD → trimmed (xs ++ x ∷ []) ≡ xs ++ x ∷ []
unfolding trimmed
trimmed_push_other [] x h = other_stays x (x == PAD) refl h
trimmed_push_other (y ∷ []) x h = rw (other_stays x (x == PAD) refl h) refl
trimmed_push_other (y ∷ z ∷ xs) x h = rw (trimmed_push_other (z ∷ xs) x h) refl

-- a front that ends with PAD may be taken one shorter
pub trimmed_less : (s : List ℕ) (n : ℕ) → 0 < n → n ≤ length s → get_or s (n - 1) 0 ≡ PAD
    → trimmed (take (n - 1) s) ≡ trimmed (take n s)
trimmed_less s n p l e =
    let back : n ≡ (n - 1) + 1 = omega arith in
    let split : take n s ≡ take (n - 1) s ++ PAD ∷ [] =
    ap (λ k. take k s) back ∙ take_more s (n - 1) 0 (omega arith) ∙ rw e refl in
    rw split (sym (trimmed_push_pad (take (n - 1) s)))

-- if a front does not end with PAD, it is what is left
pub trimmed_done : (s : List ℕ) (n : ℕ) → trimmed (take n s) ≡ trimmed s → 0 < n → n ≤ length s
    → get_or s (n - 1) 0 ≢ PAD → take n s ≡ trimmed s
trimmed_done s n same p l e =
    let back : n ≡ (n - 1) + 1 = omega arith in
    let split : take n s ≡ take (n - 1) s ++ get_or s (n - 1) 0 ∷ [] =
    ap (λ k. take k s) back ∙ take_more s (n - 1) 0 (omega arith) in
    let stays : trimmed (take n s) ≡ take n s =
    rw split (trimmed_push_other (take (n - 1) s) (get_or s (n - 1) 0) e) in
    sym stays ∙ same

-- of octets that are all PAD nothing is left
pub trimmed_none : (s : List ℕ) (n : ℕ) → trimmed (take n s) ≡ trimmed s → n ≤ 0 → take 0 s
    ≡ trimmed s
unfolding trimmed
trimmed_none s zero same l = same
trimmed_none s (suc n) same l = absurd (omega arith)

-- codes that were read before
abbrev pub with_codes : List ℕ → Option (List ℕ) → Option (List ℕ)
with_codes front None = None
with_codes front (Some codes) = Some (front ++ codes)

-- ---- called, one octet on

-- the codes of a call from a place on, by the octet there
pub called_at : (room : ℕ) (s : List ℕ) (i : ℕ) → i < length s
    → called room (drop i s) ≡ cond (get_or s i 0 == ENQ) (at_end (drop (i + 1) s))
    (cond (room == 0) None (with_code (code_of (get_or s i 0))
    (called (room - 1) (drop (i + 1) s))))
unfolding called
called_at room s i l = rw (add-one i, drop-cons s i 0 l) refl

-- if something follows the ENQ, there is no address
at_end_none : (s : List ℕ) → 0 < length s → at_end s ≡ None
at_end_none [] h = absurd (omega arith)
at_end_none (x ∷ xs) h = refl

-- the loop invariant of reading an address
pub record Reads (front : List ℕ) (i : ℕ) (s : List ℕ) : Type 0 where
  pub room : length front ≤ MAX_ADDRESS
  pub rest : with_codes front (called (MAX_ADDRESS - length front) (drop i s))
      ≡ called MAX_ADDRESS s

-- if there is room for one more, the room is not 0
pub has_room : (n room : ℕ) → suc n ≤ room → room ≡ 0 → ⊥
has_room n room h e = omega arith

-- what the rest is read as decides what the whole is read as
from_rest : (front : List ℕ) (i : ℕ) (s : List ℕ) (x : Option (List ℕ)) → Reads front i s
    → called (MAX_ADDRESS - length front) (drop i s) ≡ x → with_codes front x ≡ called MAX_ADDRESS s
from_rest front i s x r e = ap (with_codes front) (sym e) ∙ r.rest

-- an ENQ at the end ends the address
pub called_end : (front : List ℕ) (i : ℕ) (s : List ℕ) → Reads front i s → i < length s
    → get_or s i 0 ≡ ENQ
    → i + 1 ≡ length s → Some front ≡ called MAX_ADDRESS s
called_end front i s r l e last =
    let all : drop (i + 1) s ≡ [] = drop_all (i + 1) s (omega arith) in
    let here : called (MAX_ADDRESS - length front) (drop i s) ≡ Some [] =
    called_at (MAX_ADDRESS - length front) s i l ∙ rw (e, all) refl in
    ap Some (sym (append-nil front)) ∙ from_rest front i s (Some []) r here

-- an ENQ before the end ends no address
pub called_early : (front : List ℕ) (i : ℕ) (s : List ℕ) → Reads front i s → i < length s
    → get_or s i 0 ≡ ENQ → (i + 1 ≡ length s → ⊥) → None ≡ called MAX_ADDRESS s
called_early front i s r l e more =
    let here : called (MAX_ADDRESS - length front) (drop i s) ≡ None =
    called_at (MAX_ADDRESS - length front) s i l
    ∙ rw (e, at_end_none (drop (i + 1) s) (omega (arith, length-drop (i + 1) s))) refl in
    from_rest front i s None r here

-- there are more codes than an address has
pub called_full : (front : List ℕ) (i : ℕ) (s : List ℕ) → Reads front i s → i < length s
    → (get_or s i 0 ≡ ENQ → ⊥) → length front ≡ MAX_ADDRESS → None ≡ called MAX_ADDRESS s
called_full front i s r l e full =
    let here : called (MAX_ADDRESS - length front) (drop i s) ≡ None =
    called_at (MAX_ADDRESS - length front) s i l
    ∙ rw (test_false (get_or s i 0) ENQ e, full) refl in
    from_rest front i s None r here

-- an octet of even parity is in no address
pub called_wrong : (front : List ℕ) (i : ℕ) (s : List ℕ) → Reads front i s → i < length s
    → (get_or s i 0 ≡ ENQ → ⊥) → length front < MAX_ADDRESS → code_of (get_or s i 0) ≡ None
    → None ≡ called MAX_ADDRESS s
called_wrong front i s r l e less k =
    let some : (MAX_ADDRESS - length front == 0) ≡ false =
    test_false (MAX_ADDRESS - length front) 0
    (has_room 0 (MAX_ADDRESS - length front) (omega (arith, less))) in
    let here : called (MAX_ADDRESS - length front) (drop i s) ≡ None =
    called_at (MAX_ADDRESS - length front) s i l
    ∙ rw (test_false (get_or s i 0) ENQ e, some, k) refl in
    from_rest front i s None r here

-- one code more before the rest
with_one : (front : List ℕ) (c : ℕ) (x : Option (List ℕ))
    → with_codes (front ++ c ∷ []) x ≡ with_codes front (with_code (Some c) x)
with_one front c None = refl
with_one front c (Some cs) = ap Some (append_assoc front (c ∷ []) cs)

-- one code more of the address is read
pub called_more : (front : List ℕ) (i : ℕ) (s : List ℕ) (c : ℕ) → Reads front i s → i < length s
    → (get_or s i 0 ≡ ENQ → ⊥) → length front < MAX_ADDRESS → code_of (get_or s i 0) ≡ Some c
    → Reads (front ++ c ∷ []) (i + 1) s
called_more front i s c r l e less k =
    let some : (MAX_ADDRESS - length front == 0) ≡ false =
    test_false (MAX_ADDRESS - length front) 0
    (has_room 0 (MAX_ADDRESS - length front) (omega (arith, less))) in
    let longitudinal_sum : length (front ++ c ∷ []) ≡ length front + 1 =
    length-append front (c ∷ []) in
    let fewer : MAX_ADDRESS - length (front ++ c ∷ []) ≡ MAX_ADDRESS - length front - 1 =
    omega arith in
    let here : called (MAX_ADDRESS - length front) (drop i s)
    ≡ with_code (Some c) (called (MAX_ADDRESS - length front - 1) (drop (i + 1) s))
    = called_at (MAX_ADDRESS - length front) s i l
    ∙ rw (test_false (get_or s i 0) ENQ e, some, k) refl in
    record {
      room = omega arith;
      rest =
          rw fewer (with_one front c (called (MAX_ADDRESS - length front - 1) (drop (i + 1) s))
          ∙ from_rest front i s _ r here);
    }

-- there is no ENQ
pub called_none : (front : List ℕ) (i : ℕ) (s : List ℕ) → Reads front i s → length s ≤ i
    → None ≡ called MAX_ADDRESS s
unfolding called
called_none front i s r l = from_rest front i s None r (rw (drop_all i s l) refl)

-- what a loop from the end back uses
pub ruleset trim_steps = (trimmed_less, trimmed_done, trimmed_none)

-- which branch a test took
pub branch_of_test : {A : Type 0} (b : Bool) (x y z : A) → cond b x y ≡ z
    → ((b ≡ true) × (x ≡ z)) ⊎ ((b ≡ false) × (y ≡ z))
branch_of_test true x y z h = inl (refl, h)
branch_of_test false x y z h = inr (refl, h)

-- lists that compare as equal are the same
pub equal_octets_are_same : (x y : List ℕ) → bytes_eq x y ≡ true → x ≡ y
equal_octets_are_same x y h = (bytes_eq-Decides x y).0 h
