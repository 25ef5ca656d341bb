-- Codes that are gathered up to an ending character.
use Rattle.std.proofs.Common.{◌≡◌, ◌≢◌, inl, inr, ℕ, ◌-◌, ◌<◌, ◌≤◌, ◌==◌, true, false, cond}
use Rattle.std.proofs.Common.{refl, sym}
use Rattle.std.proofs.Common.{ap, ◌∙◌, arith, List, [], ◌∷◌, ◌++◌, length, Option, Some, None}
use Rattle.std.proofs.Common.{append_assoc}
use Rattle.std.proofs.lemmas.Bool.{eqb-true}
use Rattle.bsc_octet.specs.Octet.{odd_octet, code_of}
use Rattle.bsc_octet.proofs.OddOctets.{odd_cases, code_of_some, code_of_odd_octet}
use Rattle.bsc_frame.specs.Spells.{AreAll, AreFilled}
use Rattle.bsc_frame.specs.Reading.{is_ending_code, before_gathered, gather_code, gathered}
use Rattle.bsc_octet.specs.declared.controls.TheConstants.{SYN}
use Rattle.bsc_frame.proofs.ReadingSteps.{test_false, has_room}
use Rattle.bsc_frame.proofs.ReadingSteps.{branch_of_test}

-- the last of the codes is an ending character
abbrev pub EndsUnit : List ℕ → Type 0
EndsUnit [] = ⊥
EndsUnit (c ∷ []) = is_ending_code c ≡ true
EndsUnit (c ∷ d ∷ cs) = EndsUnit (d ∷ cs)

-- the last code of a unit is an ending character
pub ends_unit_last : (front : List ℕ) (e : ℕ) → EndsUnit (front ++ e ∷ []) → is_ending_code e ≡ true
ends_unit_last [] e h = h
ends_unit_last (c ∷ []) e h = h
ends_unit_last (c ∷ d ∷ front) e h = ends_unit_last (d ∷ front) e h

-- octets that begin with these codes, filled, of which the last ends a unit, and the rest
pub record Gathers (octets codes rest : List ℕ) : Type 0 where
  pub front : List ℕ
  pub whole : octets ≡ front ++ rest
  pub filled : AreFilled codes front
  pub ends : EndsUnit codes

-- one more fill
filled_more : (octets codes rest : List ℕ) → Gathers octets codes rest
    → Gathers (SYN ∷ octets) codes rest
filled_more octets [] rest g = absurd g.ends
filled_more octets (c ∷ cs) rest g = record {
  front = SYN ∷ g.front;
  whole = ap (λ x. SYN ∷ x) g.whole;
  filled = (
    SYN ∷ g.filled.0,
    g.filled.1,
    (refl, g.filled.2),
    ap (λ x. SYN ∷ x) g.filled.3,
    g.filled.4,
  );
  ends = g.ends;
}

-- one code more at the front
more_codes : (x c : ℕ) (octets codes rest : List ℕ) → odd_octet c ≡ x → Gathers octets codes rest
    → Gathers (x ∷ octets) (c ∷ codes) rest
more_codes x c octets [] rest e g = absurd g.ends
more_codes x c octets (d ∷ cs) rest e g = record {
  front = x ∷ g.front;
  whole = ap (λ z. x ∷ z) g.whole;
  filled = ([], g.front, tt, ap (λ z. z ∷ g.front) (sym e), g.filled);
  ends = g.ends;
}

-- what is read with one code more at the front is read without it
before_gathered_some : (c : ℕ) (o : Option (List ℕ × List ℕ)) (g : List ℕ × List ℕ)
    → before_gathered c o ≡ Some g
    → (h : List ℕ × List ℕ) × (o ≡ Some h) × (g.0 ≡ c ∷ h.0) × (g.1 ≡ h.1)
before_gathered_some c None g e = cc
before_gathered_some c (Some h) g e = (h, refl, cc, cc)

-- lists that are equal to those that are gathered are gathered
same_gathers : (octets codes codes' rest rest' : List ℕ) → codes ≡ codes' → rest ≡ rest'
    → Gathers octets codes' rest' → Gathers octets codes rest
same_gathers octets codes codes' rest rest' e f g = rw (e, f) g

-- one octet more that is not SYN, by the code that it carries
gathers_code : (x : ℕ) (xs : List ℕ) (o : Option ℕ) (more : Option (List ℕ × List ℕ))
    (g : List ℕ × List ℕ)
    → code_of x ≡ o
    → ((h : List ℕ × List ℕ) → more ≡ Some h → Gathers xs h.0 h.1)
    → gather_code o xs more ≡ Some g → Gathers (x ∷ xs) g.0 g.1
gathers_code x xs None more g k f e = cc
gathers_code x xs (Some c) more g k f e = elim (branch_of_test (is_ending_code c) _ _ _ e) [
  | inl h ↦
      let codes : g.0 ≡ c ∷ [] = let w = h.1 in cc in
      let rest : g.1 ≡ xs = let w = h.1 in cc in
      same_gathers (x ∷ xs) g.0 (c ∷ []) g.1 xs codes rest (record {
        front = x ∷ [];
        whole = refl;
        filled = ([], [], tt, ap (λ z. z ∷ []) (sym (code_of_some x c k).1), refl);
        ends = h.0;
      })
  | inr h ↦
      let b = before_gathered_some c more g h.1 in
      same_gathers (x ∷ xs) g.0 (c ∷ b.0.0) g.1 b.0.1 b.2 b.3
      (more_codes x c xs b.0.0 b.0.1 (code_of_some x c k).1 (f b.0 b.1))
]

-- one octet more, which may be SYN
gathers_octet : (room x : ℕ) (xs : List ℕ) (g : List ℕ × List ℕ)
    → (gathered room xs ≡ Some g → Gathers xs g.0 g.1)
    → ((h : List ℕ × List ℕ) → gathered (room - 1) xs ≡ Some h → Gathers xs h.0 h.1)
    → cond (x == SYN) (gathered room xs)
    (cond (room == 0) None (gather_code (code_of x) xs (gathered (room - 1) xs))) ≡ Some g
    → Gathers (x ∷ xs) g.0 g.1
gathers_octet room x xs g same more e = elim (branch_of_test (x == SYN) _ _ _ e) [
  | inl h ↦ rw (eqb-true x SYN h.0) (filled_more xs g.0 g.1 (same h.1))
  | inr h ↦ elim (branch_of_test (room == 0) _ _ _ h.1) [
    | inl q ↦ let w = q.1 in cc
    | inr q ↦ gathers_code x xs (code_of x) (gathered (room - 1) xs) g refl more q.1
  ]
]

-- the codes that are read are carried by the octets, with fill, up to the rest
pub gathered_reads : (room : ℕ) (octets : List ℕ) (g : List ℕ × List ℕ) → gathered room octets
    ≡ Some g
    → Gathers octets g.0 g.1
unfolding gathered
gathered_reads room [] g e = cc
gathered_reads room (x ∷ xs) g e =
    gathers_octet room x xs g (gathered_reads room xs g) (gathered_reads (room - 1) xs) e

-- ---- back

-- a code that is not SYN
pub record IsOther (c : ℕ) : Type 0 where
  pub code : c < 128
  pub other : c ≢ SYN

-- codes of which only the last is an ending character, and none is SYN
abbrev pub IsRun : List ℕ → Type 0
IsRun [] = ⊥
IsRun (c ∷ []) = IsOther c × (is_ending_code c ≡ true)
IsRun (c ∷ d ∷ cs) = IsOther c × (is_ending_code c ≡ false) × IsRun (d ∷ cs)

-- the octet of a code that is not SYN is not SYN
odd_other : (c : ℕ) → IsOther c → (odd_octet c == SYN) ≡ false
odd_other c o =
    test_false (odd_octet c) SYN (λ e. elim (odd_cases c)
    [ inl k ↦ absurd (o.other (sym k.0 ∙ e)) | inr k ↦ absurd (omega arith) ])

-- fill before the octets does not change what is read
after_fill : (room : ℕ) (fill rest : List ℕ) → AreAll SYN fill
    → gathered room (fill ++ rest) ≡ gathered room rest
unfolding gathered
after_fill room [] rest h = refl
after_fill room (x ∷ fill) rest h = rw h.0 (after_fill room fill rest h.1)

-- codes that are carried, with fill, up to an ending character are read
pub gathered_read : (room : ℕ) (codes front rest : List ℕ) → AreFilled codes front → IsRun codes
    → length codes ≤ room → gathered room (front ++ rest) ≡ Some (codes, rest)
unfolding gathered
gathered_read room [] front rest f r l = absurd r
gathered_read room (c ∷ []) front rest f r l =
    let some : (room == 0) ≡ false = test_false room 0 (has_room 0 room l) in
    let first : gathered room (odd_octet c ∷ rest) ≡ Some (c ∷ [], rest) =
    rw (odd_other c r.0, some, code_of_odd_octet c r.0.code, r.1) refl in
    let here : front ≡ f.0 ++ odd_octet c ∷ [] = f.3 ∙ ap (λ z. f.0 ++ odd_octet c ∷ z) f.4 in
    ap (λ z. gathered room (z ++ rest)) here
    ∙ ap (gathered room) (append_assoc f.0 (odd_octet c ∷ []) rest)
    ∙ after_fill room f.0 (odd_octet c ∷ rest) f.2 ∙ first
gathered_read room (c ∷ d ∷ cs) front rest f r l =
    let some : (room == 0) ≡ false = test_false room 0 (has_room (length (d ∷ cs)) room l) in
    let more : gathered (room - 1) (f.1 ++ rest) ≡ Some (d ∷ cs, rest) =
    gathered_read (room - 1) (d ∷ cs) f.1 rest f.4 r.2 (omega arith) in
    let first : gathered room (odd_octet c ∷ f.1 ++ rest) ≡ Some (c ∷ d ∷ cs, rest) =
    rw (odd_other c r.0, some, code_of_odd_octet c r.0.code, r.1, more) refl in
    ap (λ z. gathered room (z ++ rest)) f.3
    ∙ ap (gathered room) (append_assoc f.0 (odd_octet c ∷ f.1) rest)
    ∙ after_fill room f.0 (odd_octet c ∷ f.1 ++ rest) f.2 ∙ first
