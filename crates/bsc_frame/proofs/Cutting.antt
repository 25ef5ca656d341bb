-- The front up to the first ending octet, without fill, is what is gathered.
use Rattle.std.proofs.Common.{◌≡◌, ℕ, zero, suc, ◌+◌, ◌-◌, ◌<◌, ◌≤◌, ◌==◌, not, Bool, true, false}
use Rattle.std.proofs.Common.{cond, refl}
use Rattle.std.proofs.Common.{◌∙◌, arith, List, [], ◌∷◌, length, take, drop, map, Option, Some}
use Rattle.std.proofs.Common.{None}
use Rattle.std.specs.List.{filter, prefix_len}
use Rattle.std.proofs.lemmas.Bool.{eqb-true}
use Rattle.bsc_octet.specs.Octet.{code_of, code_in}
use Rattle.bsc_frame.specs.Reading.{is_other, is_before_ending, is_ending_octet}
use Rattle.bsc_frame.specs.Reading.{before_gathered}
use Rattle.bsc_frame.specs.Reading.{gathered}
use Rattle.bsc_octet.specs.declared.controls.TheConstants.{SYN}
use Rattle.bsc_frame.proofs.CarriedOctets.{AreCarried, ending_same}

-- gathering depends on three tests: fill, room, an ending octet
gather_step : (room x : ℕ) (s : List ℕ) → code_of x ≡ Some (code_in x)
    → gathered room (x ∷ s) ≡ cond (x == SYN) (gathered room s)
    (cond (room == 0) None (cond (is_ending_octet x) (Some (code_in x ∷ [], s))
    (before_gathered (code_in x) (gathered (room - 1) s))))
unfolding gathered
gather_step room x s c = rw (c, ← ending_same x c) refl

-- if nothing is read from the rest and the octet ends no unit, nothing is read
no_ending : (x : ℕ) (s : List ℕ) (fill full ending : Bool) (more : List ℕ × List ℕ) → ending ≡ false
    → cond fill None (cond full None (cond ending (Some more) (before_gathered x None))) ≡ None
no_ending x s true full ending more e = refl
no_ending x s false true ending more e = refl
no_ending x s false false ending more e = rw e refl

-- if the front is longer than the first octet, that octet passes the test
first_passes_in_longer_front : (x n : ℕ) (l : ℕ) (b : Bool) → cond (not b) (1 + n) 0 ≡ suc l → (b ≡ false) × (n ≡ l)
first_passes_in_longer_front x n l true e = absurd (omega arith)
first_passes_in_longer_front x n l false e = (refl, omega arith)

-- no codes are read if no octet carries an ending character
pub gathered_none : (room : ℕ) (s : List ℕ) → AreCarried s → prefix_len is_before_ending s
    ≡ length s
    → gathered room s ≡ None
unfolding gathered
gathered_none room [] c e = refl
gathered_none room (x ∷ s) c e =
    let k = first_passes_in_longer_front x (prefix_len is_before_ending s) (length s) (is_ending_octet x) e in
    gather_step room x s c.0 ∙ rw (gathered_none room s c.1 k.1, gathered_none (room - 1) s c.1 k.1)
    (no_ending (code_in x) s (x == SYN) (room == 0) (is_ending_octet x) (code_in x ∷ [], s)
    k.0)

-- a cut after the first m octets: gathering gives their codes without fill if there is room for
-- these, otherwise nothing
pub record CutTo (m room : ℕ) (s : List ℕ) : Type 0 where
  pub fits : length (filter is_other (take m s)) ≤ room → gathered room s
      ≡ Some (map code_in (filter is_other (take m s)), drop m s)
  pub full : room < length (filter is_other (take m s)) → gathered room s ≡ None

-- a SYN at the front changes nothing but the place of the cut
cut_fill : (m room : ℕ) (s : List ℕ) → CutTo m room s → CutTo (suc m) room (SYN ∷ s)
unfolding gathered
cut_fill m room s c = record { fits = c.fits; full = c.full }

-- with room for one code the code is read, otherwise nothing is
last_room : (room : ℕ) (r : List ℕ × List ℕ) (b : Bool) → (room == 0) ≡ b
    → (1 ≤ room → cond b None (Some r) ≡ Some r) × (room < 1 → cond b None (Some r) ≡ None)
last_room room r true e =
    (λ l. let z : room ≡ 0 = eqb-true room 0 e in absurd (omega arith), λ l. refl)
last_room room r false e =
    (λ l. refl, λ l. let z : room ≡ 0 = omega arith in let t : (room == 0) ≡ true = rw z refl in cc)

-- the cut after an octet that carries an ending character
cut_last : (room x : ℕ) (s : List ℕ) → code_of x ≡ Some (code_in x) → (x == SYN) ≡ false
    → is_ending_octet x ≡ true → CutTo 1 room (x ∷ s)
cut_last room x s c f e =
    let step : gathered room (x ∷ s) ≡ cond (room == 0) None (Some (code_in x ∷ [], s)) =
    gather_step room x s c ∙ rw (f, e) refl in
    let r = last_room room (code_in x ∷ [], s) (room == 0) refl in
    record { fits = rw f (λ l. step ∙ r.0 l); full = rw f (λ l. step ∙ r.1 l) }

-- one code more is read if there is room for it, otherwise nothing is
more_room : (x room : ℕ) (n : ℕ) (o : Option (List ℕ × List ℕ)) (r : List ℕ × List ℕ) (b : Bool)
    → (room == 0) ≡ b
    → (n ≤ room - 1 → o ≡ Some r) → (room - 1 < n → o ≡ None)
    → (suc n ≤ room → cond b None (before_gathered x o) ≡ Some (x ∷ r.0, r.1))
    × (room < suc n → cond b None (before_gathered x o) ≡ None)
more_room x room n o r true e fits full =
    (λ l. let z : room ≡ 0 = eqb-true room 0 e in absurd (omega arith), λ l. refl)
more_room x room n o r false e fits full = (
  λ l. rw (fits (omega arith)) refl,
  λ l. rw (full (above l)) refl,
)
  where
    some : room ≡ 0 → ⊥
    some z = let t : (room == 0) ≡ true = rw z refl in cc

    above : room < suc n → room - 1 < n
    above l = omega (arith, some)

-- the cut one octet further, after a code that ends nothing
cut_code : (m room x : ℕ) (s : List ℕ) → code_of x ≡ Some (code_in x) → (x == SYN) ≡ false
    → is_ending_octet x ≡ false → CutTo m (room - 1) s → CutTo (suc m) room (x ∷ s)
cut_code m room x s c f e k =
    let step : gathered room (x ∷ s) ≡ cond (room == 0) None
    (before_gathered (code_in x) (gathered (room - 1) s)) =
    gather_step room x s c ∙ rw (f, e) refl in
    let r =
    more_room (code_in x) room (length (filter is_other (take m s))) (gathered (room - 1) s)
    (map code_in (filter is_other (take m s)), drop m s) (room == 0) refl k.fits k.full in
    record { fits = rw f (λ l. step ∙ r.0 l); full = rw f (λ l. step ∙ r.1 l) }

-- the cut one octet further, whatever the octet is
cut_octet : (m room x : ℕ) (s : List ℕ) (fill ending : Bool) → code_of x ≡ Some (code_in x)
    → (x == SYN) ≡ fill → is_ending_octet x ≡ ending
    → suc m ≡ cond (not ending) (1 + prefix_len is_before_ending s) 0 + 1
    → ((room : ℕ) → m ≡ prefix_len is_before_ending s + 1 → CutTo m room s)
    → CutTo (suc m) room (x ∷ s)
cut_octet m room x s true true c f e n more =
    let z : x ≡ SYN = eqb-true x SYN f in let t : is_ending_octet x ≡ false = rw z refl in cc
cut_octet m room x s true false c f e n more =
    rw (eqb-true x SYN f) (cut_fill m room s (more room (omega arith)))
cut_octet m room x s false true c f e n more = let z : m ≡ 0 = omega arith in
    rw z (cut_last room x s c f e)
cut_octet m room x s false false c f e n more =
    cut_code m room x s c f e (more (room - 1) (omega arith))

-- the codes that are read are those of the octets up to the first ending octet, without fill
pub codes_cut_at_first_ending : (m room : ℕ) (s : List ℕ) → AreCarried s → m ≡ prefix_len is_before_ending s + 1 → m
    ≤ length s
    → CutTo m room s
codes_cut_at_first_ending zero room s c e l = absurd (omega arith)
codes_cut_at_first_ending (suc m) room [] c e l = absurd (omega arith)
codes_cut_at_first_ending (suc m) room (x ∷ s) c e l =
    cut_octet m room x s (x == SYN) (is_ending_octet x) c.0 refl refl e
    (λ r k. codes_cut_at_first_ending m r s c.1 k (omega arith))
