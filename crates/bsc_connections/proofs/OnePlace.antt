-- What is at one place of a list after a change, and what a history has of one place.
use Rattle.std.proofs.Common.{◌≡◌, ◌≢◌, ℕ, ◌<◌, Bool, true, false, cond, List, [], ◌∷◌}
use Rattle.std.proofs.Common.{length, get_or, slice_get, slice_set, Some, ◌⊎◌, inl, inr, refl, sym}
use Rattle.std.proofs.Common.{◌∙◌, ap, subst}
use Rattle.std.proofs.lemmas.Bool.{eq-eqb, eqb-true}
use Rattle.std.proofs.lemmas.List.{get_or-set_same, get_or-set_other, length-set}
use Rattle.std.proofs.lemmas.List.Elements.{AllZip-get_or}
use Rattle.std.proofs.lemmas.Slice.Zip.{AllZip-long}
use Rattle.std.proofs.lemmas.Option.{slice_get_within, slice_get-get_or, get_or_from_slice_get}
use Rattle.std.specs.Prelude.{nat_eq}
use Rattle.std.specs.List.{AllZip}
use Rattle.bsc_connections.specs.Histories.{if_same_place}

-- ---- places of a list

-- A change at another place leaves this place as it was.
pub other_place_unchanged : {C : Type 0} (xs : List C) (at place : ℕ) (y c : C) → (at ≢ place)
    → slice_get (slice_set xs at y) place ≡ Some c → slice_get xs place ≡ Some c
other_place_unchanged xs at place y c other is =
    let there : place < length xs =
    subst (λ (n : ℕ). place < n) (length-set xs at y)
    (slice_get_within (slice_set xs at y) place c is) in
    let apart : place ≢ at = λ (same : place ≡ at). other (sym same) in
    slice_get-get_or xs place c there
    ∙ ap Some (sym (get_or-set_other xs at place y c apart)
    ∙ get_or_from_slice_get (slice_set xs at y) place c c is)

-- The place of a change has what was put there.
pub changed_place_has_new : {C : Type 0} (xs : List C) (at place : ℕ) (y c : C) → at ≡ place
    → slice_get (slice_set xs at y) place ≡ Some c → y ≡ c
changed_place_has_new xs at place y c same is =
    let there : place < length xs =
    subst (λ (n : ℕ). place < n) (length-set xs at y)
    (slice_get_within (slice_set xs at y) place c is) in
    let here : at < length xs = subst (λ (n : ℕ). n < length xs) (sym same) there in
    sym (get_or-set_same xs at y c here)
    ∙ ap (λ (n : ℕ). get_or (slice_set xs at y) n c) same
    ∙ get_or_from_slice_get (slice_set xs at y) place c c is

pub related_at_place : {C : Type 0} (Q : C → C → Type 0) (xs ys : List C) (place : ℕ) (y : C)
    → AllZip Q xs ys → slice_get ys place ≡ Some y → (x : C) × (slice_get xs place ≡ Some x) × Q x y
related_at_place Q xs ys place y all is =
    let there : place < length xs =
    subst (λ (n : ℕ). place < n) (AllZip-long Q xs ys all) (slice_get_within ys place y is) in (
      get_or xs place y,
      slice_get-get_or xs place y there,
      subst (λ c. Q (get_or xs place y) c) (get_or_from_slice_get ys place y y is)
          (AllZip-get_or Q xs ys place y y all there),
    )

same_place_by_test : (b : Bool) (at place : ℕ) → nat_eq at place ≡ b
    → (at ≡ place) ⊎ (nat_eq at place ≡ false)
same_place_by_test true at place is = inl (eqb-true at place is)
same_place_by_test false at place is = inr is

pub same_or_other_place : (at place : ℕ) → (at ≡ place) ⊎ (nat_eq at place ≡ false)
same_or_other_place at place = same_place_by_test (nat_eq at place) at place refl

-- ---- transmissions of a history

pub arrived_at_same_place : (at place : ℕ) (octets : List ℕ) → at ≡ place
    → if_same_place place at octets ≡ octets ∷ []
arrived_at_same_place at place octets same = ap (λ (b : Bool). cond b (octets ∷ []) []) (eq-eqb at
    place same)

pub nothing_arrived_at_other_place : (at place : ℕ) (octets : List ℕ) → nat_eq at place ≡ false
    → if_same_place place at octets ≡ []
nothing_arrived_at_other_place at place octets other = ap (λ (b : Bool). cond b (octets ∷ []) [])
    other
