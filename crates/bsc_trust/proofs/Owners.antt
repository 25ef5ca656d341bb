-- The owner of the connection at a place, where what is known of one is replaced.
use Rattle.std.proofs.Common.{◌≡◌, ◌≢◌, ◌⊎◌, inl, inr, ℕ, zero, suc, ◌<◌, ◌≤◌, Bool, true, false}
use Rattle.std.proofs.Common.{cond}
use Rattle.std.proofs.Common.{List, [], ◌∷◌, length, refl, sym, ◌∙◌, ap, arith, Option, None, Some}
use Rattle.std.proofs.lemmas.List.{get_or-set_other, get_or-set_same}
use Rattle.std.proofs.lemmas.List.Sums.{fails_before_first}
use Rattle.std.proofs.lemmas.Bool.{eq-eqb, cases_lt}
use Rattle.std.proofs.Math.ListN.{get_or-eq_default}
use Rattle.std.specs.Prelude.{nat_lt, slice_set}
use Rattle.std.specs.List.{position_or_len}
use Rattle.bsc_trust.specs.declared.connected.Connected.{Connected}
use Rattle.bsc_trust.specs.Connections.{nobody, connected_at, is_this, owned_by}
use Rattle.bsc_trust.specs.Connections.{ignored_on}

-- The owner of the connection at a place.
abbrev pub owner_at : List Connected → ℕ → Option ℕ
owner_at connections place = (connected_at connections place).owner

pub owner_after_set : (cs : List Connected) (place p : ℕ) (c : Connected) (terminal : ℕ)
    → owner_at (slice_set cs place c) p ≡ Some terminal
    → (owner_at cs p ≡ Some terminal) ⊎ ((p ≡ place) × (c.owner ≡ Some terminal))
owner_after_set [] place p c terminal h = inl h
owner_after_set (x ∷ xs) zero zero c terminal h = inr (refl, h)
owner_after_set (x ∷ xs) zero (suc p) c terminal h = inl h
owner_after_set (x ∷ xs) (suc place) zero c terminal h = inl h
owner_after_set (x ∷ xs) (suc place) (suc p) c terminal h =
    elim (owner_after_set xs place p c terminal h) [
      | inl old ↦ inl old
      | inr new ↦ inr (ap suc new.0, new.1)
    ]

pub owner_of_set : (cs : List Connected) (place : ℕ) (c : Connected) (terminal : ℕ)
    → c.owner ≡ Some terminal → owner_at cs place ≡ Some terminal
    → owner_at (slice_set cs place c) place ≡ Some terminal
owner_of_set [] place c terminal new old = old
owner_of_set (x ∷ xs) zero c terminal new old = new
owner_of_set (x ∷ xs) (suc place) c terminal new old = owner_of_set xs place c terminal new old

pub owner_within_set : (cs : List Connected) (place : ℕ) (c : Connected) → place < length cs
    → owner_at (slice_set cs place c) place ≡ c.owner
owner_within_set cs place c within =
    ap (λ (x : Connected). x.owner) (get_or-set_same cs place c nobody within)

pub owner_beside_set : (cs : List Connected) (place p : ℕ) (c : Connected) → p ≢ place
    → owner_at (slice_set cs place c) p ≡ owner_at cs p
owner_beside_set cs place p c other =
    ap (λ (x : Connected). x.owner) (get_or-set_other cs place p c nobody other)

-- Barring a connection changes no owner.
pub owners_after_barring : (cs : List Connected) (place p : ℕ) (shared : Bool)
    → owner_at (slice_set cs place (ignored_on shared (connected_at cs place))) p
    ≡ owner_at cs p
owners_after_barring [] place p shared = refl
owners_after_barring (x ∷ xs) zero zero shared = refl
owners_after_barring (x ∷ xs) zero (suc p) shared = refl
owners_after_barring (x ∷ xs) (suc place) zero shared = refl
owners_after_barring (x ∷ xs) (suc place) (suc p) shared =
    owners_after_barring xs place p shared

not_before_first : (first count : ℕ) → cond (nat_lt first count) (Some first) None ≡ None
    → count ≤ first
not_before_first first count h =
    elim (cases_lt first count) [
      | inl below ↦ absurd (grind (arith, h, below))
      | inr rest ↦ rest
    ]

-- A terminal that owns no connection is the owner at no place.
pub owns_nothing : (cs : List Connected) (terminal place : ℕ) → owned_by cs terminal ≡ None
    → owner_at cs place ≡ Some terminal → ⊥
owns_nothing cs terminal place none own =
    let test : Connected → Bool = λ c. is_this terminal c.owner in
    let rest : length cs ≤ position_or_len test cs =
    not_before_first (position_or_len test cs) (length cs) none in
    elim (cases_lt place (length cs)) [
      | inl within ↦
          let fails : test (connected_at cs place) ≡ false =
          fails_before_first test cs place nobody (omega (arith, within, rest)) in
          let passes : test (connected_at cs place) ≡ true =
          ap (is_this terminal) own ∙ eq-eqb terminal terminal refl in
          let wrong : true ≡ false = sym passes ∙ fails in
          absurd (cc)
      | inr outside ↦
          let nobodys : owner_at cs place ≡ None =
          ap (λ (x : Connected). x.owner) (get_or-eq_default cs nobody outside) in
          let wrong : None ≡ Some terminal = sym nobodys ∙ own in
          absurd (cc)
    ]
