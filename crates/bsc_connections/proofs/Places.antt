-- A loop over a list: what holds of the places that it has passed, and of all places at its end.
use Rattle.std.proofs.Common.{◌≡◌, ◌≢◌, ℕ, ◌+◌, ◌<◌, ◌≤◌, List, length, get_or}
use Rattle.std.proofs.Common.{slice_set, refl, sym, ◌∙◌, subst, arith, get_or-set_other}
use Rattle.std.proofs.Common.{get_or-set_same, below_more}
use Rattle.std.proofs.lemmas.List.{get_or_default}

-- Below place k each element is related to what it was, and the others are unchanged.
abbrev pub IsPassed : {S : Type 0} → (S → S → Type 0) → List S → List S → ℕ → Type 0
IsPassed {S} R old new k =
    ((i : ℕ) (d : S) → i < k → R (get_or old i d) (get_or new i d))
    × ((i : ℕ) (d : S) → k ≤ i → get_or new i d ≡ get_or old i d)

module _ {S : Type 0} (R : S → S → Type 0) where
  pub passed_at_start : (old : List S) → IsPassed R old old 0
  passed_at_start old = (λ i d below. absurd (omega (arith, below)), λ i d beyond. refl)

  -- The relation extends by the element at place k.
  pub passed_with_one_more : (old new : List S) (k : ℕ) (e y : S) → length new ≡ length old
      → k < length old
      → R (get_or new k e) y → IsPassed R old new k → IsPassed R old (slice_set new k y) (k + 1)
  passed_with_one_more old new k e y long there step (passed, rest) =
      let inside : k < length new = subst (λ (n : ℕ). k < n) (sym long) there in (
        λ i d below.
            let before : get_or new k e ≡ get_or old k d = get_or_default new k e d inside
            ∙ rest k d (omega arith) in
            let after : y ≡ get_or (slice_set new k y) k d =
            sym (get_or-set_same new k y d inside) in
            below_more (λ (j : ℕ). R (get_or old j d) (get_or (slice_set new k y) j d)) k
            (λ j less. let other : j ≢ k = omega arith in
            subst (λ (z : S). R (get_or old j d) z) (sym (get_or-set_other new k j y d other))
            (passed j d less))
            (subst (λ (z : S). R (get_or old k d) z) after (subst (λ (z : S). R z y) before step)) i
            below,
        λ i d beyond. let other : i ≢ k = omega (arith, beyond) in
            get_or-set_other new k i y d other ∙ rest i d (omega (arith, beyond)),
      )
