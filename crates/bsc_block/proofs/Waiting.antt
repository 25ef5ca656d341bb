-- The records from a place on.
use Rattle.std.proofs.Common.{◌≡◌, ℕ, ◌+◌, ◌<◌, ◌∙◌, arith, List, length, drop, slice_get, get_or}
use Rattle.std.proofs.Common.{Some, ◌≤◌, ◌⊎◌, inl, inr, ap}
use Rattle.std.proofs.lemmas.List.{get_or-drop, length-drop}
use Rattle.std.proofs.lemmas.Option.{get_or_from_slice_get, slice_get_within}
use Rattle.bsc_frame.specs.declared.limits.TheConstants.{MAX_UNITS}
use Rattle.bsc_block.specs.Format.{FormatValue}
use Rattle.bsc_block.specs.Blocks.{cost, front_cost, IsTaken}
use Rattle.bsc_block.proofs.Fronts.{front_cost_more}
use Rattle.bsc_block.proofs.Taking.{stops_there}

-- A record of the list, by its place after the first ones.
pub waiting_at : (rs : List (List ℕ)) (from i : ℕ) (r d : List ℕ)
    → slice_get rs (from + i) ≡ Some r → get_or (drop from rs) i d ≡ r
waiting_at rs from i r d e =
    get_or-drop from rs i d ∙ get_or_from_slice_get rs (from + i) r d e

pub waiting_within : (rs : List (List ℕ)) (from i : ℕ) (r : List ℕ)
    → slice_get rs (from + i) ≡ Some r → i < length (drop from rs)
waiting_within rs from i r e =
    omega (arith, length-drop from rs, slice_get_within rs (from + i) r e)

-- One more waiting record adds its count.
pub front_cost_waiting : (f : FormatValue) (rs : List (List ℕ)) (from i : ℕ) (r : List ℕ)
    → slice_get rs (from + i) ≡ Some r
    → front_cost f (i + 1) (drop from rs) ≡ front_cost f i (drop from rs) + cost f r
front_cost_waiting f rs from i r e =
    front_cost_more f i (drop from rs) r (waiting_within rs from i r e)
    ∙ ap (λ x. front_cost f i (drop from rs) + cost f x) (waiting_at rs from i r r e)

-- The next block takes k records if these fit, and are all that wait, or seven, or do not fit with
-- the one that follows.
pub stops_at : (f : FormatValue) (rs : List (List ℕ)) (from k total more limit : ℕ) (r : List ℕ)
    → slice_get rs (from + k) ≡ Some r → k ≤ MAX_UNITS → total ≡ front_cost f k (drop from rs)
    → total ≤ limit → more ≡ cost f r → limit ≡ f.block_chars
    → (k ≡ MAX_UNITS) ⊎ ((k ≡ MAX_UNITS → ⊥) × (limit < total + more)) → IsTaken f (drop from rs) k
stops_at f rs from k total more limit r e few is fits adds same stop =
    stops_there f (drop from rs) k few (omega (arith, waiting_within rs from k r e))
    (omega (arith, is, fits, same)) (why stop)
  where
    why : (k ≡ MAX_UNITS) ⊎ ((k ≡ MAX_UNITS → ⊥) × (limit < total + more))
        → (MAX_UNITS ≤ k) ⊎ (length (drop from rs) ≤ k)
        ⊎ (f.block_chars < front_cost f (k + 1) (drop from rs))
    why (inl seven) = inl (omega (arith, seven))
    why (inr past) =
        inr (inr (omega (arith, past.1, is, adds, same, front_cost_waiting f rs from k r e)))
