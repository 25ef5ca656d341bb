-- What is kept of octets that arrive without a gap.
use Rattle.std.specs.Prelude.{◌≡◌, ◌≢◌, ℕ, ◌+◌, ◌<◌, ◌≤◌, Bool, true, false, List, [], ◌∷◌, ◌++◌}
use Rattle.std.specs.Prelude.{length, take, Result, Ok, Err}
use Rattle.std.specs.List.{concat}
use Rattle.bsc_frame.specs.declared.limits.TheConstants.{MAX_HEARD}
use Rattle.bsc_frame.specs.Spells.{IsNoise}
use Rattle.bsc_carrier.specs.declared.error.CarrierError.{CarrierError}
use Rattle.bsc_carrier.specs.declared.error.CarrierError.TheVariants.{Length}
use Rattle.bsc_connections.specs.declared.limits.TheConstants.{KEPT, MOST_WITHOUT_GAP}

-- The octets that arrived since the last gap, as far as they are kept, their number, and the octets
-- of the last transmission that a gap ended, as far as they are kept.
pub record GapsValue : Type 0 where
  pub begun : List ℕ
  pub arrived : ℕ
  pub complete : List ℕ

-- A piece is taken whole and ends nothing. If it makes too many octets without a gap, none of it is
-- taken.
abbrev pub Gathers : GapsValue → List ℕ → Result (ℕ × Bool) CarrierError → GapsValue → Type 0
Gathers old piece (Ok (taken, whole)) new =
    (taken ≡ length piece) × (whole ≡ false) × (old.arrived + length piece ≤ MOST_WITHOUT_GAP)
    × (new ≡ record {
      begun = take KEPT (old.begun ++ piece);
      arrived = old.arrived + length piece;
      complete = old.complete;
    })
Gathers old piece (Err Length) new = (MOST_WITHOUT_GAP < old.arrived + length piece) × (new ≡ old)
Gathers old piece (Err _) new = ⊥

-- A gap ends the transmission that has begun; if none has begun, nothing changes.
abbrev pub EndsAtGap : GapsValue → Bool → GapsValue → Type 0
EndsAtGap old true new = (old.begun ≢ [])
    × (new ≡ record { begun = []; arrived = 0; complete = old.begun })
EndsAtGap old false new = (old.begun ≡ []) × (new ≡ old)

-- Whether the list is empty.
abbrev pub is_empty : List ℕ → Bool
is_empty [] = true
is_empty (x ∷ xs) = false

-- The state goes from old to new when it is fed these pieces in turn, with no gap between them.
abbrev pub GathersAll : GapsValue → List (List ℕ) → GapsValue → Type 0
GathersAll old [] new = new ≡ old
GathersAll old (piece ∷ pieces) new =
    (mid : GapsValue) × Gathers old piece (Ok (length piece, false)) mid × GathersAll mid pieces new

-- These pieces arrive between two gaps: nothing has begun, the pieces arrive in turn with no gap
-- between them, and then there is a gap. The flag says whether the gap ends a transmission.
pub record ArriveBetweenGaps (old : GapsValue) (pieces : List (List ℕ)) (ended : Bool)
    (new : GapsValue) : Type 0 where
  pub nothing_begun : old.begun ≡ []
  pub held : GapsValue
  pub arrive : GathersAll old pieces held
  pub gap : EndsAtGap held ended new

-- What is complete after these pieces: the first 2,049 of their octets, which are all of them if
-- there are at most 2,048, and are heard as noise otherwise.
pub record IsHeardOf (pieces : List (List ℕ)) (complete : List ℕ) : Type 0 where
  pub first : complete ≡ take KEPT (concat pieces)
  pub all : length (concat pieces) ≤ MAX_HEARD → complete ≡ concat pieces
  pub noise : MAX_HEARD < length (concat pieces) → IsNoise complete

-- If a gap ends a transmission, octets arrived, and the last transmission is what is kept of them.
-- If it ends none, no octets arrived, and the last transmission stays.
abbrev pub EndsAll : GapsValue → List (List ℕ) → Bool → GapsValue → Type 0
EndsAll old pieces true new = (concat pieces ≢ []) × IsHeardOf pieces new.complete
EndsAll old pieces false new = (concat pieces ≡ []) × (new.complete ≡ old.complete)
