-- What two buffers in turn hold.
use Rattle.std.specs.Prelude.{ℕ, Bool, true, false, List}

-- The octets that have begun, and those that were complete last.
pub record TwoBuffersValue : Type 0 where
  pub begun : List ℕ
  pub complete : List ℕ

-- What has begun is in the first of the two buffers, or in the second one.
abbrev pub holds : Bool → List ℕ → List ℕ → TwoBuffersValue
holds true first second = record { begun = first; complete = second }
holds false first second = record { begun = second; complete = first }
