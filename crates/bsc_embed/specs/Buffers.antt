-- What is put into a buffer of the caller.
use Rattle.std.specs.Prelude.{◌≡◌, ◌<◌, ◌≤◌, ℕ, List, ◌++◌, length, drop, Result, Ok, Err}
use Rattle.bsc_embed.specs.declared.interface.fault.Fault.{Fault}
use Rattle.bsc_embed.specs.declared.interface.fault.Fault.TheVariants.{NoRoom}

-- The codes are at the front of the buffer, the rest of which is unchanged, and the length is
-- theirs.
pub record Holds (codes old new : List ℕ) (len : ℕ) : Type 0 where
  pub octets : new ≡ codes ++ drop (length codes) old
  pub count : len ≡ length codes

-- The codes are put into the buffer; if it is too short for them, nothing changes.
abbrev pub IsPut : List ℕ → List ℕ → ℕ → Result (Unit {0}) Fault → List ℕ → ℕ → Type 0
IsPut codes old old_len (Ok done) new len = (length codes ≤ length old) × Holds codes old new len
IsPut codes old old_len (Err f) new len =
    (f ≡ NoRoom) × (length old < length codes) × (new ≡ old) × (len ≡ old_len)
