-- Records: what is offered at one end of a line and arrives at the other, in the manner of the IBM
-- 2780, whose records are cards and lines of print.
use Rattle.std.specs.Prelude.{ℕ, ◌≤◌, nat_lt, not, if◌then◌else◌, Bool, List, [], ◌++◌, length}
use Rattle.std.specs.Prelude.{drop, replicate, position, IsTrue}
use Rattle.std.specs.Prelude.{Option, Some, None, Result, Ok, Err}
use Rattle.std.specs.List.{AllByRecursion}
use Rattle.bsc_frame.specs.Octet.{is_record_char}
use Rattle.bsc_block.specs.declared.record.RecordError.{RecordError}
use Rattle.bsc_block.specs.declared.record.RecordError.TheVariants.{TooLong, NotText}
use Rattle.bsc_frame.specs.declared.limits.TheConstants.{MAX_CHARS}

-- A record: at most 144 record characters.
pub record IsRecord (codes : List ℕ) : Type 0 where
  pub most : length codes ≤ MAX_CHARS
  pub each : AllByRecursion (λ c. IsTrue (is_record_char c)) codes

-- The codes, or the error that names the first wrong place.
abbrev pub unless_wrong : Option ℕ → List ℕ → Result (List ℕ) RecordError
unless_wrong None codes = Ok codes
unless_wrong (Some place) codes = Err (NotText place)

-- The record of these codes, or the error: more codes than the full length, else the first wrong
-- one.
abbrev pub record_of : ℕ → List ℕ → Result (List ℕ) RecordError
record_of full codes =
    if nat_lt full (length codes) then Err TooLong
    else unless_wrong (position (λ c. not (is_record_char c)) codes) codes

-- What contracts see of a list of records: the records in order, whether seven more of any length
-- fit without allocating memory, and how many are forgotten.
pub record RecordsValue : Type 0 where
  pub items : List (List ℕ)
  pub room : Bool
  pub forgotten : ℕ

-- This many records that are forgotten, followed by these.
abbrev pub after_forgotten : ℕ → List (List ℕ) → List (List ℕ)
after_forgotten count rs = replicate count [] ++ rs

-- These records once the first ones are forgotten, this many: those have no characters any more,
-- and the places of all stay.
abbrev pub forgotten : ℕ → List (List ℕ) → List (List ℕ)
forgotten count rs = after_forgotten count (drop count rs)
