-- What a station forgets while it is attended.
use Rattle.std.specs.Prelude.{◌≡◌, ℕ, zero, suc, ◌%◌, ◌==◌, Bool, true, false, ◌&&◌, is_none}
use Rattle.std.specs.Prelude.{Option, Some, None}
use Rattle.bsc_options.specs.Settings.{SettingsValue}

-- Whether a station with these settings forgets the records that it has printed: if they are not
-- printed again with the report, and no program can ask for them.
abbrev pub forgets_printed_in : SettingsValue → Bool
forgets_printed_in s = is_none s.reported && is_none s.serves

-- What it means that the first records of a channel are forgotten, at most this many.
module _ {S : Type 0} (forgets_arrived : S → ℕ → ℕ → S → Type 0) where
  -- Of a channel those that were printed are, if there is such a channel.
  abbrev pub ForgetsIf : Option ℕ → ℕ → S → S → Type 0
  ForgetsIf None number old new = new ≡ old
  ForgetsIf (Some printed) number old new = forgets_arrived old number printed new

  -- Of each of the first channels, this many, in order.
  abbrev pub ForgetsEach : (ℕ → Option ℕ) → ℕ → S → S → Type 0
  ForgetsEach printed zero old new = new ≡ old
  ForgetsEach printed (suc number) old new =
      (mid : S) × ForgetsEach printed number old mid × ForgetsIf (printed number) number mid new

-- What it means that records are forgotten that are known to have arrived.
module _ {S : Type 0} (forgets_sent : S → S → Type 0)
    (forgets_arrived : S → ℕ → ℕ → S → Type 0) (receives : S → ℕ) (printed : ℕ → Option ℕ) where
  -- Those are, and then, if so asked, those of each channel that arrived and were printed.
  abbrev pub ForgetsUnneeded : Bool → S → S → Type 0
  ForgetsUnneeded false old new = forgets_sent old new
  ForgetsUnneeded true old new =
      (mid : S) × forgets_sent old mid
      × ForgetsEach forgets_arrived printed (receives mid) mid new

  -- So it does if the flag says so; else it forgets nothing.
  abbrev pub ForgetsIfSo : Bool → Bool → S → S → Type 0
  ForgetsIfSo true is_asked old new = ForgetsUnneeded is_asked old new
  ForgetsIfSo false is_asked old new = new ≡ old

  -- That is so once in 1,024 steps, of which this is the number.
  abbrev pub ForgetsAtTimes : Bool → ℕ → S → S → Type 0
  ForgetsAtTimes is_asked count = ForgetsIfSo (count % 1024 == 0) is_asked
