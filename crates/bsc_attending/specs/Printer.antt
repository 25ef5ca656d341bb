-- How the records of a station whose records are kept are printed.
use Rattle.std.specs.Prelude.{◌≡◌, ◌<◌, ◌≤◌, ◌||◌, ◌⊎◌, ℕ, zero, suc, nat_eq, nat_lt, Bool}
use Rattle.std.specs.Prelude.{true, false, List, [], ◌∷◌, ◌++◌, length, slice_get, slice_index}
use Rattle.std.specs.Prelude.{Option, Some, None, is_some, Result, Ok, Err}
use Rattle.std.specs.Io.KnownBytes.{Appends}
use Rattle.bsc_control.specs.Control.{ControlValue}
use Rattle.bsc_report.specs.Arrivals.{arrived_on}
use Rattle.bsc_report.specs.Following.{AreSomeCounted, left_after, some_lines}
use Rattle.bsc_station.specs.LineTerminal.{LineTerminalValue}
use Rattle.bsc_station.specs.declared.party.Party as party_of
use Rattle.bsc_report.specs.declared.record_lines.RecordLines.{RecordLines}
use Rattle.bsc_text.specs.declared.error.PrintError.{PrintError}
use Rattle.bsc_text.specs.declared.error.PrintError.TheVariants as print
use Rattle.bsc_text.specs.Channels.{each_below}
use Rattle.bsc_attending.specs.declared.cut_short.CutShort.{CutShort}
use Rattle.bsc_attending.specs.declared.cut_short.CutShort.TheVariants as cut
use Rattle.bsc_attending.specs.declared.preparing.Prepared.{Prepared}
use Rattle.bsc_attending.specs.declared.preparing.Prepared.TheVariants as prepared
use Rattle.bsc_attending.specs.declared.printer.Printer.{Printer}

-- How records are printed, how many are of each channel, what the output holds, as far as that is
-- known, and why records cannot be printed any more.
pub record Followed : Type 0 where
  pub lines : RecordLines
  pub counts : List ℕ
  pub contents : Option (List ℕ)
  pub fault : Option PrintError

abbrev pub followed_of : {W D R : Type 0} → (W → Option (List ℕ)) → Printer W D R → Followed
followed_of contents p =
    record {
      lines = p.lines;
      counts = p.printed.items;
      contents = contents p.out.now;
      fault = p.fault;
    }

-- How many records of a channel count as printed: none any more once one could not be.
abbrev pub counted_if : Option PrintError → Option ℕ → Option ℕ
counted_if None count = count
counted_if (Some fault) count = None

abbrev pub printed_by : Followed → ℕ → Option ℕ
printed_by f number = counted_if f.fault (slice_get f.counts number)

-- The counts of the first channels, this many.
abbrev pub counts_below : (ℕ → ℕ) → ℕ → List ℕ
counts_below printed zero = []
counts_below printed (suc number) = counts_below printed number ++ (printed number ∷ [])

-- What becomes of a station whose records cannot be printed any more.
abbrev pub outcome_after : Option PrintError → Result (Unit {0}) CutShort
outcome_after None = Ok tt
outcome_after (Some print.Output) = Err cut.Unprinted
outcome_after (Some print.Memory) = Err cut.Memory

-- What is known of a station with memory of type M, and the station.
module _ {P M : Type 0} (party : party_of.Ghosts P M) (station : P) where
  -- Whether one of the first channels has a record that is not printed.
  abbrev pub some_unprinted : List ℕ → ℕ → Bool
  some_unprinted counts zero = false
  some_unprinted counts (suc n) =
      some_unprinted counts n
      || nat_lt (slice_index counts n) (length (arrived_on party station n))

  -- Whether there are records that are not printed, and still can be.
  abbrev pub unprinted_if : Option PrintError → List ℕ → Bool
  unprinted_if None counts = some_unprinted counts (party.receives station)
  unprinted_if (Some fault) counts = false

  abbrev pub has_unprinted : Followed → Bool
  has_unprinted f = unprinted_if f.fault f.counts

  -- The lines of records that had not been printed are written, at most this many, each once and in
  -- order, channel by channel, and counted. This many more could have been.
  pub record WritesSome (most rest : ℕ) (old new : Followed) : Type 0 where
    pub lines : new.lines ≡ old.lines
    pub text : Appends old.contents new.contents
        (each_below (some_lines party station old.lines old.counts most) (party.receives station))
    pub counted : AreSomeCounted party station old.counts most new.counts (party.receives station)
    pub left : rest ≡ left_after party station old.counts most (party.receives station)

  -- Records are printed, and there may be more if as many were as could be.
  pub record TurnPrints (most : ℕ) (more : Bool) (old new : Followed) : Type 0 where
    pub could : old.fault ≡ None
    pub can : new.fault ≡ None
    pub left : ℕ
    pub writes : WritesSome most left old new
    pub goes_on : more ≡ nat_eq left 0

  -- Records cannot be printed any more. What was written is not known, and nothing is counted.
  pub record TurnFails (more : Bool) (old new : Followed) : Type 0 where
    pub could : old.fault ≡ None
    pub why : PrintError
    pub fault : new.fault ≡ Some why
    pub last : more ≡ false

  -- Nothing is printed, since a record could not be printed before.
  pub record TurnRests (more : Bool) (old new : Followed) : Type 0 where
    pub failed : is_some old.fault ≡ true
    pub same : new ≡ old
    pub last : more ≡ false

  abbrev pub Turn : ℕ → Bool → Followed → Followed → Type 0
  Turn most more old new =
      TurnPrints most more old new ⊎ (TurnFails more old new ⊎ TurnRests more old new)

  -- Every record that arrived at the station is printed.
  abbrev pub AreAllPrinted : Followed → Type 0
  AreAllPrinted f =
      (n : ℕ) → n < party.receives station
      → length (arrived_on party station n) ≤ slice_index f.counts n

  -- Records are printed in turns, or none.
  pub data Follows : Followed → Followed → Type 0 where
    still : {old new : Followed} → new ≡ old → Follows old new
    on : {old mid new : Followed} {most : ℕ} {more : Bool} → Follows old mid
        → Turn most more mid new → Follows old new

-- So it is of a prepared station.
abbrev pub PreparedAllPrinted : {Y Z : Type 0} → party_of.Ghosts ControlValue Y
    → party_of.Ghosts LineTerminalValue Z → Prepared → Followed → Type 0
PreparedAllPrinted control terminal (prepared.Control c) f = AreAllPrinted control c f
PreparedAllPrinted control terminal (prepared.Terminal l) f = AreAllPrinted terminal l f
