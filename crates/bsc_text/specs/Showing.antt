-- When the line is written.
use Rattle.std.specs.Prelude.{◌≡◌, ℕ, ◌+◌, ◌≤◌, ◌&&◌, nat_le, Bool, true, false, List, Option}
use Rattle.std.specs.Prelude.{if◌then◌else◌}
use Rattle.std.specs.Io.KnownBytes.{Appends}
use Rattle.bsc_text.specs.Counts.{saturated}
use Rattle.bsc_text.specs.Texts.{line_of}
use Rattle.bsc_text.specs.declared.progress.counts.Counts.{Counts}
use Rattle.bsc_text.specs.declared.progress.counts.Work.{Work}
use Rattle.bsc_text.specs.declared.progress.progress_line.ProgressLine.{ProgressLine}
use Rattle.bsc_text.specs.declared.progress.progress_line.TheConstants.{BETWEEN}

-- A line as it was last written, with what its writer holds.
pub record View : Type 0 where
  pub on : Bool
  pub work : Work
  pub time : ℕ
  pub due : ℕ
  pub contents : Option (List ℕ)

abbrev pub view_of : {T D : Type 0} → (D → Option (List ℕ)) → ProgressLine T D → View
view_of contents line =
    record {
      on = line.on;
      work = line.work;
      time = line.time;
      due = line.due;
      contents = contents line.out;
    }

-- The clock is read, unless the line is off: then it is never time. Nothing is written.
abbrev pub AsksTimeIf : Bool → Bool → View → View → Type 0
AsksTimeIf true result old new =
    (time : ℕ) × (new ≡ record old { time = time }) × (result ≡ nat_le old.due time)
AsksTimeIf false result old new = (result ≡ false) × (new ≡ old)

abbrev pub AsksTime : Bool → View → View → Type 0
AsksTime result old new = AsksTimeIf old.on result old new

-- The writer took the text, or the line is off from now on.
abbrev pub IsTaken : List ℕ → Option (List ℕ) → View → Type 0
IsTaken text held new = new.on ≡ true → Appends held new.contents text

-- The line of these counts is written, and it is due again a quarter of a second later.
pub record Writes (counts : Counts) (old new : View) : Type 0 where
  pub line : IsTaken (line_of old.work counts old.time) old.contents new
  pub due : new.due ≡ saturated (old.time + BETWEEN)
  pub time : new.time ≡ old.time
  pub work : new.work ≡ old.work

-- The line is written if it is on and due, and otherwise nothing is written.
abbrev pub ShowsIf : Bool → Counts → View → View → Type 0
ShowsIf true counts old new = Writes counts old new
ShowsIf false counts old new = new ≡ old

abbrev pub Shows : Counts → View → View → Type 0
Shows counts old new = ShowsIf (old.on && nat_le old.due old.time) counts old new
