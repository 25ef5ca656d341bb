-- When progress is shown, and of what work.
use Rattle.std.specs.Prelude.{◌≡◌, Bool, false, IfSome, Option, None, Some}
use Rattle.bsc_text.specs.declared.progress.counts.Work.{Work}
use Rattle.bsc_text.specs.declared.progress.progress_line.ProgressLine.{ProgressLine}

-- Only on a terminal, and only of work.
abbrev pub is_shown : Bool → Option Work → Bool
is_shown is_terminal None = false
is_shown is_terminal (Some work) = is_terminal

-- Whether the line of the progress is shown.
abbrev pub shows : {T D : Type 0} → ProgressLine T D → Bool
shows line = line.on

-- What the line of the progress counts as done is this work, if there is one.
abbrev pub IsOf : {T D : Type 0} → Option Work → ProgressLine T D → Type 0
IsOf work line = IfSome work (λ is. line.work ≡ is)
