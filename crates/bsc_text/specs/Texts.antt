-- The text of the line.
use Rattle.std.specs.Prelude.{ℕ, ◌*◌, ◌/◌, max, List, [], ◌∷◌, ◌++◌, codes}
use Rattle.std.specs.Fmt.{decimal}
use Rattle.bsc_text.specs.Counts.{saturated}
use Rattle.bsc_text.specs.declared.progress.counts.Counts.{Counts}
use Rattle.bsc_text.specs.declared.progress.counts.Work.{Work}
use Rattle.bsc_text.specs.declared.progress.counts.Work.TheVariants.{Events, Rounds}

-- The control codes that clear a line of a terminal from the cursor on.
abbrev pub clears_rest : List ℕ
clears_rest = 27 ∷ codes "[K"

-- The text that leaves an empty line, with the cursor at its beginning.
abbrev pub cleared : List ℕ
cleared = codes "\r" ++ clears_rest

-- What is counted as done.
abbrev pub work_name : Work → List ℕ
work_name Events = codes " events, known "
work_name Rounds = codes " rounds, known "

-- How many are done in a second, rounded down, by the milliseconds since the start.
abbrev pub rate : ℕ → ℕ → ℕ
rate done time = saturated (done * 1000) / max time 1

-- The events or rounds, at the beginning of the line.
abbrev pub done_shown : Work → ℕ → List ℕ
done_shown work done = codes "\r" ++ decimal done ++ work_name work

-- The records and the doubts.
abbrev pub counts_shown : Counts → List ℕ
counts_shown counts =
    decimal counts.known ++ codes ", arrived " ++ decimal counts.arrived ++ codes ", in doubt "
    ++ decimal counts.doubts

-- The rate.
abbrev pub rate_shown : ℕ → List ℕ
rate_shown rate = codes ", " ++ decimal rate ++ codes " a second"

-- The line: it begins where the last one began, and what is left of that is cleared.
abbrev pub line_of : Work → Counts → ℕ → List ℕ
line_of work counts time =
    done_shown work counts.done ++ counts_shown counts ++ rate_shown (rate counts.done time)
    ++ clears_rest
