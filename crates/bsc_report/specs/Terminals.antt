-- What is told of the terminals of a control station, beside the transmissions. This is the
-- project's own.
use Rattle.std.specs.Prelude.{ℕ, ◌==◌, Bool, false, List, ◌++◌, codes, if◌then◌else◌}
use Rattle.std.specs.Prelude.{Option, None, Some}
use Rattle.std.specs.Fmt.{decimal}
use Rattle.bsc_report.specs.declared.terminal_news.TerminalNews.{TerminalNews}
use Rattle.bsc_report.specs.declared.terminal_news.TerminalNews.TheVariants.{Answers, Left}
use Rattle.bsc_report.specs.declared.terminal_news.TerminalNews.TheVariants.{Unanswered, Absent}
use Rattle.bsc_report.specs.declared.terminal_news.TerminalNews.TheVariants.{Back}

-- The name of a terminal.
abbrev pub terminal_shown : ℕ → List ℕ
terminal_shown terminal = codes "terminal " ++ decimal terminal

-- The line that tells this.
abbrev pub news_line : TerminalNews → List ℕ
news_line (Answers terminal connection) =
    terminal_shown terminal ++ codes " answers on connection " ++ decimal connection ++ codes "\n"
news_line (Left terminal) = terminal_shown terminal ++ codes " has left\n"
news_line (Unanswered terminal) = terminal_shown terminal ++ codes " has not answered\n"
news_line (Absent terminal) = terminal_shown terminal ++ codes " is absent\n"
news_line (Back terminal) = terminal_shown terminal ++ codes " is back\n"

-- What is told of the terminal that has not answered, if there is one.
abbrev pub told_answering : Option ℕ → Option TerminalNews
told_answering None = None
told_answering (Some terminal) = Some (Unanswered terminal)

-- What is told of the terminal whose connection is closed, if there is one.
abbrev pub told_leaving : Option ℕ → Option TerminalNews
told_leaving None = None
told_leaving (Some terminal) = Some (Left terminal)

-- Whether this terminal was known to answer there.
abbrev pub was_known : Option ℕ → ℕ → Bool
was_known None terminal = false
was_known (Some before) terminal = before == terminal

-- What is told of the connection at this place, by the terminals that were known to answer on it
-- before and after an event: that one is known now, if it was not before, and that one has left.
abbrev pub moved_by : ℕ → Option ℕ → Option ℕ → Option TerminalNews
moved_by connection before None = told_leaving before
moved_by connection before (Some terminal) =
    if was_known before terminal then None else Some (Answers terminal connection)
