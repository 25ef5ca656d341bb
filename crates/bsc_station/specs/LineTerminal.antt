-- A terminal of a configured line.
use Rattle.std.specs.Prelude.{◌≡◌, ℕ, Option, slice_set}
use Rattle.bsc_frame.specs.declared.message.Message.{Message}
use Rattle.bsc_frame.specs.declared.message.Heard.{Heard}
use Rattle.bsc_spool.specs.Queue.{QueueValue}
use Rattle.bsc_spool.specs.Spool.{SpoolValue}
use Rattle.bsc_tributary.specs.Tributary.{TributaryValue}
use Rattle.bsc_tributary.specs.Kept.{IsHearing, IsSilence}

-- The number of a terminal on the line, and the terminal itself.
pub record LineTerminalValue : Type 0 where
  pub number : ℕ
  pub tributary : TributaryValue

abbrev pub line_terminal_of : ℕ → TributaryValue → LineTerminalValue
line_terminal_of number tributary = record { number = number; tributary = tributary }

-- The terminal with this queue, and otherwise the same.
abbrev pub with_own_queue : LineTerminalValue → QueueValue → LineTerminalValue
with_own_queue l queue = line_terminal_of l.number (record l.tributary { queue = queue })

-- The terminal with this spool for the selection address of this number, and otherwise the same.
abbrev pub with_spool : LineTerminalValue → ℕ → SpoolValue → LineTerminalValue
with_spool l select spool =
    line_terminal_of l.number
    (record l.tributary { spools = slice_set l.tributary.spools select spool })

-- The terminal hears a transmission, and keeps its number.
pub record Hears (old : LineTerminalValue) (heard : Heard) (new : LineTerminalValue)
    (sent : Option Message) : Type 0 where
  pub number : new.number ≡ old.number
  pub hearing : IsHearing old.tributary heard new.tributary sent

-- The terminal acts on a silence, and keeps its number.
pub record Acts (old new : LineTerminalValue) (sent : Option Message) : Type 0 where
  pub number : new.number ≡ old.number
  pub silence : IsSilence old.tributary new.tributary sent
