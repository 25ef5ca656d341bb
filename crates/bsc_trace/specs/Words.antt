-- The words of a line of a trace.
use Rattle.std.specs.Prelude.{ℕ, ◌+◌, ◌-◌, ◌*◌, ◌==◌, ◌&&◌, not, Bool, List, [], ◌∷◌, codes}
use Rattle.std.specs.Prelude.{Option, Some, None, if◌then◌else◌}
use Rattle.std.specs.Char.{is_ascii_digit}
use Rattle.std.specs.Str.{bytes_eq}
use Rattle.bsc_text.specs.Numbers.{has_digits}
use Rattle.bsc_trace.specs.declared.ladder.row.Fate.{Fate}
use Rattle.bsc_trace.specs.declared.ladder.row.Fate.TheVariants.{Sent, Heard, Turned, Ignored, Lost}
use Rattle.bsc_trace.specs.declared.ladder.row.Fate.TheVariants.{Withheld}

-- Whether a word is a time: 1 to 20 decimal digits.
abbrev pub is_time : List ℕ → Bool
is_time word = has_digits 20 word

-- The number of a station beside the control station: one or two decimal digits, without a zero
-- before another digit.
abbrev pub column_in : List ℕ → Option ℕ
column_in (unit ∷ []) = if is_ascii_digit unit then Some (unit - 48) else None
column_in (ten ∷ unit ∷ []) =
    if not (ten == 48) && is_ascii_digit ten && is_ascii_digit unit
    then Some ((ten - 48) * 10 + (unit - 48)) else None
column_in _ = None

-- What became of a transmission, by its word.
abbrev pub fate_in : List ℕ → Option Fate
fate_in word =
    if bytes_eq word (codes "sent") then Some Sent
    else (if bytes_eq word (codes "heard") then Some Heard
    else (if bytes_eq word (codes "turned") then Some Turned
    else (if bytes_eq word (codes "ignored") then Some Ignored
    else (if bytes_eq word (codes "lost") then Some Lost
    else (if bytes_eq word (codes "withheld") then Some Withheld else None)))))
