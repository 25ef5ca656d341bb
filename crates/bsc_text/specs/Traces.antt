-- The lines of a trace, of a run and of a live station: one for each transmission, one for each
-- time-out in which nothing was heard, and one for each other text that is told.
use Rattle.std.specs.Prelude.{ℕ, List, [], ◌++◌, codes, Option, None, Some}
use Rattle.std.specs.Fmt.{decimal}
use Rattle.bsc_bid.specs.declared.speaker.Speaker.TheVariants.{Control, Terminal}
use Rattle.bsc_frame.specs.declared.message.Heard.{Heard}
use Rattle.bsc_text.specs.Names.{chars_shown, name_of}
use Rattle.bsc_text.specs.declared.trace.Fate.{Fate}
use Rattle.bsc_text.specs.declared.trace.Fate.TheVariants as fate
use Rattle.bsc_text.specs.declared.trace.Who.{Who}
use Rattle.bsc_text.specs.declared.trace.Who.TheVariants.{Station, Connection}

-- The time at the start of a line: the milliseconds since the start, or the number of the line of
-- the script.
abbrev pub time_shown : ℕ → List ℕ
time_shown time = codes "+" ++ decimal time ++ codes " "

-- The sender of a transmission.
abbrev pub who_shown : Who → List ℕ
who_shown (Station Control) = codes "control"
who_shown (Station (Terminal number)) = codes "terminal " ++ decimal number
who_shown (Connection place) = codes "connection " ++ decimal place

-- What became of the transmission.
abbrev pub fate_shown : Fate → List ℕ
fate_shown fate.Sent = codes " sent "
fate_shown fate.Heard = codes " heard "
fate_shown fate.Turned = codes " turned "
fate_shown fate.Ignored = codes " ignored "
fate_shown fate.Lost = codes " lost "
fate_shown fate.Withheld = codes " withheld "

-- The terminal that heard, if the line is about one of them only.
abbrev pub hearer_shown : Option ℕ → List ℕ
hearer_shown None = []
hearer_shown (Some terminal) = codes "at " ++ decimal terminal ++ codes " "

-- The start of the line for a transmission: the time, the sender, what became of it, and who heard
-- it.
abbrev pub start_shown : ℕ → Who → Fate → Option ℕ → List ℕ
start_shown time who fate hearer =
    time_shown time ++ who_shown who ++ fate_shown fate ++ hearer_shown hearer

-- The end of such a line: the octets in hexadecimal text.
abbrev pub octets_shown : List ℕ → List ℕ
octets_shown octets = codes " " ++ chars_shown octets ++ codes "\n"

-- The line for a transmission, by what it is heard as.
abbrev pub transmission_line : ℕ → Who → Fate → Option ℕ → Heard → List ℕ → List ℕ
transmission_line time who fate hearer heard octets =
    start_shown time who fate hearer ++ name_of heard ++ octets_shown octets

-- The line for any other text.
abbrev pub told_line : ℕ → List ℕ → List ℕ
told_line time text = time_shown time ++ text ++ codes "\n"

-- What is told of a time-out in which nothing was heard.
abbrev pub silence_shown : List ℕ
silence_shown = codes "silence"

-- The line for a time-out in which nothing was heard.
abbrev pub silence_line : ℕ → List ℕ
silence_line time = told_line time silence_shown
