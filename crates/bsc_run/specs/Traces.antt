-- The lines of the trace of a run for each accepted event. Each begins with the number of the line
-- of the script, and tells what became of the pending transmission, or what the event is.
use Rattle.std.specs.Prelude.{ℕ, Bool, true, false, not, List, [], ◌++◌, length, Option, None, Some}
use Rattle.std.specs.Prelude.{codes, slice_index_or, if◌then◌else◌}
use Rattle.std.specs.Borrow.{Bor}
use Rattle.std.specs.Fmt.{decimal}
use Rattle.std.specs.Str.{bytes_eq}
use Rattle.bsc_frame.specs.Reading.{heard as heard_of}
use Rattle.bsc_frame.specs.Wire.{wire}
use Rattle.bsc_frame.specs.declared.message.Heard.{Heard}
use Rattle.bsc_frame.specs.declared.message.Heard.TheVariants.{Whole}
use Rattle.bsc_frame.specs.declared.message.Message.{Message}
use Rattle.bsc_text.specs.Forms.{escaped}
use Rattle.bsc_text.specs.Channels.{each_below}
use Rattle.bsc_text.specs.Traces.{silence_shown, told_line, transmission_line}
use Rattle.bsc_text.specs.declared.trace.Fate.{Fate}
use Rattle.bsc_text.specs.declared.trace.Fate.TheVariants as fate
use Rattle.bsc_text.specs.declared.trace.Who.TheVariants.{Station}
use Rattle.bsc_bid.specs.declared.way.Way.{Way}
use Rattle.bsc_bid.specs.declared.way.Way.TheVariants.{FromTerminal, ToTerminal}
use Rattle.bsc_line_model.specs.declared.transmission.Transmission.{Transmission}
use Rattle.bsc_line_model.specs.declared.event.Event.{Event}
use Rattle.bsc_line_model.specs.declared.event.Event.TheVariants as event
use Rattle.bsc_line_model.specs.Hearing.{octets_in}
use Rattle.bsc_line_model.specs.Line.{LineValue}
use Rattle.bsc_config.specs.Events.{Event as Asked, offer_at, offer_for, carry, lose, heard}
use Rattle.bsc_config.specs.Events.{heard_each, silence, ready, polled, urgent_at, urgent_for}
use Rattle.bsc_config.specs.Events.{release}

-- Whether a message was heard that is another than the one that was sent. Two messages are the same
-- if the same octets are sent for them.
abbrev pub is_turned : Message → Heard → Bool
is_turned sent (Whole message) = not (bytes_eq (wire message) (wire sent))
is_turned sent _ = false

-- What became of a transmission that arrived.
abbrev pub fate_if : Bool → Fate
fate_if turned = if turned then fate.Turned else fate.Heard

-- The line for a transmission that was heard as these octets.
abbrev pub heard_line : ℕ → Transmission → Option ℕ → List ℕ → List ℕ
heard_line n sent hearer octets =
    transmission_line n (Station sent.speaker)
    (fate_if (is_turned sent.message (heard_of octets))) hearer (heard_of octets) octets

-- The line for a transmission that was lost.
abbrev pub lost_line : ℕ → Transmission → Option ℕ → List ℕ
lost_line n sent hearer =
    transmission_line n (Station sent.speaker) fate.Lost hearer (Whole sent.message)
    (wire sent.message)

-- The line for what terminal t heard.
abbrev pub item_line : ℕ → Transmission → ℕ → Option (List ℕ) → List ℕ
item_line n sent t None = lost_line n sent (Some t)
item_line n sent t (Some octets) = heard_line n sent (Some t) octets

-- The lines for what each terminal heard, in order.
abbrev pub item_lines : ℕ → Transmission → List (Option (Bor (List ℕ))) → List ℕ
item_lines n sent items =
    each_below (λ t. item_line n sent t (octets_in (slice_index_or items t None))) (length items)

-- The lines for an event of the line in which this transmission is heard or lost.
abbrev pub sent_lines : ℕ → Event → Transmission → List ℕ
sent_lines n event.CarrySent sent = heard_line n sent None (wire sent.message)
sent_lines n (event.Carry (Some octets)) sent = heard_line n sent None octets.now
sent_lines n (event.Carry None) sent = lost_line n sent None
sent_lines n (event.CarryEach items) sent = item_lines n sent items.now
sent_lines n _ sent = []

-- The text about the pending transmission, if there is one.
abbrev pub if_sent : Option Transmission → (Transmission → List ℕ) → List ℕ
if_sent None text = []
if_sent (Some sent) text = text sent

-- A selection address of a terminal.
abbrev pub place_shown : ℕ → ℕ → List ℕ
place_shown t s = decimal t ++ codes "." ++ decimal s

-- The doubt about the records on a channel.
abbrev pub doubt_of : ℕ → Way → List ℕ
doubt_of t FromTerminal = codes "the doubt from " ++ decimal t
doubt_of t (ToTerminal s) = codes "the doubt to " ++ place_shown t s

-- A record as text on one line, between bars.
abbrev pub record_shown : List ℕ → List ℕ
record_shown r = codes "|" ++ escaped r ++ codes "|"

-- What is said of an event in which nothing is sent.
abbrev pub mark : Asked → List ℕ
mark (offer_at t r) = codes "offered at terminal " ++ decimal t ++ codes ": " ++ record_shown r
mark (offer_for t s r) =
    codes "offered for terminal " ++ place_shown t s ++ codes ": " ++ record_shown r
mark silence = silence_shown
mark (ready t true) = codes "terminal " ++ decimal t ++ codes " is ready"
mark (ready t false) = codes "terminal " ++ decimal t ++ codes " is not ready"
mark (polled t true) = codes "terminal " ++ decimal t ++ codes " is polled"
mark (polled t false) = codes "terminal " ++ decimal t ++ codes " is not polled"
mark (urgent_at t) = codes "terminal " ++ decimal t ++ codes " asks for the line"
mark (urgent_for t) = codes "control asks terminal " ++ decimal t ++ codes " for the line"
mark (release t way) = doubt_of t way ++ codes " is ended"
mark _ = []

-- The line for an event in which nothing is sent.
abbrev pub mark_line : ℕ → Asked → List ℕ
mark_line n asked = told_line n (mark asked)

-- The lines for an accepted event of a script, which is this event of the line.
abbrev pub lines_of : ℕ → Asked → Event → LineValue → List ℕ
lines_of n carry e old = if_sent old.pending (sent_lines n e)
lines_of n lose e old = if_sent old.pending (sent_lines n e)
lines_of n (heard given) e old = if_sent old.pending (sent_lines n e)
lines_of n (heard_each items) e old = if_sent old.pending (sent_lines n e)
lines_of n asked e old = mark_line n asked

-- The text for the line of the script with this number, if there is a trace.
abbrev pub if_traced : Option ℕ → (ℕ → List ℕ) → List ℕ
if_traced None text = []
if_traced (Some n) text = text n

-- The number of a line, if there is a trace.
abbrev pub number_if : Bool → ℕ → Option ℕ
number_if tracing n = if tracing then Some n else None
