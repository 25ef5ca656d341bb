-- The lines of a trace that are held back, so that an idle poll has none.
use Rattle.std.specs.Prelude.{◌≡◌, ℕ, nat_le, Bool, true, false, ◌||◌, ◌&&◌, if◌then◌else◌}
use Rattle.std.specs.Prelude.{List, [], length, Option, None, Some, is_some}
use Rattle.std.specs.Io.KnownBytes.{Appends}
use Rattle.bsc_connections.specs.Histories.{Happening, WasHeard, WasSent}
use Rattle.bsc_frame.specs.declared.limits.TheConstants.{MAX_SENT}
use Rattle.bsc_frame.specs.declared.message.Heard.{Heard}
use Rattle.bsc_frame.specs.declared.message.Heard.TheVariants.{Whole}
use Rattle.bsc_frame.specs.declared.message.Message.TheVariants.{Call, Eot}
use Rattle.bsc_frame.specs.Reading.{heard}
use Rattle.bsc_text.specs.Traces.{transmission_line}
use Rattle.bsc_text.specs.declared.trace.Fate.{Fate}
use Rattle.bsc_text.specs.declared.trace.Fate.TheVariants as fate
use Rattle.bsc_bid.specs.declared.speaker.Speaker.{Speaker}
use Rattle.bsc_bid.specs.declared.speaker.Speaker.TheVariants.{Control}
use Rattle.bsc_text.specs.declared.trace.Who.TheVariants.{Station}
use Rattle.bsc_report.specs.Traces.{IsTraced}
use Rattle.bsc_report.specs.declared.held.Calls.{Calls}
use Rattle.bsc_report.specs.declared.held.Calls.TheVariants as calls

-- The line of a call of the control station: its time, whether it was sent or heard, its octets.
pub record CallLine : Type 0 where
  pub time : ℕ
  pub fate : Fate
  pub octets : List ℕ

abbrev pub call_line_of : ℕ → Fate → List ℕ → CallLine
call_line_of time fate octets = record { time = time; fate = fate; octets = octets }

-- The text of the line that is held back, if there is one.
abbrev pub held_shown : Option CallLine → List ℕ
held_shown None = []
held_shown (Some l) =
    transmission_line l.time (Station Control) l.fate None (heard l.octets) l.octets

abbrev pub is_call : Heard → Bool
is_call (Whole (Call a)) = true
is_call _ = false

abbrev pub is_eot : Heard → Bool
is_eot (Whole Eot) = true
is_eot _ = false

-- The line of this transmission, if it is held back: it is a call, and has at most as many octets
-- as are sent for a message. A call of more octets is padded.
abbrev pub held_if_call : ℕ → Fate → List ℕ → Option CallLine
held_if_call time fate octets =
    if is_call (heard octets) && nat_le (length octets) MAX_SENT
    then Some (call_line_of time fate octets) else None

-- Whether the calls that may begin an idle poll are those that a terminal hears.
abbrev pub are_heard : Calls → Bool
are_heard calls.Heard = true
are_heard calls.Sent = false
are_heard calls.Neither = false

-- Whether they are those that the control station sends.
abbrev pub are_sent : Calls → Bool
are_sent calls.Heard = false
are_sent calls.Sent = true
are_sent calls.Neither = false

-- The line of this that is held back, by which calls may begin an idle poll.
abbrev pub held_for : Calls → ℕ → Happening → Option CallLine
held_for c time (WasHeard place octets) =
    if are_heard c then held_if_call time fate.Heard octets else None
held_for c time (WasSent octets) =
    if are_sent c then held_if_call time fate.Sent octets else None
held_for c time _ = None

-- Whether this is EOT, which ends an idle poll.
abbrev pub is_poll_end : Happening → Bool
is_poll_end (WasHeard place octets) = is_eot (heard octets)
is_poll_end (WasSent octets) = is_eot (heard octets)
is_poll_end _ = false

-- Whether the line that is held back is dropped: at EOT, and where calls are heard at another call,
-- which is held back in its turn.
abbrev pub drops : Calls → Bool → Bool → Bool
drops c is_end is_held = is_end || (are_heard c && is_held)

abbrev pub drops_held : Calls → ℕ → Happening → Bool
drops_held c time happening =
    drops c (is_poll_end happening) (is_some (held_for c time happening))

-- What is printed of the line that is held back: nothing if it is dropped.
abbrev pub released : Bool → Option CallLine → List ℕ
released true held = []
released false held = held_shown held

-- Whether there is no line: this is held back, or it is EOT after a line that was held back.
abbrev pub lacks_line : Bool → Bool → Bool → Bool
lacks_line was_held is_end is_held = is_held || (was_held && is_end)

abbrev pub has_no_line : Option CallLine → Calls → ℕ → Happening → Bool
has_no_line held c time happening =
    lacks_line (is_some held) (is_poll_end happening) (is_some (held_for c time happening))

-- The line for this was written, or none.
abbrev pub IsTracedUnless : Bool → Happening → ℕ → Speaker → Option (List ℕ) → Option (List ℕ)
    → Type 0
IsTracedUnless true happening time me old new = new ≡ old
IsTracedUnless false happening time me old new = IsTraced happening time me old new

-- In a trace of exchanges: the line that is held back is printed or dropped, and after it the line
-- for this is printed, unless it has none yet.
pub record TracesNext (held : Option CallLine) (calls : Calls) (happening : Happening) (time : ℕ)
    (me : Speaker) (old new : Option (List ℕ)) : Type 0 where
  pub between : Option (List ℕ)
  pub held_line : Appends old between (released (drops_held calls time happening) held)
  pub own_line : IsTracedUnless (has_no_line held calls time happening)
      happening time me between new
