-- How far a control station has come in its poll list, and when it ends.
use Rattle.std.specs.Prelude.{ℕ, zero, suc, ◌+◌, nat_eq, nat_le, nat_lt, Bool, true, false, not}
use Rattle.std.specs.Prelude.{◌||◌, ◌&&◌, if◌then◌else◌, length, slice_get, Option, None, Some}
use Rattle.bsc_connections.specs.Histories.{Happening, WasHeard, WasIgnored, WasSent, WasSilent}
use Rattle.bsc_connections.specs.Histories.{HasClosed, HasJoined, WasStopped}
use Rattle.bsc_connections.specs.declared.awaited.Pace.{Pace}
use Rattle.bsc_connections.specs.declared.awaited.Pace.TheVariants.{AfterPause, AtOnce}
use Rattle.bsc_control.specs.CallOrder.{is_polled}
use Rattle.bsc_control.specs.Control.{ControlValue, peer_at, terminal_of_entry}
use Rattle.bsc_text.specs.declared.progress.counts.Counts.{Counts}
use Rattle.bsc_station.specs.Counting.{station_counts}
use Rattle.bsc_station.specs.Ends.{control_end, station_standing}
use Rattle.bsc_monitor.specs.Rounds.{rounds_of, after_visit, are_enough, pauses_after}
use Rattle.bsc_monitor.specs.Visits.{polled_by, polled_still, visit_ended, visit_rested}
use Rattle.bsc_monitor.specs.Visits.{visits_of}
use Rattle.bsc_monitor.specs.declared.progress.Progress.{Progress}
use Rattle.bsc_monitor.specs.declared.rounds.Limits.{Limits}
use Rattle.bsc_monitor.specs.declared.rounds.Rounds.{Rounds}

-- The progress of a control station that has sent nothing, at which this many records had arrived
-- before.
abbrev pub progress_of : Limits → Bool → ℕ → Progress
progress_of limits listens arrived =
    record {
      limits = limits;
      visits = visits_of None;
      rounds = rounds_of limits.counts_at_once 0 0 0 arrived;
      listens = listens;
      closed = false;
      stopped = false;
      ended = false;
    }

-- The terminal of this entry of the poll list, if there is one.
abbrev pub terminal_at : ControlValue → Option ℕ → Option ℕ
terminal_at c None = None
terminal_at c (Some entry) = slice_get c.poll_list entry

-- The terminal whose visit ends with an event, if one ends with it.
abbrev pub visited_in : Progress → ControlValue → Happening → Option ℕ
visited_in p c (WasSent octets) = terminal_at c (visit_ended p.visits.polled c)
visited_in p c (WasHeard place octets) = terminal_at c (visit_rested c.task p.visits.polled)
visited_in p c WasSilent = terminal_at c (visit_rested c.task p.visits.polled)
visited_in p c _ = None

-- Whether something waits to be sent.
abbrev pub has_more : ControlValue → Bool
has_more c =
    (station_standing (λ t. length (peer_at c t).outbounds) (control_end c)
    (length c.peers)).waiting

-- How many records are known to have arrived at the terminals, and have arrived from them.
abbrev pub counts_in : ControlValue → Counts
counts_in c =
    station_counts 0 (λ t. length (peer_at c t).outbounds) (control_end c) (length c.peers)

-- How many of the first entries of the poll list, this many, are polled.
abbrev pub polled_entries : ControlValue → ℕ → ℕ
polled_entries c zero = 0
polled_entries c (suc place) =
    polled_entries c place + (if is_polled c (terminal_of_entry c place) then 1 else 0)

-- Whether a round is complete with the visit to this entry, after which that at the present place
-- is visited: the control station has come to the end of the poll list and begun anew. It has not
-- if it visits the same entry again, unless no other entry is polled.
abbrev pub is_last_visit : ControlValue → ℕ → Bool
is_last_visit c entry =
    nat_lt c.place entry
    || (nat_eq c.place entry && nat_le (polled_entries c (length c.poll_list)) 1)

-- The rounds, if the visit to this entry has ended, or none.
abbrev pub rounds_after : Rounds → Option ℕ → ControlValue → Rounds
rounds_after r None c = r
rounds_after r (Some entry) c = after_visit r (is_last_visit c entry) (has_more c) (counts_in c)

-- The progress after the control station has sent something.
abbrev pub after_sent : Progress → ControlValue → Progress
after_sent p c =
    record p {
      visits = visits_of (polled_by c);
      rounds = rounds_after p.rounds (visit_ended p.visits.polled c) c;
    }

-- Whether a round in which nothing got through ends with the visit to this entry, if one ends.
abbrev pub pauses_with : Rounds → Option ℕ → ControlValue → Bool
pauses_with r None c = false
pauses_with r (Some entry) c = pauses_after r (is_last_visit c entry) (has_more c) (counts_in c)

-- Whether what the control station has sent begins a round after one in which nothing got through.
abbrev pub begins_after_pause : Progress → ControlValue → Bool
begins_after_pause p c = pauses_with p.rounds (visit_ended p.visits.polled c) c

-- Whether the control station ends with the visit to this entry, or with none: it was asked to end,
-- as the flag says, or there are enough rounds after the visit.
abbrev pub enough_after : Bool → Rounds → Limits → Option ℕ → ControlValue → Bool
enough_after stopped r limits None c = false
enough_after stopped r limits (Some entry) c =
    stopped
    || are_enough (after_visit r (is_last_visit c entry) (has_more c) (counts_in c)) limits

-- Whether the control station ends after it has sent something: the visit to an entry has ended,
-- and there are enough rounds, or it was asked to end.
abbrev pub ends_when_sent : Progress → ControlValue → Bool
ends_when_sent p c = enough_after p.stopped p.rounds p.limits (visit_ended p.visits.polled c) c

-- The progress after the control station has acted on what it heard, or on a silence. A visit that
-- ends with the station at rest ends no round.
abbrev pub after_acting : Progress → ControlValue → Progress
after_acting p c = record p { visits = visits_of (polled_still c.task p.visits.polled) }

-- The progress once a terminal has come.
abbrev pub with_met : Progress → Progress
with_met p = record p { rounds = record p.rounds { met = true } }

-- The progress after an event. Only what the control station sends counts, that it comes to rest,
-- that something arrives or a peer takes a connection, that it is asked to end, and a connection
-- that is closed, if no other peer can connect.
abbrev pub after_event : Progress → ControlValue → Happening → Progress
after_event p c (WasIgnored place octets) = with_met p
after_event p c (HasJoined place peer replaces) = with_met p
after_event p c (WasSent octets) = after_sent p c
after_event p c (WasHeard place octets) = with_met (after_acting p c)
after_event p c WasSilent = after_acting p c
after_event p c (HasClosed place peer why) = record p { closed = not p.listens }
after_event p c WasStopped = record p { stopped = true }
after_event p c _ = p

-- Whether the control station ends with an event. Once it was asked to end it ends at a silence, or
-- if it is asked again.
abbrev pub ends_with : Progress → ControlValue → Happening → Bool
ends_with p c (WasSent octets) = ends_when_sent p c
ends_with p c (HasClosed place peer why) = not p.listens
ends_with p c WasSilent = p.stopped
ends_with p c WasStopped = p.stopped
ends_with p c _ = false

-- The progress after an event, and whether the control station has ended by then.
abbrev pub progress_after : Progress → ControlValue → Happening → Progress
progress_after p c happening =
    record (after_event p c happening) { ended = p.ended || ends_with p c happening }

-- The pace after an event: a pause after what begins a round after one in which nothing got
-- through, unless the control station has ended.
abbrev pub pace_of : Bool → Pace
pace_of true = AfterPause
pace_of false = AtOnce

abbrev pub pace_after : Progress → ControlValue → Happening → Pace
pace_after p c (WasSent octets) =
    pace_of (begins_after_pause p c && not (p.ended || ends_when_sent p c))
pace_after p c _ = AtOnce

-- The same where an absent terminal is called although others are present, as the flag says: there
-- is no pause, since a wait that begins with one takes a whole silence, for which the others would
-- wait.
abbrev pub pace_with : Bool → Pace → Pace
pace_with true pace = AtOnce
pace_with false pace = pace
