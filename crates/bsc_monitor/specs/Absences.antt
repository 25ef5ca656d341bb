-- The terminals that do not answer, and which of them a control station calls all the same. Polling
-- and selection are those of GA27-3004; visits, and what becomes of terminals that do not answer,
-- are this project's own.
use Rattle.std.specs.Prelude.{ℕ, zero, suc, ◌+◌, ◌==◌, max, min, nat_eq, nat_lt}
use Rattle.std.specs.Prelude.{Bool, true, false, not, ◌||◌, ◌&&◌, if◌then◌else◌}
use Rattle.std.specs.Prelude.{Option, None, Some, is_none, replicate, slice_index_or, slice_set}
use Rattle.std.specs.List.{list_any}
use Rattle.bsc_carrier.specs.declared.limits.TheConstants.{MAX_CONNECTIONS}
use Rattle.bsc_connections.specs.Histories.{Happening, HasClosed, HasJoined, WasHeard, WasSent}
use Rattle.bsc_connections.specs.Histories.{WasSilent}
use Rattle.bsc_bid.specs.declared.limits.TheConstants.{MAX_TERMINALS}
use Rattle.bsc_frame.specs.Reading.{heard}
use Rattle.bsc_frame.specs.declared.message.Heard.{Heard}
use Rattle.bsc_frame.specs.declared.message.Heard.TheVariants.{Failed, Noise, Whole}
use Rattle.bsc_frame.specs.declared.message.Message.TheVariants.{Reply}
use Rattle.bsc_frame.specs.declared.reply.Reply.TheVariants.{Nak}
use Rattle.bsc_monitor.specs.Attendance.{after_answer, after_repetition, after_request}
use Rattle.bsc_monitor.specs.Attendance.{after_time_out, after_visit, heard_if_back, is_absent}
use Rattle.bsc_monitor.specs.Attendance.{is_due, is_present, presence_of, unvisited}
use Rattle.bsc_monitor.specs.Attendance.{visited_if_passed}
use Rattle.bsc_monitor.specs.Saturating.{one_more}
use Rattle.bsc_monitor.specs.declared.absences.Absences.{Absences}
use Rattle.bsc_monitor.specs.declared.absences.Turn.{Turn}
use Rattle.bsc_monitor.specs.declared.attendance.Attendance.{Attendance}
use Rattle.bsc_monitor.specs.declared.attendance.AbsenceLimits.{AbsenceLimits}
use Rattle.bsc_monitor.specs.declared.attendance.Presence.{Presence}
use Rattle.bsc_report.specs.declared.terminal_news.TerminalNews.{TerminalNews}
use Rattle.bsc_report.specs.declared.terminal_news.TerminalNews.TheVariants.{Absent, Answers, Back}

-- No terminal has been visited.
abbrev pub new_absences : AbsenceLimits → ℕ → Absences
new_absences limits count =
    record {
      limits = limits;
      count = count;
      answered = false;
      time = 0;
      joined = None;
      strangers = replicate MAX_CONNECTIONS false;
      called = None;
      in_turn = false;
      since = 0;
      terminals = replicate MAX_TERMINALS unvisited;
    }

-- What is known of the terminal with this number.
abbrev pub attendance_of : Absences → ℕ → Attendance
attendance_of a terminal = slice_index_or a.terminals terminal unvisited

-- This is known of a terminal now.
abbrev pub with_attendance : Absences → ℕ → Attendance → Absences
with_attendance a terminal p = record a { terminals = slice_set a.terminals terminal p }

-- The time of an event.
abbrev pub at_time : Absences → ℕ → Absences
at_time a time = record a { time = time }

-- ---- which are called

-- Whether this terminal is absent, if it is one.
abbrev pub is_absent_at : Absences → Option ℕ → Bool
is_absent_at a None = false
is_absent_at a (Some terminal) = is_absent a.limits (attendance_of a terminal)

-- How many of the first terminals, this many, are present.
abbrev pub present : Absences → ℕ → ℕ
present a zero = 0
present a (suc n) =
    if is_present a.limits (attendance_of a n) then present a n + 1 else present a n

-- Whether somebody is connected of whom it is not known which terminal it is.
abbrev pub has_stranger : Absences → Bool
has_stranger a = list_any (λ stranger. stranger) a.strangers

-- The time at which somebody has connected last, if somebody is connected of whom it is not known
-- which terminal it is.
abbrev pub newcomer : Absences → Option ℕ
newcomer a = if has_stranger a then a.joined else None

-- The later of two times, as far as there are such.
abbrev pub later : Option ℕ → Option ℕ → Option ℕ
later (Some first) (Some second) = Some (max first second)
later (Some first) None = Some first
later None second = second

-- The earlier of two times, as far as there are such.
abbrev pub earlier : Option ℕ → Option ℕ → Option ℕ
earlier (Some first) (Some second) = Some (min first second)
earlier (Some first) None = Some first
earlier None second = second

-- Whether there is a second time, and it is the same as the first.
abbrev pub is_at : ℕ → Option ℕ → Bool
is_at first None = false
is_at first (Some second) = first == second

-- What is known of a terminal, if it is not the one that is called now; else nothing.
abbrev pub other : Absences → ℕ → Attendance
other a terminal = if is_at terminal a.called then unvisited else attendance_of a terminal

-- The last time at which one of the first terminals, this many, was heard that may be the one that
-- has connected at this time. The one that is called now does not count.
abbrev pub last_heard : Absences → Option ℕ → ℕ → Option ℕ
last_heard a joined zero = None
last_heard a joined (suc n) =
    later (last_heard a joined n) (heard_if_back a.limits joined (other a n))

-- Whether an absent terminal may be called: none is present whom that would delay; or since an
-- absent one was called last its visit has ended, and as many others as terminals are present.
abbrev pub is_free : Absences → Bool
is_free a = nat_eq (present a a.count) 0 || nat_lt (present a a.count) a.since

-- The first time at which the last visit to one of the first terminals, this many, ended, of those
-- that are absent and that no program has taken off. The one that is called now does not count.
abbrev pub oldest_visit : Absences → ℕ → Option ℕ
oldest_visit a zero = None
oldest_visit a (suc n) = earlier (oldest_visit a n) (visited_if_passed a.limits (other a n))

-- Whether there is no first time, or the second is the same.
abbrev pub is_first : Option ℕ → Option ℕ → Bool
is_first None second = true
is_first (Some first) second = is_at first second

-- Whether it is the turn of this absent terminal, if somebody has connected at this time: its time
-- has come, or none is present, and no other was visited longer ago.
abbrev pub is_in_turn : Absences → Option ℕ → ℕ → Bool
is_in_turn a joined terminal =
    (nat_eq (present a a.count) 0 || is_due a.limits joined a.time (attendance_of a terminal))
    && is_first (oldest_visit a a.count) (visited_if_passed a.limits (other a terminal))

-- Whether an absent terminal is called in its turn. While none is present, and none may be the one
-- that has connected, all are.
abbrev pub is_called_in_turn : Absences → Option ℕ → ℕ → Bool
is_called_in_turn a joined terminal =
    (nat_eq (present a a.count) 0 && is_none joined) || is_in_turn a joined terminal

-- Whether it is the one that is called. It is given the last time at which one was heard that may
-- be the one that has connected. This one comes first, unless it is the turn of another.
abbrev pub is_next : Option ℕ → Absences → Option ℕ → ℕ → Bool
is_next None a joined terminal = is_called_in_turn a joined terminal
is_next (Some heard) a joined terminal =
    if a.in_turn then is_called_in_turn a joined terminal
    else is_at heard (heard_if_back a.limits joined (other a terminal))

-- Whether this absent terminal is to be called all the same.
abbrev pub retries : Absences → ℕ → Bool
retries a terminal =
    is_free a && is_next (last_heard a (newcomer a) a.count) a (newcomer a) terminal

-- Whether an absent terminal is called although others are present.
abbrev pub is_retry : Absences → Option ℕ → Bool
is_retry a called = is_absent_at a called && nat_lt 0 (present a a.count)

-- Whether a terminal is to be polled: no program has taken it off, and it is not absent, or is to
-- be called all the same.
abbrev pub wants : Absences → ℕ → Bool
wants a terminal =
    not (attendance_of a terminal).held
    && (not (is_absent a.limits (attendance_of a terminal)) || retries a terminal)

-- A program lets this terminal be called again, or has it called no more.
abbrev pub requested : Absences → ℕ → Bool → Absences
requested a terminal polled =
    with_attendance a terminal (after_request polled (attendance_of a terminal))

-- What is told of a terminal, if there is one with this number.
abbrev pub presence_at : Absences → ℕ → Option Presence
presence_at a terminal =
    if nat_lt terminal a.count
    then Some (presence_of a.limits (wants a terminal) a.time (attendance_of a terminal))
    else None

-- ---- visits

-- The visit to this terminal has ended. If an absent one has answered, it is the turn of no other.
abbrev pub visited : Absences → ℕ → Absences
visited a terminal =
    record
    (with_attendance a terminal
    (after_visit a.answered a.time (attendance_of a terminal))) {
      answered = false;
      in_turn = a.in_turn && not (a.answered && is_absent_at a (Some terminal));
      since = one_more a.since;
    }

-- The visit to this terminal has ended, or none has.
abbrev pub visited_if : Absences → Option ℕ → Absences
visited_if a None = a
visited_if a (Some terminal) = visited a terminal

-- What is told of a terminal once a visit has made it absent, or present again.
abbrev pub change_by : Bool → Bool → ℕ → Option TerminalNews
change_by false true terminal = Some (Absent terminal)
change_by true false terminal = Some (Back terminal)
change_by _ _ terminal = None

-- What is told of the visit to this terminal, if one has ended.
abbrev pub change_with : Absences → Option ℕ → Option TerminalNews
change_with a None = None
change_with a (Some terminal) =
    change_by (is_absent a.limits (attendance_of a terminal))
    (is_absent a.limits (attendance_of (visited a terminal) terminal)) terminal

-- ---- what happens

-- Whether this is NAK.
abbrev pub is_nak : Heard → Bool
is_nak (Whole (Reply Nak)) = true
is_nak _ = false

-- This terminal has answered, with NAK or not; or something was heard while none was called.
abbrev pub with_answer : Absences → Option ℕ → Bool → Absences
with_answer a None nak = record a { answered = true }
with_answer a (Some terminal) nak =
    record
    (with_attendance a terminal
    (after_answer nak a.time (attendance_of a terminal))) { answered = true }

-- This was heard while this terminal was called. Noise is no answer.
abbrev pub with_heard : Absences → Option ℕ → Heard → Absences
with_heard a called Noise = a
with_heard a called Failed = with_answer a called false
with_heard a called (Whole m) = with_answer a called (is_nak (Whole m))

-- A time-out has passed while this terminal was called.
abbrev pub with_time_out : Absences → Option ℕ → Absences
with_time_out a None = a
with_time_out a (Some terminal) =
    with_attendance a terminal (after_time_out (attendance_of a terminal))

-- Something was sent to this terminal, which repeats a call if the flag says so.
abbrev pub with_repetition : Absences → Option ℕ → Bool → Absences
with_repetition a (Some terminal) true =
    with_attendance a terminal (after_repetition (attendance_of a terminal))
with_repetition a _ _ = a

-- A peer is connected at this place of which it is not known which terminal it is, or none is.
abbrev pub with_stranger : Absences → ℕ → Bool → Absences
with_stranger a place stranger = record a { strangers = slice_set a.strangers place stranger }

-- What an event changes, before a visit is counted that has ended with it.
abbrev pub absences_by : Absences → Turn → Happening → Absences
absences_by a turn (WasHeard place octets) = with_heard a turn.called (heard octets)
absences_by a turn WasSilent = with_time_out a turn.called
absences_by a turn (WasSent octets) = with_repetition a turn.called turn.repeated
absences_by a turn (HasJoined place peer replaces) =
    with_stranger (record a { joined = Some a.time }) place true
absences_by a turn (HasClosed place peer why) = with_stranger a place false
absences_by a turn _ = a

-- The terminal whose visit has ended with an event. One can only end with what the station hears or
-- sends, and with a silence.
abbrev pub ended_in : Turn → Happening → Option ℕ
ended_in turn (WasHeard place octets) = turn.ended
ended_in turn WasSilent = turn.ended
ended_in turn (WasSent octets) = turn.ended
ended_in turn _ = None

-- What is told of the terminal whose visit has ended with an event, if one has.
abbrev pub absence_told : Absences → Turn → Happening → Option TerminalNews
absence_told a turn happening = change_with (absences_by a turn happening) (ended_in turn happening)

-- What an event at this time changes.
abbrev pub absences_after : Absences → Turn → Happening → ℕ → Absences
absences_after a turn happening time =
    visited_if (absences_by (at_time a time) turn happening) (ended_in turn happening)

-- A terminal is known now to answer on a connection on which nobody was known to.
abbrev pub met : Absences → Option TerminalNews → Absences
met a (Some (Answers terminal connection)) = with_stranger a connection false
met a _ = a

-- Whether it is the turn of another after this one, which is called now: if this one is called
-- before its turn. While it is visited that does not change.
abbrev pub is_turn_next : Absences → Bool
is_turn_next a =
    if nat_eq a.since 0 then a.in_turn
    else not a.in_turn && not (is_none (last_heard a (newcomer a) a.count))

-- This terminal is called now, or none is.
abbrev pub calling : Absences → Option ℕ → Absences
calling a called =
    record (if is_absent_at a called then record a { in_turn = is_turn_next a; since = 0 } else a) {
      called = called;
    }

-- What an event at this time changes, with which this has become known of a connection, and after
-- which this terminal is called, or none is.
unfoldable pub absences_noted : Absences → Turn → Happening → ℕ → Option TerminalNews → Option ℕ
    → Absences
absences_noted a turn happening time moved called =
    calling (met (absences_after a turn happening time) moved) called
