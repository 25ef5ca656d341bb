-- What a control station can tell of the premise that no reply outlives its time-out.
use Rattle.std.specs.Prelude.{ℕ, ◌-◌, ◌*◌, ◌/◌, ◌^◌, ◌==◌, nat_lt, max, min, Bool}
use Rattle.std.specs.Prelude.{◌||◌, ◌&&◌, if◌then◌else◌, Option, None, Some, is_none, unwrap_or}
use Rattle.std.specs.Prelude.{replicate, slice_set}
use Rattle.std.specs.declared.net.ip_addr.IpAddr.{IpAddr}
use Rattle.bsc_carrier.specs.declared.limits.TheConstants.{MAX_CONNECTIONS}
use Rattle.bsc_frame.specs.declared.message.Heard.{Heard}
use Rattle.bsc_trust.specs.declared.connected.Connected.{Connected}
use Rattle.bsc_trust.specs.declared.distrust.Distrust.{Distrust}
use Rattle.bsc_trust.specs.declared.distrust.Distrust.TheVariants.{NothingSent, Barred}
use Rattle.bsc_trust.specs.declared.distrust.Distrust.TheVariants.{OtherTerminal}
use Rattle.bsc_trust.specs.declared.distrust.Distrust.TheVariants.{SecondConnection, OtherAddress}
use Rattle.bsc_trust.specs.declared.distrust.Distrust.TheVariants.{LateAnswer, LateReply}
use Rattle.bsc_trust.specs.declared.terminal_peers.TerminalPeers.{TerminalPeers}
use Rattle.bsc_trust.specs.declared.trust.Trust.{Trust}
use Rattle.bsc_trust.specs.Answers.{is_noise, is_timed}
use Rattle.bsc_trust.specs.Connections.{nobody, newcomer, connected_at, owned_by}
use Rattle.bsc_trust.specs.Connections.{ignored_on}
use Rattle.bsc_trust.specs.Peers.{forbids}

-- What is known at the beginning.
abbrev pub new_trust : Bool → ℕ → TerminalPeers → Trust
new_trust shared time_out peers = record {
  shared = shared;
  time_out = time_out;
  peers = peers;
  connections = replicate MAX_CONNECTIONS nobody;
  awaiting = None;
  heard_at = None;
  slowest = None;
  distrust = None;
}

-- ---- what is admitted

-- Why an answer on a connection of this peer, which is nobody's, is not that of this terminal. It
-- is given the connection that the terminal owns, if it owns one.
abbrev pub reason_beside : Option ℕ → Trust → ℕ → ℕ → Option IpAddr → Option Distrust
reason_beside (Some first) t terminal place peer = Some (SecondConnection place first terminal)
reason_beside None t terminal place peer =
    if forbids t.peers.addresses terminal peer then Some (OtherAddress place terminal) else None

abbrev pub reason_of_nobody : Trust → ℕ → ℕ → Option IpAddr → Option Distrust
reason_of_nobody t terminal place peer =
    reason_beside (owned_by t.connections terminal) t terminal place peer

-- Why an answer at this place is not that of this terminal. It is given the owner of the
-- connection, if there is one.
abbrev pub reason_by_owner : Option ℕ → Trust → ℕ → ℕ → Option Distrust
reason_by_owner (Some owner) t terminal place =
    if owner == terminal then None else Some (OtherTerminal place owner terminal)
reason_by_owner None t terminal place =
    reason_of_nobody t terminal place (connected_at t.connections place).peer

abbrev pub reason_for : Trust → ℕ → ℕ → Option Distrust
reason_for t terminal place =
    reason_by_owner (connected_at t.connections place).owner t terminal place

-- Why an answer at this place is not that of the terminal that is called, if one is.
abbrev pub reason_where_called : Option ℕ → Trust → ℕ → Option Distrust
reason_where_called None t place = None
reason_where_called (Some terminal) t place =
    if t.shared then None else reason_for t terminal place

-- Why a transmission at this place that is not noise is not admitted: the first reason, or none.
abbrev pub reason : Trust → Option ℕ → ℕ → Option Distrust
reason t called place =
    if is_none t.awaiting then Some (NothingSent place)
    else if (connected_at t.connections place).barred then Some (Barred place)
    else reason_where_called called t place

-- Whether a transmission is heard.
abbrev pub admits : Trust → Option ℕ → ℕ → Heard → Bool
admits t called place heard = is_noise heard || is_none (reason t called place)

-- Whether the peer of the connection at this place may answer what was sent last. If nothing was
-- sent since the last answer, none of them is known not to.
abbrev pub may_answer : Trust → Option ℕ → ℕ → Bool
may_answer t called place = is_none t.awaiting || is_none (reason t called place)

-- ---- what each event changes

-- The same, but this is known of the connection at this place.
abbrev pub with_connected : Trust → ℕ → Connected → Trust
with_connected t place connected =
    record t { connections = slice_set t.connections place connected }

-- After a connection began at this place.
abbrev pub after_joined : Trust → ℕ → Option IpAddr → Trust
after_joined t place peer = with_connected t place (newcomer peer)

-- After the connection at this place was closed.
abbrev pub after_closed : Trust → ℕ → Trust
after_closed t place = with_connected t place nobody

-- The first reason, after a later one.
abbrev pub first_reason : Option Distrust → Distrust → Option Distrust
first_reason None later = Some later
first_reason (Some first) later = Some first

-- The time since then, if there is a time since which it is reckoned.
abbrev pub time_since : Option ℕ → ℕ → ℕ
time_since since now = now - unwrap_or since now

-- Whether something is late that took this time.
abbrev pub is_late : Trust → ℕ → Bool
is_late t time = nat_lt t.time_out time

-- The first reason, after something took this time that is to take no more than the time-out.
abbrev pub reason_after_time : Trust → ℕ → Distrust → Option Distrust
reason_after_time t time late = if is_late t time then first_reason t.distrust late else t.distrust

-- What is told of that: that it is late, if that ends trust.
abbrev pub told_of_time : Trust → ℕ → Distrust → Option Distrust
told_of_time t time late = if is_late t time && is_none t.distrust then Some late else None

-- After the control station sent something at this time. If an answer was heard since it sent
-- something last, and no time-out has passed in silence since, this is its reply, which is late if
-- more than the time-out has passed since the answer.
abbrev pub after_sent : Trust → ℕ → Trust
after_sent t now = record t {
  awaiting = Some now;
  heard_at = None;
  distrust = reason_after_time t (time_since t.heard_at now) LateReply;
}

-- After the control station withheld something at this time, since it would have been late. To the
-- terminals that is as if it had been sent and lost, so that one of them may answer.
abbrev pub after_withheld : Trust → ℕ → Trust
after_withheld t now = record t { awaiting = Some now; heard_at = None }

-- After a time-out has passed in silence. What is sent next replies to no answer.
abbrev pub after_silence : Trust → Trust
after_silence t = record t { heard_at = None }

abbrev pub told_of_sending : Trust → ℕ → Option Distrust
told_of_sending t now = told_of_time t (time_since t.heard_at now) LateReply

-- The reason that is told of a transmission that was not heard.
abbrev pub reason_told : Trust → Option ℕ → ℕ → Distrust
reason_told t called place = unwrap_or (reason t called place) (NothingSent place)

-- Whether something that was not heard on the connection at this place was told before.
abbrev pub was_told : Trust → ℕ → Bool
was_told t place = (connected_at t.connections place).told

-- After a transmission was not heard.
abbrev pub after_ignored : Trust → Option ℕ → ℕ → Trust
after_ignored t called place = record t {
  connections = slice_set t.connections place
      (ignored_on t.shared (connected_at t.connections place));
  distrust = first_reason t.distrust (reason_told t called place);
}

-- The connection at this place is owned by the terminal that is called, if one is and not all
-- answer on one connection.
abbrev pub given_to_called : Option ℕ → Trust → ℕ → Trust
given_to_called None t place = t
given_to_called (Some terminal) t place =
    if t.shared then t
    else with_connected t place
    (record (connected_at t.connections place) { owner = Some terminal })

abbrev pub given_to : Trust → Option ℕ → ℕ → Trust
given_to t called place = given_to_called called t place

-- The time that an answer took that is heard now: since the last sending.
abbrev pub time_taken : Trust → ℕ → ℕ
time_taken t now = time_since t.awaiting now

-- The slowest answer, after one that took this time.
abbrev pub slower : Option ℕ → ℕ → Option ℕ
slower None time = Some time
slower (Some slowest) time = Some (max slowest time)

-- After an answer took this time, which counts.
abbrev pub after_time : Trust → ℕ → Trust
after_time t time = record t {
  slowest = slower t.slowest time;
  distrust = reason_after_time t time LateAnswer;
}

-- After an answer of the terminal that is called was heard at this place and time. None is due any
-- more.
abbrev pub after_answer : Trust → Option ℕ → ℕ → ℕ → Trust
after_answer t called place now =
    record (given_to t called place) { awaiting = None; heard_at = Some now }

-- After a transmission was heard at this place and time.
abbrev pub after_heard : Trust → Option ℕ → ℕ → Heard → ℕ → Trust
after_heard t called place heard now =
    if is_noise heard then t
    else if is_timed heard (time_taken t now) t.time_out
    then after_time (after_answer t called place now) (time_taken t now)
    else after_answer t called place now

-- What is told of a transmission that was heard at this time.
abbrev pub told_of : Trust → Heard → ℕ → Option Distrust
told_of t heard now =
    if is_noise heard then None
    else if is_timed heard (time_taken t now) t.time_out
    then told_of_time t (time_taken t now) LateAnswer
    else None

-- ---- what is reported

-- The time of an answer in hundredths of the time-out.
abbrev pub share : ℕ → Option ℕ → Option ℕ
share time_out None = None
share time_out (Some time) = Some (min (time * 100) (2 ^ 64 - 1) / max time_out 1)

-- The time of the slowest answer in hundredths of the time-out, if one was heard whose time counts.
abbrev pub slowest_share : Trust → Option ℕ
slowest_share t = share t.time_out t.slowest
