-- The rounds of a poll list, after which of them a control station pauses, and when it ends.
use Rattle.std.specs.Prelude.{ℕ, nat_eq, nat_le, Bool, false, not, ◌||◌, ◌&&◌}
use Rattle.std.specs.Prelude.{if◌then◌else◌, Option, None, Some, true}
use Rattle.bsc_text.specs.declared.progress.counts.Counts.{Counts}
use Rattle.bsc_monitor.specs.Saturating.{one_more}
use Rattle.bsc_monitor.specs.declared.rounds.Limits.{Limits}
use Rattle.bsc_monitor.specs.declared.rounds.Rounds.{Rounds}

abbrev pub rounds_of : Bool → ℕ → ℕ → ℕ → ℕ → Rounds
rounds_of met rounds idle known arrived =
    record { met = met; rounds = rounds; idle = idle; known = known; arrived = arrived }

-- Whether no record has arrived since the end of the last completed round, with these counts now.
abbrev pub is_quiet : Rounds → Counts → Bool
is_quiet r counts = nat_eq counts.arrived r.arrived

-- The number of idle rounds in a row after one more round. It is zero after a round in which a
-- record arrived, so that it was not quiet, or at whose end something waits to be sent.
abbrev pub idle_after : ℕ → Bool → Bool → ℕ
idle_after idle quiet more = if quiet && not more then one_more idle else 0

-- Whether a visit, which is the last of its round or not, ends a round in which nothing got
-- through: no record arrived in it, and at its end nothing waits to be sent, or no more records are
-- known to have arrived than after the round before.
abbrev pub pauses_after : Rounds → Bool → Bool → Counts → Bool
pauses_after r is_last more counts =
    is_last && (is_quiet r counts && not (more && not (nat_eq counts.known r.known)))

-- The rounds after one more is complete, with these counts at its end. It is counted if a terminal
-- has come.
abbrev pub after_round : Rounds → Bool → Counts → Rounds
after_round r more counts =
    if r.met
    then rounds_of true (one_more r.rounds) (idle_after r.idle (is_quiet r counts) more)
    counts.known counts.arrived
    else rounds_of false r.rounds r.idle counts.known counts.arrived

-- The rounds after the end of a visit, with these counts then.
abbrev pub after_visit : Rounds → Bool → Bool → Counts → Rounds
after_visit r is_last more counts = if is_last then after_round r more counts else r

-- Whether the limit is reached, if there is one.
abbrev pub is_reached : Option ℕ → ℕ → Bool
is_reached None rounds = false
is_reached (Some limit) rounds = nat_le limit rounds

-- Whether one of the two limits is reached.
abbrev pub are_enough : Rounds → Limits → Bool
are_enough r limits = is_reached limits.rounds r.rounds || nat_le limits.idle_rounds r.idle
