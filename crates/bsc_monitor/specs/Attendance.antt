-- What a control station knows of one terminal. Polling and selection are those of GA27-3004;
-- visits, and what becomes of terminals that do not answer, are this project's own.
use Rattle.std.specs.Prelude.{◌≡◌, ◌↔◌, ℕ, zero, suc, ◌-◌, ◌^◌, nat_le, nat_lt}
use Rattle.std.specs.Prelude.{Bool, true, false, not, ◌||◌, ◌&&◌, if◌then◌else◌, List, [], ◌∷◌}
use Rattle.std.specs.Prelude.{Option, None, Some}
use Rattle.bsc_monitor.specs.Saturating.{more_by, one_more}
use Rattle.bsc_monitor.specs.declared.attendance.Attendance.{Attendance}
use Rattle.bsc_monitor.specs.declared.attendance.AbsenceLimits.{AbsenceLimits}
use Rattle.bsc_monitor.specs.declared.attendance.Presence.{Presence}

-- A terminal that was not visited yet.
abbrev pub unvisited : Attendance
unvisited =
    record {
      answers = 0;
      naks = 0;
      repetitions = 0;
      silences = 0;
      heard = None;
      silent_visits = 0;
      visited = 0;
      held = false;
    }

-- A terminal is absent once so many visits in a row had no answer, if there is such a number.
abbrev pub is_absent : AbsenceLimits → Attendance → Bool
is_absent limits p =
    nat_lt 0 limits.absent_after && nat_le limits.absent_after p.silent_visits

-- It answers its calls, as far as is known, and no program has taken it off.
abbrev pub is_present : AbsenceLimits → Attendance → Bool
is_present limits p = not p.held && not (is_absent limits p)

-- Whether somebody has connected since this time: perhaps the terminal that was visited then.
abbrev pub has_joined_since : ℕ → Option ℕ → Bool
has_joined_since time None = false
has_joined_since time (Some joined) = nat_le time joined

-- Whether the time has come to call it again, also if it is absent: enough has passed since its
-- last visit, or somebody has connected since then.
abbrev pub is_due : AbsenceLimits → Option ℕ → ℕ → Attendance → Bool
is_due limits joined now p =
    has_joined_since p.visited joined || nat_le (more_by limits.retry p.visited) now

-- Whether it is passed over since it is absent, and by no program.
abbrev pub is_passed : AbsenceLimits → Attendance → Bool
is_passed limits p = not p.held && is_absent limits p

-- The time at which the last visit to it ended, if it is absent and no program has taken it off.
abbrev pub visited_if_passed : AbsenceLimits → Attendance → Option ℕ
visited_if_passed limits p = if is_passed limits p then Some p.visited else None

-- The time at which it was heard last, if it was, and if it may be the one that has connected: it
-- is absent, no program has taken it off, and it was not visited since then.
abbrev pub heard_if_back : AbsenceLimits → Option ℕ → Attendance → Option ℕ
heard_if_back limits joined p =
    if is_passed limits p && has_joined_since p.visited joined then p.heard else None

-- ---- what happens

-- One more, if this is so.
abbrev pub one_if : Bool → ℕ
one_if true = 1
one_if false = 0

-- After a transmission of it was heard at this time, which was NAK or not.
abbrev pub after_answer : Bool → ℕ → Attendance → Attendance
after_answer nak now p =
    record p {
      answers = one_more p.answers;
      naks = more_by (one_if nak) p.naks;
      heard = Some now;
    }

-- After a time-out has passed while it was called.
abbrev pub after_time_out : Attendance → Attendance
after_time_out p = record p { silences = one_more p.silences }

-- After its call was repeated.
abbrev pub after_repetition : Attendance → Attendance
after_repetition p = record p { repetitions = one_more p.repetitions }

-- The number of visits in a row without an answer, after one with an answer or without.
abbrev pub silent_after : Bool → ℕ → ℕ
silent_after true visits = 0
silent_after false visits = one_more visits

-- After a visit in which it answered or not, as the flag says, which ended at this time.
abbrev pub after_visit : Bool → ℕ → Attendance → Attendance
after_visit answered now p =
    record p { silent_visits = silent_after answered p.silent_visits; visited = now }

-- A program lets the terminal be called again, or has it called no more. One that is called again
-- is given all its visits anew.
abbrev pub after_request : Bool → Attendance → Attendance
after_request true p = record p { silent_visits = 0; held = false }
after_request false p = record p { held = true }

-- ---- what is told

-- The time that has passed since then, if there is a time.
abbrev pub ago : Option ℕ → ℕ → Option ℕ
ago None now = None
ago (Some since) now = Some (now - since)

-- What is told of it at this time; the flag says whether it is to be polled.
abbrev pub presence_of : AbsenceLimits → Bool → ℕ → Attendance → Presence
presence_of limits polled now p =
    record {
      polled = polled;
      absent = is_absent limits p;
      answers = p.answers;
      naks = p.naks;
      repetitions = p.repetitions;
      silences = p.silences;
      heard = ago p.heard now;
    }

-- ---- visits one after another

-- A visit: whether the terminal answered in it, and the time at which it ended.
pub record Visit : Type 0 where
  pub answered : Bool
  pub time : ℕ

-- A terminal after these visits, the last of which is the first of the list.
abbrev pub after_visits : List Visit → Attendance
after_visits [] = unvisited
after_visits (v ∷ before) = after_visit v.answered v.time (after_visits before)

-- In each of the last visits, this many, it answered nothing.
abbrev pub AreLastSilent : ℕ → List Visit → Type 0
AreLastSilent zero visits = Unit {0}
AreLastSilent (suc n) [] = ⊥
AreLastSilent (suc n) (v ∷ before) = (v.answered ≡ false) × AreLastSilent n before

-- A terminal is absent after its visits exactly if it answered in none of the last ones, as many as
-- the limit says. With the limit 0 it never is.
abbrev pub AbsentBySilence : Type 0
AbsentBySilence = (limits : AbsenceLimits) (visits : List Visit)
    → nat_lt limits.absent_after (2 ^ 64) ≡ true
    → (is_absent limits (after_visits visits) ≡ true)
    ↔ ((nat_lt 0 limits.absent_after ≡ true) × AreLastSilent limits.absent_after visits)
