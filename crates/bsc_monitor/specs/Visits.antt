-- The end of the visit to an entry of the poll list, by the control station's own task and place.
-- Polling and selection are those of GA27-3004; visits are this project's own.
use Rattle.std.specs.Prelude.{◌≡◌, ◌≢◌, ◌↔◌, ℕ, nat_eq, Bool, true, false, not, ◌&&◌, if◌then◌else◌}
use Rattle.std.specs.Prelude.{Option, None, Some, is_some, List}
use Rattle.bsc_frame.specs.declared.message.Message.{Message}
use Rattle.bsc_frame.specs.declared.message.Heard.{Heard}
use Rattle.bsc_bid.specs.Setup.{SetupValue}
use Rattle.bsc_bid.specs.Terminal.{TerminalValue}
use Rattle.bsc_control.specs.declared.task.Replied.{Replied}
use Rattle.bsc_control.specs.declared.task.Replied.TheVariants.{Nothing}
use Rattle.bsc_control.specs.declared.task.Task.{Task}
use Rattle.bsc_control.specs.declared.task.Task.TheVariants.{AtRest, Selecting, Polling}
use Rattle.bsc_control.specs.CallOrder.{Poll}
use Rattle.bsc_control.specs.Control.{ControlValue, ControlStep}
use Rattle.bsc_control.specs.Kept.{IsNewControl, IsHearing, IsSilence}
use Rattle.bsc_control.specs.Table.{is_interrupted, next_call_step}
use Rattle.bsc_monitor.specs.declared.visits.Visits.{Visits}

abbrev pub visits_of : Option ℕ → Visits
visits_of polled = record { polled = polled }

-- Whether a task is as a call begins it.
abbrev pub is_begun : Task → Bool
is_begun (Selecting select enquired) = not enquired
is_begun (Polling Nothing) = true
is_begun _ = false

-- Whether what the control station has just sent is a call that repeats none: its task is as a call
-- begins it, and no failure is counted.
abbrev pub calls_anew : ControlValue → Bool
calls_anew c = is_begun c.task && nat_eq c.failures 0

-- The entry at this place, if it is polled in this task.
abbrev pub polled_in : Task → ℕ → Option ℕ
polled_in (Polling replied) place = Some place
polled_in _ place = None

-- The entry that the control station polls.
abbrev pub polled_by : ControlValue → Option ℕ
polled_by c = polled_in c.task c.place

-- The entry whose visit has ended with what the control station has just sent: it polled this entry
-- before, and has now made a call that repeats none.
abbrev pub visit_ended : Option ℕ → ControlValue → Option ℕ
visit_ended polled c = if calls_anew c then polled else None

-- The entry that is polled after a step, before what the control station sends in it is counted, in
-- this task: none once the station is at rest, since no terminal is polled any more.
abbrev pub polled_still : Task → Option ℕ → Option ℕ
polled_still AtRest polled = None
polled_still _ polled = polled

-- The entry whose visit has ended so.
abbrev pub visit_rested : Task → Option ℕ → Option ℕ
visit_rested AtRest polled = polled
visit_rested _ polled = None

-- The entry whose visit ended in a step in which the control station may have sent nothing.
abbrev pub ended_by : Option ℕ → ControlStep → Option ℕ
ended_by polled step = if is_some step.sent then visit_ended polled step.control else None

-- By the table of the control station, the poll of this entry is over and the next call is made:
-- that of the next entry that is polled, or of the same one if the poll was interrupted.
pub record GoesOn (old : ControlValue) (step : ControlStep) (entry : ℕ) : Type 0 where
  pub replied : Replied
  pub polling : old.task ≡ Polling replied
  pub place : entry ≡ old.place
  pub row : step ≡ next_call_step old (Poll (is_interrupted replied))
  pub made : step.sent ≢ None

-- What is known of the visits before a step is enough after it: while nothing is sent, the entry
-- that is polled stays unless the station comes to rest, and a visit ends exactly when the control
-- station goes on from its entry.
pub record FollowsStep (old : ControlValue) (step : ControlStep) : Type 0 where
  pub quiet : step.sent ≡ None
      → polled_by step.control ≡ polled_still step.control.task (polled_by old)
  pub ended : (entry : ℕ) → (ended_by (polled_by old) step ≡ Some entry) ↔ GoesOn old step entry

-- A new control station polls no entry.
abbrev pub FollowsNew : Type 0
FollowsNew = (setup : SetupValue) (terminals : List TerminalValue) (poll_list : List ℕ)
    (c : ControlValue) → IsNewControl setup terminals poll_list c → polled_by c ≡ None

-- What a control station hears is followed.
abbrev pub FollowsHearing : Type 0
FollowsHearing = (old : ControlValue) (h : Heard) (new : ControlValue) (sent : Option Message)
    → IsHearing old h new sent → FollowsStep old (record { control = new; sent = sent })

-- A silence is followed.
abbrev pub FollowsSilence : Type 0
FollowsSilence = (old new : ControlValue) (sent : Option Message)
    → IsSilence old new sent → FollowsStep old (record { control = new; sent = sent })
