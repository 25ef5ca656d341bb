-- The terminals of a line hear the control station, each in its own way.
use Rattle.std.specs.Prelude.{◌≡◌, ◌<◌, ℕ, zero, suc, List, length, Option, Some, None, position}
use Rattle.bsc_frame.specs.declared.message.Message.{Message}
use Rattle.bsc_frame.specs.declared.message.Heard.{Heard}
use Rattle.bsc_tributary.specs.Tributary.{TributaryValue, Hears, hear_step, rooms_after, holds}
use Rattle.bsc_tributary.specs.Kept.{AfterHearing}
use Rattle.bsc_bid.specs.declared.speaker.Speaker.TheVariants.{Terminal}
use Rattle.bsc_line_model.specs.declared.transmission.Transmission.{Transmission}
use Rattle.bsc_line_model.specs.Transmission.{sent_by}
use Rattle.bsc_line_model.specs.Line.{terminal_in}

-- the answer of a terminal, by its table
abbrev pub answer : TributaryValue → Heard → TributaryValue → Option Message
answer old h new = (hear_step old h (rooms_after h new)).sent

-- the answer of terminal t
abbrev pub answer_of :
    List TributaryValue → (ℕ → Heard) → List TributaryValue → ℕ → Option Message
answer_of old hears new t = answer (terminal_in old t) (hears t) (terminal_in new t)

-- each terminal makes the step of its table for what it hears
pub record EachHears (old : List TributaryValue) (hears : ℕ → Heard) (new : List TributaryValue)
    : Type 0 where
  pub count : length new ≡ length old
  pub each : (t : ℕ) → t < length old →
      Hears (terminal_in old t) (hears t) (terminal_in new t) (answer_of old hears new t)

-- what else holds of each terminal afterwards
abbrev pub EachKeeps : List TributaryValue → (ℕ → Heard) → List TributaryValue → Type 0
EachKeeps old hears new = (t : ℕ) → t < length old →
    AfterHearing (terminal_in old t) (hears t) (terminal_in new t) (answer_of old hears new t)

-- the first transmission if there is one, else the second
abbrev pub or_first : Option Transmission → Option Transmission → Option Transmission
or_first (Some a) b = Some a
or_first None b = b

-- the answer of the terminal with the least number among the first n that answers
abbrev pub first_answer :
    List TributaryValue → (ℕ → Heard) → List TributaryValue → ℕ → Option Transmission
first_answer old hears new zero = None
first_answer old hears new (suc n) =
    or_first (first_answer old hears new n) (sent_by (Terminal n) (answer_of old hears new n))

-- the station that acts on a silence: the terminal with the least number among those that hold the
-- line; None stands for the control station
abbrev pub line_owner : List TributaryValue → Option ℕ
line_owner ts = position (λ (x : TributaryValue). holds x.mode) ts
