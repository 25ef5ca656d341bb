-- The events of the steps of a script.
use Rattle.std.specs.Prelude.{ℕ}
use Rattle.bsc_config.specs.Events.{Event, offer_at, offer_for, carry, lose, heard, heard_each}
use Rattle.bsc_config.specs.Events.{silence, ready, polled, urgent_at, urgent_for, release}
use Rattle.bsc_config.specs.declared.script.action.Action.{Action}
use Rattle.bsc_config.specs.declared.script.action.Action.TheVariants as act
use Rattle.bsc_config.specs.declared.script.action.Step.{Step}

-- An event, and the number of its line, counted from 1.
pub record NumberedEvent : Type 0 where
  pub line : ℕ
  pub event : Event

-- The event of an action.
abbrev pub event_in : {A : Type 0} → Action A → Event
event_in (act.OfferAt t codes) = offer_at t codes.now
event_in (act.OfferFor t s codes) = offer_for t s codes.now
event_in act.Carry = carry
event_in act.Lose = lose
event_in (act.Heard octets) = heard octets
event_in (act.HeardEach items) = heard_each items.items
event_in act.Silence = silence
event_in (act.Ready t takes) = ready t takes
event_in (act.Polled t on) = polled t on
event_in (act.UrgentAt t) = urgent_at t
event_in (act.UrgentFor t) = urgent_for t
event_in (act.Release t way) = release t way

-- The event of a step, with its line.
abbrev pub numbered : {A : Type 0} → Step A → NumberedEvent
numbered step = record { line = step.line; event = event_in step.action }
