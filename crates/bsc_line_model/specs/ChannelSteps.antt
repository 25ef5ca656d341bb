-- What each event does to each channel of a trusted line.
use Rattle.std.specs.Prelude.{◌≡◌, ◌⊎◌, ℕ, Option, None, Some}
use Rattle.bsc_bid.specs.Channel.{Move, Offer, Land, Learn, Makes}
use Rattle.bsc_bid.specs.declared.way.Way.{Way}
use Rattle.bsc_bid.specs.declared.way.Way.TheVariants.{FromTerminal, ToTerminal}
use Rattle.bsc_line_model.specs.declared.event.Event.{Event}
use Rattle.bsc_line_model.specs.declared.event.Event.TheVariants.{OfferAt, OfferFor, Carry}
use Rattle.bsc_line_model.specs.declared.event.Event.TheVariants.{CarryEach, CarrySent, Silence}
use Rattle.bsc_line_model.specs.declared.event.Event.TheVariants.{Ready, UrgentAt, UrgentFor}
use Rattle.bsc_line_model.specs.declared.event.Event.TheVariants.{Polled, Release, Restart}
use Rattle.bsc_line_model.specs.Line.{LineValue, IsChannel, channel_of}

-- channel (t, way) makes this move, and all others stay
pub record MovesOne (t : ℕ) (way : Way) (move : Move) (old new : LineValue) : Type 0 where
  pub this : Makes move (channel_of old t way) (channel_of new t way)
  pub others : (u : ℕ) (other : Way) → IsChannel old u other → (u ≡ t → other ≡ way → ⊥) →
      channel_of new u other ≡ channel_of old u other

-- no channel moves
abbrev pub MovesNothing : LineValue → LineValue → Type 0
MovesNothing old new =
    (t : ℕ) (way : Way) → IsChannel old t way → channel_of new t way ≡ channel_of old t way

-- a number of records arrive on this channel
pub record Lands (t : ℕ) (way : Way) (old new : LineValue) : Type 0 where
  pub count : ℕ
  pub moves : MovesOne t way (Land count) old new

-- the addressed channel stays, or records arrive on it, or its sending end learns that they
-- arrived; all others stay
abbrev pub MovesAddressed : Option (ℕ × Way) → LineValue → LineValue → Type 0
MovesAddressed None old new = MovesNothing old new
MovesAddressed (Some a) old new =
    MovesNothing old new ⊎ Lands a.0 a.1 old new ⊎ MovesOne a.0 a.1 Learn old new

-- what an accepted event does to the channels
abbrev pub StepsChannels : Event → LineValue → LineValue → Type 0
StepsChannels (OfferAt t r) old new = MovesOne t FromTerminal (Offer r.now) old new
StepsChannels (OfferFor t s r) old new = MovesOne t (ToTerminal s) (Offer r.now) old new
StepsChannels (Carry item) old new = MovesAddressed old.addressed old new
StepsChannels (CarryEach items) old new = MovesAddressed old.addressed old new
StepsChannels CarrySent old new = MovesAddressed old.addressed old new
StepsChannels Silence old new = MovesNothing old new
StepsChannels (Ready t ready) old new = MovesNothing old new
StepsChannels (UrgentAt t) old new = MovesNothing old new
StepsChannels (UrgentFor t) old new = MovesNothing old new
StepsChannels (Polled t polled) old new = MovesNothing old new
StepsChannels (Release t way) old new = MovesOne t way Learn old new
StepsChannels (Restart party) old new = MovesNothing old new
