-- The channels of a station, by their places in its report: five places for each terminal, one for
-- the channel from it and one for each address that it may have. A place may have no channel.
use Rattle.std.specs.Prelude.{◌≡◌, ◌<◌, ℕ, ◌+◌, ◌-◌, ◌*◌, ◌/◌, ◌%◌, nat_eq, nat_lt, ◌&&◌, Bool}
use Rattle.std.specs.Prelude.{true}
use Rattle.std.specs.Prelude.{List, Option, Some, None, if◌then◌else◌}
use Rattle.bsc_bid.specs.declared.way.Way.{Way}
use Rattle.bsc_bid.specs.declared.way.Way.TheVariants.{FromTerminal, ToTerminal}
use Rattle.bsc_station.specs.Ends.{End}
use Rattle.bsc_station.specs.declared.party.Party as party_of
use Rattle.bsc_text.specs.Channels.{channel_name}
use Rattle.bsc_bid.specs.declared.channel.ChannelName.{ChannelName}
use Rattle.bsc_feed.specs.declared.limits.TheConstants.{MAX_PLACES, PLACES}

-- The terminal of a place.
abbrev pub terminal_at : ℕ → ℕ
terminal_at place = place / PLACES

-- The direction of the channel with this order among those of its terminal.
abbrev pub way_in_order : ℕ → Way
way_in_order order = if nat_eq order 0 then FromTerminal else ToTerminal (order - 1)

-- The direction of a place.
abbrev pub way_at : ℕ → Way
way_at place = way_in_order (place % PLACES)

-- The place of a channel.
abbrev pub place_of : ℕ → Way → ℕ
place_of t FromTerminal = t * PLACES
place_of t (ToTerminal s) = t * PLACES + (s + 1)

-- Whether a terminal with this number of addresses has a channel in this direction.
abbrev pub has_way : Way → ℕ → Bool
has_way FromTerminal count = true
has_way (ToTerminal s) count = nat_lt s count

-- What is known of a station with memory of type M, and the station.
module _ {P M : Type 0} (party : party_of.Ghosts P M) (station : P) where
  -- Whether the station has a channel at this place.
  abbrev pub is_there : ℕ → Bool
  is_there place =
      nat_lt (terminal_at place) (party.count station)
      && has_way (way_at place) (party.selects station (terminal_at place))

  -- The end of the channel at this place, if there is one.
  abbrev pub end_at : ℕ → Option End
  end_at place =
      if is_there place then Some (party.ends station (terminal_at place) (way_at place)) else None

  -- The name of the channel at this place.
  abbrev pub name_at : ℕ → List ℕ
  name_at place =
      channel_name (party.selects station (terminal_at place))
      (party.numbers station (terminal_at place)) (way_at place)

  -- The channel at this place is the one with this name.
  pub record IsNamed (channel : ChannelName) (place : ℕ) : Type 0 where
    pub within : place < MAX_PLACES
    pub there : is_there place ≡ true
    pub terminal : party.numbers station (terminal_at place) ≡ channel.terminal
    pub way : way_at place ≡ channel.way

  -- The place of the channel with this name, or that there is none.
  abbrev pub IsFound : ChannelName → Option ℕ → Type 0
  IsFound channel (Some place) = IsNamed channel place
  IsFound channel None = (place : ℕ) → IsNamed channel place → ⊥
