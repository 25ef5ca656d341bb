-- The state of each channel of a station, told in the order of its report.
use Rattle.std.specs.Prelude.{◌≡◌, ◌<◌, ◌≤◌, ℕ, true, false, Option, Some, None}
use Rattle.bsc_station.specs.declared.party.Party as party_of
use Rattle.bsc_feed.specs.declared.limits.TheConstants.{MAX_PLACES}
use Rattle.bsc_feed.specs.Places.{is_there}

module _ {P M : Type 0} (party : party_of.Ghosts P M) (station : P) where
  -- No place from one to before another has a channel.
  abbrev pub AreEmpty : ℕ → ℕ → Type 0
  AreEmpty from to = (place : ℕ) → from ≤ place → place < to → is_there party station place ≡ false

  -- The first place from this one on that has a channel, or that there is none.
  abbrev pub IsNextPlace : ℕ → Option ℕ → Type 0
  IsNextPlace from None = AreEmpty from MAX_PLACES
  IsNextPlace from (Some place) =
      (from ≤ place) × (place < MAX_PLACES) × (is_there party station place ≡ true)
      × AreEmpty from place
