-- What is told of the channels that a client follows.
use Rattle.std.specs.Prelude.{◌≡◌, ◌<◌, ◌≤◌, ℕ, ◌+◌, nat_lt, List, length, Option, Some, None}
use Rattle.std.specs.Prelude.{if◌then◌else◌, slice_get}
use Rattle.std.specs.Option.{option_and_then}
use Rattle.bsc_station.specs.Ends.{End, sending, receiving}
use Rattle.bsc_station.specs.declared.party.Party as party_of
use Rattle.bsc_feed.specs.declared.news.News.{News}
use Rattle.bsc_feed.specs.declared.news.PlaceNews.{PlaceNews}
use Rattle.bsc_feed.specs.declared.told.Told.{Told}
use Rattle.bsc_feed.specs.declared.told.Told.TheVariants.{Arrived, Delivered}
use Rattle.bsc_feed.specs.Places.{end_at}

-- What is told, and the number from which the channel is followed after it.
abbrev pub tells : Told → ℕ → News
tells told next = record { told = told; next = next }

-- What is to be told of the end of the channel at this place, which is followed from this number
-- on: the record of this number, if it has arrived, and then the one after it; or how many are
-- known to have arrived, if they are more than this number.
abbrev pub news_of : End → ℕ → ℕ → Option News
news_of (sending offered known doubt) place next =
    if nat_lt next known then Some (tells (Delivered place known) known) else None
news_of (receiving records) place next =
    if nat_lt next (length records) then Some (tells (Arrived place next) (next + 1)) else None

-- What is known of a station with memory of type M, and the station.
module _ {P M : Type 0} (party : party_of.Ghosts P M) (station : P) where
  -- What is to be told of the channel at this place, which is followed from this number on, or is
  -- not followed.
  abbrev pub news_at : ℕ → Option ℕ → Option News
  news_at place next =
      option_and_then
      (λ n. option_and_then (λ end. news_of end place n) (end_at party station place)) next

  -- Of this channel, which is followed as this list of numbers says, there is something to tell.
  abbrev pub HasNews : List (Option ℕ) → ℕ → News → Type 0
  HasNews follows place news =
      (next : ℕ) × (slice_get follows place ≡ Some (Some next))
      × (news_at place (Some next) ≡ Some news)

  -- Of the channels at the places from one to before another there is nothing to tell.
  abbrev pub AreQuiet : List (Option ℕ) → ℕ → ℕ → Type 0
  AreQuiet follows from to =
      (place : ℕ) (news : News) → from ≤ place → place < to → HasNews follows place news → ⊥

  -- The first of these places of which there is something to tell, or that there is none.
  abbrev pub IsFirstNews : List (Option ℕ) → ℕ → ℕ → Option PlaceNews → Type 0
  IsFirstNews follows from to None = AreQuiet follows from to
  IsFirstNews follows from to (Some found) =
      (from ≤ found.place) × (found.place < to) × HasNews follows found.place found.news
