-- How the channels that a client follows are told.
use Rattle.std.specs.Prelude.{◌≡◌, ℕ, List, Option, Some, None, slice_set}
use Rattle.bsc_station.specs.declared.party.Party as party_of
use Rattle.bsc_feed.specs.declared.limits.TheConstants.{MAX_PLACES}
use Rattle.bsc_feed.specs.declared.news.News.{News}
use Rattle.bsc_feed.specs.declared.told.Told.{Told}
use Rattle.bsc_feed.specs.News.{AreQuiet, HasNews}

-- For each place, the number from which its channel is followed, if it is.
abbrev pub FollowsValue : Type 0
FollowsValue = List (Option ℕ)

module _ {P M : Type 0} (party : party_of.Ghosts P M) (station : P) where
  -- This is told of the channel at this place, which is followed from the next number on after it;
  -- all others are followed as before.
  pub record TellsAt (place : ℕ) (old : FollowsValue) (told : Told) (new : FollowsValue)
      : Type 0 where
    pub news : News
    pub due : HasNews party station old place news
    pub is_told : told ≡ news.told
    pub noted : new ≡ slice_set old place (Some news.next)

  -- Something is told of one of the channels, or there is nothing to tell of any.
  abbrev pub TellsNext : FollowsValue → Option Told → FollowsValue → Type 0
  TellsNext old None new = AreQuiet party station old 0 MAX_PLACES × (new ≡ old)
  TellsNext old (Some told) new = (place : ℕ) × TellsAt place old told new
