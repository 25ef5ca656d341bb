-- The poll list of a station is changed while the station is attended.
use Rattle.std.specs.Prelude.{◌≡◌, ℕ, zero, suc, Bool, true, false, not, ◌&&◌}

-- Whether a terminal that is wanted, as the flag says, is polled, or one that is not wanted is not.
abbrev pub is_as_wanted : Bool → Bool → Bool
is_as_wanted true polled = polled
is_as_wanted false polled = not polled

-- Whether each of the first terminals, this many, is polled exactly if it is to be.
abbrev pub are_settled : (ℕ → Bool) → (ℕ → Bool) → ℕ → Bool
are_settled polled wanted zero = true
are_settled polled wanted (suc t) =
    are_settled polled wanted t && is_as_wanted (wanted t) (polled t)

-- Each of the first terminals, this many, is polled from now on exactly if it is to be: they are
-- changed in order, and nothing else is.
module _ {S : Type 0} (polls : S → ℕ → Bool → S → Type 0) (wanted : ℕ → Bool) where
  abbrev pub Settles : ℕ → S → S → Type 0
  Settles zero old new = new ≡ old
  Settles (suc t) old new = (mid : S) × Settles t old mid × polls mid t (wanted t) new
