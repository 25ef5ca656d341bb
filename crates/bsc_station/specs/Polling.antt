-- A terminal is polled again, or no more.
use Rattle.std.specs.Prelude.{◌≡◌, ◌<◌, ℕ, Bool, length}
use Rattle.bsc_control.specs.Control.{ControlValue, peer_at, with_peer}

-- A terminal of the control station is polled from now on, or is not. Its records and doubts, and
-- what is under way, stay.
pub record PollsTerminal (c : ControlValue) (t : ℕ) (polled : Bool) (new : ControlValue)
    : Type 0 where
  pub terminal : t < length c.peers
  pub state : new ≡ with_peer c t (record (peer_at c t) { polled = polled })
