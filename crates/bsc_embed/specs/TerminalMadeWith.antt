-- What a terminal was made with. This is the project's own.
use Rattle.std.specs.Prelude.{◌≡◌}
use Rattle.bsc_bid.specs.Setup.{SetupValue}
use Rattle.bsc_bid.specs.Terminal.{TerminalValue}
use Rattle.bsc_tributary.specs.Tributary.{TributaryValue}
use Rattle.bsc_tributary.specs.Kept.{IsTributary}

-- A terminal has these settings and addresses.
pub record IsMadeWith (setup : SetupValue) (addresses : TerminalValue) (t : TributaryValue)
    : Type 0 where
  pub tributary : IsTributary t
  pub setup_given : t.sender.setup ≡ setup
  pub addresses_given : t.terminal ≡ addresses
