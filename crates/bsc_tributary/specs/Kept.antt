-- What holds of every terminal, and what a transmission or a silence may change of it.
use Rattle.std.specs.Prelude.{◌≡◌, ◌≢◌, ◌⊎◌, ℕ, ◌<◌, true, false, List, [], ◌++◌, length, All}
use Rattle.std.specs.Prelude.{Option, None}
use Rattle.bsc_frame.specs.declared.message.Message.{Message}
use Rattle.bsc_frame.specs.declared.message.Message.TheVariants as m
use Rattle.bsc_frame.specs.declared.message.Heard.{Heard}
use Rattle.bsc_frame.specs.declared.message.Heard.TheVariants.{Whole, Noise}
use Rattle.bsc_frame.specs.Texts.{TextValue}
use Rattle.bsc_block.specs.Blocks.{records_in}
use Rattle.bsc_spool.specs.Queue.{queue_of}
use Rattle.bsc_spool.specs.Spool.{SpoolValue}
use Rattle.bsc_bid.specs.declared.phase.Phase.{Phase}
use Rattle.bsc_bid.specs.declared.phase.Phase.TheVariants.{Idle}
use Rattle.bsc_bid.specs.Receiver.{new_receiver}
use Rattle.bsc_bid.specs.Setup.{SetupValue}
use Rattle.bsc_bid.specs.Ready.{IsReady, IsGoing, IsAtRest}
use Rattle.bsc_bid.specs.Terminal.{TerminalValue, IsTerminal, HasDistinctAddresses}
use Rattle.bsc_tributary.specs.declared.called.Called.{Called}
use Rattle.bsc_tributary.specs.declared.called.Called.TheVariants.{Polling, Selection, Other}
use Rattle.bsc_tributary.specs.declared.mode.Mode.{Mode}
use Rattle.bsc_tributary.specs.declared.mode.Mode.TheVariants.{Control, Receiving, Sending}
use Rattle.bsc_tributary.specs.Called.{called_as}
use Rattle.bsc_tributary.specs.Tributary.{TributaryValue, Hears, ActsOnSilence, spool_at}
use Rattle.bsc_bid.specs.Station.{StaysQuiet}

-- a bid is in progress exactly while the terminal sends, and it receives into a spool that it has
abbrev pub SuitsMode : Mode → Phase → ℕ → Type 0
SuitsMode Control phase spools = IsAtRest phase
SuitsMode (Receiving s) phase spools = IsAtRest phase × (s < spools)
SuitsMode Sending phase spools = IsGoing phase

-- a terminal: its addresses differ, each selection address has its spool, the queue has the records
-- that the sender counts on, and a bid is in progress exactly while the terminal sends
pub record IsTributary (t : TributaryValue) : Type 0 where
  pub distinct : HasDistinctAddresses t.terminal
  pub terminal : IsTerminal t.terminal
  pub spools : length t.spools ≡ length t.terminal.selects
  pub format : t.queue.format ≡ t.sender.setup.format
  pub ready : IsReady t.sender t.queue
  pub bid : SuitsMode t.mode t.sender.phase (length t.spools)

-- a new terminal is in control mode and ready, not urgent, with nothing to send and nothing
-- received
pub record IsNewTerminal (setup : SetupValue) (terminal : TerminalValue) (t : TributaryValue)
    : Type 0 where
  pub terminal_given : t.terminal ≡ terminal
  pub mode : t.mode ≡ Control
  pub ready : t.ready ≡ true
  pub not_urgent : t.urgent ≡ false
  pub sender : t.sender ≡ record { setup = setup; phase = Idle; failures = 0; wacks = 0 }
  pub receiver : t.receiver ≡ new_receiver true
  pub queue : t.queue ≡ queue_of setup.format [] 0
  pub spools : All (λ (s : SpoolValue). (s.records ≡ []) × (s.delays ≡ 0)) t.spools
  pub tributary : IsTributary t

-- what an offer, a release or a flag leaves: a terminal with the same addresses, settings and mode
pub record KeepsSetupAndMode (old new : TributaryValue) : Type 0 where
  pub tributary : IsTributary new
  pub addresses : new.terminal ≡ old.terminal
  pub setup : new.sender.setup ≡ old.sender.setup
  pub mode : new.mode ≡ old.mode

-- what stays: the addresses, the settings, the ready flag, the records that were offered, and a
-- spool for each selection address
pub record Keeps (old new : TributaryValue) : Type 0 where
  pub terminal : new.terminal ≡ old.terminal
  pub setup : new.sender.setup ≡ old.sender.setup
  pub ready : new.ready ≡ old.ready
  pub format : new.queue.format ≡ old.queue.format
  pub offered : new.queue.offered ≡ old.queue.offered
  pub spools : length new.spools ≡ length old.spools

-- a whole text was heard while receiving into spool s, and its records were added to the old ones
pub record Stores (mode : Mode) (h : Heard) (s : ℕ) (old new : List (List ℕ)) : Type 0 where
  pub text : TextValue
  pub heard : h ≡ Whole (m.Text text)
  pub receiving : mode ≡ Receiving s
  pub becomes : new ≡ old ++ records_in text.units

-- a spool is unchanged, or stores the records of a text
abbrev pub GrowsByText : Mode → Heard → ℕ → List (List ℕ) → List (List ℕ) → Type 0
GrowsByText mode h s old new = (new ≡ old) ⊎ Stores mode h s old new

-- the mode after a call
abbrev pub IsModeCalled : Called → Mode → Type 0
IsModeCalled Polling mode = (mode ≡ Control) ⊎ (mode ≡ Sending)
IsModeCalled (Selection s) mode = (mode ≡ Control) ⊎ (mode ≡ Receiving s)
IsModeCalled Other mode = mode ≡ Control

-- the mode after a transmission was heard
abbrev pub IsModeAfter : TributaryValue → Heard → Mode → Type 0
IsModeAfter t (Whole m.Eot) mode = mode ≡ Control
IsModeAfter t (Whole (m.Call address)) mode = IsModeCalled (called_as t.terminal address) mode
IsModeAfter t h mode = (mode ≡ Control) ⊎ (mode ≡ t.mode)

-- EOT, or the call of an address that is not the terminal's own
abbrev pub TakesLine : TerminalValue → Heard → Type 0
TakesLine t (Whole m.Eot) = Unit {0}
TakesLine t (Whole (m.Call address)) = called_as t address ≡ Other
TakesLine t h = ⊥

-- neither EOT nor a call
abbrev pub IsNoCall : Heard → Type 0
IsNoCall (Whole m.Eot) = ⊥
IsNoCall (Whole (m.Call address)) = ⊥
IsNoCall h = Unit {0}

-- a terminal after it heard a transmission, and what it may send
pub record AfterHearing (old : TributaryValue) (h : Heard) (new : TributaryValue)
    (sent : Option Message) : Type 0 where
  pub tributary : IsTributary new
  pub keeps : Keeps old new
  pub mode : IsModeAfter old h new.mode
  pub other_spools : (s : ℕ) → new.mode ≢ Receiving s
      → spool_at new.spools s ≡ spool_at old.spools s
  pub grows : (s : ℕ) → GrowsByText old.mode h s (spool_at old.spools s).records
      (spool_at new.spools s).records
  pub gives_up_line : TakesLine old.terminal h → (new.mode ≡ Control) × (sent ≡ None)
  pub control : old.mode ≡ Control → IsNoCall h → StaysQuiet old new sent
  pub noise : h ≡ Noise → StaysQuiet old new sent

-- a terminal after a silence
pub record AfterSilence (old new : TributaryValue) (sent : Option Message) : Type 0 where
  pub tributary : IsTributary new
  pub keeps : Keeps old new
  pub mode : (new.mode ≡ Control) ⊎ (new.mode ≡ old.mode)
  pub spools : new.spools ≡ old.spools
  pub still : old.mode ≢ Sending → StaysQuiet old new sent

-- a terminal hears a transmission: the row of its table, and what the row keeps
pub record IsHearing (old : TributaryValue) (h : Heard) (new : TributaryValue)
    (sent : Option Message) : Type 0 where
  pub row : Hears old h new sent
  pub after : AfterHearing old h new sent

-- a silence passes at a terminal: the row of its table, and what the row keeps
pub record IsSilence (old new : TributaryValue) (sent : Option Message) : Type 0 where
  pub row : ActsOnSilence old new sent
  pub after : AfterSilence old new sent
