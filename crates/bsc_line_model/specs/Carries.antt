-- What a transmission and a silence do to a line (GA27-3004: the terminals of a centralised
-- multipoint line hear only the control station).
use Rattle.std.specs.Prelude.{◌≡◌, ℕ, ◌<◌, Option, None, Some}
use Rattle.bsc_frame.specs.declared.message.Message.{Message}
use Rattle.bsc_frame.specs.declared.message.Heard.{Heard}
use Rattle.bsc_bid.specs.Fair.{IsFairlyHeard}
use Rattle.bsc_tributary.specs.Tributary.{ActsOnSilence as TerminalActs}
use Rattle.bsc_tributary.specs.Kept.{AfterSilence as TerminalKeeps}
use Rattle.bsc_control.specs.Control.{terminals as addresses_of}
use Rattle.bsc_control.specs.Kept.{AfterHearing as ControlKeepsHearing}
use Rattle.bsc_control.specs.Kept.{AfterSilence as ControlKeepsSilence}
use Rattle.bsc_control.specs.Table.{Hears as ControlHears, ActsOnSilence as ControlActs}
use Rattle.bsc_bid.specs.declared.speaker.Speaker.{Speaker}
use Rattle.bsc_bid.specs.declared.speaker.Speaker.TheVariants.{Control, Terminal}
use Rattle.bsc_line_model.specs.Transmission.{sent_by}
use Rattle.bsc_line_model.specs.Line.{LineValue, terminal_at, terminal_count, with_terminal}
use Rattle.bsc_line_model.specs.Terminals.{EachHears, EachKeeps, first_answer}
use Rattle.bsc_line_model.specs.Trust.{IsHeardFairly, IsTrustAfter, IsAddressedAfter}

-- each terminal hears the control station's message as `hears` says: no other station changes, and
-- then the answer of the terminal with the least number among those that answer is pending
pub record IsCarriedDown (message : Message) (hears : ℕ → Heard) (old new : LineValue)
    : Type 0 where
  pub control : new.control ≡ old.control
  pub terminals : EachHears old.terminals hears new.terminals
  pub kept : EachKeeps old.terminals hears new.terminals
  pub pending : new.pending ≡ first_answer old.terminals hears new.terminals (terminal_count old)
  pub addressed : IsAddressedAfter (addresses_of old.control) (terminal_count old) hears
      old.addressed new.addressed
  pub trusted : IsTrustAfter old.trusted (IsHeardFairly message (terminal_count old) hears)
      new.trusted

-- the control station hears a terminal's message as `heard`: no other station changes, and then the
-- answer of the control station is pending
pub record IsCarriedUp (message : Message) (heard : Heard) (old new : LineValue) : Type 0 where
  pub sent : Option Message
  pub control : ControlHears old.control heard new.control sent
  pub kept : ControlKeepsHearing old.control heard new.control sent
  pub terminals : new.terminals ≡ old.terminals
  pub pending : new.pending ≡ sent_by Control sent
  pub addressed : new.addressed ≡ old.addressed
  pub trusted : IsTrustAfter old.trusted (IsFairlyHeard message heard) new.trusted

-- the pending transmission is heard as `heard`, by its speaker: the control station by all
-- terminals alike, a terminal by the control station
abbrev pub IsCarriedBy : Speaker → Message → Heard → LineValue → LineValue → Type 0
IsCarriedBy Control message heard old new = IsCarriedDown message (λ t. heard) old new
IsCarriedBy (Terminal t) message heard old new = IsCarriedUp message heard old new

-- a terminal acts on a silence: no other station changes
pub record TerminalActsAlone (t : ℕ) (old new : LineValue) : Type 0 where
  pub sent : Option Message
  pub there : t < terminal_count old
  pub row : TerminalActs (terminal_at old t) (terminal_at new t) sent
  pub kept : TerminalKeeps (terminal_at old t) (terminal_at new t) sent
  pub becomes : new ≡ record (with_terminal old t (terminal_at new t)) {
    pending = sent_by (Terminal t) sent;
  }

-- the control station acts on a silence: no other station changes
pub record ControlActsAlone (old new : LineValue) : Type 0 where
  pub sent : Option Message
  pub row : ControlActs old.control new.control sent
  pub kept : ControlKeepsSilence old.control new.control sent
  pub becomes : new ≡ record old { control = new.control; pending = sent_by Control sent }

-- the owner of the line acts; None stands for the control station
abbrev pub OwnerActs : Option ℕ → LineValue → LineValue → Type 0
OwnerActs None old new = ControlActsAlone old new
OwnerActs (Some t) old new = TerminalActsAlone t old new
