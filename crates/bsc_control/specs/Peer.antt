-- What the control station keeps for one terminal.
use Rattle.std.specs.Prelude.{◌≡◌, ℕ, Bool, true, false, not, nat_eq, List, [], ◌∷◌, ◌++◌}
use Rattle.std.specs.Prelude.{length, slice_index_or, slice_set, replicate, map, All, Option}
use Rattle.std.specs.Prelude.{if◌then◌else◌}
use Rattle.bsc_frame.specs.declared.message.Heard.{Heard}
use Rattle.bsc_spool.specs.Queue.{QueueValue, waiting, with_forgotten}
use Rattle.bsc_spool.specs.Spool.{SpoolValue}
use Rattle.bsc_bid.specs.declared.phase.Phase.TheVariants.{Idle}
use Rattle.bsc_frame.specs.declared.reply.Reply.{Reply}
use Rattle.bsc_bid.specs.Ready.{IsReady}
use Rattle.bsc_bid.specs.Receiver.{ReceiverValue, Receives, new_receiver, sends_interrupt}
use Rattle.bsc_bid.specs.Sender.{SenderValue, SenderStep, restarted_sender, is_in_doubt}
use Rattle.bsc_bid.specs.Sender.{release_step}
use Rattle.bsc_bid.specs.Setup.{SetupValue}
use Rattle.bsc_bid.specs.Terminal.{TerminalValue, IsTerminal}

-- the records for one selection address, and the sender of their bids
pub record OutboundValue : Type 0 where
  pub sender : SenderValue
  pub queue : QueueValue

-- a terminal's addresses; whether it is polled; whether the control station asks it for the line;
-- the receiver and the spool of what it sends; and the sending side of each of its selection
-- addresses
pub record PeerValue : Type 0 where
  pub terminal : TerminalValue
  pub polled : Bool
  pub urgent : Bool
  pub receiver : ReceiverValue
  pub spool : SpoolValue
  pub outbounds : List OutboundValue

-- the default that is read past the end of a list
abbrev pub no_outbound : OutboundValue
no_outbound =
    record {
      sender = record {
        setup = record { format = record { full = 0; block_chars = 0 }; tries = 0; waits = 0 };
        phase = Idle;
        failures = 0;
        wacks = 0;
      };
      queue = record { format = record { full = 0; block_chars = 0 }; offered = []; known = 0 };
    }

abbrev pub no_peer : PeerValue
no_peer =
    record {
      terminal = record { poll = []; selects = [] };
      polled = true;
      urgent = false;
      receiver = new_receiver true;
      spool = record { records = []; room = false; delays = 0 };
      outbounds = [];
    }

-- the sending side of the selection address of this number
abbrev pub outbound_at : PeerValue → ℕ → OutboundValue
outbound_at p s = slice_index_or p.outbounds s no_outbound

abbrev pub with_outbound : PeerValue → ℕ → OutboundValue → PeerValue
with_outbound p s o = record p { outbounds = slice_set p.outbounds s o }

-- the sending side after a step of the sender
abbrev pub outbound_after : SenderStep → OutboundValue
outbound_after step = record { sender = step.sender; queue = step.queue }

abbrev pub outbound_released : OutboundValue → ℕ → OutboundValue
outbound_released o count =
    record {
      sender = (release_step o.sender o.queue count).sender;
      queue = (release_step o.sender o.queue count).queue;
    }

-- the sending side of a new control station
abbrev pub new_outbound : SetupValue → OutboundValue
new_outbound setup =
    record {
      sender = record { setup = setup; phase = Idle; failures = 0; wacks = 0 };
      queue = record { format = setup.format; offered = []; known = 0 };
    }

-- the sending side of a control station that began again
abbrev pub restarted_outbound : OutboundValue → OutboundValue
restarted_outbound o = record o { sender = restarted_sender o.sender }

-- what a control station that began again keeps for a terminal: the records that arrived, those
-- that it has to send, and its doubts. It polls every terminal.
abbrev pub restarted_peer : PeerValue → PeerValue
restarted_peer p =
    record p {
      polled = true;
      urgent = false;
      receiver = new_receiver true;
      outbounds = map restarted_outbound p.outbounds;
    }

-- polled, with nothing to send, nothing received, and the urgent flag down
pub record IsNewPeer (setup : SetupValue) (terminal : TerminalValue) (p : PeerValue) : Type 0 where
  pub terminal_given : p.terminal ≡ terminal
  pub is_polled : p.polled ≡ true
  pub not_urgent : p.urgent ≡ false
  pub receiver : p.receiver ≡ new_receiver true
  pub nothing_spooled : p.spool.records ≡ []
  pub no_delays : p.spool.delays ≡ 0
  pub outbounds : p.outbounds ≡ replicate (length terminal.selects) (new_outbound setup)

-- a record is offered for a selection address
abbrev pub offered : OutboundValue → List ℕ → OutboundValue
offered o r = record o { queue = record o.queue { offered = o.queue.offered ++ r ∷ [] } }

abbrev pub offered_to : PeerValue → ℕ → List ℕ → PeerValue
offered_to p s r = with_outbound p s (offered (outbound_at p s) r)

-- the first records that were offered for a selection address are forgotten, this many
abbrev pub sent_forgotten : OutboundValue → ℕ → OutboundValue
sent_forgotten o count = record o { queue = with_forgotten o.queue count }

abbrev pub forgotten_to : PeerValue → ℕ → ℕ → PeerValue
forgotten_to p s count = with_outbound p s (sent_forgotten (outbound_at p s) count)

-- records wait, and the sender is not in doubt
abbrev pub is_selectable : OutboundValue → Bool
is_selectable o =
    if is_in_doubt o.sender.phase then false else not (nat_eq (length (waiting o.queue)) 0)

-- the queue has the records that the sender counts on
abbrev pub IsOutbound : OutboundValue → Type 0
IsOutbound o = IsReady o.sender o.queue

-- as many sending sides as the terminal has selection addresses, whose queues have the records that
-- their senders count on
pub record IsPeer (p : PeerValue) : Type 0 where
  pub terminal : IsTerminal p.terminal
  pub outbounds : length p.outbounds ≡ length p.terminal.selects
  pub ready : All IsOutbound p.outbounds

-- the receiver hears a transmission; a reverse interrupt clears the urgent flag
pub record PeerReceives (old : PeerValue) (h : Heard) (new : PeerValue) (reply : Option Reply)
    : Type 0 where
  pub receives : Receives old.receiver old.spool h old.urgent
      (record { receiver = new.receiver; spool = new.spool; reply = reply })
  pub becomes : new ≡ record old {
    receiver = new.receiver;
    spool = new.spool;
    urgent = if sends_interrupt reply then false else old.urgent;
  }
