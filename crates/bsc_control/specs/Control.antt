-- The value of a control station as contracts see it.
use Rattle.std.specs.Prelude.{◌<◌, ℕ, List, length, slice_index, slice_index_or, slice_set, All}
use Rattle.std.specs.Prelude.{map, Option, None, Some}
use Rattle.bsc_frame.specs.declared.message.Message.{Message}
use Rattle.bsc_bid.specs.Setup.{SetupValue}
use Rattle.bsc_bid.specs.Terminal.{TerminalValue}
use Rattle.bsc_control.specs.declared.task.Task.{Task}
use Rattle.bsc_control.specs.declared.task.Task.TheVariants.{AtRest}
use Rattle.bsc_control.specs.Peer.{PeerValue, no_peer, IsPeer, restarted_peer}

-- a control station: its settings, its poll list, the place of the present entry, what it does
-- there, the failures in a row and the WACKs that answered the present call, and what it keeps for
-- each terminal
pub record ControlValue : Type 0 where
  pub setup : SetupValue
  pub poll_list : List ℕ
  pub place : ℕ
  pub task : Task
  pub failures : ℕ
  pub wacks : ℕ
  pub peers : List PeerValue

-- the control station after a step, and the message that it sends
pub record ControlStep : Type 0 where
  pub control : ControlValue
  pub sent : Option Message

-- the addresses of the station's terminals
abbrev pub terminals : ControlValue → List TerminalValue
terminals c = map (λ (p : PeerValue). p.terminal) c.peers

-- what the station keeps for the terminal of this number
abbrev pub peer_at : ControlValue → ℕ → PeerValue
peer_at c t = slice_index_or c.peers t no_peer

abbrev pub with_peer : ControlValue → ℕ → PeerValue → ControlValue
with_peer c t p = record c { peers = slice_set c.peers t p }

-- the terminal of an entry of the poll list, and of the present one
abbrev pub terminal_of_entry : ControlValue → ℕ → ℕ
terminal_of_entry c place = slice_index c.poll_list place

abbrev pub current : ControlValue → ℕ
current c = terminal_of_entry c c.place

-- what the station keeps for the terminal of the present entry
abbrev pub peer : ControlValue → PeerValue
peer c = peer_at c (current c)

abbrev pub with_current : ControlValue → PeerValue → ControlValue
with_current c p = with_peer c (current c) p

-- the control station after it began again: at rest at the first entry of the poll list, with the
-- counters at 0
abbrev pub restarted : ControlValue → ControlValue
restarted c =
    record c {
      place = 0;
      task = AtRest;
      failures = 0;
      wacks = 0;
      peers = map restarted_peer c.peers;
    }

-- nothing is sent
abbrev pub quiet_step : ControlValue → ControlStep
quiet_step c = record { control = c; sent = None }

abbrev pub answer_step : ControlValue → Message → ControlStep
answer_step c message = record { control = c; sent = Some message }

-- the poll list names terminals, and the present entry is one of its entries
pub record HasEntries (c : ControlValue) : Type 0 where
  pub place : c.place < length c.poll_list
  pub entries : All (λ t. t < length c.peers) c.poll_list
  pub peers : All IsPeer c.peers
