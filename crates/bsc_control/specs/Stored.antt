-- How a new control station becomes one whose process ended. What steps leave as it is on the line
-- is in specs/Kept.antt.
use Rattle.std.specs.Prelude.{◌≡◌, ℕ, false, List, [], map, Result, Ok, Err}
use Rattle.bsc_spool.specs.Queue.{queue_of}
use Rattle.bsc_spool.specs.Spool.{without_room}
use Rattle.bsc_bid.specs.declared.kept.KeptSender.{KeptSender}
use Rattle.bsc_bid.specs.declared.kept.RecallError.{RecallError}
use Rattle.bsc_bid.specs.declared.kept.RecallError.TheVariants.{NotNew}
use Rattle.bsc_bid.specs.Setup.{SetupValue}
use Rattle.bsc_bid.specs.Stored.{kept_of, new_sender, recall_step}
use Rattle.bsc_control.specs.declared.task.Task.{Task}
use Rattle.bsc_control.specs.declared.task.Task.TheVariants.{AtRest}
use Rattle.bsc_control.specs.Control.{ControlValue, peer_at, restarted, with_peer}
use Rattle.bsc_control.specs.Kept.{outbound_of}
use Rattle.bsc_control.specs.Peer.{OutboundValue, PeerValue, restarted_outbound, with_outbound}

-- what is kept of a sending side, beside its records
abbrev pub kept_of_side : OutboundValue → KeptSender
kept_of_side o = kept_of o.sender o.queue

-- the sending side after it recalled what was kept, or refused to
abbrev pub outbound_recalled : OutboundValue → KeptSender → OutboundValue
outbound_recalled o k =
    record {
      sender = (recall_step o.sender o.queue k).sender;
      queue = (recall_step o.sender o.queue k).queue;
    }

-- the answer of the sending side
abbrev pub outbound_answer : OutboundValue → KeptSender → Result (Unit {0}) RecallError
outbound_answer o k = (recall_step o.sender o.queue k).answer

-- the station after the sending side of this selection address of this terminal recalled what was
-- kept: one that is not at rest is not new
abbrev pub recalled_during : ControlValue → Task → ℕ → ℕ → KeptSender → ControlValue
recalled_during c AtRest t s k =
    with_peer c t (with_outbound (peer_at c t) s (outbound_recalled (outbound_of c t s) k))
recalled_during c _ t s k = c

-- and its answer
abbrev pub answer_during : ControlValue → Task → ℕ → ℕ → KeptSender → Result (Unit {0}) RecallError
answer_during c AtRest t s k = outbound_answer (outbound_of c t s) k
answer_during c _ t s k = Err NotNew

-- a new sending side to which these records were offered
abbrev pub offered_side : SetupValue → List (List ℕ) → OutboundValue
offered_side setup rs =
    record { sender = new_sender setup; queue = queue_of setup.format rs 0 }

-- A new sending side, to which the records of the sending side o were offered, recalls what was
-- kept of it, and is then what o is after a restart.
pub record BecomesRestarted (setup : SetupValue) (o : OutboundValue) : Type 0 where
  pub recalls : outbound_answer (offered_side setup o.queue.offered) (kept_of_side o) ≡ Ok tt
  pub restarts : outbound_recalled (offered_side setup o.queue.offered) (kept_of_side o)
      ≡ restarted_outbound o

-- what is not known of a terminal's records: its addresses, its flags and the receiver
abbrev pub without_records : PeerValue → PeerValue
without_records p =
    record p { spool = record { records = []; room = false; delays = 0 }; outbounds = [] }

abbrev pub apart_from_records : ControlValue → ControlValue
apart_from_records c = record c { peers = map without_records c.peers }

-- The station n is as the station c after a restart, apart from the records that arrived, those
-- that are to be sent, and what is known of them.
abbrev pub IsBegunAs : ControlValue → ControlValue → Type 0
IsBegunAs c n = apart_from_records n ≡ apart_from_records (restarted c)

-- It also has the records that arrived, and each sending side as after a restart.
pub record IsFilledAs (c n : ControlValue) : Type 0 where
  pub begun : IsBegunAs c n
  pub arrived : (t : ℕ) → (peer_at n t).spool.records ≡ (peer_at c t).spool.records
  pub sides : (t s : ℕ) → outbound_of n t s ≡ restarted_outbound (outbound_of c t s)

-- The station apart from the room in its spools, and how often room was refused. Both are of the
-- memory of a process, and end with it.
abbrev pub apart_from_room : ControlValue → ControlValue
apart_from_room c =
    record c { peers = map (λ (p : PeerValue). record p { spool = without_room p.spool }) c.peers }
