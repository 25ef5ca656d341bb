-- How a new terminal becomes one whose process ended. What steps leave as it is on the line is in
-- specs/Kept.antt.
use Rattle.std.specs.Prelude.{◌≡◌, ℕ, true, false, List, map, Ok}
use Rattle.bsc_spool.specs.Queue.{queue_of}
use Rattle.bsc_spool.specs.Spool.{SpoolValue, without_room}
use Rattle.bsc_bid.specs.declared.kept.KeptSender.{KeptSender}
use Rattle.bsc_bid.specs.Receiver.{new_receiver}
use Rattle.bsc_bid.specs.Setup.{SetupValue}
use Rattle.bsc_bid.specs.Stored.{kept_of, new_sender, recall_step}
use Rattle.bsc_bid.specs.Terminal.{TerminalValue}
use Rattle.bsc_tributary.specs.declared.mode.Mode.TheVariants.{Control}
use Rattle.bsc_tributary.specs.Tributary.{TributaryValue, restarted}

-- the terminal after it recalled what was kept, or refused to
abbrev pub after_recall : TributaryValue → KeptSender → TributaryValue
after_recall t k =
    record t {
      sender = (recall_step t.sender t.queue k).sender;
      queue = (recall_step t.sender t.queue k).queue;
    }

-- the records that arrived, for each selection address
abbrev pub arrived : TributaryValue → List (List (List ℕ))
arrived t = map (λ (s : SpoolValue). s.records) t.spools

-- A terminal that was made new, and to which these records were offered, and these others were
-- added to those that arrived.
pub record IsFilled (setup : SetupValue) (terminal : TerminalValue) (offered : List (List ℕ))
    (spooled : List (List (List ℕ))) (t : TributaryValue) : Type 0 where
  pub terminal_given : t.terminal ≡ terminal
  pub mode : t.mode ≡ Control
  pub ready : t.ready ≡ true
  pub not_urgent : t.urgent ≡ false
  pub sender : t.sender ≡ new_sender setup
  pub receiver : t.receiver ≡ new_receiver true
  pub queue : t.queue ≡ queue_of setup.format offered 0
  pub spools : arrived t ≡ spooled

-- The terminal apart from the room in its spools, and how often room was refused. Both are of the
-- memory of a process, and end with it.
abbrev pub apart_from_room : TributaryValue → TributaryValue
apart_from_room t = record t { spools = map without_room t.spools }

-- The terminal n recalls what was kept of the terminal t, and is then what t is after a restart.
pub record BecomesRestarted (t n : TributaryValue) : Type 0 where
  pub recalls : (recall_step n.sender n.queue (kept_of t.sender t.queue)).answer ≡ Ok tt
  pub restarts : apart_from_room (after_recall n (kept_of t.sender t.queue))
      ≡ apart_from_room (restarted t)
