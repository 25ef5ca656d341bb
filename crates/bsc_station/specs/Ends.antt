-- The state of the channels that end at a station.
use Rattle.std.specs.Prelude.{ℕ, ◌<◌, nat_lt, zero, suc, Bool, false, not, ◌||◌, ◌&&◌}
use Rattle.std.specs.Prelude.{List, length}
use Rattle.bsc_bid.specs.declared.way.Way.{Way}
use Rattle.bsc_bid.specs.declared.way.Way.TheVariants.{FromTerminal, ToTerminal}
use Rattle.bsc_control.specs.Control.{ControlValue, peer_at}
use Rattle.bsc_control.specs.Kept.{outbound_of}
use Rattle.bsc_spool.specs.Queue.{QueueValue}
use Rattle.bsc_bid.specs.Sender.{is_in_doubt}
use Rattle.bsc_tributary.specs.Tributary.{TributaryValue, spool_at}
use Rattle.bsc_station.specs.declared.standing.Standing.{Standing}

-- The end of a channel. A sending end knows the number of records offered, the number known to have
-- arrived, and whether the last block is in doubt. A receiving end has the records that arrived.
pub data End : Type 0 where
  sending : ℕ → ℕ → Bool → End
  receiving : List (List ℕ) → End

-- The channel end of a queue.
abbrev pub queue_end : QueueValue → Bool → End
queue_end queue doubt = sending (length queue.offered) queue.known doubt

-- The control station receives on the channel from a terminal, and sends on the channels to it.
abbrev pub control_end : ControlValue → ℕ → Way → End
control_end c t FromTerminal = receiving (peer_at c t).spool.records
control_end c t (ToTerminal s) =
    queue_end (outbound_of c t s).queue (is_in_doubt (outbound_of c t s).sender.phase)

-- A terminal sends on the channel from it, and receives on the channels to it.
abbrev pub terminal_end : TributaryValue → Way → End
terminal_end t FromTerminal = queue_end t.queue (is_in_doubt t.sender.phase)
terminal_end t (ToTerminal s) = receiving (spool_at t.spools s).records

-- A direction of a terminal with this number of selection addresses.
abbrev pub IsWay : Way → ℕ → Type 0
IsWay FromTerminal count = Unit {0}
IsWay (ToTerminal s) count = s < count

abbrev pub standing_of : Bool → Bool → Standing
standing_of doubt waiting = record { doubt = doubt; waiting = waiting }

-- The state of a channel: whether it is in doubt, and whether records wait on it.
abbrev pub standing_at : End → Standing
standing_at (sending offered known doubt) = standing_of doubt (not doubt && nat_lt known offered)
standing_at (receiving records) = standing_of false false

-- The combined state of two groups of channels.
abbrev pub both : Standing → Standing → Standing
both a b = standing_of (a.doubt || b.doubt) (a.waiting || b.waiting)

-- The combined state of `first` and the channels with numbers below n.
abbrev pub together : Standing → (ℕ → Standing) → ℕ → Standing
together first at zero = first
together first at (suc n) = both (together first at n) (at n)

-- The combined state of the channels of a terminal.
abbrev pub terminal_standing : ℕ → (Way → End) → Standing
terminal_standing count ends =
    together (standing_at (ends FromTerminal)) (λ s. standing_at (ends (ToTerminal s))) count

-- The combined state of the channels of a station.
abbrev pub station_standing : (ℕ → ℕ) → (ℕ → Way → End) → ℕ → Standing
station_standing selects ends count =
    together (standing_of false false) (λ t. terminal_standing (selects t) (ends t)) count
