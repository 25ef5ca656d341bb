-- How many transmissions a visit of a terminal and a round of the poll list take if all are heard,
-- and what they deliver.
use Rattle.std.specs.Prelude.{◌≡◌, ◌≢◌, ◌<◌, ◌+◌, ◌*◌, ◌-◌, ◌^◌, ℕ, zero, suc, Bool, true, false}
use Rattle.std.specs.Prelude.{IsTrue, nat_eq}
use Rattle.std.specs.Prelude.{is_some, position, filter, List, [], ◌∷◌, length, sum_by, replicate}
use Rattle.std.specs.Prelude.{slice_index, Some, Result, Ok, if◌then◌else◌}
use Rattle.bsc_frame.specs.declared.message.Message.TheVariants as m
use Rattle.bsc_block.specs.Blocks.{blocks}
use Rattle.bsc_spool.specs.Queue.{QueueValue, waiting}
use Rattle.bsc_bid.specs.Channel.{Channel}
use Rattle.bsc_bid.specs.Sender.{is_in_doubt}
use Rattle.bsc_tributary.specs.Tributary.{spool_at}
use Rattle.bsc_bid.specs.declared.way.Way.{Way}
use Rattle.bsc_bid.specs.declared.way.Way.TheVariants.{ToTerminal}
use Rattle.bsc_bid.specs.Addresses.{IsAddressOf}
use Rattle.bsc_control.specs.Peer.{OutboundValue}
use Rattle.bsc_control.specs.Control.{ControlValue, peer_at, terminals, current}
use Rattle.bsc_control.specs.CallOrder.{Call, first_call, place_after, is_polled, polled_place}
use Rattle.bsc_control.specs.Kept.{IsTaskOf}
use Rattle.bsc_bid.specs.declared.speaker.Speaker.TheVariants.{Control}
use Rattle.bsc_line_model.specs.declared.event.Event.{Event}
use Rattle.bsc_line_model.specs.declared.event.Event.TheVariants.{CarrySent}
use Rattle.bsc_line_model.specs.declared.error.Stopped.{Stopped}
use Rattle.bsc_line_model.specs.Line.{LineValue, terminal_at, terminal_count, IsChannel, channel_of}
use Rattle.bsc_line_model.specs.Line.{phase_of}
use Rattle.bsc_line_model.specs.Kept.{IsLine}
use Rattle.bsc_line_model.specs.Runs.{Runs}

-- the number of blocks that the waiting records of a queue make
abbrev pub block_count : QueueValue → ℕ
block_count q = length (blocks q.format (waiting q))

-- the transmissions of a bid of this many blocks to a selection address: call and answer, and two
-- for each block; none if there is no block, for then the address is not called
abbrev pub selection_length : ℕ → ℕ
selection_length zero = 0
selection_length (suc n) = 2 + 2 * suc n

-- the transmissions of a poll with this many blocks: call and EOT, and two for each block
abbrev pub poll_length : ℕ → ℕ
poll_length n = 2 + 2 * n

-- the transmissions of a bid with all records that wait for a selection address
abbrev pub outbound_length : OutboundValue → ℕ
outbound_length o = selection_length (block_count o.queue)

-- the transmissions of a visit of a terminal: a selection of each of its selection addresses for
-- which records wait, and a poll
abbrev pub visit_length : LineValue → ℕ → ℕ
visit_length l t =
    sum_by outbound_length (peer_at l.control t).outbounds
    + poll_length (block_count (terminal_at l t).queue)

-- this terminal is among those that were visited
abbrev pub is_seen : ℕ → List ℕ → Bool
is_seen t seen = is_some (position (nat_eq t) seen)

-- the transmissions of these entries of the poll list: the first entry of a terminal is a visit of
-- it, and each later one a poll in which it has nothing to send
abbrev pub entries_length : LineValue → List ℕ → List ℕ → ℕ
entries_length l seen [] = 0
entries_length l seen (t ∷ ts) =
    (if is_seen t seen then 2 else visit_length l t)
    + entries_length l (t ∷ seen) ts

-- the entries of the poll list whose terminals are polled
abbrev pub polled_entries : LineValue → List ℕ
polled_entries l = filter (is_polled l.control) l.control.poll_list

-- the transmissions of a round of the poll list
abbrev pub round_length : LineValue → ℕ
round_length l = entries_length l [] (polled_entries l)

-- the terminal that an entry of the poll list names
abbrev pub entry_at : LineValue → ℕ → ℕ
entry_at l place = slice_index l.control.poll_list place

-- terminal t is ready for a visit: it accepts selections, neither end asks for the line, and no
-- channel of it is in doubt
pub record IsReadyForVisit (l : LineValue) (t : ℕ) : Type 0 where
  pub ready : IsTrue (terminal_at l t).ready
  pub not_urgent_at : (terminal_at l t).urgent ≡ false
  pub not_urgent_for : (peer_at l.control t).urgent ≡ false
  pub no_doubt : (way : Way) → IsChannel l t way → is_in_doubt (phase_of l t way) ≡ false

-- the control station has made this call, with this address, and nothing has answered it yet; the
-- call may have been repeated after a silence
pub record HasMadeCall (c : ControlValue) (call : Call) (address : List ℕ) : Type 0 where
  pub place : c.place ≡ call.place
  pub called : IsAddressOf (terminals c) (current c) call.way address
  pub task : IsTaskOf call.way c.task

-- the terminal of this entry is polled
abbrev pub IsPolledEntry : LineValue → ℕ → Type 0
IsPolledEntry l place = is_polled l.control (entry_at l place) ≡ true

-- A visit begins: the first call of the entry is pending, which is the one that the call order
-- gives for the records that wait; its terminal is polled; the line is trusted, and every terminal
-- in the poll list that is polled is ready for a visit.
pub record BeginsVisit (l : LineValue) (place : ℕ) : Type 0 where
  pub address : List ℕ
  pub pending : l.pending ≡ Some (record { speaker = Control; message = m.Call address })
  pub called : HasMadeCall l.control (first_call l.control place) address
  pub polled : IsPolledEntry l place
  pub trusted : IsTrue l.trusted
  pub visit_ready : (k : ℕ) → k < length l.control.poll_list → IsPolledEntry l k
      → IsReadyForVisit l (entry_at l k)

-- all records that were offered on a channel arrived, and are known to have arrived
pub record IsAllDelivered (channel : Channel) : Type 0 where
  pub known : channel.known ≡ length channel.offered
  pub spooled : channel.spooled ≡ channel.offered

-- all records are delivered on every channel of terminal t
abbrev pub IsDelivered : LineValue → ℕ → Type 0
IsDelivered l t = (way : Way) → IsChannel l t way → IsAllDelivered (channel_of l t way)

-- the counts of refusals of room to a spool in two states: equal, and below the greatest value, at
-- which the count saturates
abbrev pub SameDelay : ℕ → ℕ → Type 0
SameDelay old new = (new ≡ old) × (old < 2 ^ 64 - 1)

-- no spool was refused room, neither at the control station nor at a terminal
pub record SameDelays (old new : LineValue) : Type 0 where
  pub control : (t : ℕ) → t < terminal_count old →
      SameDelay (peer_at old.control t).spool.delays (peer_at new.control t).spool.delays
  pub terminals : (t s : ℕ) → IsChannel old t (ToTerminal s) →
      SameDelay (spool_at (terminal_at old t).spools s).delays
      (spool_at (terminal_at new t).spools s).delays

-- this many transmissions, each heard as it was sent
abbrev pub sent_times : ℕ → List Event
sent_times n = replicate n CarrySent

-- the entry whose visit comes after that of this one: the next one whose terminal is polled
abbrev pub next_visit : LineValue → ℕ → ℕ
next_visit l place = polled_place l.control (place_after l.control.poll_list place)

-- the entry whose visit is the first of a round: the first one whose terminal is polled
abbrev pub first_visit : LineValue → ℕ
first_visit l = polled_place l.control 0

-- a visit is done: the records on the channels of the terminal are delivered, the channels of the
-- other terminals are unchanged, and the visit of the next entry that is polled begins
pub record IsVisited (old new : LineValue) (place : ℕ) : Type 0 where
  pub delivered : IsDelivered new (entry_at old place)
  pub others : (t : ℕ) (way : Way) → IsChannel old t way → t ≢ entry_at old place →
      channel_of new t way ≡ channel_of old t way
  pub next : BeginsVisit new (next_visit old place)

-- these events are the transmissions of a visit from its beginning, as many as its length, each
-- heard as it was sent, and no spool is refused room
pub record IsFairVisit (old : LineValue) (place : ℕ) (events : List Event) (new : LineValue)
    : Type 0 where
  pub begins : BeginsVisit old place
  pub transmissions : events ≡ sent_times (visit_length old (entry_at old place))
  pub delays : SameDelays old new

-- delivery within a visit: such events are accepted, and the visit is done
abbrev pub DeliversVisit : LineValue → List Event → Result (Unit {0}) Stopped → LineValue → Type 0
DeliversVisit old events result new =
    (place : ℕ) → IsFairVisit old place events new → (result ≡ Ok tt) × IsVisited old new place

-- a round is done: the records on the channels of every terminal in the poll list that is polled
-- are delivered, and the next round begins
pub record IsRoundDone (old new : LineValue) : Type 0 where
  pub delivered : (k : ℕ) → k < length old.control.poll_list → IsPolledEntry old k
      → IsDelivered new (entry_at old k)
  pub next : BeginsVisit new (first_visit old)

-- these events are the transmissions of a round from its beginning, as many as its length, each
-- heard as it was sent, and no spool is refused room
pub record IsFairRound (old : LineValue) (events : List Event) (new : LineValue) : Type 0 where
  pub begins : BeginsVisit old (first_visit old)
  pub transmissions : events ≡ sent_times (round_length old)
  pub delays : SameDelays old new

-- delivery within a round: such events are accepted, and the round is done
abbrev pub DeliversRound : LineValue → List Event → Result (Unit {0}) Stopped → LineValue → Type 0
DeliversRound old events result new =
    IsFairRound old events new → (result ≡ Ok tt) × IsRoundDone old new

-- every run of events that are the transmissions of a visit is accepted, and the visit is done
abbrev pub RunsDeliverVisit : Type 0
RunsDeliverVisit =
    (old new : LineValue) (events : List Event) (result : Result (Unit {0}) Stopped) → IsLine old
    → Runs old events result new → DeliversVisit old events result new

abbrev pub RunsDeliverRound : Type 0
RunsDeliverRound =
    (old new : LineValue) (events : List Event) (result : Result (Unit {0}) Stopped) → IsLine old
    → Runs old events result new → DeliversRound old events result new

-- a terminal was visited if it is the one visited last, or was visited before that one
abbrev pub SeesLast : Type 0
SeesLast = (t e : ℕ) (seen : List ℕ) → t ≡ e → is_seen t (e ∷ seen) ≡ true

abbrev pub SeesEarlier : Type 0
SeesEarlier = (t e : ℕ) (seen : List ℕ) → t ≢ e → is_seen t (e ∷ seen) ≡ is_seen t seen

-- if every terminal in the poll list is polled, no entry is passed over, and all are visited in a
-- round
abbrev pub IsPolledWhole : LineValue → Type 0
IsPolledWhole l = (k : ℕ) → k < length l.control.poll_list → IsPolledEntry l k

abbrev pub WholeListIsVisited : Type 0
WholeListIsVisited =
    (l : LineValue) → IsPolledWhole l → polled_entries l ≡ l.control.poll_list

abbrev pub WholeListPassesNone : Type 0
WholeListPassesNone =
    (l : LineValue) (place : ℕ) → IsPolledWhole l → place < length l.control.poll_list
    → polled_place l.control place ≡ place
