-- A control station that hears a transmission, or acts on a silence, knows at least as many of its
-- records to have arrived, and has all records that it had.
use Rattle.std.proofs.Common.{◌≡◌, ◌∙◌, ◌+◌, ℕ, zero, suc, nat_lt, ◌&&◌, Bool, true, false, List}
use Rattle.std.proofs.Common.{[], ◌∷◌, length, Option, None, Some, refl, sym, ap, subst, append-nil}
use Rattle.std.proofs.Common.{inl, inr, if◌then◌else◌, ◌≤◌, ◌-◌, arith}
use Rattle.std.proofs.lemmas.Bool.{cases_lt}
use Rattle.std.specs.Prelude.{slice_index_or, slice_set}
use Rattle.bsc_frame.specs.declared.message.Message.{Message}
use Rattle.bsc_frame.specs.declared.message.Message.TheVariants as m
use Rattle.bsc_frame.specs.declared.message.Heard.{Heard}
use Rattle.bsc_frame.specs.declared.message.Heard.TheVariants.{Failed, Noise, Whole}
use Rattle.bsc_frame.specs.declared.reply.Reply.{Reply}
use Rattle.bsc_frame.specs.declared.reply.Reply.TheVariants.{Ack0, Ack1, Nak, Rvi, Wack}
use Rattle.bsc_frame.specs.Replies.{reply_in}
use Rattle.bsc_block.specs.Blocks.{records_in}
use Rattle.bsc_spool.specs.Queue.{waiting}
use Rattle.bsc_bid.specs.declared.outcome.Outcome.{Outcome}
use Rattle.bsc_bid.specs.declared.outcome.Outcome.TheVariants as o
use Rattle.bsc_bid.specs.declared.kept.KeptSender.{KeptSender}
use Rattle.bsc_bid.specs.Act.{message_for, outcome_of}
use Rattle.bsc_bid.specs.Receiver.{ReceiverStep, Rooms, heard_step}
use Rattle.bsc_bid.specs.Sender.{SenderStep, begin_step}
use Rattle.bsc_bid.proofs.Choice.{either_branch}
use Rattle.bsc_bid.specs.declared.way.Way.{Way}
use Rattle.bsc_bid.specs.declared.way.Way.TheVariants.{FromTerminal, ToTerminal}
use Rattle.bsc_control.specs.declared.task.Replied.{Replied}
use Rattle.bsc_control.specs.declared.task.Replied.TheVariants.{Interrupted, Nothing, Uninterrupted}
use Rattle.bsc_control.specs.declared.task.Task.{Task}
use Rattle.bsc_control.specs.declared.task.Task.TheVariants.{AtRest, Polling, Selecting, Sending}
use Rattle.bsc_control.specs.CallOrder.{After, Start, Selection, Poll, next_call}
use Rattle.bsc_control.specs.Control.{ControlStep, ControlValue, current, peer, peer_at}
use Rattle.bsc_control.specs.Control.{terminal_of_entry, with_peer}
use Rattle.bsc_control.specs.Kept.{GrowsByText, IsControl, IsHearing, IsSilence, outbound_of}
use Rattle.bsc_control.specs.Peer.{IsPeer, OutboundValue, PeerValue, no_outbound, no_peer}
use Rattle.bsc_control.specs.Peer.{outbound_after, outbound_at, with_outbound}
use Rattle.bsc_control.specs.Table.{after_bid, after_step, bid_step, is_interrupted, next_call_step}
use Rattle.bsc_control.specs.Table.{performed, poll_call_step, polling_step, receive_step}
use Rattle.bsc_control.specs.Table.{rooms_after, selecting_step, silence_in, task_step}
use Rattle.bsc_control.specs.Table.{way_call_step}
use Rattle.bsc_control.specs.Stored.{kept_of_side}
use Rattle.bsc_control.proofs.Calls.{by_next_call}
use Rattle.bsc_control.proofs.PeerLists.{value_kept_by_set}
use Rattle.bsc_station.specs.Feeding.{kept_at_control}
use Rattle.bsc_restarts.proofs.Ends.{ReceivedGrows, SentGrows, SentGrowsIf, grown_where, grows_not}
use Rattle.bsc_restarts.proofs.Growing.{KnowsMore, begin_knows, grows_if_knows, knows_as_many}
use Rattle.bsc_restarts.proofs.Growing.{none_known, reply_knows, silence_knows, were_waiting}
use Rattle.bsc_restarts.proofs.Lists.{index_after}

-- of each sending side at least as much is known
abbrev pub SidesKnow : ControlValue → ControlValue → Type 0
SidesKnow old new = (t s : ℕ) → KnowsMore (outbound_of old t s).queue (outbound_of new t s).queue

-- each sending side has the same queue
abbrev SidesStay : ControlValue → ControlValue → Type 0
SidesStay old new = (t s : ℕ) → (outbound_of new t s).queue ≡ (outbound_of old t s).queue

know_if_stay : (x y z : ControlValue) → SidesKnow x y → SidesStay y z → SidesKnow x z
know_if_stay x y z know stay t s =
    subst (λ q. KnowsMore (outbound_of x t s).queue q) (sym (stay t s)) (know t s)

sides_know_themselves : (c : ControlValue) → SidesKnow c c
sides_know_themselves c t s = knows_as_many (outbound_of c t s).queue

-- one terminal changes, and not its sending sides
stay_if_same : (c : ControlValue) (t : ℕ) (p : PeerValue)
    → p.outbounds ≡ (peer_at c t).outbounds → SidesStay c (with_peer c t p)
stay_if_same c t p same i s =
    value_kept_by_set (λ (q : PeerValue). (outbound_at q s).queue) c.peers t i p no_peer
    (ap (λ os. (slice_index_or os s no_outbound).queue) same)

-- calls
way_call_stays : (c : ControlValue) (place : ℕ) (way : Way)
    → SidesStay c (way_call_step c place way).control
way_call_stays c place FromTerminal t s =
    stay_if_same c (terminal_of_entry c place) _ refl t s
way_call_stays c place (ToTerminal select) t s =
    stay_if_same c (terminal_of_entry c place) _ refl t s

next_call_stays : (c : ControlValue) (after : After)
    → SidesStay c (next_call_step c after).control
next_call_stays c after =
    by_next_call (λ (step : ControlStep). SidesStay c step.control) c after (λ t s. refl)
    (way_call_stays c (next_call c after).place (next_call c after).way)

-- an element that knows more takes the place of one
pub know_at_set : (xs : List OutboundValue) (i j : ℕ) (x : OutboundValue)
    → KnowsMore (slice_index_or xs i no_outbound).queue x.queue
    → KnowsMore (slice_index_or xs j no_outbound).queue
    (slice_index_or (slice_set xs i x) j no_outbound).queue
know_at_set [] i j x more = knows_as_many no_outbound.queue
know_at_set (y ∷ ys) zero zero x more = more
know_at_set (y ∷ ys) zero (suc j) x more = knows_as_many (slice_index_or ys j no_outbound).queue
know_at_set (y ∷ ys) (suc i) zero x more = knows_as_many y.queue
know_at_set (y ∷ ys) (suc i) (suc j) x more = know_at_set ys i j x more

pub know_at_peer : (ps : List PeerValue) (i j s : ℕ) (p : PeerValue)
    → KnowsMore (outbound_at (slice_index_or ps i no_peer) s).queue (outbound_at p s).queue
    → KnowsMore (outbound_at (slice_index_or ps j no_peer) s).queue
    (outbound_at (slice_index_or (slice_set ps i p) j no_peer) s).queue
know_at_peer [] i j s p more = knows_as_many (outbound_at no_peer s).queue
know_at_peer (y ∷ ys) zero zero s p more = more
know_at_peer (y ∷ ys) zero (suc j) s p more =
    knows_as_many (outbound_at (slice_index_or ys j no_peer) s).queue
know_at_peer (y ∷ ys) (suc i) zero s p more = knows_as_many (outbound_at y s).queue
know_at_peer (y ∷ ys) (suc i) (suc j) s p more = know_at_peer ys i j s p more

-- a step of a sender
after_step_knows : (c : ControlValue) (s : ℕ) (step : SenderStep)
    → KnowsMore (outbound_at (peer c) s).queue step.queue → SidesKnow c (after_step c s step)
after_step_knows c s step more t i =
    know_at_peer c.peers (current c) t i (with_outbound (peer c) s (outbound_after step))
    (know_at_set (peer c).outbounds s i (outbound_after step) more)

performed_stays : (c : ControlValue) (s : ℕ) (outcome : Outcome) (message : Option Message)
    (after : After) → SidesStay c (performed c s outcome message after).control
performed_stays c s o.Sends message after t i = refl
performed_stays c s o.Over message after t i = next_call_stays c after t i
performed_stays c s o.Quiet message after t i = refl

bid_knows : (c : ControlValue) (s : ℕ) (step : SenderStep) (after : After)
    → KnowsMore (outbound_at (peer c) s).queue step.queue
    → SidesKnow c (bid_step c s step after).control
bid_knows c s step after more =
    know_if_stay c (after_step c s step) (bid_step c s step after).control
    (after_step_knows c s step more)
    (performed_stays (after_step c s step) s (outcome_of step.act) (message_for step.act) after)

call_knows : (c : ControlValue) (after : After) → SidesKnow c (next_call_step c after).control
call_knows c after =
    know_if_stay c c (next_call_step c after).control (sides_know_themselves c)
    (next_call_stays c after)

abbrev ControlKnows : ControlValue → ControlStep → Type 0
ControlKnows c step = SidesKnow c step.control

selecting_knows : (c : ControlValue) (s : ℕ) (r : Option Reply)
    → ControlKnows c (selecting_step c s r)
selecting_knows c s (Some Ack0) =
    bid_knows c s (begin_step (outbound_at (peer c) s).sender (outbound_at (peer c) s).queue)
    (Selection s) (begin_knows (outbound_at (peer c) s).sender (outbound_at (peer c) s).queue)
selecting_knows c s (Some Nak) = call_knows c (Selection s)
selecting_knows c s (Some Wack) =
    either_branch (ControlKnows c) (nat_lt c.setup.waits (c.wacks + 1)) _ _
    (call_knows c (Selection s)) (sides_know_themselves c)
selecting_knows c s (Some Ack1) = sides_know_themselves c
selecting_knows c s (Some Rvi) = sides_know_themselves c
selecting_knows c s None = sides_know_themselves c

receive_knows : (c : ControlValue) (replied : Replied) (step : ReceiverStep)
    → ControlKnows c (receive_step c replied step)
receive_knows c replied step =
    know_if_stay c c (receive_step c replied step).control (sides_know_themselves c)
    (λ t i. stay_if_same c (current c) _ refl t i)

-- the receiver of the polled terminal hears this
polled_knows : (c : ControlValue) (replied : Replied) (h : Heard) (rooms : Rooms)
    → ControlKnows c
    (receive_step c replied
    (heard_step (peer c).receiver (peer c).spool h (peer c).urgent rooms))
polled_knows c replied h rooms =
    receive_knows c replied
    (heard_step (peer c).receiver (peer c).spool h (peer c).urgent rooms)

polling_knows : (c : ControlValue) (replied : Replied) (h : Heard) (rooms : Rooms)
    → ControlKnows c (polling_step c replied h rooms)
polling_knows c replied (Whole m.Eot) rooms = call_knows c (Poll (is_interrupted replied))
polling_knows c replied (Whole (m.Call address)) rooms =
    polled_knows c replied (Whole (m.Call address)) rooms
polling_knows c replied Failed rooms = polled_knows c replied Failed rooms
polling_knows c replied Noise rooms = polled_knows c replied Noise rooms
polling_knows c replied (Whole (m.Text text)) rooms =
    polled_knows c replied (Whole (m.Text text)) rooms
polling_knows c replied (Whole m.Enq) rooms = polled_knows c replied (Whole m.Enq) rooms
polling_knows c replied (Whole (m.Reply r)) rooms =
    polled_knows c replied (Whole (m.Reply r)) rooms

task_knows : (c : ControlValue) (task : Task) (h : Heard) (rooms : Rooms)
    → ControlKnows c (task_step c task h rooms)
task_knows c AtRest h rooms = sides_know_themselves c
task_knows c (Selecting s enquired) h rooms = selecting_knows c s (reply_in h)
task_knows c (Sending s) h rooms =
    bid_knows c s _ (after_bid s (reply_in h))
    (reply_knows (outbound_at (peer c) s).sender (outbound_at (peer c) s).queue (reply_in h))
task_knows c (Polling replied) h rooms = polling_knows c replied h rooms

silence_task_knows : (c : ControlValue) (task : Task) → ControlKnows c (silence_in c task)
silence_task_knows c AtRest = call_knows c Start
silence_task_knows c (Selecting s enquired) =
    either_branch (ControlKnows c) (nat_lt c.setup.tries (c.failures + 1)) _ _
    (call_knows c (Selection s)) (sides_know_themselves c)
silence_task_knows c (Sending s) =
    bid_knows c s _ (Selection s)
    (silence_knows (outbound_at (peer c) s).sender (outbound_at (peer c) s).queue)
silence_task_knows c (Polling Nothing) =
    either_branch (ControlKnows c) (nat_lt c.setup.tries (c.failures + 1)) _ _
    (call_knows c (Poll false))
    (know_if_stay c c (poll_call_step c c.place (c.failures + 1)).control (sides_know_themselves c)
    (λ t i. stay_if_same c (current c) _ refl t i))
silence_task_knows c (Polling Uninterrupted) = call_knows c (Poll false)
silence_task_knows c (Polling Interrupted) = call_knows c (Poll true)

-- the records that arrived from the terminal with this number
abbrev pub received_from : ControlValue → ℕ → List (List ℕ)
received_from c n =
    if nat_lt n (length c.peers) then (peer_at c n).spool.records else []

pub record ControlGrows (old new : ControlValue) : Type 0 where
  pub knows : SidesKnow old new
  pub there : (t s : ℕ) → (outbound_of new t s).queue.known - (outbound_of old t s).queue.known
      ≤ length (waiting (outbound_of old t s).queue)
  pub peers : length new.peers ≡ length old.peers
  pub outbounds : (t : ℕ) → length (peer_at new t).outbounds ≡ length (peer_at old t).outbounds
  pub received : (n : ℕ) → ReceivedGrows (received_from old n) (received_from new n)

pub grown_from : (old new : ControlValue) (n : ℕ) → length new.peers ≡ length old.peers
    → ReceivedGrows (peer_at old n).spool.records (peer_at new n).spool.records
    → ReceivedGrows (received_from old n) (received_from new n)
grown_from old new n peers grows =
    subst
    (λ count. ReceivedGrows (received_from old n)
    (if nat_lt n count then (peer_at new n).spool.records else []))
    (sym peers)
    (grown_where (nat_lt n (length old.peers)) _ _ grows)

grown_by_text : (old : ControlValue) (h : Heard) (n : ℕ) (xs ys : List (List ℕ))
    → GrowsByText old h n xs ys → ReceivedGrows xs ys
grown_by_text old h n xs ys (inl same) = ([], same ∙ sym (append-nil xs))
grown_by_text old h n xs ys (inr stores) = (records_in stores.text.units, stores.becomes)

pub control_grows_itself : (c : ControlValue) → ControlGrows c c
control_grows_itself c =
    record {
      knows = sides_know_themselves c;
      there = λ t s. none_known (outbound_of c t s).queue;
      peers = refl;
      outbounds = λ t. refl;
      received = λ n. grows_not (received_from c n);
    }

-- of no sending side more records are known than were offered
side_within : (p : PeerValue) → IsPeer p → (s : ℕ)
    → (outbound_at p s).queue.known ≤ length (outbound_at p s).queue.offered
side_within p is s = elim (cases_lt s (length p.outbounds)) [
  | inl within ↦ (is.ready s no_outbound within).queue.known
  | inr from ↦
      subst (λ (o : OutboundValue). o.queue.known ≤ length o.queue.offered)
      (sym (index_after p.outbounds s no_outbound from)) (omega arith)
]

pub sides_within : (c : ControlValue) → IsControl c → (t s : ℕ)
    → (outbound_of c t s).queue.known ≤ length (outbound_of c t s).queue.offered
sides_within c is t s = elim (cases_lt t (length c.peers)) [
  | inl within ↦ side_within (peer_at c t) (is.entries.peers t no_peer within) s
  | inr from ↦
      subst
      (λ p. (outbound_at p s).queue.known ≤ length (outbound_at p s).queue.offered)
      (sym (index_after c.peers t no_peer from)) (omega arith)
]

pub control_hears : (old new : ControlValue) (h : Heard) (sent : Option Message)
    → IsHearing old h new sent → ControlGrows old new
control_hears old new h sent hears =
    let knows : SidesKnow old new =
    subst (λ (step : ControlStep). ControlKnows old step) (sym hears.row.row)
    (task_knows old old.task h (rooms_after old h new)) in
    record {
      knows = knows;
      there = λ t s.
          were_waiting (outbound_of old t s).queue (outbound_of new t s).queue (knows t s)
          (sides_within new hears.after.control t s);
      peers = hears.after.keeps.peers;
      outbounds = hears.after.keeps.outbounds;
      received = λ n. grown_from old new n hears.after.keeps.peers
          (grown_by_text old h n _ _ (hears.after.spools n));
    }

pub control_acts : (old new : ControlValue) (sent : Option Message)
    → IsSilence old new sent → ControlGrows old new
control_acts old new sent acts =
    let knows : SidesKnow old new =
    subst (λ (step : ControlStep). ControlKnows old step) (sym acts.row)
    (silence_task_knows old old.task) in
    record {
      knows = knows;
      there = λ t s.
          were_waiting (outbound_of old t s).queue (outbound_of new t s).queue (knows t s)
          (sides_within new acts.after.control t s);
      peers = acts.after.keeps.peers;
      outbounds = acts.after.keeps.outbounds;
      received = λ n. grown_from old new n acts.after.keeps.peers (
        [],
        ap (λ p. p.records) (acts.after.spools n)
            ∙ sym (append-nil (peer_at old n).spool.records),
      );
    }

-- what is to be kept of a sending side grows, if there is one
sent_where : (b : Bool) (k new : KeptSender) (rest left : List (List ℕ))
    → SentGrows k rest new left
    → SentGrowsIf (if b then Some k else None) rest (if b then Some new else None) left
sent_where true k new rest left grows = grows
sent_where false k new rest left grows = refl

pub side_grows : (old new : ControlValue) → ControlGrows old new → (t s : ℕ)
    → SentGrowsIf (kept_at_control old t s) (waiting (outbound_of old t s).queue)
    (kept_at_control new t s) (waiting (outbound_of new t s).queue)
side_grows old new grows t s =
    let x = outbound_of old t s in
    let y = outbound_of new t s in
    let same : (nat_lt t (length new.peers) && nat_lt s (length (peer_at new t).outbounds))
    ≡ (nat_lt t (length old.peers) && nat_lt s (length (peer_at old t).outbounds)) =
    λ i. nat_lt t (grows.peers i) && nat_lt s (grows.outbounds t i) in
    subst
    (λ b. SentGrowsIf (kept_at_control old t s) (waiting x.queue)
    (if b then Some (kept_of_side y) else None) (waiting y.queue))
    (sym same)
    (sent_where (nat_lt t (length old.peers) && nat_lt s (length (peer_at old t).outbounds))
    (kept_of_side x) (kept_of_side y) (waiting x.queue) (waiting y.queue)
    (grows_if_knows x.sender y.sender x.queue y.queue (grows.knows t s) (grows.there t s)))
