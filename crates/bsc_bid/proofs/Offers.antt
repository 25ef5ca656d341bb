-- An offer keeps everything that a bid counts on.
use Rattle.std.proofs.Common.{◌≡◌, inl, inr, ℕ, ◌+◌, ◌≤◌, List, [], ◌∷◌, ◌++◌, length, take, drop}
use Rattle.std.proofs.Common.{map, min, sym, ◌∙◌, ap, arith, length-drop, length-append}
use Rattle.std.proofs.lemmas.List.{take-append-le, drop-append-le, length-take}
use Rattle.bsc_frame.specs.declared.message.Message.TheVariants as m
use Rattle.bsc_frame.specs.declared.text.End.{End}
use Rattle.bsc_frame.specs.declared.text.End.TheVariants.{Etb, Etx}
use Rattle.bsc_block.specs.Blocks.{unit_of}
use Rattle.bsc_spool.specs.Queue.{QueueValue, with_offered, IsQueue, waiting}
use Rattle.bsc_spool.proofs.Offers.{is_queue_offered}
use Rattle.bsc_bid.specs.declared.alternation.Alternation.{Alternation}
use Rattle.bsc_frame.specs.declared.reply.Reply.{Reply}
use Rattle.bsc_bid.specs.declared.phase.SentBlock.{SentBlock}
use Rattle.bsc_bid.specs.declared.phase.Phase.{Phase}
use Rattle.bsc_bid.specs.declared.phase.Phase.TheVariants.{Idle, Unanswered, Held, InDoubt}
use Rattle.bsc_bid.specs.Sender.{SenderValue, text_of}
use Rattle.bsc_bid.specs.Ready.{AreWaiting, CountsOn, IsReady}
use Rattle.bsc_bid.specs.Channel.{channel, IsSound}
use Rattle.bsc_bid.specs.Agreement.{Flight, Still, Outward, Back, IsFlightBefore, Agree, InBid}
use Rattle.bsc_bid.specs.Agreement.{IsResting, Continues}
use Rattle.bsc_bid.proofs.Readiness.{within_offered}
use Rattle.bsc_bid.proofs.Hearing.{count_of_block_fits}

-- a queue with one more offered record is a queue
abbrev pub OffersQueue : Type 0
OffersQueue = (q : QueueValue) (r : List ℕ) → IsQueue q → length r ≤ q.format.full
    → IsQueue (with_offered q r)

more_waiting : (q : QueueValue) (r : List ℕ)
    → length (waiting q) ≤ length (waiting (with_offered q r))
more_waiting q r =
    omega (
      arith,
      length-drop q.known q.offered,
      length-drop q.known (q.offered ++ r ∷ []),
      length-append q.offered
          (r ∷ []),
    )

are_waiting : (k n n' : ℕ) (e : End) → n ≤ n' → AreWaiting k e n → AreWaiting k e n'
are_waiting k n n' Etb l h = omega arith
are_waiting k n n' Etx l h = omega arith

counts_more : (p : Phase) (n n' : ℕ) → n ≤ n' → CountsOn p n → CountsOn p n'
counts_more Idle n n' l h = tt
counts_more (InDoubt k) n n' l h = omega arith
counts_more (Unanswered b) n n' l h = are_waiting b.count n n' b.end l h
counts_more (Held e x) n n' l h = are_waiting 0 n n' e l h

-- a sender and its queue after an offer
pub counts_offered : (p : Phase) (q : QueueValue) (r : List ℕ) → CountsOn p (length (waiting q))
    → CountsOn p (length (waiting (with_offered q r)))
counts_offered p q r h = counts_more p _ _ (more_waiting q r) h

-- what the sender counts on stays
pub ready_offered : (s : SenderValue) (q : QueueValue) (r : List ℕ) → IsReady s q
    → length r ≤ q.format.full → IsReady s (with_offered q r)
ready_offered s q r h short =
    record {
      queue = is_queue_offered q r h.queue short;
      counts =
          counts_offered s.phase q r h.counts;
    }

-- the block that was sent stays the same
text_offered : (b : SentBlock) (q : QueueValue) (r : List ℕ) → IsQueue q
    → b.count ≤ length (waiting q) → text_of q b ≡ text_of (with_offered q r) b
text_offered b q r h fit =
    let known : q.known ≤ length q.offered = h.known in
    let same : take b.count (drop q.known (q.offered ++ r ∷ []))
    ≡ take b.count (drop q.known q.offered) =
    ap (λ (xs : List (List ℕ)). take b.count xs)
    (drop-append-le q.known q.offered (r ∷ []) known)
    ∙ take-append-le b.count (drop q.known q.offered)
    (r ∷ []) fit in
    ap (λ (xs : List (List ℕ)). record { units = map (unit_of q.format.full) xs; end = b.end })
    (sym same)

flight_offered : (b : SentBlock) (q : QueueValue) (r : List ℕ) (last : Reply) (f : Flight)
    → text_of q b ≡ text_of (with_offered q r) b → IsFlightBefore q b last f
    → IsFlightBefore (with_offered q r) b last f
flight_offered b q r last Still e h = tt
flight_offered b q r last (Outward (m.Text t)) e h = h ∙ e
flight_offered b q r last (Outward m.Enq) e h = tt
flight_offered b q r last (Outward _) e h = absurd h
flight_offered b q r last (Back x) e h = h

front_offered : (q : QueueValue) (r : List ℕ) (k : ℕ) (spooled : List (List ℕ))
    → k ≤ length q.offered → spooled ≡ take k q.offered
    → spooled ≡ take k (with_offered q r).offered
front_offered q r k spooled h e = e ∙ sym (take-append-le k q.offered (r ∷ []) h)

agree_offered : (p : Phase) (q : QueueValue) (r : List ℕ) (alternation : Alternation) (last : Reply)
    (spooled : List (List ℕ)) (f : Flight) → IsQueue q → CountsOn p (length (waiting q))
    → Agree p q alternation last spooled f → Agree p (with_offered q r) alternation last spooled f
agree_offered Idle q r alternation last spooled f queue counts h = absurd h
agree_offered (InDoubt k) q r alternation last spooled f queue counts h = absurd h
agree_offered (Held e x) q r alternation last spooled f queue counts h =
    record {
      front = front_offered q r q.known spooled queue.known h.front;
      counted = h.counted;
      reply = h.reply;
      flight = h.flight;
    }
agree_offered (Unanswered b) q r alternation last spooled f queue counts (inl h) =
    inl (record {
      front = front_offered q r q.known spooled queue.known h.front;
      counted =
          h.counted;
      reply = h.reply;
      flight =
          flight_offered b q r last f (text_offered b q r queue (count_of_block_fits b _ counts)) h.flight;
    })
agree_offered (Unanswered b) q r alternation last spooled f queue counts (inr h) =
    inr (record {
      front = front_offered q r (q.known + b.count) spooled
          (within_offered q b.count queue
          (count_of_block_fits b _ counts)) h.front;
      counted = h.counted;
      reply = h.reply;
      flight = h.flight;
    })

-- a bid in progress keeps its agreement after an offer
pub bid_offered : OffersQueue
    → (p : Phase) (q : QueueValue) (r : List ℕ) (alternation : Alternation) (last : Reply)
    (spooled : List (List ℕ)) (f : Flight) → length r ≤ q.format.full
    → InBid p q alternation last spooled f → InBid p (with_offered q r) alternation last spooled f
bid_offered law p q r alternation last spooled f short i =
    record {
      queue = law q r i.queue short;
      block = i.block;
      counts = counts_offered p q r i.counts;
      agree = agree_offered p q r alternation last spooled f i.queue i.counts i.agree;
    }

-- a list that is the beginning of another is not longer
pub not_longer : (xs ys : List (List ℕ)) → xs ≡ take (length xs) ys → length xs ≤ length ys
not_longer xs ys e =
    let k : length xs ≡ min (length xs) (length ys) = ap length e ∙ length-take (length xs) ys in
    omega arith

sound_offered : (p : Phase) (q : QueueValue) (r : List ℕ) (spooled : List (List ℕ))
    → IsSound p (channel q spooled) → IsSound p (channel (with_offered q r) spooled)
sound_offered p q r spooled h =
    record {
      front = front_offered q r (length spooled) spooled
          (not_longer spooled q.offered h.front) h.front;
      known = h.known;
      spooled = h.spooled;
    }

-- a bid that is over stays at rest after an offer
pub resting_offered : OffersQueue
    → (p : Phase) (q : QueueValue) (r : List ℕ) (spooled : List (List ℕ))
    → length r ≤ q.format.full → IsResting p q spooled → IsResting p (with_offered q r) spooled
resting_offered law p q r spooled short i =
    record {
      queue = law q r i.queue short;
      counts = counts_offered p q r i.counts;
      sound =
          sound_offered p q r spooled i.sound;
    }

pub continues_offered : OffersQueue
    → (p : Phase) (q : QueueValue) (r : List ℕ) (alternation : Alternation) (last : Reply)
    (spooled : List (List ℕ)) (f : Flight) → length r ≤ q.format.full
    → Continues p q alternation last spooled f
    → Continues p (with_offered q r) alternation last spooled f
continues_offered law Idle q r alternation last spooled f short h =
    (resting_offered law Idle q r spooled short h.0, h.1)
continues_offered law (InDoubt k) q r alternation last spooled f short h =
    (resting_offered law (InDoubt k) q r spooled short h.0, h.1)
continues_offered law (Unanswered b) q r alternation last spooled f short h =
    bid_offered law (Unanswered b) q r alternation last spooled f short h
continues_offered law (Held e x) q r alternation last spooled f short h =
    bid_offered law (Held e x) q r alternation last spooled f short h
