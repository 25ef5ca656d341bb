-- The steps of the sender keep the agreement of both ends, and at most learn which records were
-- spooled.
use Rattle.std.proofs.Common.{◌≡◌, ◌⊎◌, inl, inr, ℕ, ◌+◌, ◌≤◌, List, length, take, Option, None}
use Rattle.std.proofs.Common.{Some, refl, sym, ◌∙◌, ap, subst, arith}
use Rattle.std.proofs.lemmas.List.{length-take-le}
use Rattle.bsc_frame.specs.declared.message.Message.{Message}
use Rattle.bsc_frame.specs.declared.message.Message.TheVariants as m
use Rattle.bsc_frame.specs.declared.message.Heard.{Heard}
use Rattle.bsc_frame.specs.declared.message.Heard.TheVariants.{Whole, Failed, Noise}
use Rattle.bsc_frame.specs.declared.text.End.{End}
use Rattle.bsc_spool.specs.Queue.{QueueValue, IsQueue, waiting}
use Rattle.bsc_bid.specs.Act.{Act}
use Rattle.bsc_bid.specs.Act as a
use Rattle.bsc_bid.specs.declared.alternation.Alternation.{Alternation}
use Rattle.bsc_bid.specs.declared.alternation.Alternation.TheVariants.{Even, Odd}
use Rattle.bsc_frame.specs.declared.reply.Reply.{Reply}
use Rattle.bsc_frame.specs.declared.reply.Reply.TheVariants.{Ack0, Ack1, Nak, Wack, Rvi}
use Rattle.bsc_bid.specs.declared.phase.SentBlock.{SentBlock}
use Rattle.bsc_bid.specs.declared.phase.Phase.{Phase}
use Rattle.bsc_bid.specs.declared.phase.Phase.TheVariants.{Idle, Unanswered, Held, InDoubt}
use Rattle.bsc_frame.specs.Replies.{reply_in}
use Rattle.bsc_bid.specs.Answer.{answer_of}
use Rattle.bsc_bid.specs.Sender.{SenderValue, SenderStep, unmoved, text_of, begin_step, accepted}
use Rattle.bsc_bid.specs.Sender.{failed, delayed, unanswered_step, held_step, answered_step}
use Rattle.bsc_bid.specs.Sender.{reply_step, silence_in}
use Rattle.bsc_bid.specs.Channel.{channel, IsSound}
use Rattle.bsc_bid.specs.Fair.{IsFairlyHeard}
use Rattle.bsc_bid.specs.Bid.{IsFairTo, reply_message, answered, unless_quiet}
use Rattle.bsc_bid.specs.OneBid.{MovesAtSender}
use Rattle.bsc_bid.specs.Agreement.{Flight, Still, Outward, Back, IsReplyBefore, NotLanded, Agree}
use Rattle.bsc_bid.specs.Agreement.{InBid, IsResting, Continues, reply_flight, sent_flight}
use Rattle.bsc_bid.proofs.Choice.{either_branch}
use Rattle.bsc_bid.proofs.Readiness.{within_offered}
use Rattle.bsc_bid.proofs.Hearing.{count_of_block_fits, agree_still}
use Rattle.bsc_bid.proofs.Landing.{NextLaw, Leaves, LeavesQueue, at_rest, next_keeps, at_same}
use Rattle.bsc_bid.proofs.Landing.{accepted_keeps, delayed_keeps, other_twice, landed_keeps}
use Rattle.std.proofs.lemmas.Option.{none-some}

-- a reply that refuses a block that has not landed: the block is sent again
refused_keeps : (s : SenderValue) (b : SentBlock) (q : QueueValue) (alternation : Alternation)
    (last : Reply) (spooled : List (List ℕ)) → s.phase ≡ Unanswered b
    → InBid (Unanswered b) q alternation last spooled (Back last)
    → NotLanded b q alternation last spooled (Back last) →
    Leaves q alternation last spooled (failed s q Idle (a.Send (text_of q b)))
refused_keeps s b q alternation last spooled e i h =
    either_branch (Leaves q alternation last spooled) _ _ _ (at_rest q spooled i.queue h.front, inl refl) (
      rw e (record {
        queue = i.queue;
        block = i.block;
        counts = i.counts;
        agree = inl
            (record { front = h.front; counted = h.counted; reply = h.reply; flight = refl });
      }),
      inl refl,
    )

before_keeps : (s : SenderValue) (b : SentBlock) (q : QueueValue)
    (alternation expected : Alternation)
    (last : Reply) (spooled : List (List ℕ)) → s.phase ≡ Unanswered b
    → IsReplyBefore last expected →
    InBid (Unanswered b) q alternation last spooled (Back last)
    → NotLanded b q alternation last spooled (Back last) →
    Leaves q alternation last spooled (unanswered_step s q b (answer_of expected last))
before_keeps s b q alternation Odd Ack0 spooled e r i h =
    refused_keeps s b q alternation Ack0 spooled e i h
before_keeps s b q alternation Even Ack1 spooled e r i h =
    refused_keeps s b q alternation Ack1 spooled e i h
before_keeps s b q alternation Odd Nak spooled e r i h =
    refused_keeps s b q alternation Nak spooled e i h
before_keeps s b q alternation Even Nak spooled e r i h =
    refused_keeps s b q alternation Nak spooled e i h
before_keeps s b q alternation Odd Ack1 spooled e r i h = absurd r
before_keeps s b q alternation Odd Wack spooled e r i h = absurd r
before_keeps s b q alternation Odd Rvi spooled e r i h = absurd r
before_keeps s b q alternation Even Ack0 spooled e r i h = absurd r
before_keeps s b q alternation Even Wack spooled e r i h = absurd r
before_keeps s b q alternation Even Rvi spooled e r i h = absurd r

-- a reply while the sender is held
held_keeps : NextLaw → (s : SenderValue) (e : End) (expected : Alternation) (q : QueueValue)
    (alternation : Alternation) (last : Reply) (spooled : List (List ℕ))
    → InBid (Held e expected) q alternation last spooled (Back last) →
    Leaves q alternation last spooled (held_step s q e expected (answer_of expected last))
held_keeps law s e Odd q alternation Ack1 spooled i =
    at_same q alternation Ack1 spooled (accepted s q e Odd)
    (accepted_keeps law s q e Odd alternation Ack1 spooled i.queue i.agree.front i.counts
    (other_twice alternation Odd i.agree.counted) tt)
held_keeps law s e Even q alternation Ack0 spooled i =
    at_same q alternation Ack0 spooled (accepted s q e Even)
    (accepted_keeps law s q e Even alternation Ack0 spooled i.queue i.agree.front i.counts
    (other_twice alternation Even i.agree.counted) tt)
held_keeps law s e Odd q alternation Wack spooled i =
    at_same q alternation Wack spooled (delayed s q e Odd)
    (delayed_keeps s q e Odd alternation spooled i.queue i.agree.front i.counts i.agree.counted)
held_keeps law s e Even q alternation Wack spooled i =
    at_same q alternation Wack spooled (delayed s q e Even)
    (delayed_keeps s q e Even alternation spooled i.queue i.agree.front i.counts i.agree.counted)
held_keeps law s e Odd q alternation Ack0 spooled i = absurd i.agree.reply
held_keeps law s e Odd q alternation Nak spooled i = absurd i.agree.reply
held_keeps law s e Odd q alternation Rvi spooled i = absurd i.agree.reply
held_keeps law s e Even q alternation Ack1 spooled i = absurd i.agree.reply
held_keeps law s e Even q alternation Nak spooled i = absurd i.agree.reply
held_keeps law s e Even q alternation Rvi spooled i = absurd i.agree.reply

-- the reply that is on its way is the last one
pub back_last : (phase : Phase) (q : QueueValue) (alternation : Alternation) (last r : Reply)
    (spooled : List (List ℕ)) → Agree phase q alternation last spooled (Back r) → r ≡ last
back_last Idle q alternation last r spooled h = absurd h
back_last (InDoubt k) q alternation last r spooled h = absurd h
back_last (Held e x) q alternation last r spooled h = h.flight
back_last (Unanswered b) q alternation last r spooled (inl h) = h.flight
back_last (Unanswered b) q alternation last r spooled (inr h) = h.flight

-- a reply comes
answered_keeps : NextLaw
    → (s : SenderValue) (phase : Phase) (q : QueueValue) (alternation : Alternation)
    (last : Reply) (spooled : List (List ℕ)) → s.phase ≡ phase
    → InBid phase q alternation last spooled (Back last) →
    Leaves q alternation last spooled (answered_step s q phase last)
answered_keeps law s Idle q alternation last spooled e i = absurd i.agree
answered_keeps law s (InDoubt k) q alternation last spooled e i = absurd i.agree
answered_keeps law s (Held end x) q alternation last spooled e i =
    held_keeps law s end x q alternation last spooled i
answered_keeps law s (Unanswered b) q alternation last spooled e i =
    elim i.agree [
      | inl h ↦ before_keeps s b q alternation b.alternation last spooled e h.reply i h
      | inr h ↦ landed_keeps law s b q alternation last spooled i h
    ]

-- an unanswered block with nothing on its way may be put in doubt
in_doubt : (b : SentBlock) (q : QueueValue) (alternation : Alternation) (last : Reply)
    (spooled : List (List ℕ)) → InBid (Unanswered b) q alternation last spooled Still
    → IsResting (InDoubt b.count) q spooled × (Still ≡ Still)
in_doubt b q alternation last spooled i =
    let short : b.count ≤ length (waiting q) = count_of_block_fits b _ i.counts in
    let known : q.known ≤ length q.offered = i.queue.known in
    elim i.agree [
      | inl h ↦
          (let long : length spooled ≡ q.known = ap length h.front
          ∙ length-take-le q.known q.offered known in (
            record {
              queue = i.queue;
              counts = short;
              sound =
                  record { front = rw long h.front; known = omega arith; spooled = inl long };
            },
            refl,
          ))
      | inr h ↦
          (let long : length spooled ≡ q.known + b.count = ap length h.front ∙ length-take-le
          (q.known + b.count) q.offered (within_offered q b.count i.queue short) in (
            record {
              queue = i.queue;
              counts = short;
              sound =
                  record { front = rw long h.front; known = omega arith; spooled = inr long };
            },
            refl,
          ))
    ]

enq_sent : (b : SentBlock) (q : QueueValue) (alternation : Alternation) (last : Reply)
    (spooled : List (List ℕ)) → Agree (Unanswered b) q alternation last spooled Still
    → Agree (Unanswered b) q alternation last spooled (Outward m.Enq)
enq_sent b q alternation last spooled (inl h) =
    inl (record { front = h.front; counted = h.counted; reply = h.reply; flight = tt })
enq_sent b q alternation last spooled (inr h) =
    inr (record { front = h.front; counted = h.counted; reply = h.reply; flight = tt })

silent_keeps : (s : SenderValue) (phase : Phase) (q : QueueValue) (alternation : Alternation)
    (last : Reply) (spooled : List (List ℕ)) → s.phase ≡ phase
    → InBid phase q alternation last spooled Still →
    LeavesQueue q alternation last spooled (silence_in s q phase)
silent_keeps s Idle q alternation last spooled e i = absurd i.agree
silent_keeps s (InDoubt k) q alternation last spooled e i = absurd i.agree
silent_keeps s (Held end x) q alternation last spooled e i =
    either_branch (LeavesQueue q alternation last spooled) _ _ _
    (at_rest q spooled i.queue i.agree.front, refl) (
      rw e (record {
        queue = i.queue;
        block = tt;
        counts = i.counts;
        agree =
            record {
              front = i.agree.front;
              counted = i.agree.counted;
              reply = i.agree.reply;
              flight =
                  tt;
            };
      }),
      refl,
    )
silent_keeps s (Unanswered b) q alternation last spooled e i =
    either_branch (LeavesQueue q alternation last spooled) _ _ _
    (in_doubt b q alternation last spooled i, refl) (
      rw e (record {
        queue = i.queue;
        block = i.block;
        counts = i.counts;
        agree =
            enq_sent b q alternation last spooled i.agree;
      }),
      refl,
    )

-- a message from which no reply is read is that of no reply
pub no_reply : (w : Message) (r : Reply) → reply_in (Whole w) ≡ None → w ≡ m.Reply r → ⊥
no_reply w r none e = none-some r (sym none ∙ ap (λ (z : Message). reply_in (Whole z)) e)

-- a reply is heard as itself or not at all
pub fair_reply : (r : Reply) (h : Heard) → IsFairlyHeard (m.Reply r) h
    → (reply_in h ≡ Some r) ⊎ (reply_in h ≡ None)
fair_reply r Noise f = inr refl
fair_reply r Failed f = absurd f
fair_reply r (Whole v) (inl e) = inl (ap (λ (z : Message). reply_in (Whole z)) e)
fair_reply r (Whole v) (inr e) = absurd e

bid_continues_while_still : (phase : Phase) (q : QueueValue) (alternation : Alternation) (last : Reply)
    (spooled : List (List ℕ)) → InBid phase q alternation last spooled Still
    → Continues phase q alternation last spooled Still
bid_continues_while_still Idle q alternation last spooled i = absurd i.agree
bid_continues_while_still (InDoubt k) q alternation last spooled i = absurd i.agree
bid_continues_while_still (Held e x) q alternation last spooled i = i
bid_continues_while_still (Unanswered b) q alternation last spooled i = i

quiet_keeps : (s : SenderValue) (q : QueueValue) (alternation : Alternation) (last : Reply)
    (spooled : List (List ℕ)) → InBid s.phase q alternation last spooled Still
    → Leaves q alternation last spooled (unmoved s q)
quiet_keeps s q alternation last spooled i =
    (bid_continues_while_still s.phase q alternation last spooled i, inl refl)

-- what was on its way is lost
pub still_on : (phase : Phase) (q : QueueValue) (alternation : Alternation) (last : Reply)
    (spooled : List (List ℕ)) (f : Flight) → InBid phase q alternation last spooled f
    → InBid phase q alternation last spooled Still
still_on phase q alternation last spooled f i =
    record {
      queue = i.queue;
      block = i.block;
      counts = i.counts;
      agree =
          agree_still phase q alternation last spooled f i.agree;
    }

-- the reply is heard, or nothing is
pub sender_keeps : NextLaw
    → (s : SenderValue) (q : QueueValue) (alternation : Alternation) (last : Reply)
    (spooled : List (List ℕ)) (r : Option Reply) (h : Option Heard)
    → InBid s.phase q alternation last spooled (reply_flight r) → IsFairTo (reply_message r) h →
    Leaves q alternation last spooled (answered s q r h)
sender_keeps law s q alternation last spooled None None i f =
    quiet_keeps s q alternation last spooled i
sender_keeps law s q alternation last spooled None (Some h) i f = absurd f
sender_keeps law s q alternation last spooled (Some r) None i f =
    quiet_keeps s q alternation last spooled
    (still_on s.phase q alternation last spooled (Back r) i)
sender_keeps law s q alternation last spooled (Some r) (Some h) i f =
    let same : r ≡ last = back_last s.phase q alternation last r spooled i.agree in
    let there : InBid s.phase q alternation last spooled (Back last) =
    subst (λ (x : Reply). InBid s.phase q alternation last spooled (Back x)) same i in
    elim (fair_reply r h f) [
      | inl e ↦ subst (λ (o : Option Reply). Leaves q alternation last spooled (reply_step s q o))
          (sym (e ∙ ap (λ (x : Reply). Some x) same))
          (answered_keeps law s s.phase q alternation last spooled refl there)
      | inr e ↦ subst (λ (o : Option Reply). Leaves q alternation last spooled (reply_step s q o))
          (sym e)
          (quiet_keeps s q alternation last spooled
          (still_on s.phase q alternation last spooled (Back last) there))
    ]

-- a bid with something on its way goes on
pub in_bid_while_outward : (phase : Phase) (q : QueueValue) (alternation : Alternation) (last : Reply)
    (spooled : List (List ℕ)) (w : Message) → Continues phase q alternation last spooled (Outward w)
    → InBid phase q alternation last spooled (Outward w)
in_bid_while_outward Idle q alternation last spooled w h = absurd (cc h.1)
in_bid_while_outward (InDoubt k) q alternation last spooled w h = absurd (cc h.1)
in_bid_while_outward (Held e x) q alternation last spooled w h = h
in_bid_while_outward (Unanswered b) q alternation last spooled w h = h

-- a silence, whether a bid goes on or not
pub silence_keeps : (s : SenderValue) (phase : Phase) (q : QueueValue) (alternation : Alternation)
    (last : Reply) (spooled : List (List ℕ)) → s.phase ≡ phase
    → Continues phase q alternation last spooled Still →
    LeavesQueue q alternation last spooled (silence_in s q phase)
silence_keeps s Idle q alternation last spooled e h = (rw e h, refl)
silence_keeps s (InDoubt k) q alternation last spooled e h = (rw e h, refl)
silence_keeps s (Held end x) q alternation last spooled e h =
    silent_keeps s (Held end x) q alternation last spooled e h
silence_keeps s (Unanswered b) q alternation last spooled e h =
    silent_keeps s (Unanswered b) q alternation last spooled e h

-- if nothing was sent, a silence comes
pub settled_keeps : (q : QueueValue) (alternation : Alternation) (last : Reply)
    (spooled : List (List ℕ))
    (t : SenderStep) (x : Act) → t.act ≡ x → Leaves q alternation last spooled t
    → Leaves q alternation last spooled (unless_quiet t x)
settled_keeps q alternation last spooled t (a.Send b) e h = h
settled_keeps q alternation last spooled t a.Enq e h = h
settled_keeps q alternation last spooled t a.Over e h = h
settled_keeps q alternation last spooled t a.Quiet e h =
    let on : Continues t.sender.phase t.queue alternation last spooled Still =
    subst (λ (x : Act). Continues t.sender.phase t.queue alternation last spooled (sent_flight x)) e
    h.0 in
    let k : LeavesQueue t.queue alternation last spooled
    (silence_in t.sender t.queue t.sender.phase) =
    silence_keeps t.sender t.sender.phase t.queue alternation last spooled refl on in (
      k.0,
      subst (λ (u : QueueValue). MovesAtSender (channel q spooled) (channel u spooled))
          (sym k.1) h.1,
    )

-- a bid begins
pub begin_keeps : NextLaw → (s : SenderValue) (q : QueueValue) (spooled : List (List ℕ))
    → IsQueue q → IsSound Idle (channel q spooled) → 1 ≤ length (waiting q) →
    LeavesQueue q Even Ack0 spooled (begin_step s q)
begin_keeps law s q spooled h sound some =
    let front : spooled ≡ take q.known q.offered = rw (← sound.spooled) sound.front in
    next_keeps law s q Odd Even Ack0 spooled h front some refl tt
