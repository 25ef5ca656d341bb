-- Each single step of a bid keeps the agreement of its ends.
use Rattle.std.proofs.Common.{◌≡◌, ◌⊎◌, inl, inr, ℕ, ◌≤◌, List, length, take, refl, sym, subst}
use Rattle.std.proofs.Common.{arith, Bool, true, false, ◌+◌, nat_lt, if◌then◌else◌}
use Rattle.bsc_frame.specs.declared.message.Message.{Message}
use Rattle.bsc_frame.specs.declared.message.Message.TheVariants as m
use Rattle.bsc_spool.specs.Queue.{QueueValue, queue_of, IsQueue, waiting}
use Rattle.bsc_bid.specs.declared.alternation.Alternation.{Alternation}
use Rattle.bsc_bid.specs.declared.alternation.Alternation.TheVariants.{Even}
use Rattle.bsc_frame.specs.declared.reply.Reply.{Reply}
use Rattle.bsc_frame.specs.declared.reply.Reply.TheVariants.{Ack0}
use Rattle.bsc_bid.specs.declared.phase.Phase.{Phase}
use Rattle.bsc_bid.specs.declared.phase.Phase.TheVariants.{Idle, Unanswered, Held, InDoubt}
use Rattle.bsc_bid.specs.Sender.{SenderValue, SenderStep, ReleaseStep, begin_step, silence_in}
use Rattle.bsc_bid.specs.Sender.{released, release_in, cut_phase}
use Rattle.bsc_bid.specs.Act.{Act}
use Rattle.bsc_bid.specs.Act as a
use Rattle.bsc_bid.specs.Fair.{IsTextMessage}
use Rattle.bsc_bid.specs.Bid.{answered}
use Rattle.bsc_bid.specs.Agreement.{IsResting}
use Rattle.bsc_bid.specs.EachStep.{SenderAgrees, ReleaseAgrees, HearingAgrees, AnsweringAgrees}
use Rattle.bsc_bid.specs.EachStep.{SilenceAgrees, BeginAgrees, OfferAgrees, OfferKeepsRest}
use Rattle.bsc_bid.specs.EachStep.{ReleaseKeepsRest, SilenceKeepsRest, RestartKeepsRest}
use Rattle.bsc_bid.specs.EachStep.{AgreementRests, AgreementIsSound, LossAgrees}
use Rattle.bsc_bid.specs.EachStep.{OutwardIsTextOrEnq, ReplyIsLast}
use Rattle.bsc_bid.proofs.Hearing.{IsSenders, outward_is_from_sender, receiver_keeps}
use Rattle.bsc_bid.proofs.Answering.{still_on, back_last, sender_keeps}
use Rattle.bsc_bid.proofs.Landing.{Leaves, at_same}
use Rattle.bsc_bid.proofs.Answering.{silence_keeps, begin_keeps}
use Rattle.bsc_bid.proofs.Offers.{not_longer, bid_offered, resting_offered}
use Rattle.bsc_bid.proofs.Fitting.{Fits, fits_heard, fits_silence, fits_begin}
use Rattle.bsc_bid.proofs.Turning.{LawsBelow, at_rest_after_end, sound_by, bid_continues}
use Rattle.bsc_bid.proofs.Blocks.{released_by}
use Rattle.bsc_bid.proofs.Readiness.{all_waiting}

sender_agrees_after_step : (s : SenderValue) (q : QueueValue) (alternation : Alternation) (last : Reply)
    (spooled : List (List ℕ)) (t : SenderStep) → Leaves q alternation last spooled t → Fits s t
    → SenderAgrees q alternation last spooled t
sender_agrees_after_step s q alternation last spooled t h k =
    record { continues = h.0; ended = at_rest_after_end s t k; moves = h.1 }

pub hearing_agrees : LawsBelow → HearingAgrees
hearing_agrees law phase q r s sent heard urgent rooms i fair =
    let k = receiver_keeps law.records phase q r s sent heard urgent rooms i fair in
    record {
      bid = record { queue = i.queue; block = i.block; counts = i.counts; agree = k.0 };
      moves = k.1;
    }

pub answering_agrees : LawsBelow → AnsweringAgrees
answering_agrees law s q alternation last spooled reply heard i fair =
    sender_agrees_after_step s q alternation last spooled (answered s q reply heard)
    (sender_keeps law.next s q alternation last spooled reply heard i fair)
    (fits_heard s q reply heard)

pub silence_agrees : SilenceAgrees
silence_agrees s q alternation last spooled h =
    sender_agrees_after_step s q alternation last spooled (silence_in s q s.phase)
    (at_same q alternation last spooled (silence_in s q s.phase)
    (silence_keeps s s.phase q alternation last spooled refl h))
    (fits_silence s q)

pub begin_agrees : LawsBelow → BeginAgrees
begin_agrees law s q spooled h some =
    sender_agrees_after_step s q Even Ack0 spooled (begin_step s q)
    (at_same q Even Ack0 spooled (begin_step s q)
    (begin_keeps law.next s q spooled h.queue h.sound some))
    (fits_begin s q)

pub offer_agrees : LawsBelow → OfferAgrees
offer_agrees law phase q alternation last spooled f r short i =
    bid_offered law.offers phase q r alternation last spooled f short i

pub offer_keeps_rest : LawsBelow → OfferKeepsRest
offer_keeps_rest law phase q spooled r short h =
    resting_offered law.offers phase q r spooled short h

-- all records that were spooled are known
known_all : (q : QueueValue) (spooled : List (List ℕ)) → IsQueue q
    → spooled ≡ take (length spooled) q.offered → length spooled ≤ length q.offered →
    IsResting Idle (queue_of q.format q.offered (length spooled)) spooled
known_all q spooled h front long =
    record {
      queue = record { format = h.format; known = long; short = h.short };
      counts = tt;
      sound = record { front = front; known = omega arith; spooled = refl };
    }

release_by : (s : SenderValue) (q : QueueValue) (k : ℕ) (spooled : List (List ℕ)) (p : Phase)
    → p ≡ InDoubt k → IsResting (InDoubt k) q spooled → length spooled ≤ length q.offered
    → ReleaseAgrees (release_in s q p (length spooled)) spooled
release_by s q k spooled p e h long =
    let there : release_in s q (InDoubt k) (length spooled) ≡ released s q (length spooled) =
    released_by s q (InDoubt k) (length spooled) refl h.sound.spooled in
    let all : ReleaseAgrees (released s q (length spooled)) spooled =
    record { answer = refl; idle = refl; rest = known_all q spooled h.queue h.sound.front long } in
    subst (λ (x : Phase). ReleaseAgrees (release_in s q x (length spooled)) spooled) (sym e)
    (subst (λ (x : ReleaseStep). ReleaseAgrees x spooled) (sym there) all)

pub release_keeps_rest : ReleaseKeepsRest
release_keeps_rest s q k spooled e h =
    release_by s q k spooled s.phase e h (not_longer spooled q.offered h.sound.front)

-- a block that was unanswered is in doubt, and the sender that was held asks no more
cut_rests : (phase : Phase) (q : QueueValue) (spooled : List (List ℕ)) → IsResting phase q spooled
    → IsResting (cut_phase phase) q spooled
cut_rests Idle q spooled h = h
cut_rests (InDoubt k) q spooled h = h
cut_rests (Held end x) q spooled h =
    record {
      queue = h.queue;
      counts = tt;
      sound =
          record { front = h.sound.front; known = h.sound.known; spooled = h.sound.spooled };
    }
cut_rests (Unanswered b) q spooled h =
    record {
      queue = h.queue;
      counts = all_waiting b.count (length (waiting q)) b.end h.counts;
      sound = record {
        front = h.sound.front;
        known = h.sound.known;
        spooled = h.sound.spooled;
      };
    }

pub restart_keeps_rest : RestartKeepsRest
restart_keeps_rest s q spooled h = cut_rests s.phase q spooled h

-- one more failure: the sender asks again, or gives up
failed_rests : (s : SenderValue) (q : QueueValue) (phase : Phase) (spooled : List (List ℕ))
    (act : Act) (over : Bool) → s.phase ≡ phase → IsResting phase q spooled →
    let t : SenderValue = record s { failures = s.failures + 1 } in
    let step : SenderStep =
    if over then record { sender = record t { phase = cut_phase phase }; queue = q; act = a.Over }
    else record { sender = t; queue = q; act = act } in
    IsResting step.sender.phase step.queue spooled
failed_rests s q phase spooled act true is h = cut_rests phase q spooled h
failed_rests s q phase spooled act false is h =
    subst (λ (k : Phase). IsResting k q spooled) (sym is) h

silent_rests : (s : SenderValue) (q : QueueValue) (phase : Phase) (spooled : List (List ℕ))
    → s.phase ≡ phase → IsResting phase q spooled
    → IsResting (silence_in s q phase).sender.phase (silence_in s q phase).queue spooled
silent_rests s q Idle spooled is h =
    subst (λ (k : Phase). IsResting k q spooled) (sym is) h
silent_rests s q (InDoubt k) spooled is h =
    subst (λ (j : Phase). IsResting j q spooled) (sym is) h
silent_rests s q (Held end x) spooled is h =
    failed_rests s q (Held end x) spooled a.Enq (nat_lt s.setup.tries (s.failures + 1)) is h
silent_rests s q (Unanswered b) spooled is h =
    failed_rests s q (Unanswered b) spooled a.Enq (nat_lt s.setup.tries (s.failures + 1)) is h

pub silence_keeps_rest : SilenceKeepsRest
silence_keeps_rest s q spooled h = silent_rests s q s.phase spooled refl h

pub agreement_rests : AgreementRests
agreement_rests phase q alternation last spooled f i =
    record {
      queue = i.queue;
      counts = i.counts;
      sound =
          sound_by phase q alternation last spooled f
          (bid_continues phase q alternation last spooled f i);
    }

pub agreement_is_sound : AgreementIsSound
agreement_is_sound phase q alternation last spooled f h =
    sound_by phase q alternation last spooled f h

pub loss_agrees : LossAgrees
loss_agrees phase q alternation last spooled f i = still_on phase q alternation last spooled f i

text_or_enq : (w : Message) → IsSenders w → IsTextMessage w ⊎ (w ≡ m.Enq)
text_or_enq (m.Text t) h = inl tt
text_or_enq m.Enq h = inr refl
text_or_enq _ h = absurd h

pub outward_is_text_or_enq : OutwardIsTextOrEnq
outward_is_text_or_enq phase q alternation last spooled sent i =
    text_or_enq sent (outward_is_from_sender phase q alternation last spooled sent i.agree)

pub reply_is_last : ReplyIsLast
reply_is_last phase q alternation last reply spooled i =
    back_last phase q alternation last reply spooled i.agree
