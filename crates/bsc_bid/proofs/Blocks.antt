-- Each text of a bid is the unanswered block, and when a bid has ended without doubt, all records
-- that were spooled are known.
use Rattle.std.proofs.Common.{◌≡◌, ◌⊎◌, inl, inr, ℕ, ◌+◌, Bool, true, false, ◌||◌, ◌==◌, List}
use Rattle.std.proofs.Common.{length, take, Option, refl, sym, ◌∙◌, ap, subst, arith, if◌then◌else◌}
use Rattle.std.proofs.lemmas.Bool.Decides.{nat_tests}
use Rattle.bsc_frame.specs.declared.message.Message.{Message}
use Rattle.bsc_frame.specs.declared.message.Message.TheVariants as m
use Rattle.bsc_frame.specs.declared.message.Heard.{Heard}
use Rattle.bsc_frame.specs.declared.message.Heard.TheVariants.{Whole}
use Rattle.bsc_frame.specs.Texts.{TextValue}
use Rattle.bsc_block.specs.Blocks.{records_in}
use Rattle.bsc_spool.specs.Queue.{QueueValue, waiting}
use Rattle.bsc_bid.specs.Act.{Act}
use Rattle.bsc_bid.specs.declared.alternation.Alternation.{Alternation}
use Rattle.bsc_frame.specs.declared.reply.Reply.{Reply}
use Rattle.bsc_bid.specs.declared.phase.SentBlock.{SentBlock}
use Rattle.bsc_bid.specs.declared.phase.Phase.{Phase}
use Rattle.bsc_bid.specs.declared.phase.Phase.TheVariants.{Idle, Unanswered, Held, InDoubt}
use Rattle.bsc_bid.specs.Sender.{SenderValue, ReleaseStep, text_of, is_in_doubt, released}
use Rattle.bsc_bid.specs.Sender.{release_in}
use Rattle.bsc_bid.specs.Ready.{IsAtRest}
use Rattle.bsc_bid.specs.Channel.{channel, IsSpooled, IsSound}
use Rattle.bsc_bid.specs.Fair.{IsFair, IsFairlyHeard}
use Rattle.bsc_bid.specs.Act.{message_for}
use Rattle.bsc_bid.specs.Bid.{Bid}
use Rattle.bsc_bid.specs.OneBid.{CarriesBlock, SendsItsBlocks, HearsItsBlocks, EndsKnowing}
use Rattle.bsc_bid.specs.OneBid.{ReleaseEndsDoubt}
use Rattle.bsc_bid.specs.EachStep.{IsEnded}
use Rattle.bsc_bid.specs.Agreement.{Outward, InBid}
use Rattle.bsc_bid.proofs.Hearing.{RecordsBack, block_records, outward_is_from_sender, no_call}
use Rattle.bsc_bid.proofs.Turning.{LawsBelow, Holds, in_bid_while_sending, reached_holds}
use Rattle.bsc_bid.proofs.Turning.{stays_sound}

-- a text on its way is the unanswered block
record IsBlock (p : Phase) (q : QueueValue) (t : TextValue) : Type 0 where
  pub block : SentBlock
  pub unanswered : p ≡ Unanswered block
  pub text : t ≡ text_of q block
  pub records : records_in t.units ≡ take block.count (waiting q)

is_block : RecordsBack → (p : Phase) (q : QueueValue) (alternation : Alternation) (last : Reply)
    (spooled : List (List ℕ)) (t : TextValue)
    → InBid p q alternation last spooled (Outward (m.Text t)) → IsBlock p q t
is_block law Idle q alternation last spooled t i = absurd i.agree
is_block law (InDoubt k) q alternation last spooled t i = absurd i.agree
is_block law (Held e x) q alternation last spooled t i = absurd i.agree.flight
is_block law (Unanswered b) q alternation last spooled t i =
    elim i.agree [
      | inl h ↦ record {
        block = b;
        unanswered = refl;
        text = h.flight;
        records = ap
            (λ (u : TextValue). records_in u.units) h.flight ∙ block_records law q b i.queue;
      }
      | inr h ↦ absurd h.flight
    ]

text_carries_block : LawsBelow → (c : Bid) (t : TextValue)
    → InBid c.sender.phase c.queue c.receiver.alternation c.receiver.last c.spool.records
    (Outward (m.Text t))
    → CarriesBlock c t
text_carries_block law c t i =
    let b : IsBlock c.sender.phase c.queue t =
    is_block law.records c.sender.phase c.queue c.receiver.alternation c.receiver.last
    c.spool.records t i in
    record { block = b.block; unanswered = b.unanswered; text = b.text; records = b.records }

pub sends_its_blocks : LawsBelow → SendsItsBlocks
sends_its_blocks law b es c t h e =
    text_carries_block law c t (in_bid_while_sending c (m.Text t) (ap message_for e) (reached_holds law b es c h))

pub hears_its_blocks : LawsBelow → HearsItsBlocks
hears_its_blocks law b es c turn t h fair e =
    let i : InBid c.sender.phase c.queue c.receiver.alternation c.receiver.last c.spool.records
    (Outward fair.sent) =
    in_bid_while_sending c fair.sent fair.goes_on (reached_holds law b es c h) in
    let f : IsFairlyHeard fair.sent (Whole (m.Text t)) =
    subst (λ (o : Option Heard). IsFair fair.sent o) e fair.fair_heard in
    elim f [
      | inl same ↦ text_carries_block law c t
          (subst (λ (w : Message). InBid c.sender.phase c.queue c.receiver.alternation
          c.receiver.last c.spool.records
          (Outward w)) (sym same) i)
      | inr short ↦ absurd (no_call fair.sent (m.Text t)
          (outward_is_from_sender c.sender.phase c.queue c.receiver.alternation c.receiver.last c.spool.records
          fair.sent i.agree) short)
    ]

-- a sender at rest without doubt is idle, and all records that were spooled are known
known_by : (p : Phase) (q : QueueValue) (spooled : List (List ℕ)) → IsAtRest p
    → is_in_doubt p ≡ false → IsSound p (channel q spooled)
    → (p ≡ Idle) × (q.known ≡ length spooled)
known_by Idle q spooled r d s = (refl, sym s.spooled)
known_by (InDoubt k) q spooled r d s = absurd (cc d)
known_by (Unanswered b) q spooled r d s = absurd r
known_by (Held e x) q spooled r d s = absurd r

pub ends_knowing : LawsBelow → EndsKnowing
ends_knowing law b es c h over certain =
    let k : Holds c = reached_holds law b es c h in
    known_by c.sender.phase c.queue c.spool.records
    (subst (λ (x : Act). IsEnded x c.sender.phase) over k.rests) certain (stays_sound law b es c h)

count_matches_either : (n k j : ℕ) → (n ≡ k) ⊎ (n ≡ k + j) → ((n == k) || (n == (k + j))) ≡ true
count_matches_either n k j (inl e) = grind (arith, nat_tests)
count_matches_either n k j (inr e) = grind (arith, nat_tests)

true_branch : (v : Bool) (x y : ReleaseStep) → v ≡ true → (if v then x else y) ≡ x
true_branch true x y e = refl
true_branch false x y e = absurd (cc e)

-- a release with the spooled count
pub released_by : (s : SenderValue) (q : QueueValue) (p : Phase) (n : ℕ) → is_in_doubt p ≡ true
    → IsSpooled p q.known n →
    release_in s q p n ≡ released s q n
released_by s q Idle n d h = absurd (cc d)
released_by s q (Unanswered b) n d h = absurd (cc d)
released_by s q (Held e x) n d h = absurd (cc d)
released_by s q (InDoubt k) n d h = true_branch _ _ _ (count_matches_either n q.known k h)

pub release_ends_doubt : LawsBelow → ReleaseEndsDoubt
release_ends_doubt law b es c h d =
    released_by c.sender c.queue c.sender.phase (length c.spool.records) d
    (stays_sound law b es c h).spooled
