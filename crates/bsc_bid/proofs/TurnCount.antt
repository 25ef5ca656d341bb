-- Each turn of a bid begins a block, ends the bid, or comes closer to the limits of the block.
use Rattle.std.proofs.Common.{◌≡◌, ◌⊎◌, inl, inr, ℕ, ◌+◌, ◌*◌, ◌≤◌, Bool, true, false, nat_lt, List}
use Rattle.std.proofs.Common.{[], ◌∷◌, length, Option, None, Some, refl, sym, ◌∙◌, ap, subst, arith}
use Rattle.std.proofs.Common.{if◌then◌else◌}
use Rattle.std.proofs.Math.Nat.{mul-le-mul_right}
use Rattle.std.proofs.lemmas.Bool.Decides.{nat_tests}
use Rattle.bsc_frame.specs.declared.message.Heard.{Heard}
use Rattle.bsc_frame.specs.declared.text.End.{End}
use Rattle.bsc_frame.specs.declared.text.End.TheVariants.{Etb, Etx}
use Rattle.bsc_frame.specs.Texts.{TextValue}
use Rattle.bsc_spool.specs.declared.queue.Next.{Next}
use Rattle.bsc_spool.specs.Queue.{QueueValue, with_known, IsQueue, waiting, next_block}
use Rattle.bsc_bid.specs.Act.{Act}
use Rattle.bsc_bid.specs.Act as a
use Rattle.bsc_bid.specs.declared.alternation.Alternation.{Alternation}
use Rattle.bsc_frame.specs.declared.reply.Reply.{Reply}
use Rattle.bsc_bid.specs.declared.answer.Answer.{Answer}
use Rattle.bsc_bid.specs.declared.answer.Answer.TheVariants.{Accepted, Refused, Delayed}
use Rattle.bsc_bid.specs.declared.answer.Answer.TheVariants.{Interrupted}
use Rattle.bsc_bid.specs.declared.phase.SentBlock.{SentBlock}
use Rattle.bsc_bid.specs.declared.phase.Phase.{Phase}
use Rattle.bsc_bid.specs.declared.phase.Phase.TheVariants.{Idle, Unanswered, Held, InDoubt}
use Rattle.bsc_bid.specs.Setup.{SetupValue}
use Rattle.bsc_frame.specs.Replies.{reply_in}
use Rattle.bsc_bid.specs.Answer.{other, answer_of}
use Rattle.bsc_bid.specs.Sender.{SenderValue, SenderStep, text_of, sent_next, begin_step, accepted}
use Rattle.bsc_bid.specs.Sender.{failed, delayed, unanswered_step, held_step, answered_step}
use Rattle.bsc_bid.specs.Sender.{reply_step, silence_in}
use Rattle.bsc_bid.specs.Act.{message_for}
use Rattle.bsc_bid.specs.Bid.{Bid, Turn, BidEvent, Exchange, Offering, answered, unless_quiet}
use Rattle.bsc_bid.specs.Bid.{receiver_in, sender_in, after_turn, after_event, IsFairTurn}
use Rattle.bsc_bid.specs.Bid.{AreEvents}
use Rattle.bsc_bid.specs.OneBid.{turn_count, is_begun, begun_in, most_turns, EndsSoon}
use Rattle.bsc_bid.proofs.Landing.{has_next}
use Rattle.bsc_bid.proofs.Turning.{LawsBelow}

-- no counter exceeds its limit
pub record IsWithin (s : SenderValue) : Type 0 where
  pub failures : s.failures ≤ s.setup.tries
  pub wacks : s.wacks ≤ s.setup.waits

-- how far the counters are
abbrev pub rank : SenderValue → ℕ
rank s = s.wacks * (s.setup.tries + 1) + s.failures

-- the counters of a block came closer to the limits
pub record IsNearer (s u : SenderValue) : Type 0 where
  pub within : IsWithin u
  pub nearer : rank s + 1 ≤ rank u

-- a block has just begun
pub record HasBegun (u : SenderValue) : Type 0 where
  pub failures : u.failures ≡ 0
  pub wacks : u.wacks ≡ 0

abbrev pub ComesBy : Act → SenderValue → SenderValue → Type 0
ComesBy (a.Send t) s u = HasBegun u ⊎ IsNearer s u
ComesBy a.Enq s u = IsNearer s u
ComesBy a.Over s u = Unit {0}
ComesBy a.Quiet s u = u ≡ s

abbrev pub Comes : SenderValue → SenderStep → Type 0
Comes s t = (t.sender.setup ≡ s.setup) × ComesBy t.act s t.sender

branch_by_test : (P : SenderStep → Type 0) (v : Bool) (x y : SenderStep) → (v ≡ true → P x) → (v ≡ false
    → P y) → P (if v then x else y)
branch_by_test P true x y p r = p refl
branch_by_test P false x y p r = r refl

next_comes : (s : SenderValue) (q : QueueValue) (x : Alternation) (n : Option Next)
    → Comes s (sent_next s q x n)
next_comes s q x None = (refl, tt)
next_comes s q x (Some n) = (refl, inl (record { failures = refl; wacks = refl }))

accepted_comes : (s : SenderValue) (q : QueueValue) (e : End) (x : Alternation)
    → Comes s (accepted s q e x)
accepted_comes s q Etx x = (refl, tt)
accepted_comes s q Etb x = next_comes s q (other x) (next_block q)

more_waits : (w t k : ℕ) → t ≤ k → w * (k + 1) + t + 1 ≤ (w + 1) * (k + 1) + 0
more_waits w t k h = omega arith

delayed_comes : (s : SenderValue) (q : QueueValue) (e : End) (x : Alternation) → IsWithin s
    → Comes s (delayed s q e x)
delayed_comes s q e x h =
    branch_by_test (Comes s) (nat_lt s.setup.waits (s.wacks + 1)) _ _
    (λ _. (refl, tt)) (λ n. (
      refl,
      record {
        within = record {
          failures = omega arith;
          wacks = grind
              (arith, nat_tests);
        };
        nearer = more_waits s.wacks s.failures s.setup.tries h.failures;
      },
    ))

failed_comes : (s : SenderValue) (q : QueueValue) (left : Phase) (act : Act) → IsWithin s
    → ((u : SenderValue) → IsNearer s u → ComesBy act s u) → Comes s (failed s q left act)
failed_comes s q left act h f =
    branch_by_test (Comes s) (nat_lt s.setup.tries (s.failures + 1)) _ _
    (λ _. (refl, tt)) (λ n. (
      refl,
      f _
          (record {
            within = record { failures = grind (arith, nat_tests); wacks = h.wacks };
            nearer = omega arith;
          }),
    ))

unanswered_comes : (s : SenderValue) (q : QueueValue) (b : SentBlock) (x : Answer) → IsWithin s
    → Comes s (unanswered_step s q b x)
unanswered_comes s q b Accepted h = accepted_comes s (with_known q b.count) b.end b.alternation
unanswered_comes s q b Refused h = failed_comes s q Idle (a.Send (text_of q b)) h (λ u n. inr n)
unanswered_comes s q b Delayed h = delayed_comes s (with_known q b.count) b.end b.alternation h
unanswered_comes s q b Interrupted h = (refl, tt)

held_comes : (s : SenderValue) (q : QueueValue) (e : End) (y : Alternation) (x : Answer)
    → IsWithin s
    → Comes s (held_step s q e y x)
held_comes s q e y Accepted h = accepted_comes s q e y
held_comes s q e y Refused h = failed_comes s q Idle a.Enq h (λ u n. n)
held_comes s q e y Delayed h = delayed_comes s q e y h
held_comes s q e y Interrupted h = (refl, tt)

answered_comes : (s : SenderValue) (q : QueueValue) (p : Phase) (r : Reply) → IsWithin s
    → Comes s (answered_step s q p r)
answered_comes s q Idle r h = (refl, refl)
answered_comes s q (InDoubt k) r h = (refl, refl)
answered_comes s q (Unanswered b) r h = unanswered_comes s q b (answer_of b.alternation r) h
answered_comes s q (Held e x) r h = held_comes s q e x (answer_of x r) h

reply_comes : (s : SenderValue) (q : QueueValue) (r : Option Reply) → IsWithin s
    → Comes s (reply_step s q r)
reply_comes s q None h = (refl, refl)
reply_comes s q (Some r) h = answered_comes s q s.phase r h

silent_comes : (s : SenderValue) (q : QueueValue) (p : Phase) → IsWithin s
    → Comes s (silence_in s q p)
silent_comes s q Idle h = (refl, refl)
silent_comes s q (InDoubt k) h = (refl, refl)
silent_comes s q (Unanswered b) h = failed_comes s q (InDoubt b.count) a.Enq h (λ u n. n)
silent_comes s q (Held e x) h = failed_comes s q Idle a.Enq h (λ u n. n)

heard_comes : (s : SenderValue) (q : QueueValue) (r : Option Reply) (h : Option Heard)
    → IsWithin s → Comes s (answered s q r h)
heard_comes s q None None w = (refl, refl)
heard_comes s q None (Some h) w = (refl, refl)
heard_comes s q (Some r) None w = (refl, refl)
heard_comes s q (Some r) (Some h) w = reply_comes s q (reply_in h) w

settled_comes : (s : SenderValue) (t : SenderStep) (x : Act) → t.act ≡ x → IsWithin s
    → Comes s t → Comes s (unless_quiet t x)
settled_comes s t (a.Send b) e h k = k
settled_comes s t a.Enq e h k = k
settled_comes s t a.Over e h k = k
settled_comes s t a.Quiet e h k =
    let same : t.sender ≡ s = subst (λ (x : Act). ComesBy x s t.sender) e k.1 in
    subst (λ (u : SenderValue). Comes u (silence_in t.sender t.queue t.sender.phase)) same
    (silent_comes t.sender t.queue t.sender.phase (subst IsWithin (sym same) h))

turn_comes : (b : Bid) (t : Turn) → IsWithin b.sender
    → Comes b.sender (unless_quiet (sender_in b t) (sender_in b t).act)
turn_comes b t h =
    settled_comes b.sender (sender_in b t) (sender_in b t).act refl h
    (heard_comes b.sender b.queue (receiver_in b t).reply t.answer h)

-- what is left of the turns of a block
rank_within_turns_of_block : (w wl t tl : ℕ) → w ≤ wl → t ≤ tl → w * (tl + 1) + t + 1 ≤ (tl + 1) * (wl + 1)
rank_within_turns_of_block w wl t tl h k = let e : w * (tl + 1) ≤ wl * (tl + 1) = mul-le-mul_right (tl + 1) h in
    omega (arith, e)

rank_below : (s : SenderValue) → IsWithin s → rank s + 1 ≤ most_turns s.setup
rank_below s h = rank_within_turns_of_block s.wacks s.setup.waits s.failures s.setup.tries h.wacks h.failures

sum_over : (n r m k : ℕ) → n ≡ 0 → r + 1 ≤ m → n + 1 + r ≤ k + m
sum_over n r m k z h = omega arith

sum_nearer : (n r u b c m : ℕ) → r + 1 ≤ u → n + u ≤ b * m + m → n + 1 + r ≤ (c + b) * m + m
sum_nearer n r u b c m h k = omega arith

sum_begun : (n r b m : ℕ) → r + 1 ≤ m → n + 0 ≤ b * m + m → n + 1 + r ≤ (1 + b) * m + m
sum_begun n r b m h k = omega arith

-- once nothing is sent there are no more turns
no_more : (b : Bid) (es : List BidEvent) (c : Bid) → message_for b.act ≡ None → AreEvents b es c
    → turn_count es ≡ 0
no_more b [] c e k = refl
no_more b (Exchange t ∷ es) c e k = absurd (no_fair_turn_after_end k.0)
  where
    no_fair_turn_after_end : IsFairTurn b t → ⊥
    no_fair_turn_after_end f = cc (e, f.goes_on)
no_more b (Offering r ∷ es) c e k = no_more (after_event b (Offering r)) es c e k.1

abbrev begun_by : Act → SenderValue → ℕ
begun_by x u = if is_begun x u.failures then 1 else 0

begun_one : (x : Act) (t : TextValue) (u : SenderValue) → x ≡ a.Send t → HasBegun u
    → begun_by x u ≡ 1
begun_one x t u e j = rw (e, j.failures) refl

-- a turn counts against the block that it begins, or the rank
count_turn : (M : ℕ) (b : Bid) (t : Turn) (es : List BidEvent) (c : Bid) (x : Act)
    → (after_turn b t).act ≡ x → ComesBy x b.sender (after_turn b t).sender
    → rank b.sender + 1 ≤ M → AreEvents (after_turn b t) es c →
    (IsWithin (after_turn b t).sender → turn_count es + rank (after_turn b t).sender ≤ begun_in
    (after_turn b t) es * M + M) →
    turn_count es + 1 + rank b.sender ≤ begun_in b (Exchange t ∷ es) * M + M
count_turn M b t es c (a.Send k) e (inl j) h events ih =
    let u : SenderValue = (after_turn b t).sender in
    let one : begun_by (after_turn b t).act u ≡ 1 = begun_one (after_turn b t).act k u e j in
    let zero_rank : rank u ≡ 0 = rw (j.wacks, j.failures) (omega arith) in
    let n : turn_count es + 0 ≤ begun_in (after_turn b t) es * M + M =
    subst (λ (r : ℕ). turn_count es + r ≤ begun_in (after_turn b t) es * M + M) zero_rank
    (ih (record { failures = omega (arith, j.failures); wacks = omega (arith, j.wacks) })) in
    subst (λ (z : ℕ). turn_count es + 1 + rank b.sender ≤ (z + begun_in (after_turn b t) es) * M
    + M) (sym one)
    (sum_begun (turn_count es) (rank b.sender) (begun_in (after_turn b t) es) M h n)
count_turn M b t es c (a.Send k) e (inr n) h events ih =
    sum_nearer (turn_count es) (rank b.sender) (rank (after_turn b t).sender)
    (begun_in (after_turn b t) es) _ M n.nearer (ih n.within)
count_turn M b t es c a.Enq e n h events ih =
    sum_nearer (turn_count es) (rank b.sender) (rank (after_turn b t).sender)
    (begun_in (after_turn b t) es) _ M n.nearer (ih n.within)
count_turn M b t es c a.Over e n h events ih =
    sum_over (turn_count es) (rank b.sender) M (begun_in b (Exchange t ∷ es) * M)
    (no_more (after_turn b t) es c (ap message_for e) events) h
count_turn M b t es c a.Quiet e n h events ih =
    sum_over (turn_count es) (rank b.sender) M (begun_in b (Exchange t ∷ es) * M)
    (no_more (after_turn b t) es c (ap message_for e) events) h

turns_within_begun_blocks : (setup : SetupValue) (b : Bid) (es : List BidEvent) (c : Bid) → b.sender.setup ≡ setup
    → IsWithin b.sender → AreEvents b es c
    → turn_count es + rank b.sender ≤ begun_in b es * most_turns setup + most_turns setup
turns_within_begun_blocks setup b [] c e h k =
    let r : rank b.sender + 1 ≤ most_turns setup =
    subst (λ (x : SetupValue). rank b.sender + 1 ≤ most_turns x) e (rank_below b.sender h) in
    omega arith
turns_within_begun_blocks setup b (Exchange t ∷ es) c e h k =
    let r : rank b.sender + 1 ≤ most_turns setup =
    subst (λ (x : SetupValue). rank b.sender + 1 ≤ most_turns x) e (rank_below b.sender h) in
    let s : Comes b.sender (unless_quiet (sender_in b t) (sender_in b t).act) = turn_comes b t h in
    count_turn (most_turns setup) b t es c (after_turn b t).act refl s.1 r k.1
    (λ within. turns_within_begun_blocks setup (after_turn b t) es c (s.0 ∙ e) within k.1)
turns_within_begun_blocks setup b (Offering r ∷ es) c e h k = turns_within_begun_blocks setup (after_event b (Offering r)) es c e h k.1

-- the first block of a bid
begin_within : LawsBelow → (s : SenderValue) (q : QueueValue) → IsQueue q
    → 1 ≤ length (waiting q) → IsWithin (begin_step s q).sender
begin_within law s q h some =
    let n = has_next law.next q h some in
    rw n.is (record { failures = omega arith; wacks = omega arith })

pub ends_soon : LawsBelow → EndsSoon
ends_soon law b es c h =
    let first : SenderStep = record { sender = b.sender; queue = b.queue; act = b.act } in
    let within : IsWithin b.sender =
    subst (λ (t : SenderStep). IsWithin t.sender) (sym h.new_bid.first)
    (begin_within law h.new_bid.sender b.queue h.new_bid.queue h.new_bid.waits) in
    let n : turn_count es + rank b.sender ≤ begun_in b es * most_turns b.sender.setup
    + most_turns b.sender.setup =
    turns_within_begun_blocks b.sender.setup b es c refl within h.events in
    omega arith
