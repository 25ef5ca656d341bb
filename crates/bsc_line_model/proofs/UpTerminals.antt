-- What a terminal does if it is polled and all is heard: the first block or EOT, and on each
-- acknowledgement the next block, or EOT after the last.
use Rattle.std.proofs.Common.{◌≡◌, ℕ, zero, suc, true, false, Bool, nat_eq, List, length, Option}
use Rattle.std.proofs.Common.{Some, refl, sym, ◌∙◌, ap, subst, arith, if◌then◌else◌}
use Rattle.bsc_frame.specs.declared.message.Message.{Message}
use Rattle.bsc_frame.specs.declared.message.Message.TheVariants as m
use Rattle.bsc_frame.specs.declared.message.Heard.{Heard}
use Rattle.bsc_frame.specs.declared.message.Heard.TheVariants.{Whole}
use Rattle.bsc_frame.specs.declared.text.End.{End}
use Rattle.bsc_frame.specs.declared.text.End.TheVariants.{Etb, Etx}
use Rattle.bsc_spool.specs.Spool.{SpoolValue}
use Rattle.bsc_spool.specs.declared.queue.Next.{Next}
use Rattle.bsc_spool.specs.Queue.{QueueValue, IsQueue, waiting, with_known, next_block}
use Rattle.bsc_bid.specs.declared.alternation.Alternation.{Alternation}
use Rattle.bsc_bid.specs.declared.alternation.Alternation.TheVariants.{Even, Odd}
use Rattle.bsc_bid.specs.declared.phase.SentBlock.{SentBlock}
use Rattle.bsc_bid.specs.declared.phase.Phase.TheVariants.{Unanswered}
use Rattle.bsc_bid.specs.Ready.{IsAtRest}
use Rattle.bsc_bid.specs.Answer.{ack, other}
use Rattle.bsc_bid.specs.Sender.{SenderValue, SenderStep, text_of, sent_next, begin_step, accepted}
use Rattle.bsc_bid.specs.Sender.{cut_phase, is_in_doubt}
use Rattle.bsc_tributary.specs.declared.called.Called.{Called}
use Rattle.bsc_tributary.specs.declared.called.Called.TheVariants.{Polling}
use Rattle.bsc_tributary.specs.declared.mode.Mode.{Mode}
use Rattle.bsc_tributary.specs.declared.mode.Mode.TheVariants.{Sending}
use Rattle.bsc_tributary.specs.Called.{called_as}
use Rattle.bsc_tributary.specs.Tributary.{TributaryValue, TributaryStep, Hears, mode_step}
use Rattle.bsc_tributary.specs.Tributary.{call_step, poll_step, act_step, answer_step, rooms_after}
use Rattle.bsc_tributary.specs.Tributary.{without_line, spool_at}
use Rattle.bsc_tributary.specs.Kept.{IsNoCall}
use Rattle.bsc_bid.specs.declared.way.Way.TheVariants.{FromTerminal}
use Rattle.bsc_tributary.proofs.InMode.{hear_step_no_call}
use Rattle.bsc_line_model.specs.Rounds.{block_count}
use Rattle.bsc_line_model.proofs.BlockCounts.{CutLaws, HasFirstBlock, IsEnd, first_block_of_queue}
use Rattle.bsc_line_model.proofs.BlockCounts.{nothing_waits_without_block}
use Rattle.bsc_line_model.proofs.BlockCounts.{a_block}
use Rattle.bsc_line_model.proofs.Staying.{TerminalStays}
use Rattle.bsc_line_model.proofs.DownControl.{ack_step}
use Rattle.bsc_bid.proofs.Resting.{cut_at_rest}

-- block b of the terminal is unanswered, with n blocks after it
pub record IsInBlockUp (x : TributaryValue) (n : ℕ) (b : SentBlock) : Type 0 where
  pub mode : x.mode ≡ Sending
  pub phase : x.sender.phase ≡ Unanswered b
  pub rest : block_count (with_known x.queue b.count) ≡ n
  pub end : IsEnd b.end n

pub record SendsUp (x : TributaryValue) (out : Option Message) (n : ℕ) : Type 0 where
  pub block : SentBlock
  pub in_block : IsInBlockUp x n block
  pub text : out ≡ Some (m.Text (text_of x.queue block))

-- no record is left to send, and none in doubt: EOT
pub record EndsUp (x : TributaryValue) (out : Option Message) : Type 0 where
  pub eot : out ≡ Some m.Eot
  pub idle : is_in_doubt x.sender.phase ≡ false
  pub rest : block_count x.queue ≡ 0

-- what follows with n blocks to send
abbrev pub GoesOnUp : TributaryValue → Option Message → ℕ → Type 0
GoesOnUp x out zero = EndsUp x out
GoesOnUp x out (suc n) = SendsUp x out n

-- only the terminal's own channel moves
terminal_stays_up : (e : ℕ) (x u : TributaryValue) → u.ready ≡ x.ready
    → (x.urgent ≡ false → u.urgent ≡ false) → u.spools ≡ x.spools
    → TerminalStays e FromTerminal e x u
terminal_stays_up e x u ready urgent spools =
    record {
      ready = ready;
      urgent = urgent;
      down = λ s k. ap (λ (ss : List SpoolValue). (spool_at ss s).records) spools;
      queue = λ k. absurd (k refl refl);
      phase = λ k. absurd (k refl refl);
    }

-- a block is sent
sends_up : (laws : CutLaws) (x u : TributaryValue) (out : Option Message) (n : ℕ) (y : SenderValue)
    (q : QueueValue) (alternation : Alternation) → IsQueue q → block_count q ≡ suc n
    → record { tributary = u; sent = out } ≡ act_step x (sent_next y q alternation (next_block q))
    → SendsUp u out n
sends_up laws x u out n y q alternation is count row =
    let h : HasFirstBlock q n = first_block_of_queue laws q n is count in
    let b : SentBlock =
    record { count = h.next.count; end = h.next.end; alternation = alternation } in
    let exact : record { tributary = u; sent = out }
    ≡ act_step x (sent_next y q alternation (Some h.next)) = row
    ∙ ap (λ (o : Option Next). act_step x (sent_next y q alternation o)) h.is in
    subst (λ (o : TributaryStep). SendsUp o.tributary o.sent n) (sym exact)
    (record {
      block = b;
      in_block =
          record { mode = refl; phase = refl; rest = h.rest; end = h.end };
      text = refl;
    })

-- an acknowledgement is neither a call nor EOT
pub ack_no_call : (p : Alternation) → IsNoCall (Whole (m.Reply (ack p)))
ack_no_call Even = tt
ack_no_call Odd = tt

-- a block is acknowledged
pub hears_ack : (laws : CutLaws) (e : ℕ) (x u : TributaryValue) (out : Option Message) (n : ℕ)
    (b : SentBlock) → IsInBlockUp x n b → IsQueue (with_known x.queue b.count)
    → Hears x (Whole (m.Reply (ack b.alternation))) u out → GoesOnUp u out n
    × TerminalStays e FromTerminal e x u
hears_ack laws e x u out n b i is h =
    let w : Heard = Whole (m.Reply (ack b.alternation)) in
    let row : record { tributary = u; sent = out }
    ≡ act_step x (accepted x.sender (with_known x.queue b.count) b.end b.alternation) =
    h.row ∙ hear_step_no_call x w (rooms_after w u) (ack_no_call b.alternation)
    ∙ ap (λ (z : Mode). mode_step x z w (rooms_after w u)) i.mode
    ∙ ap (λ (z : SenderStep). act_step x z)
    (ack_step x.sender x.queue b b.alternation refl i.phase) in (
      by_end b.end row n i.rest i.end,
      terminal_stays_up e x u
          (ap (λ (o : TributaryStep). o.tributary.ready) row)
          (λ k. ap (λ (o : TributaryStep). o.tributary.urgent) row ∙ k)
          (ap (λ (o : TributaryStep). o.tributary.spools) row),
    )
  where
    by_end : (end : End) → record { tributary = u; sent = out }
        ≡ act_step x (accepted x.sender (with_known x.queue b.count) end b.alternation) → (k : ℕ)
        → block_count (with_known x.queue b.count) ≡ k → IsEnd end k → GoesOnUp u out k
    by_end Etx row zero rest e =
        subst (λ (o : TributaryStep). EndsUp o.tributary o.sent) (sym row)
        (record { eot = refl; idle = refl; rest = rest })
    by_end Etx row (suc k) rest e = absurd (omega (arith, e))
    by_end Etb row zero rest e = absurd (omega (arith, e.1))
    by_end Etb row (suc k) rest e =
        sends_up laws x u out k x.sender (with_known x.queue b.count) (other b.alternation) is rest
        row

-- the terminal when its polling address is called
abbrev pub called_up : TributaryValue → TributaryValue
called_up x = record (without_line x) { urgent = false }

-- the step of the row, by its two tests
abbrev pub poll_by : TributaryValue → Bool → Bool → TributaryStep
poll_by x doubt none =
    if doubt then answer_step (called_up x) m.Eot
    else if none then answer_step (called_up x) m.Eot
    else act_step (called_up x) (begin_step (called_up x).sender x.queue)

by_tests : (x : TributaryValue) (doubt none : Bool) → is_in_doubt (cut_phase x.sender.phase) ≡ doubt
    → nat_eq (length (waiting x.queue)) 0 ≡ none → poll_step x ≡ poll_by x doubt none
by_tests x doubt none d n = ap (λ (b : Bool). poll_by x b (nat_eq (length (waiting x.queue)) 0)) d
    ∙ ap (λ (b : Bool). poll_by x doubt b) n

poll_exact : (laws : CutLaws) (e : ℕ) (x u : TributaryValue) (out : Option Message) (n : ℕ)
    → IsQueue x.queue → is_in_doubt (cut_phase x.sender.phase) ≡ false → block_count x.queue ≡ n
    → record { tributary = u; sent = out } ≡ poll_step x → GoesOnUp u out n
    × TerminalStays e FromTerminal e x u
poll_exact laws e x u out zero is sure count row =
    let exact : record { tributary = u; sent = out } ≡ answer_step (called_up x) m.Eot = row
    ∙ by_tests x false true sure (nothing_waits_without_block laws x.queue is count) in
    subst (λ (o : TributaryStep). EndsUp o.tributary o.sent
    × TerminalStays e FromTerminal e x o.tributary) (sym exact) (
      record { eot = refl; idle = sure; rest = count },
      terminal_stays_up e x (called_up x) refl (λ k. refl) refl,
    )
poll_exact laws e x u out (suc n) is sure count row =
    let exact : record { tributary = u; sent = out }
    ≡ act_step (called_up x) (begin_step (called_up x).sender x.queue) = row
    ∙ by_tests x false false sure (a_block laws x.queue n count) in (
      sends_up laws (called_up x) u out n (called_up x).sender x.queue Odd is count exact,
      terminal_stays_up e x u (ap (λ (o : TributaryStep). o.tributary.ready) exact)
          (λ k. ap (λ (o : TributaryStep). o.tributary.urgent) exact)
          (ap (λ (o : TributaryStep). o.tributary.spools) exact),
    )

pub hears_poll : (laws : CutLaws) (e : ℕ) (x u : TributaryValue) (out : Option Message) (n : ℕ)
    (a : List ℕ) → IsQueue x.queue → IsAtRest x.sender.phase → is_in_doubt x.sender.phase ≡ false
    → called_as x.terminal a ≡ Polling → block_count x.queue ≡ n → Hears x (Whole (m.Call a)) u out
    →
    GoesOnUp u out n × TerminalStays e FromTerminal e x u
hears_poll laws e x u out n a is rest sure called count h =
    let row : record { tributary = u; sent = out } ≡ poll_step x = h.row
    ∙ ap (λ (k : Called). call_step x k (rooms_after (Whole (m.Call a)) u)) called in
    let cut : is_in_doubt (cut_phase x.sender.phase) ≡ false =
    ap is_in_doubt (cut_at_rest x.sender.phase rest) ∙ sure in
    poll_exact laws e x u out n is cut count row
