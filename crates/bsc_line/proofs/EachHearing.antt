-- One more terminal hears.
use Rattle.std.proofs.Common.{◌≡◌, ◌≢◌, ℕ, zero, suc, ◌+◌, ◌<◌, ◌≤◌, List, length, Option, None}
use Rattle.std.proofs.Common.{Some, get_or, slice_set, refl, sym, ◌∙◌, ap, subst, arith, add-one}
use Rattle.std.proofs.Common.{get_or-set_other, get_or-set_same, below_more}
use Rattle.std.proofs.lemmas.List.{get_or_default, length-set}
use Rattle.bsc_frame.specs.declared.message.Message.{Message}
use Rattle.bsc_frame.specs.declared.message.Heard.{Heard}
use Rattle.bsc_tributary.specs.Tributary.{TributaryValue, TributaryStep, Hears}
use Rattle.bsc_tributary.specs.Kept.{AfterHearing, IsHearing}
use Rattle.bsc_bid.specs.declared.speaker.Speaker.{Speaker}
use Rattle.bsc_bid.specs.declared.speaker.Speaker.TheVariants.{Terminal}
use Rattle.bsc_line_model.specs.declared.transmission.Transmission.{Transmission}
use Rattle.bsc_line_model.specs.Transmission.{sent_by, speaker_of}
use Rattle.bsc_line_model.specs.Line.{no_terminal, terminal_in}
use Rattle.bsc_line_model.specs.Terminals.{answer, answer_of, EachHears, EachKeeps, or_first}
use Rattle.bsc_line_model.specs.Terminals.{first_answer}

-- a terminal made the step of its table
pub record Heeds (old : TributaryValue) (h : Heard) (new : TributaryValue)
    (sent : Option Message) : Type 0 where
  pub row : Hears old h new sent
  pub after : AfterHearing old h new sent

-- the message that a terminal sent is its answer
pub sent_is : (t : TributaryValue) (h : Heard) (u : TributaryValue) (out : Option Message)
    → Hears t h u out → out ≡ answer t h u
sent_is t h u out x = ap (λ (o : TributaryStep). o.sent) x.row

pub heeds_answer : (t : TributaryValue) (h : Heard) (u : TributaryValue) (out : Option Message)
    → Heeds t h u out → Heeds t h u (answer t h u)
heeds_answer t h u out x = subst (λ (o : Option Message). Heeds t h u o) (sent_is t h u out x.row) x

pub hearing_with_answer : (t : TributaryValue) (h : Heard) (u : TributaryValue)
    (out : Option Message) → IsHearing t h u out → IsHearing t h u (answer t h u)
hearing_with_answer t h u out x =
    subst (λ (o : Option Message). IsHearing t h u o) (sent_is t h u out x.row) x

-- a terminal that does not answer leaves the first answer unchanged
pub first_answer_kept_by_quiet : (first : Option Transmission) (t : ℕ) → first
    ≡ or_first first (sent_by (Terminal t) None)
first_answer_kept_by_quiet None t = refl
first_answer_kept_by_quiet (Some s) t = refl

-- what a terminal sent is kept if no answer was kept before
pub first_answer_kept_if_none : (first next : Option Transmission) → speaker_of first ≡ None
    → next ≡ or_first first next
first_answer_kept_if_none None next e = refl
first_answer_kept_if_none (Some s) next e = absurd (cc)

-- and dropped if one was
pub first_answer_kept_if_some : (first next : Option Transmission) (p : Speaker) → speaker_of first
    ≡ Some p → first ≡ or_first first next
first_answer_kept_if_some None next p e = absurd (cc)
first_answer_kept_if_some (Some s) next p e = refl

-- the first n answers depend only on the first n terminals
pub first_answer_of_same_front : (old a b : List TributaryValue) (hears : ℕ → Heard) (n : ℕ)
    → ((k : ℕ) → k < n → terminal_in a k ≡ terminal_in b k) → first_answer old hears a n
    ≡ first_answer old hears b n
first_answer_of_same_front old a b hears zero e = refl
first_answer_of_same_front old a b hears (suc n) e =
    let r : first_answer old hears a n ≡ first_answer old hears b n =
    first_answer_of_same_front old a b hears n (λ k less. e k (omega arith)) in
    let here : get_or a n no_terminal ≡ get_or b n no_terminal = e n (omega arith) in
    rw (r, here)

-- each of the first i terminals has heard, and the others are unchanged
pub record HaveHeard (old : List TributaryValue) (hears : ℕ → Heard) (cur : List TributaryValue)
    (i : ℕ) : Type 0 where
  pub count : length cur ≡ length old
  pub heard : (k : ℕ) → k < i
      → Heeds (terminal_in old k) (hears k) (terminal_in cur k) (answer_of old hears cur k)
  pub rest : (k : ℕ) → i ≤ k → terminal_in cur k ≡ terminal_in old k

pub none_have_heard : (old : List TributaryValue) (hears : ℕ → Heard) → HaveHeard old hears old 0
none_have_heard old hears =
    record { count = refl; heard = λ k less. absurd (omega arith); rest = λ k less. refl }

-- the terminal at place i is the old one
pub next_terminal_is_old : (old : List TributaryValue) (hears : ℕ → Heard) (cur : List TributaryValue)
    (i : ℕ) (t : TributaryValue) → HaveHeard old hears cur i → i < length old → t ≡ get_or cur i t
    → terminal_in old i ≡ t
next_terminal_is_old old hears cur i t p less is =
    let less_cur : i < length cur = rw p.count less in
    sym (p.rest i (omega arith)) ∙ (get_or_default cur i no_terminal t less_cur ∙ sym is)

pub one_more_has_heard : (old : List TributaryValue) (hears : ℕ → Heard) (cur : List TributaryValue) (i : ℕ)
    (t u : TributaryValue) (out : Option Message) → HaveHeard old hears cur i → i < length old → t
    ≡ get_or cur i t → Heeds t (hears i) u out → HaveHeard old hears (slice_set cur i u) (i + 1)
one_more_has_heard old hears cur i t u out p less is heard =
    let less_cur : i < length cur = rw p.count less in
    let there : get_or old i no_terminal ≡ t = next_terminal_is_old old hears cur i t p less is in
    record {
      count = length-set cur i u ∙ p.count;
      heard =
          below_more (λ k. Heeds (get_or old k no_terminal) (hears k)
          (get_or (slice_set cur i u) k no_terminal)
          (answer (get_or old k no_terminal) (hears k)
          (get_or (slice_set cur i u) k no_terminal))) i
          (λ k less. let ne : k ≢ i = omega arith in
          rw (get_or-set_other cur i k u no_terminal ne) (p.heard k less))
          (rw (get_or-set_same cur i u no_terminal less_cur, there)
          (heeds_answer t (hears i) u out heard));
      rest = λ k less. let ne : k ≢ i = omega arith in get_or-set_other cur i k u no_terminal ne
          ∙ p.rest k (omega arith);
    }

-- the first answer of one more terminal
pub first_answer_with_one_more : (old : List TributaryValue) (hears : ℕ → Heard) (cur : List TributaryValue) (i : ℕ)
    (t u : TributaryValue) (out : Option Message) → HaveHeard old hears cur i → i < length old → t
    ≡ get_or cur i t → Heeds t (hears i) u out →
    first_answer old hears (slice_set cur i u) (i + 1)
    ≡ or_first (first_answer old hears cur i) (sent_by (Terminal i) out)
first_answer_with_one_more old hears cur i t u out p less is heard =
    let less_cur : i < length cur = rw p.count less in
    let there : get_or old i no_terminal ≡ t = next_terminal_is_old old hears cur i t p less is in
    let same : first_answer old hears (slice_set cur i u) i ≡ first_answer old hears cur i =
    first_answer_of_same_front old (slice_set cur i u) cur hears i
    (λ k less. let ne : k ≢ i = omega arith in get_or-set_other cur i k u no_terminal ne) in
    rw (
      add-one,
      same,
      get_or-set_same cur i u no_terminal less_cur,
      there,
      ← sent_is t (hears i) u out heard.row,
    )

-- all have heard
pub all_have_heard : (old : List TributaryValue) (hears : ℕ → Heard) (cur : List TributaryValue) (i : ℕ)
    → HaveHeard old hears cur i → i ≡ length old → EachHears old hears cur × EachKeeps old hears cur
all_have_heard old hears cur i p all = (
  record { count = p.count; each = λ t less. (p.heard t (omega arith)).row },
  λ t less. (p.heard t (omega arith)).after,
)
