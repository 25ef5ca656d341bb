-- The queue has the records that the sender counts on after every offer and after a release.
use Rattle.std.proofs.Common.{◌≡◌, ◌∙◌, ◌⊎◌, inl, inr, ℕ, ◌+◌, ◌≤◌, ◌==◌, ◌||◌, sym, ap, subst}
use Rattle.std.proofs.Common.{refl, List, [], ◌∷◌, ◌++◌, length, Result, Ok, Err}
use Rattle.std.specs.Result.{OnOk, OnErr}
use Rattle.bsc_block.specs.Format.{FormatValue}
use Rattle.bsc_spool.specs.Queue.{QueueValue}
use Rattle.bsc_bid.specs.declared.phase.Phase.{Phase}
use Rattle.bsc_bid.specs.declared.phase.Phase.TheVariants.{Idle, Unanswered, Held, InDoubt}
use Rattle.bsc_bid.specs.Ready.{IsReady}
use Rattle.bsc_bid.specs.Setup.{SetupValue}
use Rattle.bsc_bid.specs.Sender.{SenderValue, ReleaseStep, release_step, with_phase}
use Rattle.bsc_bid.proofs.Choice.{either_branch}
use Rattle.bsc_bid.proofs.Offers.{ready_offered}
use Rattle.bsc_tributary.specs.declared.mode.Mode.{Mode}
use Rattle.bsc_tributary.specs.declared.mode.Mode.TheVariants.{Control, Receiving, Sending}
use Rattle.bsc_tributary.specs.Tributary.{TributaryValue, after_release}
use Rattle.bsc_tributary.specs.Kept.{IsTributary, KeepsSetupAndMode, SuitsMode}

pub stays_offered : (t : TributaryValue) (r : List ℕ) → IsTributary t → length r
    ≤ t.queue.format.full →
    IsTributary (record t { queue = record t.queue { offered = t.queue.offered ++ r ∷ [] } })
stays_offered t r is short =
    record {
      distinct = is.distinct;
      terminal = is.terminal;
      spools = is.spools;
      format = is.format;
      ready = ready_offered t.sender t.queue r is.ready short;
      bid = is.bid;
    }

-- a release leaves the settings and the format, and a phase that suits the mode
record Releases (mode : Mode) (n : ℕ) (setup : SetupValue) (format : FormatValue)
    (step : ReleaseStep) : Type 0 where
  suits : SuitsMode mode step.sender.phase n
  setup_is : step.sender.setup ≡ setup
  format_is : step.queue.format ≡ format

idle_suits : (mode : Mode) (k n : ℕ) → SuitsMode mode (InDoubt k) n → SuitsMode mode Idle n
idle_suits Control k n suits = tt
idle_suits (Receiving s) k n suits = (tt, suits.1)
idle_suits Sending k n suits = absurd suits

release_in_mode : (mode : Mode) (n : ℕ) (s : SenderValue) (q : QueueValue) (p : Phase) (count : ℕ)
    → SuitsMode mode p n →
    Releases mode n s.setup q.format (release_step (with_phase s p) q count)
release_in_mode mode n s q (InDoubt k) count suits =
    either_branch (Releases mode n s.setup q.format) ((count == q.known) || (count == (q.known + k))) _ _
    (record { suits = idle_suits mode k n suits; setup_is = refl; format_is = refl })
    (record { suits = suits; setup_is = refl; format_is = refl })
release_in_mode mode n s q Idle count suits =
    record { suits = suits; setup_is = refl; format_is = refl }
release_in_mode mode n s q (Unanswered b) count suits =
    record { suits = suits; setup_is = refl; format_is = refl }
release_in_mode mode n s q (Held end alternation) count suits =
    record { suits = suits; setup_is = refl; format_is = refl }

releases_of_step : (t : TributaryValue) (count : ℕ) (step : ReleaseStep) → IsTributary t →
    step ≡ release_step t.sender t.queue count →
    Releases t.mode (length t.spools) t.sender.setup t.queue.format step
releases_of_step t count step is row =
    subst (Releases t.mode (length t.spools) t.sender.setup t.queue.format) (sym row)
    (release_in_mode t.mode (length t.spools) t.sender t.queue t.sender.phase count is.bid)

pub stays_release : (t : TributaryValue) (count : ℕ) (step : ReleaseStep) → IsTributary t →
    step ≡ release_step t.sender t.queue count → IsReady step.sender step.queue →
    IsTributary (record t { sender = step.sender; queue = step.queue })
stays_release t count step is row ready =
    let r : Releases t.mode (length t.spools) t.sender.setup t.queue.format step =
    releases_of_step t count step is row in
    record {
      distinct = is.distinct;
      terminal = is.terminal;
      spools = is.spools;
      format = r.format_is ∙ is.format
          ∙ ap (λ (s : SetupValue). s.format) (sym r.setup_is);
      ready = ready;
      bid = r.suits;
    }

-- an offer was accepted, or the record was given back
pub offered_either : {E : Type 0} (r : Result (Unit {0}) E) (queue old more : QueueValue)
    → OnOk r (queue ≡ more) →
    OnErr r (queue ≡ old) → (queue ≡ more) ⊎ (queue ≡ old)
offered_either (Ok done) queue old more ok err = inl ok
offered_either (Err e) queue old more ok err = inr err

-- the terminal with another queue
abbrev pub with_queue : TributaryValue → QueueValue → TributaryValue
with_queue t queue = record t { queue = queue }

pub stays_offer : (t old : TributaryValue) (r : List ℕ) (queue : QueueValue) → IsTributary t → t
    ≡ old →
    length r ≤ old.queue.format.full →
    (queue ≡ record t.queue { offered = t.queue.offered ++ r ∷ [] }) ⊎ (queue ≡ t.queue) →
    IsTributary (with_queue t queue)
stays_offer t old r queue is view short (inl more) =
    subst (λ (q : QueueValue). IsTributary (with_queue t q)) (sym more)
    (stays_offered t r is (subst (λ (v : TributaryValue). length r ≤ v.queue.format.full) (sym view)
    short))
stays_offer t old r queue is view short (inr same) =
    subst (λ (q : QueueValue). IsTributary (with_queue t q))
    (sym same) is

-- the terminal after an offer, in terms of the one before
pub offer_ok : {E : Type 0} (res : Result (Unit {0}) E) (t old : TributaryValue) (r : List ℕ)
    (queue : QueueValue) →
    t ≡ old → OnOk res (queue ≡ record t.queue { offered = t.queue.offered ++ r ∷ [] }) →
    OnOk res (with_queue t queue ≡ with_queue old
    (record old.queue { offered = old.queue.offered ++ r ∷ [] }))
offer_ok (Ok done) t old r queue view more = ap (with_queue t) more
    ∙ ap (λ (v : TributaryValue). with_queue v
    (record v.queue { offered = v.queue.offered ++ r ∷ [] })) view
offer_ok (Err e) t old r queue view more = tt

pub offer_err : {E : Type 0} (res : Result (Unit {0}) E) (t old : TributaryValue)
    (queue : QueueValue) → t ≡ old →
    OnErr res (queue ≡ t.queue) → OnErr res (with_queue t queue ≡ old)
offer_err (Ok done) t old queue view same = tt
offer_err (Err e) t old queue view same = ap (with_queue t) same ∙ view

pub release_state : (t old : TributaryValue) (count : ℕ) (step : ReleaseStep) → t ≡ old →
    step ≡ release_step t.sender t.queue count
    → record t { sender = step.sender; queue = step.queue } ≡
    after_release old count
release_state t old count step view row = ap (λ
    (s : ReleaseStep). record t { sender = s.sender; queue = s.queue }) row
    ∙ ap (λ (v : TributaryValue). after_release v count) view

pub release_answer : (t old : TributaryValue) (count : ℕ) (step : ReleaseStep) → t ≡ old →
    step ≡ release_step t.sender t.queue count → step.answer
    ≡ (release_step old.sender old.queue count).answer
release_answer t old count step view row = ap (λ (s : ReleaseStep). s.answer) row
    ∙ ap (λ (v : TributaryValue). (release_step v.sender v.queue count).answer) view

-- the terminal has the same addresses, settings and mode
pub setup_kept_by_offer : (t old : TributaryValue) (queue : QueueValue) → t ≡ old
    → IsTributary (with_queue t queue) →
    KeepsSetupAndMode old (with_queue t queue)
setup_kept_by_offer t old queue view is =
    record {
      tributary = is;
      addresses = ap (λ (v : TributaryValue). v.terminal) view;
      setup = ap (λ (v : TributaryValue). v.sender.setup) view;
      mode = ap (λ (v : TributaryValue). v.mode) view;
    }

pub setup_kept_by_release : (t old : TributaryValue) (count : ℕ) (step : ReleaseStep) → t ≡ old
    → IsTributary t →
    step ≡ release_step t.sender t.queue count → IsReady step.sender step.queue →
    KeepsSetupAndMode old (record t { sender = step.sender; queue = step.queue })
setup_kept_by_release t old count step view is row ready =
    let r : Releases t.mode (length t.spools) t.sender.setup t.queue.format step =
    releases_of_step t count step is row in
    record {
      tributary = stays_release t count step is row ready;
      addresses = ap (λ (v : TributaryValue). v.terminal) view;
      setup = r.setup_is ∙ ap (λ (v : TributaryValue). v.sender.setup) view;
      mode = ap (λ (v : TributaryValue). v.mode) view;
    }
