-- What terminals do if they missed a call.
use Rattle.std.proofs.Common.{◌≡◌, ◌⊎◌, inl, inr, ℕ, ◌<◌, false, List, length, Option, None}
use Rattle.std.proofs.Common.{refl, sym, ap, subst, arith}
use Rattle.bsc_frame.specs.declared.message.Message.{Message}
use Rattle.bsc_frame.specs.declared.message.Message.TheVariants as m
use Rattle.bsc_frame.specs.declared.message.Heard.{Heard}
use Rattle.bsc_frame.specs.declared.message.Heard.TheVariants.{Whole, Failed, Noise}
use Rattle.bsc_bid.specs.declared.phase.Phase.{Phase}
use Rattle.bsc_bid.specs.Agreement.{IsResting}
use Rattle.bsc_tributary.specs.Tributary.{TributaryValue, TributaryStep, Hears, without_line}
use Rattle.bsc_tributary.specs.Kept.{IsTributary, AfterHearing}
use Rattle.bsc_control.specs.declared.task.Replied.{Replied}
use Rattle.bsc_control.specs.Peer.{PeerValue}
use Rattle.bsc_control.specs.Control.{ControlValue, peer_at, current}
use Rattle.bsc_line_model.specs.Line.{terminal_in}
use Rattle.bsc_line_model.specs.Terminals.{answer_of, EachHears, EachKeeps, first_answer}
use Rattle.bsc_line_model.specs.Trust.{EachOf, IsMissed}
use Rattle.bsc_line_model.specs.Kept.{AreStations}
use Rattle.bsc_line_model.specs.Together.{HasNoBid, NoBids, IsSelecting, IsPolling}
use Rattle.bsc_line_model.proofs.SendingDown.{no_answer_before_terminal}
use Rattle.bsc_bid.proofs.Resting.{cut_at_rest}
use Rattle.bsc_line_model.proofs.Stations.{at_rest_in}
use Rattle.bsc_bid.specs.Station.{StaysQuiet}

-- the line is taken from the terminal
pub no_bid_without_line : (p : PeerValue) (x : TributaryValue) → IsTributary x → HasNoBid p x
    → HasNoBid p (without_line x)
no_bid_without_line p x is q =
    record {
      mode = λ sends. cc;
      up = subst (λ (k : Phase). IsResting k x.queue p.spool.records)
          (sym (cut_at_rest x.sender.phase
          (at_rest_in x.mode x.sender.phase (length x.spools) q.mode is.bid))) q.up;
      down = q.down;
    }

-- a terminal that is not called stays unchanged or gives up the line, and answers nothing
pub record StepsBack (x u : TributaryValue) (out : Option Message) : Type 0 where
  pub becomes : (u ≡ x) ⊎ (u ≡ without_line x)
  pub silent : out ≡ None

-- the terminal gives up the line
pub record GivesUp (x u : TributaryValue) (out : Option Message) : Type 0 where
  pub becomes : u ≡ without_line x
  pub silent : out ≡ None

pub no_bid_back : (p : PeerValue) (x u : TributaryValue) (out : Option Message) → IsTributary x
    → HasNoBid p x → StepsBack x u out → HasNoBid p u
no_bid_back p x u out is q b =
    elim b.becomes [
      | inl e ↦ subst (λ (y : TributaryValue). HasNoBid p y) (sym e) q
      | inr e ↦ subst (λ (y : TributaryValue). HasNoBid p y) (sym e) (no_bid_without_line p x is q)
    ]

-- the terminal missed the call
pub steps_back_after_missed_call : (x : TributaryValue) (h : Heard) (u : TributaryValue) (out : Option Message)
    → IsMissed h → Hears x h u out → AfterHearing x h u out → StepsBack x u out
steps_back_after_missed_call x Noise u out f row after =
    let q : StaysQuiet x u out = after.noise refl in
    record { becomes = inl q.0; silent = q.1 }
steps_back_after_missed_call x (Whole m.Eot) u out f row after =
    record {
      becomes = inr (ap (λ (o : TributaryStep). o.tributary) row.row);
      silent =
          ap (λ (o : TributaryStep). o.sent) row.row;
    }
steps_back_after_missed_call x Failed u out f row after = absurd f
steps_back_after_missed_call x (Whole (m.Call z)) u out f row after = absurd f
steps_back_after_missed_call x (Whole (m.Text z)) u out f row after = absurd f
steps_back_after_missed_call x (Whole m.Enq) u out f row after = absurd f
steps_back_after_missed_call x (Whole (m.Reply r)) u out f row after = absurd f

pub nobody_answers : (old : List TributaryValue) (hears : ℕ → Heard) (new : List TributaryValue) (n : ℕ)
    → ((k : ℕ) → k < n → answer_of old hears new k ≡ None) → first_answer old hears new n ≡ None
nobody_answers old hears new n f =
    no_answer_before_terminal old hears new n n (omega arith) (λ k less ne. f k less)

-- all terminals missed the call: no bid is in progress, and nothing is pending
pub record AllBack (c : ControlValue) (old : List TributaryValue) (hears : ℕ → Heard)
    (new : List TributaryValue) : Type 0 where
  pub no_bids : NoBids c new
  pub first : first_answer old hears new (length old) ≡ None

pub together_after_missed_call : (c : ControlValue) (old : List TributaryValue) (hears : ℕ → Heard)
    (new : List TributaryValue) → AreStations c old → NoBids c old
    → EachOf (length old) (λ t. IsMissed (hears t)) → EachHears old hears new
    → EachKeeps old hears new → AllBack c old hears new
together_after_missed_call c old hears new stations no_bids missed each keeps =
    let backs : (t : ℕ) → t < length old
    → StepsBack (terminal_in old t) (terminal_in new t) (answer_of old hears new t) =
    λ t less. steps_back_after_missed_call (terminal_in old t) (hears t) (terminal_in new t) (answer_of old hears new t)
    (missed t less) (each.each t less) (keeps t less) in
    record {
      no_bids = λ t less.
          let before : t < length old = omega (arith, each.count) in
          no_bid_back (peer_at c t) (terminal_in old t) (terminal_in new t)
          (answer_of old hears new t) (stations.members t before).tributary (no_bids t before)
          (backs t before);
      first = nobody_answers old hears new (length old) (λ t less. (backs t less).silent);
    }

pub selecting_missed : (c : ControlValue) (old : List TributaryValue) (hears : ℕ → Heard)
    (new : List TributaryValue) (s : ℕ) → AreStations c old → NoBids c old
    → EachOf (length old) (λ t. IsMissed (hears t)) → EachHears old hears new
    → EachKeeps old hears new →
    IsSelecting (first_answer old hears new (length old)) c new s false
selecting_missed c old hears new s stations no_bids missed each keeps =
    let b : AllBack c old hears new = together_after_missed_call c old hears new stations no_bids missed each keeps in
    record { no_bids = b.no_bids; with_pending = rw (b.first) tt; fresh = tt }

pub polling_missed : (c : ControlValue) (old : List TributaryValue) (hears : ℕ → Heard)
    (new : List TributaryValue) (replied : Replied) → current c < length old → AreStations c old
    → NoBids c old → EachOf (length old) (λ t. IsMissed (hears t)) → EachHears old hears new
    → EachKeeps old hears new →
    IsPolling (first_answer old hears new (length old)) c new replied
polling_missed c old hears new replied there stations no_bids missed each keeps =
    let b : AllBack c old hears new = together_after_missed_call c old hears new stations no_bids missed each keeps in
    let after : current c < length new = omega (arith, each.count) in
    record {
      others = λ t less differ. b.no_bids t less;
      present = inl (b.no_bids (current c) after, rw (b.first) tt);
    }
