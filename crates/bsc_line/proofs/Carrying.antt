-- The steps of the methods that carry a transmission.
use Rattle.std.proofs.Common.{◌≡◌, ◌↔◌, ℕ, ◌<◌, ◌≤◌, Bool, true, false, ◌&&◌, IsTrue, IfSome}
use Rattle.std.proofs.Common.{is_some, Result, List, length, Option, None, Some, get_or}
use Rattle.std.proofs.Common.{slice_set, get_or-set_same, refl, sym, ◌∙◌, ap, subst, arith, inl}
use Rattle.std.specs.Borrow.{Bor}
use Rattle.bsc_frame.specs.declared.message.Message.{Message}
use Rattle.bsc_frame.specs.declared.message.Message.TheVariants as m
use Rattle.bsc_frame.specs.declared.message.Heard.{Heard}
use Rattle.bsc_frame.specs.declared.message.Heard.TheVariants.{Whole}
use Rattle.bsc_bid.specs.Fair.{IsFairlyHeard}
use Rattle.bsc_tributary.specs.Tributary.{TributaryValue, ActsOnSilence as TerminalActs}
use Rattle.bsc_tributary.specs.Kept.{AfterSilence as TerminalKeeps}
use Rattle.bsc_control.specs.Control.{ControlValue, terminals as addresses_of}
use Rattle.bsc_control.specs.Kept.{AfterHearing as ControlAfter}
use Rattle.bsc_control.specs.Table.{Hears as ControlHears}
use Rattle.bsc_line_model.specs.declared.error.LineError.{LineError}
use Rattle.bsc_bid.specs.declared.speaker.Speaker.{Speaker}
use Rattle.bsc_bid.specs.declared.speaker.Speaker.TheVariants.{Control, Terminal}
use Rattle.bsc_line_model.specs.declared.transmission.Transmission.{Transmission}
use Rattle.bsc_line_model.specs.Transmission.{sent_by, speaker_of}
use Rattle.bsc_line_model.specs.Hearing.{heard_at}
use Rattle.bsc_line_model.specs.Line.{LineValue, no_terminal, terminal_in, terminal_at}
use Rattle.bsc_line_model.specs.Line.{terminal_count, with_terminal}
use Rattle.bsc_line_model.specs.Terminals.{EachHears, EachKeeps, first_answer, line_owner}
use Rattle.bsc_line_model.specs.Trust.{IsHeardFairly, IsTrustAfter, IsAddressedAfter}
use Rattle.bsc_line_model.specs.Carries.{IsCarriedDown, IsCarriedUp, IsCarriedBy, TerminalActsAlone}
use Rattle.bsc_line_model.specs.Carries.{OwnerActs}
use Rattle.bsc_line_model.specs.Runs.{Carries, CarriesAs, CarriesEachAs, PassesSilence}
use Rattle.bsc_line_model.specs.Runs.{IsFromTerminal, IsFromControl}
use Rattle.bsc_line_model.proofs.Carrying.{is_terminal}
use Rattle.bsc_line_model.specs.Kept.{AreStations}

-- both are true
pub both_true : (a b r : Bool) → r ≡ (a && b) → IsTrue r → IsTrue a × IsTrue b
both_true true true r e h = (refl, refl)
both_true true false r e h = absurd (cc)
both_true false b r e h = absurd (cc)

pub true_of_both : (a b r : Bool) → r ≡ (a && b) → IsTrue a → IsTrue b → IsTrue r
true_of_both true true r e x y = e
true_of_both true false r e x y = absurd (cc)
true_of_both false b r e x y = absurd (cc)

-- the flag after the transmission is the one that the definition requires
pub flag_is_trust_after : (a b r : Bool) (fair : Type 0) → r ≡ (a && b) → (IsTrue b ↔ fair)
    → IsTrustAfter a fair r
flag_is_trust_after a b r fair e f = (
  λ h. let both : IsTrue a × IsTrue b = both_true a b r e h in (both.0, f.0 both.1),
  λ h. true_of_both a b r e h.0 (f.1 h.1),
)

-- what is said of a transmission, if one is pending
pub said_of_pending : (P : Transmission → Type 0) (o : Option Transmission) (s : Transmission) → IfSome o P
    → o ≡ Some s → P s
said_of_pending P o s h e = subst (λ (z : Option Transmission). IfSome z P) e h

-- there is at least one terminal
pub at_least_one_terminal : (c : ControlValue) (ts : List TributaryValue) → AreStations c ts → 0 < length ts
at_least_one_terminal c ts s = let some : 1 ≤ length c.peers = s.control.some in omega (arith, s.count)

-- the sender of the pending transmission
sender_of_pending : (Q : Type 0) (o : Option Transmission) (speaker : Speaker) → speaker_of o ≡ Some speaker
    → ((s : Transmission) → o ≡ Some s → s.speaker ≡ speaker → Q) → Q
sender_of_pending Q None speaker is f = absurd (cc)
sender_of_pending Q (Some s) speaker is f = f s refl (let same : s.speaker ≡ speaker = cc in same)

pub from_terminal : (l : LineValue) (t : ℕ) → speaker_of l.pending ≡ Some (Terminal t)
    → IsFromTerminal l
from_terminal l t is =
    sender_of_pending (IsFromTerminal l) l.pending (Terminal t) is
    (λ s e speaker. record { sent = s; pending = e; speaker = λ control. cc })

pub from_control : (l : LineValue) → speaker_of l.pending ≡ Some Control → IsFromControl l
from_control l is =
    sender_of_pending (IsFromControl l) l.pending Control is
    (λ s e speaker. record { sent = s; pending = e; speaker = speaker })

-- all terminals hear the pending transmission in this way
pub terminals_hear_pending : (hear : Transmission → Heard) (l new : LineValue) → speaker_of l.pending
    ≡ Some Control
    → ((s : Transmission) → l.pending ≡ Some s → IsCarriedDown s.message (λ t. hear s) l new)
    → CarriesAs hear l new
terminals_hear_pending hear l new is f =
    sender_of_pending (CarriesAs hear l new) l.pending Control is
    (λ s e speaker. record {
      sent = s;
      pending = e;
      carried =
          subst (λ (p : Speaker). IsCarriedBy p s.message (hear s) l new) (sym speaker) (f s e);
    })

-- or the control station does
pub control_hears_pending : (hear : Transmission → Heard) (l new : LineValue) (t : ℕ) → speaker_of l.pending
    ≡ Some (Terminal t)
    → ((s : Transmission) → l.pending ≡ Some s → IsCarriedUp s.message (hear s) l new)
    → CarriesAs hear l new
control_hears_pending hear l new t is f =
    sender_of_pending (CarriesAs hear l new) l.pending (Terminal t) is
    (λ s e speaker. record {
      sent = s;
      pending = e;
      carried =
          subst (λ (p : Speaker). IsCarriedBy p s.message (hear s) l new) (sym speaker) (f s e);
    })

-- nothing is pending
pub none_if_not_some : (o : Option Transmission) → is_some o ≡ false → o ≡ None
none_if_not_some None e = refl
none_if_not_some (Some s) e = absurd (cc)

-- the owner of the line has acted on a silence
pub passes_silence : (l new : LineValue) (owner : Option ℕ) → is_some l.pending ≡ false → owner
    ≡ line_owner l.terminals → OwnerActs owner l new → PassesSilence l new
passes_silence l new owner none is acts =
    record {
      nothing = none_if_not_some l.pending none;
      acts =
          subst (λ (o : Option ℕ). OwnerActs o l new) is acts;
    }

-- each terminal hears its item
pub each_hears_own_item : (l new : LineValue) (items : List (Option (Bor (List ℕ)))) → speaker_of l.pending
    ≡ Some Control → length items ≡ terminal_count l
    → ((s : Transmission) → l.pending ≡ Some s → IsCarriedDown s.message (heard_at items) l new)
    → CarriesEachAs items l new
each_hears_own_item l new items is count f =
    sender_of_pending (CarriesEachAs items l new) l.pending Control is
    (λ s e speaker. record {
      sent = s;
      pending = e;
      control = speaker;
      count = count;
      carried =
          f s e;
    })

-- what is heard as it was sent is heard fairly
whole_is_fair_hearing : (w : Message) (n : ℕ) → IsHeardFairly w n (λ t. Whole w)
whole_is_fair_hearing (m.Call a) n = inl (λ t less. refl)
whole_is_fair_hearing m.Eot n = λ t less. inl refl
whole_is_fair_hearing m.Enq n = λ t less. inl refl
whole_is_fair_hearing (m.Reply r) n = λ t less. inl refl
whole_is_fair_hearing (m.Text x) n = λ t less. inl refl

-- so the line is trusted after it exactly if it was before
pub trust_stays : (trusted : Bool) (fair : Type 0) → fair → IsTrustAfter trusted fair trusted
trust_stays trusted fair f = (λ h. (h, f), λ h. h.0)

-- all terminals hear what was sent
pub all_hear_what_was_sent : (w : Message) (h : Heard) (old new : LineValue) → h ≡ Whole w → new.control
    ≡ old.control → EachHears old.terminals (λ t. h) new.terminals
    → EachKeeps old.terminals (λ t. h) new.terminals →
    new.pending ≡ first_answer old.terminals (λ t. h) new.terminals (terminal_count old)
    → IsAddressedAfter (addresses_of old.control) (terminal_count old) (λ t. h) old.addressed
    new.addressed → new.trusted ≡ old.trusted →
    IsCarriedDown w (λ t. Whole w) old new
all_hear_what_was_sent w h old new is control each kept pending addressed trusted =
    subst (λ (x : Heard). IsCarriedDown w (λ t. x) old new) is
    (record {
      control = control;
      terminals = each;
      kept = kept;
      pending = pending;
      addressed = addressed;
      trusted =
          subst (λ (b : Bool). IsTrustAfter old.trusted
          (IsHeardFairly w (terminal_count old) (λ t. h)) b) (sym trusted)
          (trust_stays old.trusted (IsHeardFairly w (terminal_count old) (λ t. h))
          (subst (λ (x : Heard). IsHeardFairly w (terminal_count old) (λ t. x)) (sym is)
          (whole_is_fair_hearing w (terminal_count old))));
    })

-- the control station hears what was sent
pub carried_up_whole : (w : Message) (h : Heard) (old new : LineValue) (sent : Option Message) → h
    ≡ Whole w → ControlHears old.control h new.control sent
    → ControlAfter old.control h new.control sent → new.terminals ≡ old.terminals →
    new.pending ≡ sent_by Control sent → new.addressed ≡ old.addressed → new.trusted ≡ old.trusted
    → IsCarriedUp w (Whole w) old new
carried_up_whole w h old new sent is row kept terminals pending addressed trusted =
    subst (λ (x : Heard). IsCarriedUp w x old new) is
    (record {
      sent = sent;
      control = row;
      kept = kept;
      terminals = terminals;
      pending = pending;
      addressed = addressed;
      trusted = subst (λ (b : Bool). IsTrustAfter old.trusted (IsFairlyHeard w h) b) (sym trusted)
          (trust_stays old.trusted (IsFairlyHeard w h)
          (subst (λ (x : Heard). IsFairlyHeard w x) (sym is) (inl refl)));
    })

-- what is heard depends only on the decoded octets
pub carries_heard : (h k : Heard) (l : LineValue) (result : Result (Unit {0}) LineError)
    (new : LineValue) → h ≡ k → Carries (λ (s : Transmission). h) l result new
    → Carries (λ (s : Transmission). k) l result new
carries_heard h k l result new same c =
    subst (λ (x : Heard). Carries (λ (s : Transmission). x) l result new) same c

-- a terminal has acted
pub owner_terminal_acted : (l : LineValue) (t : ℕ) (x u : TributaryValue) (sent : Option Message)
    (next : Option Transmission) → t < terminal_count l → x ≡ get_or l.terminals t x
    → TerminalActs x u sent → TerminalKeeps x u sent → next ≡ sent_by (Terminal t) sent →
    TerminalActsAlone t l (record (with_terminal l t u) { pending = next })
owner_terminal_acted l t x u sent next less is row kept made =
    let here : x ≡ terminal_at l t = sym (is_terminal l.terminals t x less is) in
    let there : u ≡ terminal_in (slice_set l.terminals t u) t =
    sym (get_or-set_same l.terminals t u no_terminal less) in
    record {
      sent = sent;
      there = less;
      row =
          subst (λ (y : TributaryValue). TerminalActs (terminal_at l t) y sent) there
          (subst (λ (y : TributaryValue). TerminalActs y u sent) here row);
      kept =
          subst (λ (y : TributaryValue). TerminalKeeps (terminal_at l t) y sent) there
          (subst (λ (y : TributaryValue). TerminalKeeps y u sent) here kept);
      becomes = ap (λ (o : Option Transmission). record (with_terminal l t u) { pending = o }) made
          ∙ ap (λ (y : TributaryValue). record (with_terminal l t y)
          { pending = sent_by (Terminal t) sent }) there;
    }
