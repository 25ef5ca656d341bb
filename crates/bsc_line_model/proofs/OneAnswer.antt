-- At most one terminal answers a transmission of the control station that is heard fairly: the one
-- whose address all heard called, or the addressed one.
use Rattle.std.proofs.Common.{None, ◌≡◌, ◌⊎◌, inl, inr, ℕ, ◌<◌, true, false, List, IsTrue, is_some}
use Rattle.std.proofs.Common.{Option, Some, refl, sym, ap, subst}
use Rattle.bsc_frame.specs.declared.message.Message.{Message}
use Rattle.bsc_frame.specs.declared.message.Message.TheVariants as m
use Rattle.bsc_frame.specs.declared.message.Heard.{Heard}
use Rattle.bsc_frame.specs.declared.message.Heard.TheVariants.{Whole, Noise}
use Rattle.bsc_bid.specs.Terminal.{TerminalValue}
use Rattle.bsc_tributary.specs.declared.called.Called.{Called}
use Rattle.bsc_tributary.specs.declared.called.Called.TheVariants.{Polling, Selection, Other}
use Rattle.bsc_tributary.specs.declared.mode.Mode.{Mode}
use Rattle.bsc_tributary.specs.declared.mode.Mode.TheVariants.{Control, Receiving, Sending}
use Rattle.bsc_tributary.specs.Called.{called_as}
use Rattle.bsc_tributary.specs.Tributary.{TributaryValue}
use Rattle.bsc_tributary.specs.Kept.{AfterHearing, IsNoCall, TakesLine}
use Rattle.bsc_bid.specs.declared.way.Way.{Way}
use Rattle.bsc_bid.specs.declared.way.Way.TheVariants.{FromTerminal, ToTerminal}
use Rattle.bsc_control.specs.Control.{terminals as addresses_of}
use Rattle.bsc_line_model.specs.Line.{LineValue, terminal_at, terminal_count}
use Rattle.bsc_line_model.specs.Terminals.{answer_of}
use Rattle.bsc_line_model.specs.Trust.{AllHear, IsMissed, IsHeardFairly, is_call}
use Rattle.bsc_line_model.specs.Carries.{IsCarriedDown}
use Rattle.bsc_line_model.specs.Kept.{IsTuned, IsLine}
use Rattle.bsc_line_model.proofs.Stations.{terminal_in_directory}
use Rattle.bsc_line_model.proofs.Tuning.{NamesOwn, IsNotCalled, IsCalledBy, fair_not_called}
use Rattle.bsc_line_model.proofs.Tuning.{each_fairly}
use Rattle.bsc_line_model.proofs.SendingDown.{one_terminal_of_address}

-- a channel of this terminal is addressed
pub record IsAddressed (addressed : Option (ℕ × Way)) (t : ℕ) : Type 0 where
  pub way : Way
  pub is : addressed ≡ Some (t, way)

-- a transmission that is not a call is EOT, or neither
no_call_or_eot : (h : Heard) → IsNotCalled h → IsNoCall h ⊎ (h ≡ Whole m.Eot)
no_call_or_eot (Whole m.Eot) f = inr refl
no_call_or_eot (Whole (m.Call z)) f = absurd (f z refl)
no_call_or_eot _ f = inl tt

-- a terminal that sends or receives is addressed
tuned_addressed : (addressed : Option (ℕ × Way)) (t : ℕ) (mode : Mode) → IsTuned addressed t mode
    → (mode ≡ Control → ⊥) → IsAddressed addressed t
tuned_addressed addressed t Control k f = absurd (f refl)
tuned_addressed addressed t (Receiving s) k f = record { way = ToTerminal s; is = k }
tuned_addressed addressed t Sending k f = record { way = FromTerminal; is = k }

-- a terminal that sends nothing does not answer
no_answer_without_message : (sent : Option Message) → sent ≡ None → IsTrue (is_some sent) → ⊥
no_answer_without_message None e answered = let no : false ≡ true = answered in cc
no_answer_without_message (Some w) e answered = cc

-- a terminal that answers a transmission that is not a call is addressed
answers_addressed : (addressed : Option (ℕ × Way)) (t : ℕ) (x u : TributaryValue) (h : Heard)
    (sent : Option Message) → AfterHearing x h u sent → IsTrue (is_some sent)
    → IsTuned addressed t x.mode → IsNotCalled h → IsAddressed addressed t
answers_addressed addressed t x u h sent after answered tuned never =
    elim (no_call_or_eot h never) [
      | inl neither ↦ tuned_addressed addressed t x.mode tuned
          (λ mode. no_answer_without_message sent (after.control mode neither).1 answered)
      | inr eot ↦
          absurd
          (no_answer_without_message sent
          (after.gives_up_line
          (subst (λ (g : Heard). TakesLine x.terminal g) (sym eot) tt)).1 answered)
    ]

-- a terminal that answers a call was called by an address of its own, and is addressed then
called_addressed : (laws : NamesOwn) (new : Option (ℕ × Way)) (ts : List TerminalValue) (t : ℕ)
    (x u : TributaryValue) (a : List ℕ) (sent : Option Message) → IsCalledBy new ts t x.terminal a
    → AfterHearing x (Whole (m.Call a)) u sent → IsTrue (is_some sent) →
    (called : Called) → called_as x.terminal a ≡ called → IsAddressed new t
called_addressed laws new ts t x u a sent b after answered Other e =
    absurd (no_answer_without_message sent (after.gives_up_line e).1 answered)
called_addressed laws new ts t x u a sent b after answered Polling e =
    record {
      way = FromTerminal;
      is =
          (b.exact t FromTerminal).1 (record {
            terminal = x.terminal;
            there = b.there;
            its_own =
                ap (λ (z : List ℕ). Some z) (sym ((laws.polling x.terminal a).0 e));
          });
    }
called_addressed laws new ts t x u a sent b after answered (Selection s) e =
    record {
      way = ToTerminal s;
      is =
          (b.exact t (ToTerminal s)).1 (record {
            terminal = x.terminal;
            there = b.there;
            its_own =
                (laws.selection x.terminal a s b.distinct).0 e;
          });
    }

-- no terminal answers a call that is missed
missed_silent : (x u : TributaryValue) (h : Heard) (sent : Option Message) → AfterHearing x h u sent
    → IsMissed h → sent ≡ None
missed_silent x u Noise sent after f = (after.noise refl).1
missed_silent x u (Whole m.Eot) sent after f = (after.gives_up_line tt).1
missed_silent x u _ sent after f = absurd f

-- the premises: the terminals hear a transmission of the control station, and the line is trusted
-- after it
pub record Carried (w : Message) (hears : ℕ → Heard) (old new : LineValue) : Type 0 where
  pub line : IsLine old
  pub carried : IsCarriedDown w hears old new
  pub trusted : IsTrue new.trusted

-- terminal t answers it
pub record Answers (hears : ℕ → Heard) (old new : LineValue) (t : ℕ) : Type 0 where
  pub there : t < terminal_count old
  pub sent : IsTrue (is_some (answer_of old.terminals hears new.terminals t))

-- a message that is not a call: the addressed terminal answers
other_answers : (w : Message) (hears : ℕ → Heard) (old new : LineValue) (t : ℕ)
    → Carried w hears old new → is_call w ≡ false → Answers hears old new t
    → IsAddressed old.addressed t
other_answers w hears old new t k never a =
    let was : IsTrue old.trusted × IsHeardFairly w (terminal_count old) hears =
    k.carried.trusted.0 k.trusted in
    answers_addressed old.addressed t (terminal_at old t) (terminal_at new t) (hears t)
    (answer_of old.terminals hears new.terminals t) (k.carried.kept t a.there) a.sent
    (k.line.tuned was.0 t a.there)
    (fair_not_called w (hears t) never
    (each_fairly w (terminal_count old) hears never was.1 t a.there))

-- a call that all hear: the called terminal answers
call_answers : (laws : NamesOwn) (w : Message) (z : List ℕ) (hears : ℕ → Heard)
    (old new : LineValue) (t : ℕ) → Carried w hears old new
    → AllHear (terminal_count old) hears (m.Call z) → Answers hears old new t
    → IsAddressed new.addressed t
call_answers laws w z hears old new t k all a =
    let x : TributaryValue = terminal_at old t in
    called_addressed laws new.addressed (addresses_of old.control) t x (terminal_at new t) z
    (answer_of old.terminals hears new.terminals t)
    (record {
      exact = k.carried.addressed.called z all;
      there =
          terminal_in_directory old.control old.terminals t k.line.stations a.there;
      distinct =
          (k.line.stations.members t a.there).tributary.distinct;
    })
    (subst (λ (h : Heard). AfterHearing x h (terminal_at new t)
    (answer_of old.terminals hears new.terminals t)) (all t a.there) (k.carried.kept t a.there))
    a.sent
    (called_as x.terminal z) refl

one_terminal_addressed : (addressed : Option (ℕ × Way)) (t u : ℕ) → IsAddressed addressed t
    → IsAddressed addressed u → t ≡ u
one_terminal_addressed addressed t u a b = one_terminal_of_address addressed t u a.way b.way a.is b.is

pub one_terminal_answers : (laws : NamesOwn) (w : Message) (hears : ℕ → Heard) (old new : LineValue)
    (t u : ℕ) → Carried w hears old new → Answers hears old new t → Answers hears old new u → t ≡ u
one_terminal_answers laws w hears old new t u k a b = by_message w refl
  where
    other : is_call w ≡ false → t ≡ u
    other never =
        one_terminal_addressed old.addressed t u (other_answers w hears old new t k never a)
        (other_answers w hears old new u k never b)

    call : (z : List ℕ) → w ≡ m.Call z → t ≡ u
    call z is =
        elim (subst (λ (v : Message). IsHeardFairly v (terminal_count old) hears) is
        (k.carried.trusted.0 k.trusted).1) [
          | inl all ↦ one_terminal_addressed new.addressed t u (call_answers laws w z hears old new t k all a)
              (call_answers laws w z hears old new u k all b)
          | inr missed ↦
              absurd (no_answer_without_message (answer_of old.terminals hears new.terminals t)
              (missed_silent (terminal_at old t) (terminal_at new t) (hears t)
              (answer_of old.terminals hears new.terminals t) (k.carried.kept t a.there)
              (missed t a.there)) a.sent)
        ]

    by_message : (v : Message) → w ≡ v → t ≡ u
    by_message (m.Call z) e = call z e
    by_message m.Eot e = other (ap is_call e)
    by_message (m.Text z) e = other (ap is_call e)
    by_message m.Enq e = other (ap is_call e)
    by_message (m.Reply r) e = other (ap is_call e)
