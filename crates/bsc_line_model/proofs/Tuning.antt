-- On a trusted line, at most one terminal is out of control mode, and it is the addressed one.
use Rattle.std.proofs.Common.{◌≡◌, ◌≢◌, ◌⊎◌, inl, inr, ◌↔◌, ℕ, ◌<◌, Bool, true, false, List, Option}
use Rattle.std.proofs.Common.{Some, slice_get, refl, sym, ap, subst}
use Rattle.bsc_frame.specs.declared.message.Message.{Message}
use Rattle.bsc_frame.specs.declared.message.Message.TheVariants as m
use Rattle.bsc_frame.specs.declared.message.Heard.{Heard}
use Rattle.bsc_frame.specs.declared.message.Heard.TheVariants.{Whole, Failed, Noise}
use Rattle.bsc_bid.specs.Fair.{IsFairlyHeard, IsCallCutShort}
use Rattle.bsc_bid.specs.Terminal.{TerminalValue}
use Rattle.bsc_tributary.specs.declared.called.Called.{Called}
use Rattle.bsc_tributary.specs.declared.called.Called.TheVariants.{Polling, Selection, Other}
use Rattle.bsc_tributary.specs.declared.mode.Mode.{Mode}
use Rattle.bsc_tributary.specs.declared.mode.Mode.TheVariants.{Control}
use Rattle.bsc_tributary.specs.Called.{called_as}
use Rattle.bsc_bid.specs.Terminal.{HasDistinctAddresses}
use Rattle.bsc_tributary.specs.Tributary.{TributaryValue}
use Rattle.bsc_tributary.specs.Kept.{IsModeCalled, IsModeAfter}
use Rattle.bsc_bid.specs.declared.way.Way.{Way}
use Rattle.bsc_bid.specs.declared.way.Way.TheVariants.{FromTerminal, ToTerminal}
use Rattle.bsc_bid.specs.Addresses.{IsAddressOf}
use Rattle.bsc_line_model.specs.Trust.{EachOf, IsMissed, IsHeardFairly, is_call, IsAddressedAfter}
use Rattle.bsc_line_model.specs.Kept.{IsTuned}

-- which of a terminal's addresses a call names, as the law of the terminals says
pub record NamesOwn : Type 0 where
  pub polling : (t : TerminalValue) (address : List ℕ)
      → (called_as t address ≡ Polling) ↔ (address ≡ t.poll)
  pub selection : (t : TerminalValue) (address : List ℕ) (s : ℕ) → HasDistinctAddresses t
      → (called_as t address ≡ Selection s) ↔ (slice_get t.selects s ≡ Some address)

abbrev Addressed : Type 0
Addressed = Option (ℕ × Way)

-- control mode is always allowed
in_control_mode : (new : Addressed) (t : ℕ) (mode : Mode) → mode ≡ Control → IsTuned new t mode
in_control_mode new t mode e = subst (λ (k : Mode). IsTuned new t k) (sym e) tt

-- a terminal that was called
pub record IsCalledBy (new : Addressed) (ts : List TerminalValue) (t : ℕ) (x : TerminalValue)
    (a : List ℕ) : Type 0 where
  pub exact : (u : ℕ) (way : Way) → (new ≡ Some (u, way)) ↔ IsAddressOf ts u way a
  pub there : slice_get ts t ≡ Some x
  pub distinct : HasDistinctAddresses x

called_tuned : (laws : NamesOwn) (new : Addressed) (ts : List TerminalValue) (t : ℕ)
    (x : TerminalValue) (a : List ℕ) (mode : Mode) → IsCalledBy new ts t x a →
    (called : Called) → called_as x a ≡ called → IsModeCalled called mode → IsTuned new t mode
called_tuned laws new ts t x a mode b Other e k = in_control_mode new t mode k
called_tuned laws new ts t x a mode b Polling e (inl k) = in_control_mode new t mode k
called_tuned laws new ts t x a mode b Polling e (inr k) =
    subst (λ (n : Mode). IsTuned new t n) (sym k)
    ((b.exact t FromTerminal).1 (record {
      terminal = x;
      there = b.there;
      its_own =
          ap (λ (z : List ℕ). Some z) (sym ((laws.polling x a).0 e));
    }))
called_tuned laws new ts t x a mode b (Selection s) e (inl k) = in_control_mode new t mode k
called_tuned laws new ts t x a mode b (Selection s) e (inr k) =
    subst (λ (n : Mode). IsTuned new t n) (sym k)
    ((b.exact t (ToTerminal s)).1 (record {
      terminal = x;
      there = b.there;
      its_own =
          (laws.selection x a s b.distinct).0 e;
    }))

-- a transmission that is not a call
abbrev pub IsNotCalled : Heard → Type 0
IsNotCalled h = (a : List ℕ) → h ≡ Whole (m.Call a) → ⊥

-- the mode stays, and so does the addressed channel
kept_tuned : (old new : Addressed) (t : ℕ) (was mode : Mode) → ((mode ≡ Control) ⊎ (mode ≡ was))
    → IsTuned old t was → new ≡ old → IsTuned new t mode
kept_tuned old new t was mode (inl e) k same = in_control_mode new t mode e
kept_tuned old new t was mode (inr e) k same =
    subst (λ (n : Mode). IsTuned new t n) (sym e)
    (subst (λ (o : Addressed). IsTuned o t was) (sym same) k)

-- if a terminal hears neither a call nor EOT, the addressed channel stays
same_addressed : (ts : List TerminalValue) (n : ℕ) (hears : ℕ → Heard) (old new : Addressed) (t : ℕ)
    → t < n → IsAddressedAfter ts n hears old new → IsNotCalled (hears t) → hears t ≢ Whole m.Eot
    → new ≡ old
same_addressed ts n hears old new t less a no_call no_eot =
    a.other (λ z all. no_call z (all t less)) (λ all. no_eot (all t less))

not_called_tuned : (ts : List TerminalValue) (n : ℕ) (hears : ℕ → Heard) (old new : Addressed)
    (t : ℕ) (x : TributaryValue) (mode : Mode) → t < n → IsAddressedAfter ts n hears old new
    → IsTuned old t x.mode →
    (h : Heard) → hears t ≡ h → IsNotCalled h → IsModeAfter x h mode → IsTuned new t mode
not_called_tuned ts n hears old new t x mode less a k (Whole m.Eot) e never after =
    in_control_mode new t mode after
not_called_tuned ts n hears old new t x mode less a k (Whole (m.Call z)) e never after =
    absurd (never z refl)
not_called_tuned ts n hears old new t x mode less a k (Whole (m.Text z)) e never after =
    kept_tuned old new t x.mode mode after k
    (same_addressed ts n hears old new t less a (λ z f. cc) (λ f. cc))
not_called_tuned ts n hears old new t x mode less a k (Whole m.Enq) e never after =
    kept_tuned old new t x.mode mode after k
    (same_addressed ts n hears old new t less a (λ z f. cc) (λ f. cc))
not_called_tuned ts n hears old new t x mode less a k (Whole (m.Reply r)) e never after =
    kept_tuned old new t x.mode mode after k
    (same_addressed ts n hears old new t less a (λ z f. cc) (λ f. cc))
not_called_tuned ts n hears old new t x mode less a k Failed e never after =
    kept_tuned old new t x.mode mode after k
    (same_addressed ts n hears old new t less a (λ z f. cc) (λ f. cc))
not_called_tuned ts n hears old new t x mode less a k Noise e never after =
    kept_tuned old new t x.mode mode after k
    (same_addressed ts n hears old new t less a (λ z f. cc) (λ f. cc))

-- a message that is not a call is not heard as a call, if it is heard fairly
not_cut : (w : Message) (a : List ℕ) → IsCallCutShort w (m.Call a) → ⊥
not_cut (m.Call z) a h = h
not_cut m.Eot a h = h
not_cut (m.Text z) a h = h
not_cut m.Enq a h = h
not_cut (m.Reply r) a h = h

pub fair_not_called : (w : Message) (h : Heard) → is_call w ≡ false → IsFairlyHeard w h
    → IsNotCalled h
fair_not_called w (Whole v) never (inl e) a f = let same : w ≡ m.Call a = cc in
    let is_one : is_call w ≡ true = ap is_call same in cc
fair_not_called w (Whole v) never (inr e) a f = let same : v ≡ m.Call a = cc in
    not_cut w a (subst (λ (z : Message). IsCallCutShort w z) same e)
fair_not_called w Failed never f a e = cc
fair_not_called w Noise never f a e = cc

missed_not_called : (h : Heard) → IsMissed h → IsNotCalled h
missed_not_called Noise f a e = cc
missed_not_called Failed f a e = cc
missed_not_called (Whole m.Eot) f a e = cc
missed_not_called (Whole (m.Call z)) f a e = absurd f
missed_not_called (Whole (m.Text z)) f a e = absurd f
missed_not_called (Whole m.Enq) f a e = absurd f
missed_not_called (Whole (m.Reply r)) f a e = absurd f

-- a message that is not a call, heard fairly
pub each_fairly : (w : Message) (n : ℕ) (hears : ℕ → Heard) → is_call w ≡ false
    → IsHeardFairly w n hears → EachOf n (λ t. IsFairlyHeard w (hears t))
each_fairly (m.Call a) n hears never f = absurd (cc)
each_fairly m.Eot n hears never f = f
each_fairly (m.Text z) n hears never f = f
each_fairly m.Enq n hears never f = f
each_fairly (m.Reply r) n hears never f = f

-- a terminal of the line before the transmission
pub record WasTuned (ts : List TerminalValue) (old : Addressed) (t : ℕ) (x : TributaryValue) : Type
    0 where
  pub there : slice_get ts t ≡ Some x.terminal
  pub distinct : HasDistinctAddresses x.terminal
  pub tuned : IsTuned old t x.mode

-- after a transmission of the control station that was heard fairly
pub down_tuned : (laws : NamesOwn) (w : Message) (ts : List TerminalValue) (n : ℕ)
    (hears : ℕ → Heard) (old new : Addressed) (t : ℕ) (x : TributaryValue) (mode : Mode) → t < n
    → IsHeardFairly w n hears → IsAddressedAfter ts n hears old new →
    WasTuned ts old t x → IsModeAfter x (hears t) mode → IsTuned new t mode
down_tuned laws w ts n hears old new t x mode less fair a k after = by_call (is_call w) refl
  where
    other : is_call w ≡ false → IsTuned new t mode
    other never =
        not_called_tuned ts n hears old new t x mode less a k.tuned (hears t) refl
        (fair_not_called w (hears t) never (each_fairly w n hears never fair t less)) after

    call : (z : List ℕ) → w ≡ m.Call z → IsTuned new t mode
    call z is =
        elim (subst (λ (v : Message). IsHeardFairly v n hears) is fair) [
          | inl all ↦
              called_tuned laws new ts t x.terminal z mode
              (record { exact = a.called z all; there = k.there; distinct = k.distinct })
              (called_as x.terminal z) refl (subst (λ (h : Heard). IsModeAfter x h mode)
              (all t less) after)
          | inr missed ↦
              not_called_tuned ts n hears old new t x mode less a k.tuned (hears t) refl
              (missed_not_called (hears t) (missed t less)) after
        ]

    which : (v : Message) → w ≡ v → is_call v ≡ true → IsTuned new t mode
    which (m.Call z) e is_one = call z e
    which m.Eot e is_one = absurd (cc)
    which (m.Text z) e is_one = absurd (cc)
    which m.Enq e is_one = absurd (cc)
    which (m.Reply r) e is_one = absurd (cc)

    by_call : (b : Bool) → is_call w ≡ b → IsTuned new t mode
    by_call true e = which w refl e
    by_call false e = other e
