-- The channel that is addressed after the control station's transmission.
use Rattle.std.proofs.Common.{◌≡◌, ◌↔◌, ℕ, ◌<◌, Bool, false, IsTrue, List, Option, Some, None, refl}
use Rattle.std.proofs.Common.{sym, ◌∙◌, ap, subst}
use Rattle.bsc_frame.specs.declared.message.Message.TheVariants as m
use Rattle.bsc_frame.specs.declared.message.Heard.{Heard}
use Rattle.bsc_frame.specs.declared.message.Heard.TheVariants.{Whole}
use Rattle.bsc_bid.specs.Terminal.{TerminalValue}
use Rattle.bsc_bid.specs.declared.way.Way.{Way}
use Rattle.bsc_bid.specs.Addresses.{IsAddressOf}
use Rattle.bsc_line.specs.declared.addressing.Named.TheVariants.{Address, Nobody, Nothing}
use Rattle.bsc_line_model.specs.Trust.{AllHear, IsAddressedAfter}
use Rattle.bsc_line.specs.Naming.{named_in}

-- all terminals hear a call
pub addressed_call : (ts : List TerminalValue) (n : ℕ) (hears : ℕ → Heard)
    (old new : Option (ℕ × Way)) (a : List ℕ) → 0 < n → AllHear n hears (m.Call a)
    → ((t : ℕ) (way : Way) → (new ≡ Some (t, way)) ↔ IsAddressOf ts t way a)
    → IsAddressedAfter ts n hears old new
addressed_call ts n hears old new a some all exact =
    let here : hears 0 ≡ Whole (m.Call a) = all 0 some in
    record {
      called = λ z each t way.
          let there : hears 0 ≡ Whole (m.Call z) = each 0 some in
          let same : a ≡ z = cc in
          subst (λ (y : List ℕ). (new ≡ Some (t, way)) ↔ IsAddressOf ts t way y) same (exact t way);
      ended = λ each. let there : hears 0 ≡ Whole m.Eot = each 0 some in absurd (cc);
      other = λ f g. absurd (f a all);
    }

-- all terminals hear EOT
pub addressed_nobody : (ts : List TerminalValue) (n : ℕ) (hears : ℕ → Heard)
    (old : Option (ℕ × Way)) → 0 < n → AllHear n hears m.Eot → IsAddressedAfter ts n hears old None
addressed_nobody ts n hears old some all =
    let here : hears 0 ≡ Whole m.Eot = all 0 some in
    record {
      called = λ z each. let there : hears 0 ≡ Whole (m.Call z) = each 0 some in absurd (cc);
      ended = λ each. refl;
      other = λ f g. absurd (g all);
    }

-- not all hear a call, and not all hear EOT
pub addressed_if_no_call_or_eot : (ts : List TerminalValue) (n : ℕ) (hears : ℕ → Heard) (old : Option (ℕ × Way))
    → ((a : List ℕ) → AllHear n hears (m.Call a) → ⊥) → (AllHear n hears m.Eot → ⊥)
    → IsAddressedAfter ts n hears old old
addressed_if_no_call_or_eot ts n hears old f g =
    record {
      called = λ z each. absurd (f z each);
      ended = λ each. absurd (g each);
      other =
          λ f g. refl;
    }

-- the first terminal hears a call that not all hear
pub addressed_after_call_not_heard_by_all : (ts : List TerminalValue) (n : ℕ) (hears : ℕ → Heard) (old : Option (ℕ × Way))
    (a : List ℕ) (all : Bool) → 0 < n → Address a ≡ named_in (hears 0) → all ≡ false
    → (IsTrue all ↔ AllHear n hears (m.Call a)) → IsAddressedAfter ts n hears old old
addressed_after_call_not_heard_by_all ts n hears old a all some first not told =
    addressed_if_no_call_or_eot ts n hears old
    (λ z each.
    let there : hears 0 ≡ Whole (m.Call z) = each 0 some in
    let named : Address a ≡ Address z = first ∙ ap named_in there in
    let same : z ≡ a = cc in
    let yet : IsTrue all = told.1 (subst (λ (y : List ℕ). AllHear n hears (m.Call y)) same each) in
    cc)
    (λ each. let there : Address a ≡ Nobody = first ∙ ap named_in (each 0 some) in cc)

-- the first terminal hears an EOT that not all hear
pub addressed_after_eot_not_heard_by_all : (ts : List TerminalValue) (n : ℕ) (hears : ℕ → Heard) (old : Option (ℕ × Way))
    (all : Bool) → 0 < n → Nobody ≡ named_in (hears 0) → all ≡ false
    → (IsTrue all ↔ AllHear n hears m.Eot) → IsAddressedAfter ts n hears old old
addressed_after_eot_not_heard_by_all ts n hears old all some first not told =
    addressed_if_no_call_or_eot ts n hears old
    (λ z each. let there : Nobody ≡ Address z = first ∙ ap named_in (each 0 some) in cc)
    (λ each. let yet : IsTrue all = told.1 each in cc)

-- the first terminal hears neither
pub addressed_after_other_hearing : (ts : List TerminalValue) (n : ℕ) (hears : ℕ → Heard) (old : Option (ℕ × Way)) → 0
    < n → Nothing ≡ named_in (hears 0) → IsAddressedAfter ts n hears old old
addressed_after_other_hearing ts n hears old some first =
    addressed_if_no_call_or_eot ts n hears old
    (λ z each. let there : Nothing ≡ Address z = first ∙ ap named_in (each 0 some) in cc)
    (λ each. let there : Nothing ≡ Nobody = first ∙ ap named_in (each 0 some) in cc)

-- a transmission that names an address is its call
pub named_address : (h : Heard) (a : List ℕ) → Address a ≡ named_in h → h ≡ Whole (m.Call a)
named_address (Whole (m.Call z)) a e = let same : a ≡ z = cc in
    ap (λ (y : List ℕ). Whole (m.Call y)) (sym same)
named_address (Whole m.Eot) a e = absurd (cc)
named_address _ a e = absurd (cc)

-- a transmission that names no channel is EOT
pub named_nobody : (h : Heard) → Nobody ≡ named_in h → h ≡ Whole m.Eot
named_nobody (Whole m.Eot) e = refl
named_nobody (Whole (m.Call z)) e = absurd (cc)
named_nobody _ e = absurd (cc)
