-- When a line is trusted: every transmission that was spoiled failed its check, and each call of
-- the control station reached either all terminals whole or none (GA27-3004: VRC and LRC checking).
use Rattle.std.specs.Prelude.{◌≡◌, ◌⊎◌, ◌<◌, ◌↔◌, ℕ, IsTrue, Bool, true, false, List, Option, None}
use Rattle.std.specs.Prelude.{Some}
use Rattle.bsc_frame.specs.declared.message.Message.{Message}
use Rattle.bsc_frame.specs.declared.message.Message.TheVariants as m
use Rattle.bsc_frame.specs.declared.message.Heard.{Heard}
use Rattle.bsc_frame.specs.declared.message.Heard.TheVariants.{Whole, Noise}
use Rattle.bsc_bid.specs.Fair.{IsFairlyHeard}
use Rattle.bsc_bid.specs.Terminal.{TerminalValue}
use Rattle.bsc_bid.specs.declared.way.Way.{Way}
use Rattle.bsc_bid.specs.Addresses.{IsAddressOf}

-- P holds of each of the first n terminals
abbrev pub EachOf : ℕ → (ℕ → Type 0) → Type 0
EachOf n P = (t : ℕ) → t < n → P t

-- a call is missed: nothing of it is heard, or only its EOT
abbrev pub IsMissed : Heard → Type 0
IsMissed Noise = Unit {0}
IsMissed (Whole m.Eot) = Unit {0}
IsMissed _ = ⊥

-- all terminals hear this message whole
abbrev pub AllHear : ℕ → (ℕ → Heard) → Message → Type 0
AllHear n hears w = EachOf n (λ t. hears t ≡ Whole w)

-- a call is heard whole by all terminals, or missed by all
abbrev pub IsCallFair : ℕ → (ℕ → Heard) → Message → Type 0
IsCallFair n hears w = AllHear n hears w ⊎ EachOf n (λ t. IsMissed (hears t))

-- a call
abbrev pub is_call : Message → Bool
is_call (m.Call a) = true
is_call _ = false

-- what the n terminals may hear of the control station's message while the line is trusted: a call
-- is heard whole by all or by none; any other message is heard fairly by each, that is, whole or as
-- a transmission that fails its check
abbrev pub IsHeardFairly : Message → ℕ → (ℕ → Heard) → Type 0
IsHeardFairly (m.Call a) n hears = IsCallFair n hears (m.Call a)
IsHeardFairly w n hears = EachOf n (λ t. IsFairlyHeard w (hears t))

-- the line is trusted after a transmission exactly if it was before and this was heard fairly
abbrev pub IsTrustAfter : Bool → Type 0 → Bool → Type 0
IsTrustAfter old fair new = IsTrue new ↔ (IsTrue old × fair)

-- the channel that is addressed after the control station's transmission: a call that all hear
-- addresses the channel of its address, or none if no terminal has the address; an EOT that all
-- hear addresses none; any other transmission leaves the addressed channel as it was
pub record IsAddressedAfter (ts : List TerminalValue) (n : ℕ) (hears : ℕ → Heard)
    (old new : Option (ℕ × Way)) : Type 0 where
  pub called : (a : List ℕ) → AllHear n hears (m.Call a) →
      (t : ℕ) (way : Way) → (new ≡ Some (t, way)) ↔ IsAddressOf ts t way a
  pub ended : AllHear n hears m.Eot → new ≡ None
  pub other : ((a : List ℕ) → AllHear n hears (m.Call a) → ⊥) →
      (AllHear n hears m.Eot → ⊥) → new ≡ old
