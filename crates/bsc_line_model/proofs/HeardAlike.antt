-- If all terminals hear the same, trust requires of it what it requires of one hearing.
use Rattle.std.proofs.Common.{inl, inr, ℕ, ◌<◌, List, refl, sym, ap, subst}
use Rattle.bsc_frame.specs.declared.message.Message.{Message}
use Rattle.bsc_frame.specs.declared.message.Message.TheVariants as m
use Rattle.bsc_frame.specs.declared.message.Heard.{Heard}
use Rattle.bsc_frame.specs.declared.message.Heard.TheVariants.{Whole, Failed, Noise}
use Rattle.bsc_bid.specs.Fair.{IsFairlyHeard, IsCallCutShort}
use Rattle.bsc_line_model.specs.Hearing.{all_hear}
use Rattle.bsc_line_model.specs.Trust.{IsMissed, IsCallFair, IsHeardFairly}

-- a call of which EOT is heard is missed
cut_is_missed : (z : List ℕ) (v : Message) → IsCallCutShort (m.Call z) v → IsMissed (Whole v)
cut_is_missed z m.Eot f = tt
cut_is_missed z _ f = absurd f

call_fair : (z : List ℕ) (n : ℕ) (h : Heard) → IsFairlyHeard (m.Call z) h
    → IsCallFair n (all_hear h) (m.Call z)
call_fair z n (Whole v) (inl e) = inl (λ t less. ap (λ (x : Message). Whole x) e)
call_fair z n (Whole v) (inr f) = inr (λ t less. cut_is_missed z v f)
call_fair z n Failed f = absurd f
call_fair z n Noise f = inr (λ t less. tt)

pub alike_is_fair : (w : Message) (n : ℕ) (h : Heard) → IsFairlyHeard w h
    → IsHeardFairly w n (all_hear h)
alike_is_fair (m.Call z) n h f = call_fair z n h f
alike_is_fair m.Eot n h f = λ t less. f
alike_is_fair (m.Text z) n h f = λ t less. f
alike_is_fair m.Enq n h f = λ t less. f
alike_is_fair (m.Reply r) n h f = λ t less. f

-- and conversely
missed_is_fair : (z : List ℕ) (h : Heard) → IsMissed h → IsFairlyHeard (m.Call z) h
missed_is_fair z Noise f = tt
missed_is_fair z (Whole m.Eot) f = inr tt
missed_is_fair z _ f = absurd f

pub fair_is_alike : (w : Message) (n : ℕ) (h : Heard) → 0 < n → IsHeardFairly w n (all_hear h)
    → IsFairlyHeard w h
fair_is_alike (m.Call z) n h some (inl all) =
    subst (λ (g : Heard). IsFairlyHeard (m.Call z) g) (sym (all 0 some)) (inl refl)
fair_is_alike (m.Call z) n h some (inr missed) = missed_is_fair z h (missed 0 some)
fair_is_alike m.Eot n h some f = f 0 some
fair_is_alike (m.Text z) n h some f = f 0 some
fair_is_alike m.Enq n h some f = f 0 some
fair_is_alike (m.Reply r) n h some f = f 0 some
