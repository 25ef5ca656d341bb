-- What `decode_short` decodes without a text is what is heard.
use Rattle.std.proofs.Common.{◌≡◌, inl, inr, ℕ, true, false, refl, sym, ◌∙◌, List, drop, Option}
use Rattle.std.proofs.Common.{Some, None}
use Rattle.bsc_frame.specs.Texts.{TextValue}
use Rattle.bsc_frame.specs.Short.{IsHeard, BeginsText}
use Rattle.bsc_frame.specs.Reading.{is_octet, begins, control, heard, heard_body, whole_or_noise}
use Rattle.bsc_frame.specs.Reading.{whole_or_failed, units_at}
use Rattle.bsc_frame.specs.declared.message.Message.TheVariants.{Text}
use Rattle.bsc_frame.specs.declared.message.Heard.{Heard}
use Rattle.bsc_frame.proofs.HeardMessages.{spelled_heard, heard_spelled, failed_heard, heard_failed}
use Rattle.bsc_frame.proofs.HeardMessages.{noise_heard, heard_noise}
use Rattle.bsc_frame.specs.declared.limits.TheConstants.{MAX_UNITS}
use Rattle.bsc_octet.specs.declared.controls.TheConstants.{STX}

-- what is read from left to right is what is heard by the relations
is_heard : (octets : List ℕ) (h : Heard) → heard octets ≡ h → IsHeard octets h
is_heard octets h e = record {
  whole = λ m. (λ k. spelled_heard octets m (e ∙ k), λ s. sym e ∙ heard_spelled octets m s);
  failed = (λ k. failed_heard octets (e ∙ k), λ f. sym e ∙ heard_failed octets f);
  noise = (λ k. noise_heard octets (e ∙ k), λ n. sym e ∙ heard_noise octets n);
}

-- a body that is not a text is heard as what it reads as
pub short_is_read : (octets body : List ℕ) (h : Heard) → heard octets ≡ heard_body body
    → false ≡ begins (is_octet STX) body → h ≡ whole_or_noise (control body) → h ≡ heard octets
unfolding heard_body
short_is_read octets body h e n k = sym (e ∙ rw (← n) (sym k))

-- so it is heard as that by the relations
pub short_is_heard : (octets body : List ℕ) (h : Heard) → heard octets ≡ heard_body body
    → false ≡ begins (is_octet STX) body → h ≡ whole_or_noise (control body) → IsHeard octets h
short_is_heard octets body h e n k = is_heard octets h (sym (short_is_read octets body h e n k))

-- a body that begins with STX is a text, or failed as one
pub text_begins : (octets body : List ℕ) → heard octets ≡ heard_body body → true
    ≡ begins (is_octet STX) body
    → BeginsText octets
unfolding heard_body
text_begins octets body e b = by_units (units_at MAX_UNITS false (drop 1 body)) (e ∙ rw (← b) refl)
  where
    by_units : (o : Option TextValue) → heard octets ≡ whole_or_failed o → BeginsText octets
    by_units None k = inr (failed_heard octets k)
    by_units (Some t) k = inl (t, spelled_heard octets (Text t) k)
