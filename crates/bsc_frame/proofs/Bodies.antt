-- What octets are heard as, by the body that is cut out of them.
use Rattle.std.proofs.Common.{◌≡◌, ℕ, ◌<◌, ◌≤◌, Bool, true, false, cond, refl, sym, ◌∙◌, ap, List}
use Rattle.std.proofs.Common.{[], length, nat_lt}
use Rattle.std.proofs.lemmas.Bool.Decides.{nat_tests}
use Rattle.std.proofs.Common.{arith}
use Rattle.bsc_frame.specs.Reading.{skip, is_octet, trimmed, begins, control, heard}
use Rattle.bsc_octet.specs.Octet.{is_pad_octet}
use Rattle.bsc_frame.specs.Reading.{heard_body}
use Rattle.bsc_frame.specs.declared.message.Heard.TheVariants.{Noise}
use Rattle.bsc_frame.specs.declared.limits.TheConstants.{MAX_HEARD}
use Rattle.bsc_octet.specs.declared.controls.TheConstants.{SYN}
use Rattle.bsc_frame.proofs.Fronts.{skip_none, not_over_max_heard}

-- the empty body is noise
empty_is_noise : heard_body [] ≡ Noise
unfolding heard_body control
empty_is_noise = refl

-- too many octets are heard as the empty body
pub heard_too_many : (s : List ℕ) → MAX_HEARD < length s → heard s ≡ heard_body []
unfolding heard
heard_too_many s h =
    let many : nat_lt MAX_HEARD (length s) ≡ true = grind (arith, nat_tests) in
    rw many (sym empty_is_noise)

-- octets with no SYN after their pads are heard as the empty body
pub heard_no_syn : (s rest : List ℕ) (syn : Bool) → rest ≡ skip is_pad_octet s
    → syn ≡ begins (is_octet SYN) rest → syn ≡ false → heard s ≡ heard_body []
unfolding heard
heard_no_syn s rest syn e b f =
    rw (← e, ← b, f) (by_size (nat_lt MAX_HEARD (length s)))
  where
    by_size : (b : Bool) → cond b Noise Noise ≡ heard_body []
    by_size true = sym empty_is_noise
    by_size false = sym empty_is_noise

-- octets that begin with neither a pad nor SYN are heard as the empty body
pub heard_no_front : (s : List ℕ) (syn pad : Bool) → syn ≡ begins (is_octet SYN) s → syn ≡ false
    → pad ≡ begins is_pad_octet s → pad ≡ false → heard s ≡ heard_body []
heard_no_front s syn pad b f p g =
    heard_no_syn s s syn (sym (skip_none is_pad_octet s (sym p ∙ g))) b f

-- all other octets are heard as what stands between their SYN and the PAD at their end
pub heard_after_syn : (s rest body : List ℕ) (syn : Bool) → length s ≤ MAX_HEARD
    → rest ≡ skip is_pad_octet s → syn ≡ begins (is_octet SYN) rest → syn ≡ true
    → body ≡ trimmed (skip (is_octet SYN) rest) → heard s ≡ heard_body body
unfolding heard
heard_after_syn s rest body syn l e b t c =
    rw (not_over_max_heard (length s) l, ← e, ← b, t) (ap heard_body (sym c))

-- the cases without a body
pub ruleset empty_body = (heard_too_many, heard_no_front)
