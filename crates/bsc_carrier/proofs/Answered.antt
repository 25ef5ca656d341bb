-- Each result of a read of one record is returned exactly when it is due.
use Rattle.std.proofs.Common.{◌≡◌, ◌≤◌, Bool, true, false, List, [], ℕ, length, Option, Some, None}
use Rattle.std.proofs.Common.{Result, Ok, Err, refl, sym, ap, ◌∙◌, subst, append-nil, arith, ◌++◌}
use Rattle.bsc_carrier.specs.Front.{BeginsRecord, EndsWithin, HasWrongLength}
use Rattle.bsc_carrier.specs.Cable.{AnswersFor}
use Rattle.bsc_carrier.specs.Faults.{HasFailed}
use Rattle.bsc_carrier.specs.KnownOctets.{ReadsRecord, IsExactly}
use Rattle.bsc_carrier.specs.declared.error.CarrierError.{CarrierError}
use Rattle.bsc_carrier.specs.declared.fault.DeviceFault.{DeviceFault}
use Rattle.bsc_carrier.specs.declared.error.CarrierError.TheVariants.{Length, Short, Device}
use Rattle.bsc_carrier.specs.declared.error.CarrierError.TheVariants.{Unequal}
use Rattle.bsc_carrier.proofs.Fronts.{whole_length, not_wrong_and_right, not_whole_and_partial}
use Rattle.bsc_carrier.proofs.Fronts.{not_whole_and_wrong, has_wrong_length_append}

-- The four results of a read that did not fail.
pub record IsAnswered (result : Result Bool CarrierError) (stream : Option (List ℕ)) : Type 0 where
  pub whole : IsExactly result (result ≡ Ok true) BeginsRecord stream
  pub ended : IsExactly result (result ≡ Ok false) (λ all. all ≡ []) stream
  pub wrong : IsExactly result (result ≡ Err Length) HasWrongLength stream
  pub short : IsExactly result (result ≡ Err Short) EndsWithin stream

not_empty : (stream : List ℕ) → 1 ≤ length stream → stream ≡ [] → ⊥
not_empty stream some none = omega (arith, some, ap length none)

whole_not_empty : (stream : List ℕ) → BeginsRecord stream → stream ≡ [] → ⊥
whole_not_empty stream (octets, rest, carried, is) none =
    omega (arith, whole_length stream octets rest is, ap length none)

not_short_and_wrong : (stream : List ℕ) → EndsWithin stream → HasWrongLength stream → ⊥
not_short_and_wrong stream short wrong = not_wrong_and_right _ wrong.1 (short.1 wrong.0).0

whole_answered : (stream : List ℕ) → BeginsRecord stream → IsAnswered (Ok true) (Some stream)
whole_answered stream begins =
    record {
      whole = λ heard. (λ e. begins, λ b. refl);
      ended = λ heard. (λ e. absurd (cc), λ none. absurd (whole_not_empty stream begins none));
      wrong = λ heard. (λ e. absurd (cc), λ w. absurd (not_whole_and_wrong stream begins w));
      short = λ heard. (λ e. absurd (cc), λ s. absurd (not_whole_and_partial stream begins s.1));
    }

ended_answered : (stream : List ℕ) → stream ≡ [] → IsAnswered (Ok false) (Some stream)
ended_answered stream none =
    record {
      whole = λ heard. (λ e. absurd (cc), λ begins. absurd (whole_not_empty stream begins none));
      ended = λ heard. (λ e. none, λ n. refl);
      wrong = λ heard. (
        λ e. absurd (cc),
        λ w. absurd (not_empty stream (omega (arith, w.0)) none),
      );
      short = λ heard. (λ e. absurd (cc), λ s. absurd (not_empty stream s.0 none));
    }

wrong_answered : (stream : List ℕ) → HasWrongLength stream → IsAnswered (Err Length) (Some stream)
wrong_answered stream w =
    record {
      whole = λ heard. (λ e. absurd (cc), λ begins. absurd (not_whole_and_wrong stream begins w));
      ended = λ heard. (
        λ e. absurd (cc),
        λ none. absurd (not_empty stream (omega (arith, w.0)) none),
      );
      wrong = λ heard. (λ e. w, λ v. refl);
      short = λ heard. (λ e. absurd (cc), λ s. absurd (not_short_and_wrong stream s w));
    }

short_answered : (stream : List ℕ) → EndsWithin stream → IsAnswered (Err Short) (Some stream)
short_answered stream s =
    record {
      whole = λ heard. (λ e. absurd (cc), λ begins. absurd (not_whole_and_partial stream begins s.1));
      ended = λ heard. (λ e. absurd (cc), λ none. absurd (not_empty stream s.0 none));
      wrong = λ heard. (λ e. absurd (cc), λ w. absurd (not_short_and_wrong stream s w));
      short = λ heard. (λ e. s, λ v. refl);
    }

failed_answered : (why : DeviceFault) (stream : List ℕ) → IsAnswered (Err (Device why)) (Some stream)
failed_answered why stream =
    record {
      whole = λ heard. absurd (heard tt);
      ended = λ heard. absurd (heard tt);
      wrong = λ heard. absurd (heard tt);
      short = λ heard. absurd (heard tt);
    }

pub answered_after_read : (old new : Option (List ℕ)) (result : Result Bool CarrierError) (octets : List ℕ)
    → ReadsRecord old result octets new → IsAnswered result old
answered_after_read None new result octets read = record { whole = tt; ended = tt; wrong = tt; short = tt }
answered_after_read (Some stream) new (Ok false) octets read = ended_answered stream read.0
answered_after_read (Some stream) new (Err (Device why)) octets read = failed_answered why stream
answered_after_read (Some stream) new (Err Unequal) octets read = absurd read
answered_after_read (Some stream) None (Ok true) octets read = absurd read.1
answered_after_read (Some stream) (Some rest) (Ok true) octets read =
    whole_answered stream (octets, rest, read.0, read.1)
answered_after_read (Some stream) None (Err Length) octets (front, wrong, given) = absurd given
answered_after_read (Some stream) (Some rest) (Err Length) octets (front, wrong, given) =
    wrong_answered stream
    (subst HasWrongLength (sym given) (has_wrong_length_append front rest wrong.0))
answered_after_read (Some stream) None (Err Short) octets ((front, short, given), end) = absurd given
answered_after_read (Some stream) (Some rest) (Err Short) octets ((front, short, given), end) =
    short_answered stream
    (subst EndsWithin (sym (given ∙ ap (λ l. front ++ l) end ∙ append-nil front)) short)

-- After an error the octets of the record do not matter.
pub failed_read : (old new : Option (List ℕ)) (e : CarrierError) (octets others : List ℕ)
    → ReadsRecord old (Err e) octets new → ReadsRecord old (Err e) others new
failed_read old new Length octets others read = read
failed_read old new Short octets others read = read
failed_read old new (Device why) octets others read = read
failed_read old new Unequal octets others read = read

-- A result of `Device` says nothing of the stream.
pub device_answers : {T : Type 0} (result : Result T CarrierError) (stream : Option (List ℕ))
    → HasFailed result → AnswersFor result stream
device_answers result None failed =
    record { whole = tt; wrong = tt; short = tt; equal = λ e. subst HasFailed e failed }
device_answers result (Some all) failed =
    record {
      whole = λ heard. absurd (heard failed);
      wrong = λ heard. absurd (heard failed);
      short = λ heard. absurd (heard failed);
      equal = λ e. subst HasFailed e failed;
    }
