-- The cause of an error of a call that reads at every end.
use Rattle.std.proofs.Common.{◌≡◌, ℕ, ◌≤◌, List, length, get_or, drop, Option, Some, None, Err, refl}
use Rattle.std.specs.Prelude.{Result, IfSome, IsErrOf}
use Rattle.std.specs.List.{Any}
use Rattle.std.specs.Io.KnownBytes.{Consumes}
use Rattle.bsc_carrier.specs.Record.{IsCarried, socket_record}
use Rattle.bsc_carrier.specs.Front.{IsPartial, HasWrongLength}
use Rattle.bsc_carrier.specs.Faults.{HasFailed}
use Rattle.bsc_carrier.specs.KnownOctets.{IsExactly}
use Rattle.bsc_carrier.specs.Cable.{AnswersFor, BeginsWith, BeginsOther, Explains}
use Rattle.bsc_carrier.specs.declared.error.CarrierError.{CarrierError}
use Rattle.bsc_carrier.specs.declared.error.CarrierError.TheVariants.{Length, Short, Device}
use Rattle.bsc_carrier.specs.declared.error.CarrierError.TheVariants.{Unequal}
use Rattle.bsc_carrier.proofs.Places.{Any-later, Any-first}

-- A stream that gave a record began with it.
pub begins_with_given : (octets : List ℕ) (old new : Option (List ℕ)) → IsCarried octets
    → Consumes old new (socket_record octets) → BeginsWith octets old
begins_with_given octets None new carried given = (carried, tt)
begins_with_given octets (Some all) None carried given = absurd given
begins_with_given octets (Some all) (Some rest) carried given = (carried, (rest, given))

-- The first end gave a record, and an end after it did not give the same one.
pub explains_later : {S : Type 0} (remaining : S → Option (List ℕ)) (ends : List S)
    (octets : List ℕ) (d : S) (e : CarrierError)
    → 1 ≤ length ends → BeginsWith octets (remaining (get_or ends 0 d))
    → (IsErrOf {T = Unit {0}} (Err e) Length
    → Any (λ end. IfSome (remaining end) HasWrongLength) (drop 1 ends))
    → (IsErrOf {T = Unit {0}} (Err e) Short
    → Any (λ end. IfSome (remaining end) IsPartial) (drop 1 ends))
    → (IsErrOf {T = Unit {0}} (Err e) Unequal → BeginsOther remaining octets (drop 1 ends))
    → Explains remaining e ends
explains_later remaining ends octets d Length some first wrong short unequal =
    Any-later (λ end. IfSome (remaining end) HasWrongLength) ends (wrong refl)
explains_later remaining ends octets d Short some first wrong short unequal =
    Any-later (λ end. IfSome (remaining end) IsPartial) ends (short refl)
explains_later remaining ends octets d (Device why) some first wrong short unequal = tt
explains_later remaining ends octets d Unequal some first wrong short unequal =
    let (other, differs, found) = unequal refl in (
      octets,
      Any-first (λ end. BeginsWith octets (remaining end)) ends d some first,
      (other, differs, Any-later (λ end. BeginsWith other (remaining end)) ends found),
    )

-- What the error of the first end says of the stream that it had left.
told_first : (result : Result (Unit {0}) CarrierError) (e : CarrierError) (P : List ℕ → Type 0)
    (stream : Option (List ℕ)) → result ≡ Err e → (HasFailed result → ⊥)
    → IsExactly result (result ≡ Err e) P stream → IfSome stream P
told_first result e P None is heard exact = tt
told_first result e P (Some all) is heard exact = (exact heard).0 is

-- The first end gave no record.
pub explains_first : {S : Type 0} (remaining : S → Option (List ℕ)) (ends : List S) (d : S)
    (e : CarrierError) → 1 ≤ length ends
    → AnswersFor {T = Unit {0}} (Err e) (remaining (get_or ends 0 d)) → Explains remaining e ends
explains_first remaining ends d Length some answers =
    Any-first (λ end. IfSome (remaining end) HasWrongLength) ends d some
    (told_first (Err Length) Length HasWrongLength _ refl (λ failed. failed) answers.wrong)
explains_first remaining ends d Short some answers =
    Any-first (λ end. IfSome (remaining end) IsPartial) ends d some
    (told_first (Err Short) Short IsPartial _ refl (λ failed. failed) answers.short)
explains_first remaining ends d (Device why) some answers = tt
explains_first remaining ends d Unequal some answers = absurd (answers.equal refl)
