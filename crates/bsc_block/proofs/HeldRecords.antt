-- The records that units hold.
use Rattle.std.proofs.Common.{◌≡◌, ℕ, ◌+◌, ◌≤◌, ◌∙◌, arith, refl, ap, List, [], ◌∷◌, ◌++◌, take}
use Rattle.std.proofs.Common.{map, true}
use Rattle.std.proofs.Common.{false, slice_get, Some}
use Rattle.std.proofs.lemmas.List.{append-nil, map-append, take_more}
use Rattle.std.proofs.lemmas.Option.{slice_get_within, get_or_from_slice_get}
use Rattle.std.proofs.lemmas.List.Elements.{filter-append}
use Rattle.std.proofs.lemmas.Bool.Decides.{nat_tests}
use Rattle.std.specs.List.{AllByRecursion}
use Rattle.bsc_frame.specs.Texts.{TextUnit, IsUnit}
use Rattle.bsc_block.specs.Records.{IsRecord}
use Rattle.bsc_frame.proofs.Elements.{all_slice_get}
use Rattle.bsc_block.specs.Blocks.{unit_of, holds_record, records_in}

pub records_in_append : (us vs : List TextUnit) → records_in (us ++ vs) ≡ records_in us
    ++ records_in vs
records_in_append us vs = rw (filter-append holds_record us vs, map-append) refl

-- A unit that is built for a record holds it.
built_unit_holds_record : (full : ℕ) (r : List ℕ) → 1 ≤ full → holds_record (unit_of full r) ≡ true
built_unit_holds_record full [] l = grind (arith, nat_tests)
built_unit_holds_record full (c ∷ r) l = grind (arith, nat_tests)

pub records_in_units : (full : ℕ) (rs : List (List ℕ)) → 1 ≤ full
    → records_in (map (unit_of full) rs) ≡ rs
records_in_units full [] l = refl
records_in_units full (r ∷ rs) l =
    rw (built_unit_holds_record full r l) (ap (λ rest. r ∷ rest) (records_in_units full rs l))

-- The records of the first units, with one more unit.
records_of_one_more_unit : (us : List TextUnit) (i : ℕ) (u : TextUnit) → slice_get us i ≡ Some u
    → records_in (take (i + 1) us) ≡ records_in (take i us) ++ records_in (u ∷ [])
records_of_one_more_unit us i u e =
    let front : take (i + 1) us ≡ take i us ++ u ∷ [] =
    take_more us i u (slice_get_within us i u e)
    ∙ ap (λ v. take i us ++ v ∷ []) (get_or_from_slice_get us i u u e) in
    rw front (records_in_append (take i us) (u ∷ []))

pub records_in_held : (us : List TextUnit) (i : ℕ) (u : TextUnit) → slice_get us i ≡ Some u
    → holds_record u ≡ true → records_in (take (i + 1) us) ≡ records_in (take i us) ++ u.chars ∷ []
records_in_held us i u e h = rw (records_of_one_more_unit us i u e, h) refl

pub records_in_empty : (us : List TextUnit) (i : ℕ) (u : TextUnit) → slice_get us i ≡ Some u
    → holds_record u ≡ false → records_in (take (i + 1) us) ≡ records_in (take i us)
records_in_empty us i u e h = rw (records_of_one_more_unit us i u e, h) (append-nil (records_in (take i us)))

-- The characters of a unit of a text are those of a record.
pub unit_is_record : (us : List TextUnit) (i : ℕ) (u : TextUnit) → AllByRecursion IsUnit us
    → slice_get us i ≡ Some u → IsRecord u.chars
unit_is_record us i u h e =
    let k : IsUnit u = all_slice_get IsUnit us i u h e in
    record { most = k.most; each = k.each }
