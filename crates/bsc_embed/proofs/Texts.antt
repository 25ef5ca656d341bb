-- The units of a text in the storage of the caller.
use Rattle.std.proofs.Common.{◌≡◌, ◌⊎◌, inl, inr, ℕ, ◌≤◌, ◌<◌, ◌+◌, zero, suc, ◌&&◌, nat_le, Bool}
use Rattle.std.proofs.Common.{true}
use Rattle.std.proofs.Common.{false, refl, arith, List, [], ◌∷◌, ◌++◌, length, take, get_or, set}
use Rattle.std.proofs.Common.{Option}
use Rattle.std.proofs.Common.{Some, None, length-take, slice_get, map}
use Rattle.std.specs.List.{AllByRecursion}
use Rattle.std.proofs.lemmas.List.{take_more, take_more_set, get_or-take, map-append, take_all}
use Rattle.std.proofs.lemmas.Option.{get_or_from_slice_get, slice_get_within}
use Rattle.std.proofs.lemmas.Bool.Decides.{nat_tests}
use Rattle.bsc_frame.specs.Texts.{TextUnit, TextValue, IsUnit}
use Rattle.bsc_frame.specs.Units.{text_unit}
use Rattle.bsc_frame.specs.declared.text.End.{End}
use Rattle.bsc_frame.specs.declared.text.Unit.{Unit as Lent}
use Rattle.bsc_embed.specs.Contents.{unit_in, units_in, before_unit, end_at, text_in}
use Rattle.bsc_embed.specs.declared.content.Content.{Content}
use Rattle.bsc_embed.specs.declared.content.StoredUnit.{StoredUnit}
use Rattle.bsc_embed.proofs.Units.{unit_is}
use Rattle.bsc_frame.specs.declared.limits.TheConstants.{MAX_UNITS}

push_step : (o : Option TextUnit) (r q : Option (List TextUnit)) (us : List TextUnit) (u : TextUnit)
    → before_unit o r ≡ Some us
    → ((vs : List TextUnit) → r ≡ Some vs → q ≡ Some (vs ++ u ∷ [])) → before_unit o q
    ≡ Some (us ++ u ∷ [])
push_step None r q us u e f = cc
push_step (Some v) None q us u e f = cc
push_step (Some v) (Some vs) q us u e f =
    let k : us ≡ v ∷ vs = cc in
    rw (f vs refl, k) refl

units_push : (ss : List StoredUnit) (us : List TextUnit) (s : StoredUnit) (u : TextUnit)
    → units_in ss ≡ Some us → unit_in s ≡ Some u → units_in (ss ++ s ∷ []) ≡ Some (us ++ u ∷ [])
units_push [] us s u a b =
    let k : us ≡ [] = cc in
    rw (b, k) refl
units_push (t ∷ ss) us s u a b =
    push_step (unit_in t) (units_in ss) (units_in (ss ++ s ∷ [])) us u a
    (λ vs e. units_push ss vs s u e b)

before_none : (o : Option TextUnit) → before_unit o None ≡ None
before_none None = refl
before_none (Some u) = refl

units_none : (ss : List StoredUnit) (i : ℕ) (d : StoredUnit) → i < length ss
    → unit_in (get_or ss i d) ≡ None
    → units_in ss ≡ None
units_none [] i d l e = absurd (omega arith)
units_none (s ∷ ss) zero d l e = rw e refl
units_none (s ∷ ss) (suc i) d l e = rw (units_none ss i d (omega arith) e) (before_none (unit_in s))

units_step : (s : StoredUnit) (o : Option TextUnit) (r : Option (List TextUnit))
    (us : List TextUnit)
    → unit_in s ≡ o → before_unit o r ≡ Some us
    → ((vs : List TextUnit) → r ≡ Some vs → AllByRecursion IsUnit vs) → AllByRecursion IsUnit us
units_step s None r us e h f = cc
units_step s (Some u) None us e h f = cc
units_step s (Some u) (Some vs) us e h f =
    let k : us ≡ u ∷ vs = cc in
    rw k (unit_is s u e, f vs refl)

-- What is stored are units.
pub units_are : (ss : List StoredUnit) (us : List TextUnit) → units_in ss ≡ Some us
    → AllByRecursion IsUnit us
units_are [] us e =
    let k : us ≡ [] = cc in
    rw k tt
units_are (s ∷ ss) us e = units_step s (unit_in s) (units_in ss) us refl e (units_are ss)

unit_count_test_passes : (n : ℕ) → 0 < n → n ≤ MAX_UNITS → (nat_le 1 n && nat_le n MAX_UNITS) ≡ true
unit_count_test_passes n l m = grind (arith, nat_tests)

unit_count_test_fails : (n : ℕ) → (n ≡ 0) ⊎ (MAX_UNITS < n) → (nat_le 1 n && nat_le n MAX_UNITS) ≡ false
unit_count_test_fails n (inl e) = rw e refl
unit_count_test_fails n (inr l) = let t : nat_le n MAX_UNITS ≡ false = grind (arith, nat_tests) in
    rw t (and_false (nat_le 1 n))
  where
    and_false : (b : Bool) → (b && false) ≡ false
    and_false true = refl
    and_false false = refl

-- The units and the end are the text.
pub text_here : (c : Content) (t : TextValue) → 0 < c.count → c.count ≤ MAX_UNITS → end_at c.end
    ≡ Some t.end
    → units_in (take c.count c.units) ≡ Some t.units
    → text_in c ≡ Some t
unfolding text_in
text_here c t l m h k = rw (unit_count_test_passes c.count l m, h, k) refl

-- No text: the count is 0 or too large.
pub text_not_counted : (c : Content) → (c.count ≡ 0) ⊎ (MAX_UNITS < c.count) → text_in c ≡ None
unfolding text_in
text_not_counted c h = rw (unit_count_test_fails c.count h) refl

-- No text: the end is wrong.
pub text_not_ended : (c : Content) → 0 < c.count → c.count ≤ MAX_UNITS → end_at c.end ≡ None
    → text_in c ≡ None
unfolding text_in
text_not_ended c l m h = rw (unit_count_test_passes c.count l m, h) refl

-- No text: one of the units is wrong.
pub text_not_unit : (c : Content) (e : End) (i : ℕ) (d : StoredUnit) → 0 < c.count → c.count
    ≤ MAX_UNITS
    → end_at c.end ≡ Some e → i < c.count → c.count ≤ length c.units
    → unit_in (get_or c.units i d) ≡ None → text_in c ≡ None
unfolding text_in
text_not_unit c e i d l m h j n k =
    let at : unit_in (get_or (take c.count c.units) i d) ≡ None =
    rw (get_or-take c.count c.units i d j) k in
    rw (
      unit_count_test_passes c.count l m,
      h,
      units_none (take c.count c.units) i d
          (omega (arith, length-take c.count c.units)) at,
    ) refl

-- One more unit is stored at the end.
pub units_put : (ss : List StoredUnit) (us : List TextUnit) (i : ℕ) (s : StoredUnit) (u : TextUnit)
    → i < length ss
    → units_in (take i ss) ≡ Some (take i us) → unit_in s ≡ Some u → slice_get us i ≡ Some u
    → units_in (take (i + 1) (set ss i s)) ≡ Some (take (i + 1) us)
units_put ss us i s u l h k e =
    let m : i < length us = slice_get_within us i u e in
    rw (take_more_set ss i s l, take_more us i u m, get_or_from_slice_get us i u u e)
    (units_push (take i ss) (take i us) s u h k)

-- One more unit is read.
pub units_taken : (ss : List StoredUnit) (ls : List Lent) (i : ℕ) (d : StoredUnit) (u : Lent) → i
    < length ss
    → i < length ls
    → units_in (take i ss) ≡ Some (map text_unit (take i ls)) → unit_in (get_or ss i d)
    ≡ Some (text_unit u)
    → units_in (take (i + 1) ss) ≡ Some (map text_unit (take (i + 1) (set ls i u)))
units_taken ss ls i d u l m h k =
    rw (take_more ss i d l, take_more_set ls i u m, map-append text_unit (take i ls) (u ∷ []))
    (units_push (take i ss) (map text_unit (take i ls)) (get_or ss i d) (text_unit u) h k)

-- At the end every unit is stored.
pub units_all : (ss : List StoredUnit) (us : List TextUnit) (i n : ℕ) → i ≡ n → n ≡ length us
    → units_in (take i ss) ≡ Some (take i us) → units_in (take n ss) ≡ Some us
units_all ss us i n e l h =
    let whole : take n us ≡ us = take_all n us (omega arith) in
    rw (← whole) (rw e at h)

-- At the end every unit is read.
pub units_read : (ss : List StoredUnit) (ls : List Lent) (i n : ℕ) → i ≤ n → n ≤ i
    → units_in (take i ss) ≡ Some (map text_unit (take i ls))
    → units_in (take n ss) ≡ Some (map text_unit (take n ls))
units_read ss ls i n l m h =
    let e : i ≡ n = omega arith in
    rw e at h
