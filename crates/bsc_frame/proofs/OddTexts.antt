-- Each octet of what a text spells has odd parity.
use Rattle.std.proofs.Common.{◌≡◌, ℕ, ◌<◌, Bool, true, false, refl, arith, List, [], ◌∷◌, ◌++◌}
use Rattle.std.proofs.Common.{Option, Some}
use Rattle.std.proofs.Common.{None, All}
use Rattle.std.specs.List.{AllByRecursion}
use Rattle.std.proofs.lemmas.List.Elements.{All-from_recursion}
use Rattle.bsc_octet.specs.Octet.{odd_octet, longitudinal_sum, IsOdd}
use Rattle.bsc_octet.proofs.OddOctets.{is_odd_odd_octet}
use Rattle.bsc_octet.proofs.Sums.{longitudinal_sum_lt}
use Rattle.bsc_frame.specs.Texts.{TextUnit, TextValue, IsUnit}
use Rattle.bsc_frame.specs.Units.{unit_codes, ending}
use Rattle.bsc_frame.specs.Spells.{AreAll, AreFilled, AreUnits}
use Rattle.bsc_frame.specs.Reading.{units_at, whole_or_failed}
use Rattle.bsc_frame.specs.declared.text.End.{End}
use Rattle.bsc_frame.specs.declared.message.Heard.TheVariants.{Failed}
use Rattle.bsc_frame.proofs.Units.{run_unit, run_start}
use Rattle.bsc_frame.proofs.TextUnits.{units_at_reads, ending_is}
use Rattle.bsc_frame.proofs.Gathering.{IsRun}
use Rattle.std.specs.Int.Count.{ones}
use Rattle.bsc_frame.specs.declared.limits.TheConstants.{MAX_UNITS}
use Rattle.bsc_octet.specs.declared.controls.TheConstants.{SYN}
use Rattle.bsc_octet.proofs.Elements.{all_append}

pub syn_odd : IsOdd SYN
unfolding odd_octet ones
syn_odd = is_odd_odd_octet SYN (omega arith)

-- fill has odd parity
pub fill_odd : (fill : List ℕ) → AreAll SYN fill → AllByRecursion IsOdd fill
fill_odd [] h = tt
fill_odd (x ∷ fill) h = (rw h.0 syn_odd, fill_odd fill h.1)

-- codes that are carried, with fill, have odd parity
filled_odd : (codes front : List ℕ) → AreFilled codes front → AllByRecursion (λ c. c < 128) codes
    → AllByRecursion IsOdd front
filled_odd [] front f h = rw f tt
filled_odd (c ∷ cs) front f h =
    rw f.3 (all_append IsOdd f.0 (odd_octet c ∷ f.1) (fill_odd f.0 f.2)
    (is_odd_odd_octet c h.0, filled_odd cs f.1 f.4 h.1))

-- the codes of a unit are below 128
run_small : (codes : List ℕ) → IsRun codes → AllByRecursion (λ c. c < 128) codes
run_small [] r = absurd r
run_small (c ∷ []) r = (r.0.code, tt)
run_small (c ∷ d ∷ cs) r = (r.0.code, run_small (d ∷ cs) r.2)

-- the octets of units have odd parity
pub units_odd : (after_us : Bool) (us : List TextUnit) (end : End) (octets : List ℕ)
    → AreUnits after_us us end octets → AllByRecursion IsUnit us → AllByRecursion IsOdd octets
units_odd after_us [] end octets a h = rw a tt
units_odd after_us (u ∷ us) end octets a h =
    let run : IsRun (a.0 ++ unit_codes u (ending us end)) =
    run_start after_us a.0 (unit_codes u (ending us end)) a.3
    (run_unit u (ending us end) h.0 (ending_is us end)) in
    rw a.5 (all_append IsOdd a.1 (odd_octet (longitudinal_sum (a.0 ++ unit_codes u (ending us end)))
    ∷ a.2) (filled_odd _ a.1 a.4 (run_small _ run)) (
      is_odd_odd_octet (longitudinal_sum (a.0 ++ unit_codes u (ending us end)))
          (longitudinal_sum_lt (a.0 ++ unit_codes u (ending us end))),
      units_odd true us end a.2 a.6 h.1,
    ))

-- if an octet is even, no units are read
pub not_odd_fails : (octets : List ℕ) → (All IsOdd octets → ⊥)
    → Failed ≡ whole_or_failed (units_at MAX_UNITS false octets)
not_odd_fails octets n = by_units (units_at MAX_UNITS false octets) refl
  where
    by_units : (o : Option TextValue) → units_at MAX_UNITS false octets ≡ o → Failed
        ≡ whole_or_failed o
    by_units None e = refl
    by_units (Some t) e = let r = units_at_reads MAX_UNITS false octets t e in
        absurd
        (n (All-from_recursion IsOdd octets (units_odd false t.units t.end octets r.units r.each)))
