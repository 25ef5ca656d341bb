-- A terminal is absent exactly if it answered in none of its last visits.
use Rattle.std.proofs.Common.{◌≡◌, ◌<◌, ◌≤◌, ℕ, zero, suc, List, [], ◌∷◌, Bool, true, false, refl}
use Rattle.std.proofs.Common.{arith}
use Rattle.std.proofs.lemmas.Bool.{ltb-true, leb-true, le-leb}
use Rattle.std.specs.Prelude.{◌&&◌, ◌^◌, nat_le, nat_lt}
use Rattle.bsc_monitor.specs.Attendance.{AbsentBySilence, AreLastSilent, Visit, after_visit, after_visits}
use Rattle.bsc_monitor.specs.declared.attendance.Attendance.{Attendance}

-- one more silent visit
one_more_silent : (b : Bool) (n time : ℕ) (p : Attendance) → b ≡ false → suc n < 2 ^ 64
    → n ≤ p.silent_visits → suc n ≤ (after_visit b time p).silent_visits
one_more_silent true n time p e l k = absurd (cc)
one_more_silent false n time p e l k = omega (arith, k, l)

-- so many silent visits are counted
counted : (n : ℕ) (visits : List Visit) → n < 2 ^ 64 → AreLastSilent n visits
    → n ≤ (after_visits visits).silent_visits
counted zero visits l silent = omega arith
counted (suc n) [] l silent = absurd silent
counted (suc n) (v ∷ before) l (silent, rest) =
    one_more_silent v.answered n v.time (after_visits before) silent l
    (counted n before (omega (arith, l)) rest)

-- the last of those that are counted
last_silent : (b : Bool) (n time : ℕ) (p : Attendance) → suc n ≤ (after_visit b time p).silent_visits
    → (b ≡ false) × (n ≤ p.silent_visits)
last_silent true n time p l = absurd (omega (arith, l))
last_silent false n time p l = (refl, omega (arith, l))

-- those that are counted were silent
silent_if_counted : (n : ℕ) (visits : List Visit) → n ≤ (after_visits visits).silent_visits
    → AreLastSilent n visits
silent_if_counted zero visits l = tt
silent_if_counted (suc n) [] l = absurd (omega (arith, l))
silent_if_counted (suc n) (v ∷ before) l =
    let last = last_silent v.answered n v.time (after_visits before) l in
    (last.0, silent_if_counted n before last.1)

both_true : (a b : Bool) → a && b ≡ true → (a ≡ true) × (b ≡ true)
both_true true true e = (refl, refl)
both_true true false e = absurd (cc)
both_true false b e = absurd (cc)

and_true : (a b : Bool) → a ≡ true → b ≡ true → a && b ≡ true
and_true true true x y = refl
and_true true false x y = absurd (cc)
and_true false b x y = absurd (cc)

pub absent_by_silence : AbsentBySilence
absent_by_silence limits visits small =
    let limit = limits.absent_after in
    let count = (after_visits visits).silent_visits in (
      λ absent.
          let parts = both_true (nat_lt 0 limit) (nat_le limit count) absent in
          (parts.0, silent_if_counted limit visits (leb-true limit count parts.1)),
      λ silent.
          and_true (nat_lt 0 limit) (nat_le limit count) silent.0
          (le-leb limit count (counted limit visits (ltb-true limit (2 ^ 64) small) silent.1)),
    )
