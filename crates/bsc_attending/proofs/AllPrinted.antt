-- If more records could have been printed than there were, all are printed.
use Rattle.std.proofs.Common.{◌≡◌, ◌≢◌, ℕ, zero, suc, ◌+◌, ◌-◌, ◌<◌, ◌≤◌, List, length, min, slice_index, refl, sym, subst, arith}
use Rattle.std.proofs.Common.{false, Option, Some, None, Result, IfOk, inl, inr}
use Rattle.bsc_report.specs.Arrivals.{arrived_on}
use Rattle.bsc_report.specs.Following.{left_after, share_of, unprinted_on}
use Rattle.bsc_station.specs.declared.party.Party as party_of
use Rattle.bsc_text.specs.declared.error.PrintError.{PrintError}
use Rattle.bsc_text.specs.declared.error.PrintError.TheVariants as print
use Rattle.bsc_attending.specs.declared.cut_short.CutShort.{CutShort}
use Rattle.bsc_attending.specs.Printer.{AreAllPrinted, Followed, Turn, WritesSome, outcome_after}

module _ {P M : Type 0} (party : party_of.Ghosts P M) (station : P) where
  -- what is left never grows from channel to channel
  left_falls : (counts : List ℕ) (most n k : ℕ)
      → left_after party station counts most (k + n) ≤ left_after party station counts most n
  left_falls counts most n zero =
      let same : 0 + n ≡ n = omega arith in
      rw same (omega arith)
  left_falls counts most n (suc k) =
      let below = left_falls counts most n k in
      let here : left_after party station counts most (suc (k + n))
      ≡ left_after party station counts most (k + n)
      - unprinted_on party station (k + n) (slice_index counts (k + n)) = refl in
      let next : suc k + n ≡ suc (k + n) = omega arith in
      rw next (omega (arith, below, here))

  -- so all of a channel is printed if something is left after it
  all_of : (counts : List ℕ) (most n receives : ℕ) → n < receives
      → left_after party station counts most receives ≢ 0
      → length (arrived_on party station n)
      ≤ slice_index counts n + share_of party station counts most n
  all_of counts most n receives h some =
      let k : ℕ = receives - suc n in
      let is : k + suc n ≡ receives = omega (arith, h) in
      let falls : left_after party station counts most receives
      ≤ left_after party station counts most (suc n) = rw (← is) (left_falls counts most (suc n) k) in
      let next : left_after party station counts most (suc n)
      ≡ left_after party station counts most n
      - unprinted_on party station n (slice_index counts n) = refl in
      let share : share_of party station counts most n
      ≡ min (unprinted_on party station n (slice_index counts n))
      (left_after party station counts most n) = refl in
      let waits : unprinted_on party station n (slice_index counts n)
      ≡ length (arrived_on party station n) - slice_index counts n = refl in
      omega (arith, falls, next, some, share, waits)

  pub all_printed : (most rest : ℕ) (old new : Followed)
      → WritesSome party station most rest old new → rest ≢ 0 → AreAllPrinted party station new
  all_printed most rest old new w some n h =
      let counted = w.counted n h in
      let left = w.left in
      let all = all_of old.counts most n (party.receives station) h (rw (← left) some) in
      omega (arith, counted, all)

  -- so all are after the last turn, unless a record could not be printed
  pub all_unless_failed : (most : ℕ) (old new : Followed) (result : Result (Unit {0}) CutShort)
      → Turn party station most false old new → result ≡ outcome_after new.fault
      → IfOk result (λ _. AreAllPrinted party station new)
  all_unless_failed most old new result turn is =
      subst (λ r. IfOk r (λ _. AreAllPrinted party station new)) (sym is) (by new.fault refl)
    where
      by : (fault : Option PrintError) → new.fault ≡ fault
          → IfOk (outcome_after fault) (λ _. AreAllPrinted party station new)
      by (Some print.Output) e = tt
      by (Some print.Memory) e = tt
      by None e = unfailed turn
        where
          unfailed : Turn party station most false old new → AreAllPrinted party station new
          unfailed (inl p) =
              all_printed most p.left old new p.writes
              (λ z. let goes_on = p.goes_on in cc (z, goes_on))
          unfailed (inr (inl f)) = let fault = f.fault in cc (e, fault)
          unfailed (inr (inr r)) =
              let failed = r.failed in
              let same = r.same in
              cc (e, failed, same)
