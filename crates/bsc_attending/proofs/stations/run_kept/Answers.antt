-- Shows that a station whose records are kept ran as it was attended.
use Rattle.std.proofs.Common.{rules, IsErr, refl}
use Rattle.bsc_keeping.specs.Runs.{begins}
use Rattle.bsc_keeping.proofs.StoredRuns.{kept_run}
use Rattle.bsc_attending.proofs.Ran.{kept_as, kept_still, no_error}
use Rattle.bsc_attending.proofs.stations.run_kept.Goals as goal
use Rattle.bsc_attending.proofs.stations.run_kept.Goals.{then-options, else-options}

pub returns-in_err-counts-clause-kept : goal.returns-in_err-counts-clause-kept
returns-in_err-counts-clause-kept g c =
    kept_still _ _ (λ now. begins refl) (λ now. begins refl) c.args.prepared.now c.args.keeper
    (IsErr c.from_residual.result)

pub returns-in_err-print_rest-in-Ok-clause-kept : goal.returns-in_err-print_rest-in-Ok-clause-kept
returns-in_err-print_rest-in-Ok-clause-kept g c =
    let result = c.from_residual-in_err-print_rest-in-Ok.result in
    let is_err : IsErr result = search rules in
    elim c.if-options.branch [
      | then-options w ↦
          kept_as _ _ _ _
          (λ course first now. kept_run _ _ _ _ _ _ _ _ _ _ course first now)
          (λ course first now. kept_run _ _ _ _ _ _ _ _ _ _ course first now)
          (record { keeper = c.args.keeper; printer = c.new-printer.result }) w.attend_over-attended.new.kept
          (IsErr w.attend_over-attended.result) (IsErr result) (λ _. is_err) c.args.prepared.now
          w.attend_over-attended.new.prepared c.if-options.prepared w.prepared-is w.attend_over-attended.ensures.ran
      | else-options w ↦
          kept_as _ _ _ _
          (λ course first now. kept_run _ _ _ _ _ _ _ _ _ _ course first now)
          (λ course first now. kept_run _ _ _ _ _ _ _ _ _ _ course first now)
          (record { keeper = c.args.keeper; printer = c.new-printer.result }) w.attend_over-attended-else-options.new.kept
          (IsErr w.attend_over-attended-else-options.result) (IsErr result) (λ _. is_err) c.args.prepared.now
          w.attend_over-attended-else-options.new.prepared c.if-options.prepared w.prepared-is w.attend_over-attended-else-options.ensures.ran
    ]

pub returns-in-Ok-clause-kept : goal.returns-in-Ok-clause-kept
returns-in-Ok-clause-kept g c =
    elim c.if-options.branch [
      | then-options w ↦
          kept_as _ _ _ _
          (λ course first now. kept_run _ _ _ _ _ _ _ _ _ _ course first now)
          (λ course first now. kept_run _ _ _ _ _ _ _ _ _ _ course first now)
          (record { keeper = c.args.keeper; printer = c.new-printer.result }) w.attend_over-attended.new.kept
          (IsErr w.attend_over-attended.result) _ (λ so. absurd (no_error w.attend_over-attended.result c.if-options.attended c.in-Ok.left w.attended-is c.in-Ok.is so)) c.args.prepared.now
          w.attend_over-attended.new.prepared c.if-options.prepared w.prepared-is w.attend_over-attended.ensures.ran
      | else-options w ↦
          kept_as _ _ _ _
          (λ course first now. kept_run _ _ _ _ _ _ _ _ _ _ course first now)
          (λ course first now. kept_run _ _ _ _ _ _ _ _ _ _ course first now)
          (record { keeper = c.args.keeper; printer = c.new-printer.result }) w.attend_over-attended-else-options.new.kept
          (IsErr w.attend_over-attended-else-options.result) _ (λ so. absurd (no_error w.attend_over-attended-else-options.result c.if-options.attended c.in-Ok.left w.attended-is c.in-Ok.is so)) c.args.prepared.now
          w.attend_over-attended-else-options.new.prepared c.if-options.prepared w.prepared-is w.attend_over-attended-else-options.ensures.ran
    ]

pub returns-clause-kept : goal.returns-clause-kept
returns-clause-kept g c =
    elim c.if-options.branch [
      | then-options w ↦
          kept_as _ _ _ _
          (λ course first now. kept_run _ _ _ _ _ _ _ _ _ _ course first now)
          (λ course first now. kept_run _ _ _ _ _ _ _ _ _ _ course first now)
          (record { keeper = c.args.keeper; printer = c.new-printer.result }) w.attend_over-attended.new.kept
          (IsErr w.attend_over-attended.result) _ (λ _. refl) c.args.prepared.now
          w.attend_over-attended.new.prepared c.if-options.prepared w.prepared-is w.attend_over-attended.ensures.ran
      | else-options w ↦
          kept_as _ _ _ _
          (λ course first now. kept_run _ _ _ _ _ _ _ _ _ _ course first now)
          (λ course first now. kept_run _ _ _ _ _ _ _ _ _ _ course first now)
          (record { keeper = c.args.keeper; printer = c.new-printer.result }) w.attend_over-attended-else-options.new.kept
          (IsErr w.attend_over-attended-else-options.result) _ (λ _. refl) c.args.prepared.now
          w.attend_over-attended-else-options.new.prepared c.if-options.prepared w.prepared-is w.attend_over-attended-else-options.ensures.ran
    ]
