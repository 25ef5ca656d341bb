-- The lines of `RestartExamples` are as told there.
use Rattle.std.proofs.Common.{◌≡◌, zero, suc, ◌++◌, take, refl, arith}
use Rattle.bsc_control.specs.declared.task.Replied.TheVariants.{Nothing}
use Rattle.bsc_control.specs.declared.task.Task.TheVariants.{AtRest, Polling}
use Rattle.bsc_line_model.specs.StepLaws.{IsPolled}
use Rattle.bsc_line_model.specs.Holding.{HoldsOnlyIfPolled}
use Rattle.bsc_line_model.specs.Examples.{both_records}
use Rattle.bsc_line_model.specs.RestartExamples.{RestartDoubts, DoubtIsRight, NoDoubtIsForgotten}
use Rattle.bsc_line_model.specs.RestartExamples.{NoBlockIsSentAgain, NoTextIsHeardLate}
use Rattle.bsc_line_model.specs.RestartExamples.{sending_line, resting_line, NeedsNoRestart}

pub restart_doubts : RestartDoubts
restart_doubts = (omega arith, refl)

pub doubt_is_right : DoubtIsRight
doubt_is_right = record {
  offered = refl;
  arrived = refl;
  known = omega arith;
  all_known = λ settled. absurd settled;
}

pub no_doubt_is_forgotten : NoDoubtIsForgotten
no_doubt_is_forgotten right = let none : 0 ≡ 2 = right.all_known tt in absurd (omega (arith, none))

-- both records twice are not the first of them
not_twice : both_records ++ both_records ≡ take 4 both_records → ⊥
not_twice same = cc

pub no_block_is_sent_again : NoBlockIsSentAgain
no_block_is_sent_again right = not_twice right.arrived

pub no_text_is_heard_late : NoTextIsHeardLate
no_text_is_heard_late = record {
  release = refl;
  miscounted = no_doubt_is_forgotten;
  next_text = refl;
  doubled = λ right. not_twice right.arrived;
}

-- the terminal is polled before the restart, and not after it
polled_before : HoldsOnlyIfPolled sending_line
polled_before zero less holder = record { present = refl; replied = Nothing; task = refl }
polled_before (suc t) less holder = absurd (omega (arith, less))

not_polled_after : HoldsOnlyIfPolled resting_line → ⊥
not_polled_after held =
    let polled : IsPolled resting_line 0 = held 0 (omega arith) refl in
    let no : AtRest ≡ Polling polled.replied = polled.task in cc

pub needs_no_restart : NeedsNoRestart
needs_no_restart = record {
  before = polled_before;
  restarts = (tt, refl);
  trusted = refl;
  after = not_polled_after;
}
