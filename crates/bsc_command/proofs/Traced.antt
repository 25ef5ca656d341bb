-- What a run says of some writer of its trace.
use Rattle.std.proofs.Common.{ℕ, List, Bool, true, Option, Result, Ok, Err}
use Rattle.std.specs.Prelude.{IfErr, OnOk}
use Rattle.bsc_run.specs.Crossing.{streams_of}
use Rattle.bsc_run.specs.Plays.{holding}
use Rattle.bsc_run.specs.Running.{HasFailed, IsRunDone, TextPaths}
use Rattle.bsc_run.specs.declared.running_error.RunningError.{RunningError}
use Rattle.bsc_command.specs.Program.{HasDoneRun, HasFailedWith}

module _ {S D : Type 0} (contents remaining : S → Option (List ℕ)) (held : D → Option (List ℕ))
    (traces : Bool → D → Type 0) (check trace : Bool) (paths : TextPaths)
    (a b : Option (List ℕ)) (c d : D) (is : traces true c) where
  pub done_traced : (r : Result (Unit {0}) RunningError)
      → OnOk r (IsRunDone (streams_of contents remaining) trace check paths (holding a (held c))
      (holding b (held d)))
      → OnOk r (HasDoneRun contents remaining held traces check trace paths a b)
  done_traced (Ok done) p = record { told = c; is_traced = is; tells = d; done = p }
  done_traced (Err e) p = tt

  pub failed_traced : (r : Result (Unit {0}) RunningError)
      → IfErr r (λ e. HasFailed (streams_of contents remaining) trace e check paths
      (holding a (held c)) (holding b (held d)))
      → IfErr r (λ e. HasFailedWith contents remaining held traces e check trace paths a b)
  failed_traced (Ok done) p = tt
  failed_traced (Err e) p = record { told = c; is_traced = is; tells = d; says = p }

-- the first of two things that hold after an early error
pub first_early : (A B : Type 0) (P : RunningError → Type 0)
    (r : Result (Unit {0}) RunningError) → IfErr r (λ e. P e → A × B) → IfErr r (λ e. P e → A)
first_early A B P (Ok done) h = tt
first_early A B P (Err e) h = λ p. (h p).0
