-- Sequences of steps: one step as a sequence, and a step in front of a sequence.
use Rattle.std.proofs.Common.{◌≡◌, Bool, false, List, [], ◌++◌, Result, Ok, Err, inl, inr, refl}
use Rattle.std.proofs.Common.{ℕ, ◌+◌, true, sym, subst}
use Rattle.bsc_connections.specs.declared.awaited.LiveError.{LiveError}
use Rattle.bsc_connections.specs.Parts.{SessionParts}
use Rattle.bsc_connections.specs.Connections.{ConnectionValue}
use Rattle.bsc_connections.specs.Histories.{Happening}
use Rattle.bsc_connections.specs.Attending.{Session, Attends, ended, goes_on, fails, fails_to_wait}
use Rattle.bsc_connections.specs.Attending.{StepsOrFails, GoesOn, one_more, IsLastOf}

module _ {S R W F M T : Type 0} (parts : SessionParts S R W F M T) where
  abbrev Now : Type 0
  Now = Session S (ConnectionValue R W F) M T

  -- The sequence of one step, whatever it returned.
  pub attends_one_step : (old : Now) (r : Result Bool LiveError) (new : Now)
      → StepsOrFails parts old r new
      → (history : List Happening) × Attends parts old history new
  attends_one_step old (Ok b) new (inl (happened, step)) = (
    happened ++ [],
    goes_on step (ended refl),
  )
  attends_one_step old (Err e) new (inl (happened, step)) = (happened, fails step)
  attends_one_step old r new (inr f) = ([], fails_to_wait f)

  -- A step that succeeded, followed by a sequence of steps.
  pub attends_with_step_first : {old new last : Now} {b : Bool} {history : List Happening}
      (r : Result Bool LiveError) → r ≡ Ok b
      → StepsOrFails parts old r new → Attends parts new history last
      → (whole : List Happening) × Attends parts old whole last
  attends_with_step_first {history = history} (Ok c) is (inl (happened, step)) rest =
      (happened ++ history, goes_on step rest)
  attends_with_step_first (Ok c) is (inr f) rest = let clash : Ok c ≡ Err f.error = f.result_is in
      absurd cc
  attends_with_step_first {b = b} (Err e) is step rest = let clash : Err e ≡ Ok b = is in absurd cc

  -- One more step after which the station is attended further.
  pub goes_on_by_step : {steps : ℕ} {old mid new : Now} (r : Result Bool LiveError) → r ≡ Ok true
      → GoesOn parts steps old mid → StepsOrFails parts mid r new
      → GoesOn parts (steps + 1) old new
  goes_on_by_step {mid = mid} {new = new} r is before step =
      one_more before
      (subst (λ (told : Result Bool LiveError). StepsOrFails parts mid told new) is step)

-- An error of a step is that of the session.
pub last_of_error : (told : Result Bool LiveError) (result : Result (Unit {0}) LiveError)
    (error : LiveError) → told ≡ Err error → result ≡ Err error → IsLastOf told result
last_of_error told result error was is =
    subst (λ (r : Result Bool LiveError). IsLastOf r result) (sym was)
    (subst (λ (r : Result (Unit {0}) LiveError). IsLastOf (Err error) r) (sym is) refl)

-- A step that ends the session without an error.
pub last_of_end : (told : Result Bool LiveError) → told ≡ Ok false → IsLastOf told (Ok tt)
last_of_end told was = subst (λ (r : Result Bool LiveError). IsLastOf r (Ok tt)) (sym was) refl
