-- A run continues by one event.
use Rattle.std.proofs.Common.{◌≡◌, inr, ℕ, ◌+◌, ◌<◌, List, ◌∷◌, length, drop, get_or, Result, Ok}
use Rattle.std.proofs.Common.{Err, add-one, drop-cons}
use Rattle.bsc_line_model.specs.declared.error.Stopped.{Stopped}
use Rattle.bsc_line_model.specs.declared.event.Event.{Event}
use Rattle.bsc_line_model.specs.Line.{LineValue}
use Rattle.bsc_line_model.specs.Kept.{IsLine}
use Rattle.bsc_line_model.specs.Runs.{Does, RunsFrom}

pub runs_after_accepted_event : (at : ℕ) (x : Event) (xs : List Event) (old mid new : LineValue)
    (r : Result (Unit {0}) Stopped) → IsLine mid → Does x old (Ok tt) mid
    → RunsFrom (at + 1) mid xs r new → RunsFrom at old (x ∷ xs) r new
runs_after_accepted_event at x xs old mid new (Ok done) line d rest =
    record { mid = mid; line = line; done = d; rest = rest }
runs_after_accepted_event at x xs old mid new (Err e) line d rest =
    inr (record { mid = mid; line = line; done = d; rest = rest })

-- the remaining events are the next one and the rest
pub next_event_and_rest : (xs : List Event) (i : ℕ) (x : Event) → i < length xs → x ≡ get_or xs i x → drop i xs ≡ x
    ∷ drop (i + 1) xs
next_event_and_rest xs i x less e = rw (add-one, drop-cons xs i x less, ← e)
