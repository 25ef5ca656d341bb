-- What a monitor that keeps what a station changes does when it is told of something.
use Rattle.std.specs.Prelude.{◌≡◌, Bool, Result, Ok, Err}
use Rattle.bsc_connections.specs.declared.awaited.LiveError.{LiveError}
use Rattle.bsc_connections.specs.Histories.{Happening, WasHeard, WasSilent}
use Rattle.bsc_keeping.specs.declared.keeping.Keeping.{Keeping}

-- What a monitor answers that has kept a step, or could not: what the inner one said, or the error.
abbrev pub if_done : Result (Unit {0}) LiveError → Bool → Result Bool LiveError
if_done (Ok done) goes_on = Ok goes_on
if_done (Err error) goes_on = Err error

-- What it means that what a station has changed is kept.
module _ {S Q : Type 0} (keeps : Q → S → Result (Unit {0}) LiveError → Q → Type 0) where
  -- It is kept if the station heard something, or acted on a silence; nothing else changes what is
  -- to be kept of a station.
  abbrev pub KeepsIfStep : Happening → S → Result (Unit {0}) LiveError → Q → Q → Type 0
  KeepsIfStep (WasHeard place octets) station result old new = keeps old station result new
  KeepsIfStep WasSilent station result old new = keeps old station result new
  KeepsIfStep _ station result old new = (result ≡ Ok tt) × (new ≡ old)

  -- The inner monitor has said whether the session goes on, and the step is kept. If it cannot be,
  -- the event is refused with that error.
  pub record KeepsAccepted (goes_on : Bool) (happening : Happening) (station : S)
      (result : Result Bool LiveError) (old new : Q) : Type 0 where
    pub done : Result (Unit {0}) LiveError
    pub keeps_step : KeepsIfStep happening station done old new
    pub returns : result ≡ if_done done goes_on

  -- If the inner monitor refuses the event, nothing is kept.
  abbrev pub KeepsIfAccepted : Result Bool LiveError → Happening → S → Result Bool LiveError → Q → Q
      → Type 0
  KeepsIfAccepted (Ok goes_on) happening station result old new =
      KeepsAccepted goes_on happening station result old new
  KeepsIfAccepted (Err error) happening station result old new =
      (result ≡ Err error) × (new ≡ old)

-- The inner monitor is told, and then what the station has changed is kept: what happened has the
-- time of before it is kept. Both stay the same ones, whatever becomes of them.
pub record TellsAndKeeps {S M Q : Type 0}
    (keeps : Q → S → Result (Unit {0}) LiveError → Q → Type 0)
    (is_told : M → S → Happening → Result Bool LiveError → M → Type 0) (old : Keeping M Q)
    (station : S) (happening : Happening) (result : Result Bool LiveError) (new : Keeping M Q)
    : Type 0 where
  pub told : Result Bool LiveError
  pub tells : is_told old.watch.now station happening told new.watch.now
  pub keeps_told : KeepsIfAccepted keeps told happening station result old.kept.now new.kept.now
  pub same_watch : new.watch.ghost_name ≡ old.watch.ghost_name
  pub same_kept : new.kept.ghost_name ≡ old.kept.ghost_name
