-- What a station hears of what arrives, and what becomes of the rest.
use Rattle.std.specs.Prelude.{⊤, ◌≡◌, Bool, true, false, List, [], Result}
use Rattle.std.specs.List.{AllByRecursion}
use Rattle.bsc_connections.specs.declared.awaited.LiveError.{LiveError}
use Rattle.bsc_connections.specs.Parts.{SessionParts}
use Rattle.bsc_connections.specs.Connections.{ConnectionValue}
use Rattle.bsc_connections.specs.Histories.{Happening, WasHeard, WasIgnored, all_sent}
use Rattle.bsc_connections.specs.Attending.{Session, Steps}

module _ {S R W F M T : Type 0} (parts : SessionParts S R W F M T) where
  abbrev Now : Type 0
  Now = Session S (ConnectionValue R W F) M T

  -- What holds of an entry of what happened in a step, which began and ended with these states. The
  -- monitor admitted what was heard. It did not admit what was ignored; the station is then as it
  -- was, nothing was sent, and no time-out was moved.
  abbrev pub IsDue : Now → List Happening → Now → Happening → Type 0
  IsDue old happened new (WasHeard place octets) =
      parts.admits old.monitor old.station place octets ≡ true
  IsDue old happened new (WasIgnored place octets) =
      (parts.admits old.monitor old.station place octets ≡ false)
      × (new.station ≡ old.station)
      × (all_sent happened ≡ [])
      × (new.waiter ≡ old.waiter)
  IsDue old happened new _ = ⊤

-- This holds of every step, from the end of its wait.
abbrev pub HearsWhatIsAdmitted : {S R W F M T : Type 0} → SessionParts S R W F M T → Type 0
HearsWhatIsAdmitted {S} {R} {W} {F} {M} {T} parts =
    (old new : Session S (ConnectionValue R W F) M T) (happened : List Happening)
    (result : Result Bool LiveError) (step : Steps parts old happened result new)
    → AllByRecursion (IsDue parts (record old { waiter = step.waiter }) happened new) happened
