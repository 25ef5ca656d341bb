-- In a step of a session a station stays as it is, hears a transmission or acts on a silence.
use Rattle.std.proofs.Common.{◌≡◌, ℕ, Bool, true, false, List, Option, Result, ap, subst, slice_get}
use Rattle.std.proofs.Common.{sym}
use Rattle.bsc_frame.specs.declared.message.Heard.{Heard}
use Rattle.bsc_frame.specs.declared.message.Message.{Message}
use Rattle.bsc_connections.specs.declared.awaited.Awaited.{Awaited}
use Rattle.bsc_connections.specs.declared.awaited.Awaited.TheVariants.{Client, Gap, Newcomer}
use Rattle.bsc_connections.specs.declared.awaited.Awaited.TheVariants.{NotAccepted, NotAllowed}
use Rattle.bsc_connections.specs.declared.awaited.Awaited.TheVariants.{Octets, Stopped, TimeOut}
use Rattle.bsc_connections.specs.declared.awaited.LiveError.{LiveError}
use Rattle.bsc_connections.specs.declared.connection.Taken.{Taken}
use Rattle.bsc_connections.specs.declared.connection.Taken.TheVariants.{Closed, Interrupted}
use Rattle.bsc_connections.specs.declared.connection.Taken.TheVariants.{Nothing, Part, Whole}
use Rattle.bsc_connections.specs.Attending.{Arrives, Does, GapPasses, HearsIfAdmitted, ReadsAt}
use Rattle.bsc_connections.specs.Attending.{Session, Steps, awaits_gap}
use Rattle.bsc_connections.specs.Connections.{ConnectionValue}
use Rattle.bsc_connections.specs.Histories.{Happening}
use Rattle.bsc_connections.specs.Parts.{SessionParts}

-- G holds between a station and itself, and between one that hears or acts and what it becomes.
module _ {S R W F M T : Type 0} (parts : SessionParts S R W F M T) (G : S → S → Type 0)
    (same : (station : S) → G station station)
    (hears : (old new : S) (heard : Heard) (sent : Option Message)
    → parts.station.hears old heard new sent → G old new)
    (acts : (old new : S) (sent : Option Message) → parts.station.acts old new sent → G old new)
  where
    abbrev Now : Type 0
    Now = Session S (ConnectionValue R W F) M T

    if_same : (old new : S) → new ≡ old → G old new
    if_same old new is = subst (λ s. G old s) (sym is) (same old)

    by_hearing : (admitted : Bool) (place : ℕ) (octets : List ℕ) (old : Now)
        (happened : List Happening) (result : Result Bool LiveError) (new : Now)
        → HearsIfAdmitted parts admitted place octets old happened result new
        → G old.station new.station
    by_hearing true place octets old happened result new h =
        hears old.station new.station h.heard h.answer h.heeds
    by_hearing false place octets old happened result new h =
        if_same old.station new.station h.0

    by_arrival : (place : ℕ) (old : Now) (happened : List Happening)
        (result : Result Bool LiveError) (new : Now) → Arrives parts place old happened result new
        → G old.station new.station
    by_arrival place old happened result new a =
        by_hearing
        (parts.admits old.monitor old.station place
        (parts.connection.framing.last a.connection.framing))
        place (parts.connection.framing.last a.connection.framing) old happened result new a.heard

    by_read : (taken : Taken) (place : ℕ) (old : Now) (happened : List Happening)
        (result : Result Bool LiveError) (new : Now)
        → ReadsAt parts place taken old happened result new → G old.station new.station
    by_read Whole place old happened result new (between, taken, h) =
        by_arrival place (record old { connections = between }) happened result new h
    by_read Nothing place old happened result new r = if_same old.station new.station r.station
    by_read Interrupted place old happened result new r = if_same old.station new.station r.station
    by_read Part place old happened result new r = if_same old.station new.station r.station
    by_read (Closed why) place old happened result new r = if_same old.station new.station r.station

    by_gap : (awaits : Bool) (place : ℕ) (old : Now) (happened : List Happening)
        (result : Result Bool LiveError) (new : Now)
        → GapPasses parts place awaits old happened result new → G old.station new.station
    by_gap true place old happened result new h =
        by_arrival place (record old { connections = h.between }) happened result new h.arrives
    by_gap false place old happened result new (none, ok, kept) =
        if_same old.station new.station (ap (λ (s : Now). s.station) kept)

    by_event : (awaited : Awaited) (old : Now) (happened : List Happening)
        (result : Result Bool LiveError) (new : Now)
        → Does parts awaited old happened result new → G old.station new.station
    by_event (Octets place) old happened result new (taken, reads) =
        by_read taken place old happened result new reads
    by_event Newcomer old happened result new does = if_same old.station new.station does.0
    by_event NotAccepted old happened result new does = if_same old.station new.station does.0
    by_event NotAllowed old happened result new does = if_same old.station new.station does.0
    by_event (Gap place) old happened result new passes =
        by_gap (awaits_gap parts.connection.framing.awaits (slice_get old.connections place)) place
        old happened result new passes
    by_event TimeOut old happened result new silent =
        acts old.station new.station silent.answer silent.acted
    by_event Stopped old happened result new does = if_same old.station new.station does.0
    by_event Client old happened result new (none, ok, kept) =
        if_same old.station new.station (ap (λ (s : Now). s.station) kept)

    pub moves : (old new : Now) (happened : List Happening) (result : Result Bool LiveError)
        → Steps parts old happened result new → G old.station new.station
    moves old new happened result step =
        by_event step.awaited (record old { waiter = step.waiter }) happened result new step.does
