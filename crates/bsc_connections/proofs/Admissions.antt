-- What is heard was admitted, and what is ignored was not and has no effect.
use Rattle.std.proofs.Common.{◌≡◌, ℕ, Bool, true, false, List, [], ◌∷◌, Option, None, Some, Result}
use Rattle.std.proofs.Common.{refl, sym, ◌∙◌, ap, subst, slice_get}
use Rattle.std.specs.List.{AllByRecursion}
use Rattle.bsc_frame.specs.declared.message.Message.{Message}
use Rattle.bsc_connections.specs.declared.awaited.Awaited.{Awaited}
use Rattle.bsc_connections.specs.declared.awaited.Awaited.TheVariants.{Octets, Newcomer, Gap}
use Rattle.bsc_connections.specs.declared.awaited.Awaited.TheVariants.{NotAccepted, NotAllowed}
use Rattle.bsc_connections.specs.declared.awaited.Awaited.TheVariants.{TimeOut, Stopped, Client}
use Rattle.bsc_connections.specs.declared.awaited.LiveError.{LiveError}
use Rattle.bsc_connections.specs.declared.connection.Taken.{Taken}
use Rattle.bsc_connections.specs.declared.connection.Taken.TheVariants.{Nothing, Interrupted, Part}
use Rattle.bsc_connections.specs.declared.connection.Taken.TheVariants.{Whole, Closed}
use Rattle.bsc_connections.specs.Parts.{SessionParts}
use Rattle.bsc_connections.specs.Connections.{ConnectionValue}
use Rattle.bsc_connections.specs.Histories.{Happening, WasHeard, WasIgnored, WasSilent}
use Rattle.bsc_connections.specs.Histories.{sent_where_some}
use Rattle.bsc_connections.specs.Attending.{Arrives, HearsIfAdmitted, ReadsAt, GapPasses, Joins}
use Rattle.bsc_connections.specs.Attending.{JoinsAs, Does, Around, Session, awaits_gap}
use Rattle.bsc_connections.specs.Admissions.{IsDue, HearsWhatIsAdmitted}

module _ {S R W F M T : Type 0} (parts : SessionParts S R W F M T) where
  abbrev C : Type 0
  C = ConnectionValue R W F

  abbrev Now : Type 0
  Now = Session S C M T

  -- What holds of all that happened.
  abbrev AllDue : Now → List Happening → Now → Type 0
  AllDue old happened new = AllByRecursion (IsDue parts old happened new) happened

  due_if_equal : (old new : Now) (happened other : List Happening) → happened ≡ other
      → AllDue old other new → AllDue old happened new
  due_if_equal old new happened other is due = subst (λ (hs : List Happening). AllDue old hs new)
      (sym is) due

  due_of_sent : (old new : Now) (happened : List Happening) (in_time : Bool)
      (due : Option Message)
      → AllByRecursion (IsDue parts old happened new) (sent_where_some in_time due)
  due_of_sent old new happened in_time None = tt
  due_of_sent old new happened true (Some m) = (tt, tt)
  due_of_sent old new happened false (Some m) = (tt, tt)

  due_of_admitted : (admitted : Bool) (place : ℕ) (octets : List ℕ) (old : Now)
      (between : List C) (happened : List Happening) (result : Result Bool LiveError) (new : Now)
      → parts.admits old.monitor old.station place octets ≡ admitted
      → HearsIfAdmitted parts admitted place octets (record old { connections = between }) happened
      result new
      → AllDue old happened new
  due_of_admitted true place octets old between happened result new is h =
      let r = h.answers.replies in
      due_if_equal old new happened (WasHeard place octets ∷ sent_where_some r.in_time r.due)
      (h.answers.happens ∙ ap (λ (more : List Happening). WasHeard place octets ∷ more) r.happens) (
        is,
        due_of_sent old new (WasHeard place octets ∷ sent_where_some r.in_time r.due) r.in_time
            r.due,
      )
  due_of_admitted false place octets old between happened result new is
      (station, same, told, waits) =
      due_if_equal old new happened (WasIgnored place octets ∷ []) told.0
      ((is, station, refl, waits), tt)

  due_of_arrival : (place : ℕ) (old : Now) (between : List C) (happened : List Happening)
      (result : Result Bool LiveError) (new : Now)
      → Arrives parts place (record old { connections = between }) happened result new
      → AllDue old happened new
  due_of_arrival place old between happened result new a =
      let octets : List ℕ = parts.connection.framing.last a.connection.framing in
      due_of_admitted (parts.admits old.monitor old.station place octets) place octets old between
      happened result new refl a.heard

  due_of_read : (taken : Taken) (place : ℕ) (old : Now) (happened : List Happening)
      (result : Result Bool LiveError) (new : Now)
      → ReadsAt parts place taken old happened result new → AllDue old happened new
  due_of_read Whole place old happened result new (between, taken, a) =
      due_of_arrival place old between happened result new a
  due_of_read Nothing place old happened result new r =
      due_if_equal old new happened [] r.tells.0 tt
  due_of_read Interrupted place old happened result new r =
      due_if_equal old new happened [] r.tells.0 tt
  due_of_read Part place old happened result new r =
      due_if_equal old new happened [] r.tells.0 tt
  due_of_read (Closed why) place old happened result new r =
      due_if_equal old new happened _ r.tells.0 (tt, tt)

  due_of_peer : (joined : Option (R × W)) (place : ℕ) (station : S) (waiter : T)
      (around later : Around C M) (old : Now) (happened : List Happening)
      (result : Result Bool LiveError) (new : Now)
      → JoinsAs parts place joined station waiter around happened result later
      → AllDue old happened new
  due_of_peer None place station waiter around later old happened result new (same, none) =
      due_if_equal old new happened [] none.0 tt
  due_of_peer (Some ends) place station waiter around later old happened result new
      (changes, peer, named, joined) =
      due_if_equal old new happened _ joined.0 (tt, tt)

  due_of_joining : (given : Option ℕ) (old : Now) (happened : List Happening)
      (result : Result Bool LiveError) (new : Now) → Joins parts given old happened result new
      → AllDue old happened new
  due_of_joining None old happened result new (same, turned, peer, named, refused) =
      due_if_equal old new happened _ refused.0 (tt, tt)
  due_of_joining (Some place) old happened result new (joined, joins, joining) =
      due_of_peer joined place new.station new.waiter
      (record { connections = old.connections; monitor = old.monitor })
      (record { connections = new.connections; monitor = new.monitor }) old happened result new
      joining

  due_of_gap : (awaits : Bool) (place : ℕ) (old : Now) (happened : List Happening)
      (result : Result Bool LiveError) (new : Now)
      → GapPasses parts place awaits old happened result new → AllDue old happened new
  due_of_gap true place old happened result new g =
      due_of_arrival place old g.between happened result new g.arrives
  due_of_gap false place old happened result new (none, ok, same) =
      due_if_equal old new happened [] none tt

  due_of_event : (awaited : Awaited) (old : Now) (happened : List Happening)
      (result : Result Bool LiveError) (new : Now)
      → Does parts awaited old happened result new → AllDue old happened new
  due_of_event (Octets place) old happened result new (taken, reads) =
      due_of_read taken place old happened result new reads
  due_of_event Newcomer old happened result new (same, given, for_it, joins) =
      due_of_joining given old happened result new joins
  due_of_event NotAccepted old happened result new (same, kept, refused, waits) =
      due_if_equal old new happened _ refused.0 (tt, tt)
  due_of_event NotAllowed old happened result new (same, (kept, turned, peer, named, refused)) =
      due_if_equal old new happened _ refused.0 (tt, tt)
  due_of_event (Gap place) old happened result new passes =
      due_of_gap (awaits_gap parts.connection.framing.awaits (slice_get old.connections place))
      place old happened result new passes
  due_of_event TimeOut old happened result new silent =
      let r = silent.answers.replies in
      due_if_equal old new happened (WasSilent ∷ sent_where_some r.in_time r.due)
      (silent.answers.happens ∙ ap (λ (more : List Happening). WasSilent ∷ more) r.happens)
      (tt, due_of_sent old new (WasSilent ∷ sent_where_some r.in_time r.due) r.in_time r.due)
  due_of_event Stopped old happened result new (same, kept, stopped, waits) =
      due_if_equal old new happened _ stopped.0 (tt, tt)
  due_of_event Client old happened result new (none, ok, same) =
      due_if_equal old new happened [] none tt

  pub hears_what_is_admitted : HearsWhatIsAdmitted parts
  hears_what_is_admitted old new happened result step =
      due_of_event step.awaited (record old { waiter = step.waiter }) happened result new step.does
