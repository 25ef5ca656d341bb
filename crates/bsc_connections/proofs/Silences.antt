-- Every step has as many silences as are due.
use Rattle.std.proofs.Common.{◌≡◌, ℕ, ◌+◌, Bool, true, false, List, Option, None, Some, Result, refl}
use Rattle.std.proofs.Common.{◌∙◌, ap, slice_get}
use Rattle.bsc_frame.specs.declared.message.Message.{Message}
use Rattle.bsc_connections.specs.declared.awaited.Awaited.{Awaited}
use Rattle.bsc_connections.specs.declared.awaited.Awaited.TheVariants.{Octets, Newcomer, Gap}
use Rattle.bsc_connections.specs.declared.awaited.Awaited.TheVariants.{NotAccepted, NotAllowed}
use Rattle.bsc_connections.specs.declared.awaited.Awaited.TheVariants.{TimeOut, Stopped, Client}
use Rattle.bsc_connections.specs.declared.awaited.LiveError.{LiveError}
use Rattle.bsc_connections.specs.declared.connection.Taken.{Taken}
use Rattle.bsc_connections.specs.declared.connection.Taken.TheVariants.{Nothing, Interrupted, Part}
use Rattle.bsc_connections.specs.declared.connection.Taken.TheVariants.{Whole}
use Rattle.bsc_connections.specs.declared.connection.Taken.TheVariants.{Closed}
use Rattle.bsc_connections.specs.Parts.{SessionParts}
use Rattle.bsc_connections.specs.Connections.{ConnectionValue}
use Rattle.bsc_connections.specs.Histories.{Happening, sent_where_some}
use Rattle.bsc_connections.specs.Attending.{Arrives, HearsIfAdmitted, ReadsAt, GapPasses, Joins, JoinsAs, Does}
use Rattle.bsc_connections.specs.Attending.{Around, Session, awaits_gap}
use Rattle.bsc_connections.specs.Silences.{silences, silences_due, TellsEachSilence}

silences_of_sent : (in_time : Bool) (due : Option Message)
    → silences (sent_where_some in_time due) ≡ 0
silences_of_sent in_time None = refl
silences_of_sent true (Some m) = refl
silences_of_sent false (Some m) = refl

module _ {S R W F M T : Type 0} (parts : SessionParts S R W F M T) where
  abbrev Now : Type 0
  Now = Session S (ConnectionValue R W F) M T

  no_silence_in_arrival : (admitted : Bool) (place : ℕ) (octets : List ℕ) (old : Now)
      (happened : List Happening) (result : Result Bool LiveError) (new : Now)
      → HearsIfAdmitted parts admitted place octets old happened result new
      → silences happened ≡ 0
  no_silence_in_arrival true place octets old happened result new h =
      ap silences h.answers.happens ∙ ap silences h.answers.replies.happens
      ∙ silences_of_sent h.answers.replies.in_time h.answers.replies.due
  no_silence_in_arrival false place octets old happened result new (station, same, told, waits) =
      ap silences told.0

  no_silence_by_arrival : (place : ℕ) (old : Now) (happened : List Happening)
      (result : Result Bool LiveError) (new : Now) → Arrives parts place old happened result new
      → silences happened ≡ 0
  no_silence_by_arrival place old happened result new a =
      no_silence_in_arrival
      (parts.admits old.monitor old.station place
      (parts.connection.framing.last a.connection.framing))
      place (parts.connection.framing.last a.connection.framing) old happened result new a.heard

  no_silence_in_read : (taken : Taken) (place : ℕ) (old : Now) (happened : List Happening)
      (result : Result Bool LiveError) (new : Now) → ReadsAt parts place taken old happened result new
      → silences happened ≡ 0
  no_silence_in_read Whole place old happened result new (between, taken, h) =
      no_silence_by_arrival place (record old { connections = between }) happened result new h
  no_silence_in_read Nothing place old happened result new r = ap silences r.tells.0
  no_silence_in_read Interrupted place old happened result new r = ap silences r.tells.0
  no_silence_in_read Part place old happened result new r = ap silences r.tells.0
  no_silence_in_read (Closed why) place old happened result new r = ap silences r.tells.0

  no_silence_by_peer : (joined : Option (R × W)) (place : ℕ) (station : S) (waiter : T)
      (old : Around (ConnectionValue R W F) M) (happened : List Happening)
      (result : Result Bool LiveError) (new : Around (ConnectionValue R W F) M)
      → JoinsAs parts place joined station waiter old happened result new → silences happened ≡ 0
  no_silence_by_peer None place station waiter old happened result new (same, none) =
      ap silences none.0
  no_silence_by_peer (Some ends) place station waiter old happened result new
      (changes, peer, named, joined) =
      ap silences joined.0

  no_silence_in_joining : (given : Option ℕ) (old : Now) (happened : List Happening)
      (result : Result Bool LiveError) (new : Now) → Joins parts given old happened result new
      → silences happened ≡ 0
  no_silence_in_joining None old happened result new (same, turned, peer, named, refused) =
      ap silences refused.0
  no_silence_in_joining (Some place) old happened result new (joined, joins, joining) =
      no_silence_by_peer joined place new.station new.waiter
      (record { connections = old.connections; monitor = old.monitor }) happened result
      (record { connections = new.connections; monitor = new.monitor }) joining

  no_silence_at_gap : (awaits : Bool) (place : ℕ) (old : Now) (happened : List Happening)
      (result : Result Bool LiveError) (new : Now)
      → GapPasses parts place awaits old happened result new → silences happened ≡ 0
  no_silence_at_gap true place old happened result new h =
      no_silence_by_arrival place (record old { connections = h.between }) happened result new
      h.arrives
  no_silence_at_gap false place old happened result new (none, ok, same) = ap silences none

  silences_are_due : (awaited : Awaited) (old : Now) (happened : List Happening)
      (result : Result Bool LiveError) (new : Now)
      → Does parts awaited old happened result new → silences happened ≡ silences_due awaited
  silences_are_due (Octets place) old happened result new (taken, reads) =
      no_silence_in_read taken place old happened result new reads
  silences_are_due Newcomer old happened result new (same, given, for_it, joins) =
      no_silence_in_joining given old happened result new joins
  silences_are_due NotAccepted old happened result new (same, unchanged, refused, waits) =
      ap silences refused.0
  silences_are_due NotAllowed old happened result new (same, (kept, turned, peer, named, refused)) =
      ap silences refused.0
  silences_are_due (Gap place) old happened result new passes =
      no_silence_at_gap
      (awaits_gap parts.connection.framing.awaits (slice_get old.connections place)) place old
      happened result new passes
  silences_are_due TimeOut old happened result new silent = ap silences silent.answers.happens
      ∙ ap (λ (n : ℕ). 1 + n) (ap silences silent.answers.replies.happens
      ∙ silences_of_sent silent.answers.replies.in_time silent.answers.replies.due)
  silences_are_due Stopped old happened result new (same, unchanged, stopped, waits) =
      ap silences stopped.0
  silences_are_due Client old happened result new (none, ok, same) = ap silences none

  pub tells_each_silence : TellsEachSilence parts
  tells_each_silence old new happened result step =
      silences_are_due step.awaited (record old { waiter = step.waiter }) happened result new
      step.does
