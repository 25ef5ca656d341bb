-- A turn of programs is part of the run of the station.
use Rattle.std.proofs.Common.{◌≡◌, ◌∙◌, ℕ, Bool, true, false, List, Option, Some, None, Result, Ok}
use Rattle.std.proofs.Common.{Err, OnErr, ap, refl, sym, subst, inl, inr}
use Rattle.std.specs.declared.alloc.AllocError.{AllocError}
use Rattle.bsc_bid.specs.declared.sender.ReleaseError.{ReleaseError}
use Rattle.bsc_bid.specs.declared.station.Station as station_of
use Rattle.bsc_bid.specs.declared.way.Way.{Way}
use Rattle.bsc_connections.specs.declared.awaited.LiveError.{LiveError}
use Rattle.bsc_connections.specs.declared.awaited.LiveError.TheVariants.{Memory, Unkept}
use Rattle.bsc_feed.specs.declared.client.Client.{Client}
use Rattle.bsc_feed.specs.declared.fault.Fault.{Fault}
use Rattle.bsc_feed.specs.Answering.{Serving}
use Rattle.bsc_feed.specs.Clients.{Nexts}
use Rattle.bsc_feed.specs.Texts.{Telling}
use Rattle.bsc_spool.specs.declared.fault.StoreFault.{StoreFault}
use Rattle.bsc_keeping.specs.FedRuns.{RunsFed, for_programs}
use Rattle.bsc_keeping.specs.LiveRuns.{Course, State, failed, goes, not_offered, offered, released}
use Rattle.bsc_keeping.specs.LiveRuns.{set, unless_failed}
use Rattle.bsc_monitor.specs.declared.attendance.Presence.{Presence}
use Rattle.bsc_keeping.specs.declared.keeps.Keeps as keeps_of
use Rattle.bsc_station.specs.declared.line_station.LineStation as line_of
use Rattle.bsc_station.specs.declared.party.Party as party_of
use Rattle.bsc_serving.specs.Feds.{AnswersKept, KeepsIfDone, OffersIfKept, PollsIfKnown}
use Rattle.bsc_serving.specs.Feds.{failure_after, serving_fed}
use Rattle.bsc_serving.specs.Serves.{IsAsked, ServesPrograms, asked, served_as, unasked}
use Rattle.bsc_serving.specs.declared.fed.Fed.{Fed}
use Rattle.bsc_serving.proofs.Changes.{goes_by_step}

module _ {S Q V M Z : Type 0} (station : station_of.Ghosts S) (line : line_of.Ghosts S Z)
    (keeping : keeps_of.Ghosts Q S) (shows : V → ℕ → Option Presence)
    (obeys : V → ℕ → Bool → V → Type 0) (fed_party : party_of.Ghosts (Fed S Q V) M)
    (first : State S Q) where
  abbrev FedOne : Type 0
  FedOne = Fed S Q V

  abbrev at : S → Q → State S Q
  at s q = record { station = s; kept = q }

  abbrev Run : Course → State S Q → Type 0
  Run course now = RunsFed station line keeping true course first now

  -- whether the station has to end
  abbrev course_after : Option LiveError → Course
  course_after None = goes
  course_after (Some error) = failed

  -- the station and what keeps its records
  abbrev Runs : FedOne → Type 0
  Runs f = Run (course_after f.failure) (at f.station.now f.keeps.now)

  -- a step leads on
  abbrev Goes : FedOne → FedOne → Type 0
  Goes old new = old.failure ≡ None → Runs old → Runs new

  still : (f : FedOne) → Goes f f
  still f fine run = run

  -- the run so far, of a station that goes on
  so_far : (f : FedOne) → f.failure ≡ None → Runs f → Run goes (at f.station.now f.keeps.now)
  so_far f fine run =
      subst (λ failure. Run (course_after failure) (at f.station.now f.keeps.now)) fine run

  -- the run after a step that leaves this
  as_left : (f : FedOne) (failure : Option LiveError) → f.failure ≡ failure
      → Run (course_after failure) (at f.station.now f.keeps.now) → Runs f
  as_left f failure is run =
      subst (λ it. Run (course_after it) (at f.station.now f.keeps.now)) (sym is) run

  -- a step that fails leaves the station as it was
  as_it_was : (old new : FedOne) (failure : LiveError) → new.failure ≡ Some failure
      → new.station.now ≡ old.station.now → Run failed (at old.station.now new.keeps.now) → Runs new
  as_it_was old new failure is same run =
      as_left new (Some failure) is (subst (λ s. Run failed (at s new.keeps.now)) (sym same) run)

  -- a record that was kept is offered, or there is no memory for it
  by_answer_to_offer : (answer : Result ℕ AllocError) (old : FedOne) (t : ℕ) (way : Way)
      (chars : List ℕ) (new : FedOne) → old.failure ≡ None
      → Run goes (at old.station.now old.keeps.now)
      → keeping.keeps_offer old.keeps.now t way chars (Ok chars) new.keeps.now
      → line.offers old.station.now t way chars answer new.station.now
      → OnErr answer (new.station.now ≡ old.station.now)
      → new.failure ≡ failure_after answer old.failure → Runs new
  by_answer_to_offer (Ok number) old t way chars new fine run kept offering unchanged failure =
      as_left new None (failure ∙ fine) (offered run kept (number, offering))
  by_answer_to_offer (Err error) old t way chars new fine run kept offering unchanged failure =
      as_it_was old new Memory failure unchanged (not_offered way run tt kept)

  by_offer : (given : Result (List ℕ) StoreFault) (result : Result ℕ Fault) (old : FedOne) (t : ℕ)
      (way : Way) (chars : List ℕ) (new : FedOne) → old.failure ≡ None
      → Run goes (at old.station.now old.keeps.now)
      → keeping.keeps_offer old.keeps.now t way chars given new.keeps.now
      → OffersIfKept line.offers keeping.keeps_offer given old t way chars result new → Runs new
  by_offer (Ok it) result old t way chars new fine run kept
      (same, (answer, offering, unchanged, is, failure)) =
      by_answer_to_offer answer old t way chars new fine run
      (subst (λ g. keeping.keeps_offer old.keeps.now t way chars (Ok g) new.keeps.now) same kept)
      offering unchanged failure
  by_offer (Err fault) result old t way chars new fine run kept (answer, unchanged, failure) =
      as_it_was old new Unkept failure unchanged (not_offered way run tt kept)

  by_release : (kept : Result (Unit {0}) LiveError) (old between : FedOne) (t : ℕ) (way : Way)
      (count : ℕ) (result : Result (Unit {0}) Fault) (new : FedOne) → old.failure ≡ None
      → Run goes (at old.station.now old.keeps.now)
      → line.releases old.station.now t way count (Ok tt) between.station.now
      → between.failure ≡ old.failure → between.keeps.now ≡ old.keeps.now
      → keeping.keeps between.keeps.now between.station.now kept new.keeps.now
      → AnswersKept kept between.failure result new.failure
      → new.station.now ≡ between.station.now → Runs new
  by_release (Ok done) old between t way count result new fine run releasing failure same kept_so
      (answer, after) unchanged =
      as_left new None (after ∙ failure ∙ fine)
      (subst (λ s. Run goes (at s new.keeps.now)) (sym unchanged)
      (released (Ok done) run releasing
      (subst (λ q. keeping.keeps q between.station.now (Ok done) new.keeps.now) same kept_so)))
  by_release (Err error) old between t way count result new fine run releasing failure same kept_so
      (answer, after) unchanged =
      as_left new (Some error) after
      (subst (λ s. Run failed (at s new.keeps.now)) (sym unchanged)
      (released (Err error) run releasing
      (subst (λ q. keeping.keeps q between.station.now (Err error) new.keeps.now) same kept_so)))

  -- a release that the station has done, and one that it has refused
  by_answer : (answer : Result (Unit {0}) ReleaseError) (old between : FedOne) (t : ℕ) (way : Way)
      (count : ℕ) (result : Result (Unit {0}) Fault) (new : FedOne)
      → line.releases old.station.now t way count answer between.station.now
      → OnErr answer (between.station.now ≡ old.station.now)
      → between.failure ≡ old.failure → between.keeps.now ≡ old.keeps.now
      → KeepsIfDone line.releases keeping.keeps answer between result new → Goes old new
  by_answer (Ok done) old between t way count result new releasing refused failure same kept fine run =
      by_release kept.kept old between t way count result new fine (so_far old fine run) releasing
      failure same kept.keeping kept.answers kept.unchanged
  by_answer (Err error) old between t way count result new releasing refused failure same (answer, is)
      fine run =
      as_left new None (ap (λ (f : FedOne). f.failure) is ∙ failure ∙ fine)
      (subst (λ q. Run goes (at new.station.now q)) (sym (ap (λ (f : FedOne). f.keeps.now) is ∙ same))
      (subst (λ s. Run goes (at s old.keeps.now))
      (sym (ap (λ (f : FedOne). f.station.now) is ∙ refused)) (so_far old fine run)))

  by_change : (old new : FedOne) → new.keeps.now ≡ old.keeps.now → new.failure ≡ old.failure
      → (for_programs line).sets old.station.now new.station.now
      → Goes old new
  by_change old new same failure sets fine run =
      as_left new None (failure ∙ fine)
      (subst (λ q. Run goes (at new.station.now q)) (sym same) (set (so_far old fine run) sets))

  by_poll : (known : Option Presence) (old : FedOne) (t : ℕ) (polled : Bool)
      (result : Result (Unit {0}) Fault) (new : FedOne)
      → PollsIfKnown obeys known old t polled result new → Goes old new
  by_poll None old t polled result new (refused, is) fine run = subst Runs (sym is) run
  by_poll (Some presence) old t polled result new polls fine run =
      as_left new None (polls.failure ∙ fine)
      (subst (λ s. Run goes (at s new.keeps.now)) (sym (ap (λ it. it.now) polls.station))
      (subst (λ q. Run goes (at old.station.now q)) (sym (ap (λ it. it.now) polls.keeps))
      (so_far old fine run)))

  -- what a station that is fed does for programs
  abbrev does : Serving FedOne
  does = serving_fed line keeping shows obeys

  abbrev pub Asks : FedOne → FedOne → Type 0
  Asks = IsAsked fed_party does (λ (f : FedOne). f.failure)

  by_step : (client : Client) (old : FedOne) (told : Option Telling) (next : Client) (new : FedOne)
      → Nexts fed_party does client old told next new → Goes old new
  by_step client old told next new nexts =
      goes_by_step fed_party does Goes still
      (λ a t way chars result b offering fine run.
      by_offer offering.1.given result a t way chars b fine (so_far a fine run)
      offering.1.keeps offering.1.done)
      (λ a t way count result b releasing.
      by_answer releasing.answer a releasing.between t way count result b releasing.released
      releasing.refused releasing.keeps_rest.1 releasing.keeps_rest.0 releasing.keeping)
      (λ a takes result b changing.
      by_change a b changing.keeps changing.failure (inl (takes, changing.is_terminal, changing.asked)))
      (λ a result b changing.
      by_change a b changing.keeps changing.failure (inr (changing.is_terminal, changing.asked)))
      (λ a t polled result b polls. by_poll (shows a.watch.now t) a t polled result b polls)
      (λ a b is fine run. subst Runs (sym is) run)
      client old told next new nexts

  asked_runs : {old new : FedOne} → Asks old new → Runs old → Runs new
  asked_runs unasked run = run
  asked_runs {old} {new} (asked {mid = mid} client next told fine nexts later) run =
      asked_runs later (by_step client old told next mid nexts fine run)

  served_well : (failure : Option LiveError) (stopped : Bool)
      → unless_failed (served_as failure stopped) goes ≡ course_after failure
  served_well None stopped = refl
  served_well (Some error) stopped = refl

  -- the run goes on in a turn of programs
  pub turn_runs : (s : S) (q : Q) (result : Result Bool LiveError) (new : S) (new_keeps : Q)
      → ServesPrograms Asks s q result new new_keeps → Run goes (at s q)
      → Run (unless_failed result goes) (at new new_keeps)
  turn_runs s q result new new_keeps turn run =
      let before : Runs turn.begun =
      as_left turn.begun None turn.fine
      (subst (λ it. Run goes (at it turn.begun.keeps.now)) (sym turn.station_is)
      (subst (λ it. Run goes (at s it)) (sym turn.keeps_is) run)) in
      subst (λ course. Run course (at new new_keeps))
      (sym (ap (λ (r : Result Bool LiveError). unless_failed r goes) turn.answer
      ∙ served_well turn.last.failure turn.last.stopped))
      (subst (λ it. Run (course_after turn.last.failure) (at it new_keeps)) (sym turn.station_left)
      (subst (λ it. Run (course_after turn.last.failure) (at turn.last.station.now it))
      (sym turn.keeps_left) (asked_runs turn.are_asked before)))
