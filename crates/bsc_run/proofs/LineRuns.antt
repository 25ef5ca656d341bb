-- A run of a script is a run of the line over the events that were accepted.
use Rattle.std.proofs.Common.{◌≡◌, ◌≤◌, ◌&&◌, ℕ, zero, suc, ◌+◌, Bool, true, false, if◌then◌else◌}
use Rattle.std.proofs.Common.{nat_eq, IsTrue, List, [], ◌∷◌, ◌++◌, length, map, take, drop, replicate}
use Rattle.std.proofs.Common.{All, inl, inr, Option, None, Some, Result, Ok, Err, OnOk}
use Rattle.std.proofs.Common.{refl, sym, ◌∙◌, ap, subst, arith}
use Rattle.std.proofs.lemmas.List.{length-map}
use Rattle.std.specs.Borrow.{Bor}
use Rattle.std.specs.Str.{bytes_eq}
use Rattle.bsc_frame.specs.Wire.{wire}
use Rattle.bsc_bid.specs.Channel.{Channel}
use Rattle.bsc_bid.specs.Setup.{SetupValue}
use Rattle.bsc_bid.specs.Terminal.{TerminalValue}
use Rattle.bsc_carrier.specs.Cable.{CableValue}
use Rattle.bsc_bid.specs.declared.way.Way.{Way}
use Rattle.bsc_bid.specs.declared.way.Way.TheVariants.{FromTerminal, ToTerminal}
use Rattle.bsc_line_model.specs.declared.error.Stopped.{Stopped}
use Rattle.bsc_line_model.specs.declared.event.Event.{Event}
use Rattle.bsc_line_model.specs.declared.event.Event.TheVariants as event
use Rattle.bsc_line_model.specs.Line.{LineValue, IsChannel}
use Rattle.bsc_line_model.specs.Kept.{IsLine, IsNewLine}
use Rattle.bsc_line_model.specs.Runs.{Does, RunsFrom, Runs}
use Rattle.bsc_line_model.specs.Headline.{offered_in, spooled_on, RunsKeepRecords}
use Rattle.bsc_line_model.specs.EveryRun.{RunsKeepLine}
use Rattle.bsc_line_model.specs.StepLaws.{offered_by, offered_on}
use Rattle.bsc_line_model.specs.Rounds.{IsVisited, IsRoundDone}
use Rattle.bsc_line_model.specs.Rounds.{RunsDeliverVisit, RunsDeliverRound}
use Rattle.bsc_line_model.specs.Rounds.{entry_at, sent_times, visit_length, round_length}
use Rattle.bsc_line_model.proofs.NewChannels.{new_channels}
use Rattle.bsc_line_model.proofs.Refusals.{nothing_changed}
use Rattle.bsc_config.specs.Actions.{NumberedEvent}
use Rattle.bsc_config.specs.Events.{Event as Asked, offer_at, offer_for, carry, lose, heard}
use Rattle.bsc_config.specs.Events.{heard_each, silence, ready, polled, urgent_at, urgent_for}
use Rattle.bsc_config.specs.Events.{release}
use Rattle.bsc_run.specs.Crossing.{Streams}
use Rattle.bsc_run.specs.declared.error.RunError.{RunError}
use Rattle.bsc_run.specs.LineRuns.{asked_for, script_offers, PlaysVisit, PlaysRound}
use Rattle.bsc_run.specs.LineRuns.{ArrivesAsAsked, PlaysFrom, RunsLine}
use Rattle.bsc_run.specs.Plays.{Playing, on_cable, Plays, Texts}
use Rattle.bsc_run.specs.Steps.{OnCable, MayBe, Crossing, heard_as}

-- what every run of a line promises
pub record LineLaws : Type 0 where
  pub keeps : RunsKeepLine
  pub headline : RunsKeepRecords
  pub visit : RunsDeliverVisit
  pub round : RunsDeliverRound

-- a list as a borrowed value
borrowed_list : {X : Type 0} → List X → Bor (List X)
borrowed_list xs = record { ref_ptr = (0, 0); now = xs }

lent_now : {X : Type 0} (xs : List X) → (borrowed_list xs).now ≡ xs
unfolding borrowed_list
lent_now xs = refl

-- an event of the line for an event of a script
may_be : (asked : Asked) → (e : Event) × MayBe asked e
may_be (offer_at t codes) = (event.OfferAt t (borrowed_list codes), (borrowed_list codes, lent_now codes, refl))
may_be (offer_for t s codes) = (event.OfferFor t s (borrowed_list codes), (borrowed_list codes, lent_now codes, refl))
may_be carry = (event.CarrySent, inl refl)
may_be lose = (event.Carry None, refl)
may_be (heard given) = (event.CarrySent, inl refl)
may_be (heard_each items) =
    let words : List (Option (Bor (List ℕ))) = map (λ item. None) items in (
      event.CarryEach (borrowed_list words),
      (
        borrowed_list words,
        ap length (lent_now words)
            ∙ length-map items (λ item. None),
        refl,
      ),
    )
may_be silence = (event.Silence, refl)
may_be (ready t takes) = (event.Ready t takes, refl)
may_be (polled t on) = (event.Polled t on, refl)
may_be (urgent_at t) = (event.UrgentAt t, refl)
may_be (urgent_for t) = (event.UrgentFor t, refl)
may_be (release t way) = (event.Release t way, refl)

-- an accepted event, and then a run
runs_after : (at : ℕ) (e : Event) (old mid new : LineValue) (events : List Event)
    (answer : Result (Unit {0}) Stopped) → IsLine mid
    → Does e old (Ok tt) mid → RunsFrom (at + 1) mid events answer new
    → RunsFrom at old (e ∷ events) answer new
runs_after at e old mid new events (Ok d) line done rest =
    record { mid = mid; line = line; done = done; rest = rest }
runs_after at e old mid new events (Err s) line done rest =
    inr record { mid = mid; line = line; done = done; rest = rest }

-- an event of a script and the event of the line for it offer the same
heard_offers_nothing : (octets : Bor (List ℕ)) (same : Bool) (t : ℕ) (way : Way)
    → offered_by (if same then event.CarrySent else event.Carry (Some octets)) t way ≡ []
heard_offers_nothing octets true t way = refl
heard_offers_nothing octets false t way = refl

offers_codes_at : (u : ℕ) (codes : List ℕ) (told : Bor (List ℕ)) → told.now ≡ codes → (t : ℕ)
    (way : Way) → offered_by (event.OfferAt u told) t way ≡ asked_for (offer_at u codes) t way
offers_codes_at u codes told same t FromTerminal =
    ap (λ (r : List ℕ). if nat_eq t u then r ∷ [] else []) same
offers_codes_at u codes told same t (ToTerminal s) = refl

offers_codes_for : (u k : ℕ) (codes : List ℕ) (told : Bor (List ℕ)) → told.now ≡ codes → (t : ℕ)
    (way : Way) → offered_by (event.OfferFor u k told) t way ≡ asked_for (offer_for u k codes) t way
offers_codes_for u k codes told same t FromTerminal = refl
offers_codes_for u k codes told same t (ToTerminal s) =
    ap (λ (r : List ℕ). if nat_eq t u && nat_eq s k then r ∷ [] else []) same

-- an event that offers the same as another
offers_as : (e other : Event) (t : ℕ) (way : Way) (records : List (List ℕ)) → e ≡ other
    → offered_by other t way ≡ records → offered_by e t way ≡ records
offers_as e other t way records same is =
    subst (λ (x : Event). offered_by x t way ≡ records) (sym same) is

module _ {S : Type 0} (streams : Streams S) where
  offers_as_asked : (asked : Asked) (e : Event) (l : LineValue) (old new : CableValue S)
      → Crossing streams asked e l old new → (t : ℕ) (way : Way)
      → offered_by e t way ≡ asked_for asked t way
  offers_as_asked (offer_at u codes) e l old new c t way =
      offers_as e (event.OfferAt u c.0.0) t way (asked_for (offer_at u codes) t way) c.0.2
      (offers_codes_at u codes c.0.0 c.0.1 t way)
  offers_as_asked (offer_for u k codes) e l old new c t way =
      offers_as e (event.OfferFor u k c.0.0) t way (asked_for (offer_for u k codes) t way) c.0.2
      (offers_codes_for u k codes c.0.0 c.0.1 t way)
  offers_as_asked carry e l old new c t way =
      offers_as e (heard_as c.sends.transmission.message c.octets) t way [] c.is
      (heard_offers_nothing c.octets
      (bytes_eq c.octets.now (wire c.sends.transmission.message)) t way)
  offers_as_asked lose e l old new c t way = offers_as e (event.Carry None) t way [] c.0 refl
  offers_as_asked (heard given) e l old new c t way =
      offers_as e (heard_as c.sends.transmission.message c.octets) t way [] c.is
      (heard_offers_nothing c.octets
      (bytes_eq c.octets.now (wire c.sends.transmission.message)) t way)
  offers_as_asked (heard_each items) e l old new c t way =
      offers_as e (event.CarryEach c.words) t way [] c.is refl
  offers_as_asked silence e l old new c t way = offers_as e event.Silence t way [] c.0 refl
  offers_as_asked (ready u takes) e l old new c t way =
      offers_as e (event.Ready u takes) t way [] c.0 refl
  offers_as_asked (polled u on) e l old new c t way =
      offers_as e (event.Polled u on) t way [] c.0 refl
  offers_as_asked (urgent_at u) e l old new c t way =
      offers_as e (event.UrgentAt u) t way [] c.0 refl
  offers_as_asked (urgent_for u) e l old new c t way =
      offers_as e (event.UrgentFor u) t way [] c.0 refl
  offers_as_asked (release u mine) e l old new c t way =
      offers_as e (event.Release u mine) t way [] c.0 refl

  -- the accepted events are a run of the line
  accepted_run : (at : ℕ) (steps : List NumberedEvent) (events : List Event) (old : OnCable S)
      (result : Result (Unit {0}) RunError) (new : OnCable S) (text : Texts)
      → Plays streams steps events old result new text
      → RunsFrom at old.line events (Ok tt) new.line
  accepted_run at [] events old (Ok done) new text p =
      subst (λ (es : List Event). RunsFrom at old.line es (Ok tt) new.line) (sym p.3) p.0
  accepted_run at [] events old (Err e) new text p = absurd p
  accepted_run at (step ∷ steps) events old result new text (inl s) =
      let e : (x : Event) × MayBe step.event x = may_be step.event in
      subst (λ (es : List Event). RunsFrom at old.line es (Ok tt) new.line) (sym s.no_event)
      (nothing_changed e.0 old.line new.line s.why (s.refused e.0 e.1))
  accepted_run at (step ∷ steps) events old result new text (inr g) =
      subst (λ (es : List Event). RunsFrom at old.line es (Ok tt) new.line) (sym g.done)
      (runs_after at g.accepted.event old.line g.mid new.line g.later (Ok tt) g.line
      g.accepted.done
      (accepted_run (at + 1) steps g.later (record { line = g.mid; cable = g.between }) result new
      g.rest g.goes))

  -- they offer what the script offers
  same_offers : (steps : List NumberedEvent) (events : List Event) (old : OnCable S)
      (result : Result (Unit {0}) RunError) (new : OnCable S) (text : Texts)
      → Plays streams steps events old result new text → (t : ℕ) (way : Way)
      → offered_in events t way ≡ script_offers (take (length events) steps) t way
  same_offers [] events old (Ok done) new text p t way =
      subst (λ (es : List Event). offered_in es t way ≡ script_offers (take (length es) []) t way)
      (sym p.3) refl
  same_offers [] events old (Err e) new text p t way = absurd p
  same_offers (step ∷ steps) events old result new text (inl s) t way =
      subst (λ (es : List Event). offered_in es t way
      ≡ script_offers (take (length es) (step ∷ steps)) t way) (sym s.no_event) refl
  same_offers (step ∷ steps) events old result new text (inr g) t way =
      let first : offered_by g.accepted.event t way ≡ asked_for step.event t way =
      offers_as_asked step.event g.accepted.event old.line old.cable g.between g.accepted.crossing
      t way in
      let rest : offered_in g.later t way ≡ script_offers (take (length g.later) steps) t way =
      same_offers steps g.later (record { line = g.mid; cable = g.between }) result new g.rest
      g.goes t way in
      subst (λ (es : List Event). offered_in es t way
      ≡ script_offers (take (length es) (step ∷ steps)) t way) (sym g.done)
      (ap (λ (rs : List (List ℕ)). rs ++ offered_in g.later t way) first
      ∙ ap (λ (rs : List (List ℕ)). asked_for step.event t way ++ rs) rest)

  -- as many events as the script has, if it reached its end
  all_accepted : (steps : List NumberedEvent) (events : List Event) (old new : OnCable S)
      (text : Texts) → Plays streams steps events old (Ok tt) new text
      → length events ≡ length steps
  all_accepted [] events old new text p = ap (λ (es : List Event). length es) p.3
  all_accepted (step ∷ steps) events old new text (inl s) = absurd (let no = s.answer in cc)
  all_accepted (step ∷ steps) events old new text (inr g) =
      ap (λ (es : List Event). length es) g.done
      ∙ ap suc (all_accepted steps g.later (record { line = g.mid; cable = g.between }) new g.rest
      g.goes)

  all_if_done : (steps : List NumberedEvent) (events : List Event) (old : OnCable S)
      (result : Result (Unit {0}) RunError) (new : OnCable S) (text : Texts)
      → Plays streams steps events old result new text
      → OnOk result (length events ≡ length steps)
  all_if_done steps events old (Ok done) new text p = all_accepted steps events old new text p
  all_if_done steps events old (Err e) new text p = tt

  -- a script of transmissions that are all heard as they were sent is a run of such
  pub record SentRun (at n : ℕ) (old : LineValue) (result : Result (Unit {0}) RunError)
      (new : LineValue) : Type 0 where
    pub answer : Result (Unit {0}) Stopped
    pub runs : RunsFrom at old (sent_times n) answer new
    pub alike : answer ≡ Ok tt → result ≡ Ok tt

  first_of_all : (e : Event) (es : List Event) → All (λ (x : Event). x ≡ event.CarrySent) (e ∷ es)
      → e ≡ event.CarrySent
  first_of_all e es all = all 0 e (omega arith)

  rest_of_all : (e : Event) (es : List Event) → All (λ (x : Event). x ≡ event.CarrySent) (e ∷ es)
      → All (λ (x : Event). x ≡ event.CarrySent) es
  rest_of_all e es all = λ k d less. all (suc k) d (omega arith)

  sent_run : (at n : ℕ) (steps : List NumberedEvent) (events : List Event) (old : OnCable S)
      (result : Result (Unit {0}) RunError) (new : OnCable S) (text : Texts)
      → Plays streams steps events old result new text
      → map (λ (step : NumberedEvent). step.event) steps ≡ replicate n carry
      → All (λ (e : Event). e ≡ event.CarrySent) events
      → SentRun at n old.line result new.line
  sent_run at zero [] events old (Ok done) new text p is all =
      record { answer = Ok tt; runs = p.0; alike = λ e. refl }
  sent_run at (suc n) [] events old (Ok done) new text p is all = absurd (cc)
  sent_run at n [] events old (Err e) new text p is all = absurd p
  sent_run at zero (step ∷ steps) events old result new text p is all = absurd (cc)
  sent_run at (suc n) (step ∷ steps) events old result new text (inl s) is all =
      let asked : step.event ≡ carry = cc in
      record {
        answer = Err record { at = at; why = s.why };
        runs =
            inl record {
              place = refl;
              refused =
                  s.refused event.CarrySent
                  (subst (λ (x : Asked). MayBe x event.CarrySent) (sym asked) (inl refl));
            };
        alike = λ e. absurd (cc);
      }
  sent_run at (suc n) (step ∷ steps) events old result new text (inr g) is all =
      let these : All (λ (x : Event). x ≡ event.CarrySent) (g.accepted.event ∷ g.later) =
      subst (λ (es : List Event). All (λ (x : Event). x ≡ event.CarrySent) es) g.done all in
      let rest : map (λ (step : NumberedEvent). step.event) steps ≡ replicate n carry = cc in
      let more : SentRun (at + 1) n g.mid result new.line =
      sent_run (at + 1) n steps g.later (record { line = g.mid; cable = g.between }) result new
      g.rest g.goes rest (rest_of_all g.accepted.event g.later these) in
      record {
        answer = more.answer;
        runs =
            runs_after at event.CarrySent old.line g.mid new.line (sent_times n) more.answer g.line
            (subst (λ (x : Event). Does x old.line (Ok tt) g.mid)
            (first_of_all g.accepted.event g.later these) g.accepted.done) more.runs;
        alike = more.alike;
      }

  -- a run from some place on
  pub record Part (at i : ℕ) (steps : List NumberedEvent) (events : List Event) (old : OnCable S)
      (result : Result (Unit {0}) RunError) (new : OnCable S) : Type 0 where
    pub here : OnCable S
    pub line : IsLine here.line
    pub before : RunsFrom at old.line (take i events) (Ok tt) here.line
    pub text : Texts
    pub plays : Plays streams (drop i steps) (drop i events) here result new text

  no_part : (i : ℕ) (events : List Event) → events ≡ [] → suc i ≤ length events → ⊥
  no_part i events none within =
      let empty : length events ≡ 0 = ap (λ (es : List Event). length es) none in omega arith

  part_of_run : (at i : ℕ) (steps : List NumberedEvent) (events : List Event) (old : OnCable S)
      (result : Result (Unit {0}) RunError) (new : OnCable S) (text : Texts) → IsLine old.line
      → Plays streams steps events old result new text → i ≤ length events
      → Part at i steps events old result new
  part_of_run at zero steps events old result new text line p within =
      record { here = old; line = line; before = refl; text = text; plays = p }
  part_of_run at (suc i) [] events old (Ok done) new text line p within =
      absurd (no_part i events p.3 within)
  part_of_run at (suc i) [] events old (Err e) new text line p within = absurd p
  part_of_run at (suc i) (step ∷ steps) events old result new text line (inl s) within =
      absurd (no_part i events s.no_event within)
  part_of_run at (suc i) (step ∷ steps) events old result new text line (inr g) within =
      let count : length events ≡ suc (length g.later) =
      ap (λ (es : List Event). length es) g.done in
      let mid : OnCable S = record { line = g.mid; cable = g.between } in
      let more : Part (at + 1) i steps g.later mid result new =
      part_of_run (at + 1) i steps g.later mid result new g.rest g.line g.goes (omega arith) in
      subst (λ (es : List Event). Part at (suc i) (step ∷ steps) es old result new) (sym g.done)
      (record {
        here = more.here;
        line = more.line;
        before =
            runs_after at g.accepted.event old.line g.mid more.here.line (take i g.later) (Ok tt)
            g.line g.accepted.done more.before;
        text = more.text;
        plays = more.plays;
      })

  visit_from : (laws : LineLaws) (steps : List NumberedEvent) (events : List Event)
      (here : OnCable S) (result : Result (Unit {0}) RunError) (new : OnCable S) (text : Texts)
      → IsLine here.line → Plays streams steps events here result new text
      → PlaysVisit steps events here.line result new.line
  visit_from laws steps events here result new text line p place begins h =
      let n : ℕ = visit_length here.line (entry_at here.line place) in
      let sent : SentRun 0 n here.line result new.line =
      sent_run 0 n steps events here result new text p h.steps_are h.as_sent in
      let done : (sent.answer ≡ Ok tt) × IsVisited here.line new.line place =
      laws.visit here.line new.line (sent_times n) sent.answer line sent.runs place
      (record { begins = begins; transmissions = refl; delays = h.delays }) in
      (sent.alike done.0, done.1)

  round_from : (laws : LineLaws) (steps : List NumberedEvent) (events : List Event)
      (here : OnCable S) (result : Result (Unit {0}) RunError) (new : OnCable S) (text : Texts)
      → IsLine here.line → Plays streams steps events here result new text
      → PlaysRound steps events here.line result new.line
  round_from laws steps events here result new text line p begins h =
      let n : ℕ = round_length here.line in
      let sent : SentRun 0 n here.line result new.line =
      sent_run 0 n steps events here result new text p h.steps_are h.as_sent in
      let done : (sent.answer ≡ Ok tt) × IsRoundDone here.line new.line =
      laws.round here.line new.line (sent_times n) sent.answer line sent.runs
      (record { begins = begins; transmissions = refl; delays = h.delays }) in
      (sent.alike done.0, done.1)

  plays_from : (laws : LineLaws) (i : ℕ) (steps : List NumberedEvent) (events : List Event)
      (old : OnCable S) (result : Result (Unit {0}) RunError) (new : OnCable S)
      → Part 0 i steps events old result new
      → PlaysFrom i steps events old.line result new.line
  plays_from laws i steps events old result new part = record {
    here = part.here.line;
    before = part.before;
    after =
        accepted_run 0 (drop i steps) (drop i events) part.here result new part.text part.plays;
    visit =
        visit_from laws (drop i steps) (drop i events) part.here result new part.text part.line
        part.plays;
    round =
        round_from laws (drop i steps) (drop i events) part.here result new part.text part.line
        part.plays;
  }

  module _ (laws : LineLaws) (steps : List NumberedEvent) (events : List Event)
      (old new : Playing S) (result : Result (Unit {0}) RunError) (text : Texts)
      (line : IsLine old.line)
      (p : Plays streams steps events (on_cable old) result (on_cable new) text) where
    arrives_as_asked : (t : ℕ) (way : Way) → IsChannel old.line t way
        → ArrivesAsAsked (take (length events) steps) old.line new.line t way
    arrives_as_asked t way is =
        let runs : Runs old.line events (Ok tt) new.line =
        accepted_run 0 steps events (on_cable old) result (on_cable new) text p in
        record {
          offered =
              subst (λ (rs : List (List ℕ)). offered_on new.line t way
              ≡ offered_on old.line t way ++ rs)
              (same_offers steps events (on_cable old) result (on_cable new) text p t way)
              ((laws.keeps old.line new.line events (Ok tt) line runs).offered t way is);
          arrived = λ now.
              ((laws.headline old.line new.line events (Ok tt) line runs now).channels t way
              is).arrived;
        }

    runs_the_line : RunsLine steps events old.line result new.line
    runs_the_line =
        let runs : Runs old.line events (Ok tt) new.line =
        accepted_run 0 steps events (on_cable old) result (on_cable new) text p in
        record {
          runs = runs;
          all = all_if_done steps events (on_cable old) result (on_cable new) text p;
          keeps = laws.keeps old.line new.line events (Ok tt) line runs;
          headline = laws.headline old.line new.line events (Ok tt) line runs;
          arrives = arrives_as_asked;
          parts = λ i within.
              plays_from laws i steps events (on_cable old) result (on_cable new)
              (part_of_run 0 i steps events (on_cable old) result (on_cable new) text line p within);
        }

-- a run of a script is a run of the line
pub runs_line : {S : Type 0} (laws : LineLaws) (streams : Streams S) (steps : List NumberedEvent)
    (events : List Event) (old new : Playing S) (result : Result (Unit {0}) RunError)
    (text : Texts) → IsLine old.line
    → Plays streams steps events (on_cable old) result (on_cable new) text
    → RunsLine steps events old.line result new.line
runs_line laws streams steps events old new result text line p =
    runs_the_line streams laws steps events old new result text line p

-- on a new line, what arrived is the front of what the script offered
pub arrived_on_new_line : (setup : SetupValue) (given : List TerminalValue) (poll_list : List ℕ)
    (steps : List NumberedEvent) (events : List Event) (begun ended : LineValue)
    (result : Result (Unit {0}) RunError) → IsLine begun → IsNewLine setup given poll_list begun
    → RunsLine steps events begun result ended → (t : ℕ) (way : Way) → IsChannel ended t way
    → IsTrue ended.trusted → spooled_on ended t way ≡ take (length (spooled_on ended t way))
    (script_offers (take (length events) steps) t way)
arrived_on_new_line setup given poll_list steps events begun ended result line new r t way is now =
    let was : IsChannel begun t way = (r.keeps.channels.channels t way).0 is in
    let none : offered_on begun t way ≡ [] =
    ap (λ (c : Channel). c.offered)
    (new_channels setup given poll_list begun t way line new was) in
    (r.arrives t way was).arrived now
    ∙ ap (λ (rs : List (List ℕ)). take (length (spooled_on ended t way)) rs)
    ((r.arrives t way was).offered
    ∙ ap (λ (rs : List (List ℕ)). rs ++ script_offers (take (length events) steps) t way) none)
