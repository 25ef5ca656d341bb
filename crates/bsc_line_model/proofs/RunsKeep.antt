-- What a run keeps, event by event.
use Rattle.std.proofs.Common.{◌≡◌, inl, inr, ℕ, zero, suc, ◌+◌, ◌-◌, ◌≤◌, ◌++◌, IsTrue, List}
use Rattle.std.proofs.Common.{[], ◌∷◌, length, take, slice_get, Some, Result, Ok, Err, refl}
use Rattle.std.proofs.Common.{sym, ◌∙◌, ap, subst, append_assoc, arith}
use Rattle.std.proofs.lemmas.List.{append-nil}
use Rattle.bsc_bid.specs.declared.phase.Phase.{Phase}
use Rattle.bsc_bid.specs.declared.phase.Phase.TheVariants.{Idle, Unanswered, Held, InDoubt}
use Rattle.bsc_bid.specs.Channel.{IsSpooled, IsSound}
use Rattle.bsc_bid.specs.declared.way.Way.{Way}
use Rattle.bsc_line_model.specs.declared.error.Stopped.{Stopped}
use Rattle.bsc_line_model.specs.declared.event.Event.{Event}
use Rattle.bsc_line_model.specs.Line.{LineValue, IsChannel, channel_of, phase_of}
use Rattle.bsc_line_model.specs.Runs.{Does, RunsFrom, Runs}
use Rattle.bsc_line_model.specs.Kept.{IsLine}
use Rattle.bsc_line_model.specs.ChannelSteps.{StepsChannels}
use Rattle.bsc_line_model.specs.Headline.{offered_in, accepted_in, IsSettled, PassesEvent}
use Rattle.bsc_line_model.specs.Headline.{History, KeepsRecords}
use Rattle.bsc_line_model.specs.EveryRun.{RunsKeepLine}
use Rattle.bsc_line_model.specs.StepLaws.{offered_on, offered_by}
use Rattle.bsc_line_model.specs.BidLaws.{BidLaws}
use Rattle.bsc_line_model.proofs.Soundness.{sound_of_together}
use Rattle.bsc_line_model.proofs.Refusals.{nothing_changed, was_trusted}
use Rattle.bsc_line_model.proofs.OfferedGrows.{grows_by_offers, channel_stays, SameTerminals}
use Rattle.bsc_line_model.proofs.OfferedGrows.{all_same, same_terminals, same_terminals_in_turn}
use Rattle.bsc_line_model.proofs.OfferedGrows.{channel_stays_if_same, channel_was_if_same}
use Rattle.bsc_line_model.proofs.EventMoves.{event_moves}
use Rattle.bsc_line_model.proofs.Reaching.{reaches}

abbrev Answer : Type 0
Answer = Result (Unit {0}) Stopped

-- the events that are accepted, if the first of them is at this place
abbrev accepted_from : ℕ → List Event → Answer → List Event
accepted_from at xs (Ok done) = xs
accepted_from at xs (Err stopped) = take (stopped.at - at) xs

-- a run that stops does so at one of its events
stops_past : (at : ℕ) (old new : LineValue) (xs : List Event) (s : Stopped)
    → RunsFrom at old xs (Err s) new → at ≤ s.at
stops_past at old new [] s k = absurd k
stops_past at old new (x ∷ xs) s (inl stop) = let here : s.at ≡ at = stop.place in omega arith
stops_past at old new (x ∷ xs) s (inr go) = let later : at + 1 ≤ s.at =
    stops_past (at + 1) go.mid new xs s go.rest in omega arith

accepted_with_first : (at : ℕ) (x : Event) (xs : List Event) (s : Stopped) → at + 1 ≤ s.at
    → accepted_from at (x ∷ xs) (Err s) ≡ x ∷ accepted_from (at + 1) xs (Err s)
accepted_with_first at x xs s later = let count : s.at - at ≡ suc (s.at - (at + 1)) = omega arith in
    ap (λ (n : ℕ). take n (x ∷ xs)) count

none_accepted_at_stop : (at : ℕ) (x : Event) (xs : List Event) (s : Stopped) → s.at ≡ at
    → accepted_from at (x ∷ xs) (Err s) ≡ []
none_accepted_at_stop at x xs s here = let count : s.at - at ≡ 0 = omega arith in
    ap (λ (n : ℕ). take n (x ∷ xs)) count

-- a run leaves a line that keeps the invariant, and was trusted all along if it is trusted at the
-- end
pub run_line : (at : ℕ) (old new : LineValue) (xs : List Event) (r : Answer) → IsLine old
    → RunsFrom at old xs r new → IsLine new
run_line at old new [] (Ok done) line k = subst IsLine (sym k) line
run_line at old new [] (Err s) line k = absurd k
run_line at old new (x ∷ xs) (Ok done) line go =
    run_line (at + 1) go.mid new xs (Ok done) go.line go.rest
run_line at old new (x ∷ xs) (Err s) line (inl stop) =
    subst IsLine (sym (nothing_changed x old new s.why stop.refused)) line
run_line at old new (x ∷ xs) (Err s) line (inr go) =
    run_line (at + 1) go.mid new xs (Err s) go.line go.rest

pub run_trusted : (at : ℕ) (old new : LineValue) (xs : List Event) (r : Answer)
    → RunsFrom at old xs r new → IsTrue new.trusted → IsTrue old.trusted
run_trusted at old new [] (Ok done) k now = subst (λ (l : LineValue). IsTrue l.trusted) k now
run_trusted at old new [] (Err s) k now = absurd k
run_trusted at old new (x ∷ xs) (Ok done) go now =
    was_trusted x old go.mid go.done (run_trusted (at + 1) go.mid new xs (Ok done) go.rest now)
run_trusted at old new (x ∷ xs) (Err s) (inl stop) now =
    subst (λ (l : LineValue). IsTrue l.trusted) (nothing_changed x old new s.why stop.refused) now
run_trusted at old new (x ∷ xs) (Err s) (inr go) now =
    was_trusted x old go.mid go.done (run_trusted (at + 1) go.mid new xs (Err s) go.rest now)

-- a line keeps its channels
run_channel : (at : ℕ) (old new : LineValue) (xs : List Event) (r : Answer) (t : ℕ) (way : Way)
    → RunsFrom at old xs r new → IsChannel old t way → IsChannel new t way
run_channel at old new [] (Ok done) t way k is =
    subst (λ (l : LineValue). IsChannel l t way) (sym k) is
run_channel at old new [] (Err s) t way k is = absurd k
run_channel at old new (x ∷ xs) (Ok done) t way go is =
    run_channel (at + 1) go.mid new xs (Ok done) t way go.rest
    (channel_stays x old go.mid t way go.done is)
run_channel at old new (x ∷ xs) (Err s) t way (inl stop) is =
    subst (λ (l : LineValue). IsChannel l t way)
    (sym (nothing_changed x old new s.why stop.refused)) is
run_channel at old new (x ∷ xs) (Err s) t way (inr go) is =
    run_channel (at + 1) go.mid new xs (Err s) t way go.rest
    (channel_stays x old go.mid t way go.done is)

-- the offered records grow by the accepted offers
nothing_offered_if_same : (old new : LineValue) (t : ℕ) (way : Way) → new ≡ old → offered_on new t way
    ≡ offered_on old t way ++ []
nothing_offered_if_same old new t way same = ap (λ (l : LineValue). offered_on l t way) same
    ∙ sym (append-nil (offered_on old t way))

offered_by_event_and_rest : (x : Event) (old mid new : LineValue) (t : ℕ) (way : Way) (rest : List (List ℕ))
    → offered_on mid t way ≡ offered_on old t way ++ offered_by x t way → offered_on new t way
    ≡ offered_on mid t way ++ rest →
    offered_on new t way ≡ offered_on old t way ++ (offered_by x t way ++ rest)
offered_by_event_and_rest x old mid new t way rest here later =
    later ∙ ap (λ (rs : List (List ℕ)). rs ++ rest) here
    ∙ append_assoc (offered_on old t way) (offered_by x t way) rest

run_offers : (at : ℕ) (old new : LineValue) (xs : List Event) (r : Answer) → IsLine old
    → RunsFrom at old xs r new → (t : ℕ) (way : Way) → IsChannel old t way →
    offered_on new t way ≡ offered_on old t way ++ offered_in (accepted_from at xs r) t way
run_offers at old new [] (Ok done) line k t way is = nothing_offered_if_same old new t way k
run_offers at old new [] (Err s) line k t way is = absurd k
run_offers at old new (x ∷ xs) (Ok done) line go t way is =
    offered_by_event_and_rest x old go.mid new t way (offered_in xs t way)
    (grows_by_offers x old go.mid line go.done t way is)
    (run_offers (at + 1) go.mid new xs (Ok done) go.line go.rest t way
    (channel_stays x old go.mid t way go.done is))
run_offers at old new (x ∷ xs) (Err s) line (inl stop) t way is =
    subst (λ (es : List Event). offered_on new t way ≡ offered_on old t way ++ offered_in es t way)
    (sym (none_accepted_at_stop at x xs s stop.place))
    (nothing_offered_if_same old new t way (nothing_changed x old new s.why stop.refused))
run_offers at old new (x ∷ xs) (Err s) line (inr go) t way is =
    subst (λ (es : List Event). offered_on new t way ≡ offered_on old t way ++ offered_in es t way)
    (sym (accepted_with_first at x xs s (stops_past (at + 1) go.mid new xs s go.rest)))
    (offered_by_event_and_rest x old go.mid new t way (offered_in (accepted_from (at + 1) xs (Err s)) t way)
    (grows_by_offers x old go.mid line go.done t way is)
    (run_offers (at + 1) go.mid new xs (Err s) go.line go.rest t way
    (channel_stays x old go.mid t way go.done is)))

-- the line at each place: the first one, and then those of the rest
abbrev line_then : LineValue → (ℕ → LineValue) → ℕ → LineValue
line_then first rest zero = first
line_then first rest (suc i) = rest i

-- a run that passes no event
no_event_passes : (old new : LineValue) → new ≡ old → History old [] new
no_event_passes old new same = record {
  line_at = λ i. old;
  first = refl;
  steps = λ i event here. cc;
  last = sym same;
}

-- one event, and then the history of the rest
step_then : (x : Event) (xs : List Event) (old mid : LineValue) (rest : ℕ → LineValue)
    → PassesEvent x old mid → rest 0 ≡ mid
    → ((i : ℕ) (event : Event) → slice_get xs i ≡ Some event
    → PassesEvent event (rest i) (rest (suc i)))
    → (i : ℕ) (event : Event) → slice_get (x ∷ xs) i ≡ Some event
    → PassesEvent event (line_then old rest i) (line_then old rest (suc i))
step_then x xs old mid rest p first steps zero event here =
    let same : x ≡ event = cc in
    subst (λ (l : LineValue). PassesEvent event old l) (sym first)
    (subst (λ (e : Event). PassesEvent e old mid) same p)
step_then x xs old mid rest p first steps (suc i) event here = steps i event here

event_then_history : (x : Event) (xs : List Event) (old mid new : LineValue)
    → PassesEvent x old mid → History mid xs new → History old (x ∷ xs) new
event_then_history x xs old mid new p h = record {
  line_at = line_then old h.line_at;
  first = refl;
  steps = step_then x xs old mid h.line_at p h.first h.steps;
  last = h.last;
}

passes_event : (laws : BidLaws) (x : Event) (old mid : LineValue) → IsLine old
    → Does x old (Ok tt) mid → IsTrue mid.trusted → PassesEvent x old mid
passes_event laws x old mid line d now =
    let steps : StepsChannels x old mid = event_moves laws x old mid line d now in
    record {
      line = line;
      accepted = d;
      trusted_before = was_trusted x old mid d now;
      trusted_after = now;
      moves = steps;
      reaches = reaches x old mid steps;
    }

history : (laws : BidLaws) (at : ℕ) (old new : LineValue) (xs : List Event) (r : Answer)
    → IsLine old → RunsFrom at old xs r new → IsTrue new.trusted
    → History old (accepted_from at xs r) new
history laws at old new [] (Ok done) line k now = no_event_passes old new k
history laws at old new [] (Err s) line k now = absurd k
history laws at old new (x ∷ xs) (Ok done) line go now =
    event_then_history x xs old go.mid new
    (passes_event laws x old go.mid line go.done
    (run_trusted (at + 1) go.mid new xs (Ok done) go.rest now))
    (history laws (at + 1) go.mid new xs (Ok done) go.line go.rest now)
history laws at old new (x ∷ xs) (Err s) line (inl stop) now =
    subst (λ (es : List Event). History old es new) (sym (none_accepted_at_stop at x xs s stop.place))
    (no_event_passes old new (nothing_changed x old new s.why stop.refused))
history laws at old new (x ∷ xs) (Err s) line (inr go) now =
    subst (λ (es : List Event). History old es new)
    (sym (accepted_with_first at x xs s (stops_past (at + 1) go.mid new xs s go.rest)))
    (event_then_history x (accepted_from (at + 1) xs (Err s)) old go.mid new
    (passes_event laws x old go.mid line go.done
    (run_trusted (at + 1) go.mid new xs (Err s) go.rest now))
    (history laws (at + 1) go.mid new xs (Err s) go.line go.rest now))

-- a run from its first event
accepted_from_start : (events : List Event) (r : Answer) → accepted_from 0 events r ≡ accepted_in events r
accepted_from_start events (Ok done) = refl
accepted_from_start events (Err s) = let count : s.at - 0 ≡ s.at = omega arith in
    ap (λ (n : ℕ). take n events) count

-- all that arrived is known if no block is unanswered or in doubt
all_known_if_settled : (phase : Phase) (known spooled : ℕ) → IsSpooled phase known spooled → IsSettled phase
    → known ≡ spooled
all_known_if_settled Idle known spooled is k = sym is
all_known_if_settled (Held end x) known spooled is k = sym is
all_known_if_settled (Unanswered b) known spooled is k = absurd k
all_known_if_settled (InDoubt n) known spooled is k = absurd k

pub runs_keep : (laws : BidLaws) (old new : LineValue) (events : List Event) (r : Answer)
    → IsLine old → Runs old events r new → IsTrue new.trusted → KeepsRecords old events r new
runs_keep laws old new events r line run now =
    record {
      trusted = run_trusted 0 old new events r run now;
      channels = λ t way is.
          let after : IsLine new = run_line 0 old new events r line run in
          let sounds : IsSound (phase_of new t way) (channel_of new t way) =
          sound_of_together laws new after.stations (after.together now) t way
          (run_channel 0 old new events r t way run is) in
          record {
            offered =
                subst (λ (es : List Event). offered_on new t way ≡ offered_on old t way
                ++ offered_in es t way) (accepted_from_start events r)
                (run_offers 0 old new events r line run t way is);
            arrived = sounds.front;
            known = sounds.known;
            all_known =
                all_known_if_settled (phase_of new t way) (channel_of new t way).known
                (length (channel_of new t way).spooled) sounds.spooled;
          };
      history =
          subst (λ (es : List Event). History old es new) (accepted_from_start events r)
          (history laws 0 old new events r line run now);
    }

-- the terminals keep their addresses
run_terminals : (at : ℕ) (old new : LineValue) (xs : List Event) (r : Answer)
    → RunsFrom at old xs r new → SameTerminals old new
run_terminals at old new [] (Ok done) k =
    all_same old new (ap (λ (l : LineValue). l.terminals) k)
run_terminals at old new [] (Err s) k = absurd k
run_terminals at old new (x ∷ xs) (Ok done) go =
    same_terminals_in_turn old go.mid new (same_terminals x old go.mid go.done)
    (run_terminals (at + 1) go.mid new xs (Ok done) go.rest)
run_terminals at old new (x ∷ xs) (Err s) (inl stop) =
    all_same old new
    (ap (λ (l : LineValue). l.terminals) (nothing_changed x old new s.why stop.refused))
run_terminals at old new (x ∷ xs) (Err s) (inr go) =
    same_terminals_in_turn old go.mid new (same_terminals x old go.mid go.done)
    (run_terminals (at + 1) go.mid new xs (Err s) go.rest)

-- every run leaves a line with the channels of before
pub runs_keep_line : RunsKeepLine
runs_keep_line old new events r line run =
    let same : SameTerminals old new = run_terminals 0 old new events r run in
    record {
      line = run_line 0 old new events r line run;
      channels = record {
        count = same.count;
        addresses = same.each;
        channels = λ t way. (channel_was_if_same old new t way same, channel_stays_if_same old new t way same);
      };
      offered = λ t way is.
          subst (λ (es : List Event). offered_on new t way ≡ offered_on old t way
          ++ offered_in es t way) (accepted_from_start events r)
          (run_offers 0 old new events r line run t way is);
    }
