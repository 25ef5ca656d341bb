-- A run of transmissions that are heard as they were sent, with the same counts of refusals of room
-- at its end as at its beginning, is a walk: its lines are trusted, and no spool is refused room on
-- the way.
use Rattle.std.proofs.Common.{◌≡◌, inl, inr, ℕ, zero, suc, ◌+◌, ◌^◌, ◌-◌, ◌<◌, ◌≤◌, IsTrue, length}
use Rattle.std.proofs.Common.{Result, Ok, Err, refl, sym, ◌∙◌, ap, subst, arith}
use Rattle.bsc_frame.specs.declared.message.Message.{Message}
use Rattle.bsc_frame.specs.declared.message.Heard.TheVariants.{Whole}
use Rattle.bsc_bid.specs.Fair.{IsFairlyHeard}
use Rattle.bsc_tributary.specs.Tributary.{spool_at}
use Rattle.bsc_bid.specs.declared.way.Way.TheVariants.{ToTerminal}
use Rattle.bsc_control.specs.Control.{ControlValue, peer_at}
use Rattle.bsc_line_model.specs.declared.transmission.Transmission.{Transmission}
use Rattle.bsc_bid.specs.declared.speaker.Speaker.{Speaker}
use Rattle.bsc_bid.specs.declared.speaker.Speaker.TheVariants.{Control, Terminal}
use Rattle.bsc_line_model.specs.declared.event.Event.TheVariants.{CarrySent}
use Rattle.bsc_line_model.specs.declared.error.Stopped.{Stopped}
use Rattle.bsc_line_model.specs.Line.{LineValue, terminal_at, terminal_count, IsChannel}
use Rattle.bsc_line_model.specs.Carries.{IsCarriedBy, IsCarriedDown, IsCarriedUp}
use Rattle.bsc_line_model.specs.Runs.{CarriesAs, GoesOn, RunsFrom}
use Rattle.bsc_line_model.specs.Kept.{IsLine}
use Rattle.bsc_line_model.specs.Rounds.{SameDelays, sent_times}
use Rattle.bsc_line_model.proofs.HeardAlike.{alike_is_fair}
use Rattle.bsc_line_model.proofs.OfferedGrows.{channel_stays, channel_was}
use Rattle.bsc_line_model.proofs.Refusals.{nothing_changed}
use Rattle.bsc_line_model.proofs.DelaysGrow.{Grows, grows_by_nothing, grows_in_turn, terminal_grows}
use Rattle.bsc_line_model.proofs.DelaysGrow.{ControlGrows, control_grows}
use Rattle.bsc_line_model.proofs.Walking.{IsGood, Goes, Walks}

-- the counts of refusals of room on a line did not fall
record LineGrows (old new : LineValue) : Type 0 where
  count : terminal_count new ≡ terminal_count old
  control : (t : ℕ) → t < terminal_count old
      → Grows (peer_at old.control t).spool.delays (peer_at new.control t).spool.delays
  terminals : (t s : ℕ) → IsChannel old t (ToTerminal s)
      → Grows (spool_at (terminal_at old t).spools s).delays
      (spool_at (terminal_at new t).spools s).delays

line_grows_by_nothing : (old new : LineValue) → new ≡ old → LineGrows old new
line_grows_by_nothing old new same =
    subst (λ (l : LineValue). LineGrows old l) (sym same)
    (record {
      count = refl;
      control = λ t less. grows_by_nothing (peer_at old.control t).spool.delays;
      terminals = λ t s is. grows_by_nothing (spool_at (terminal_at old t).spools s).delays;
    })

-- the terminals hear
carry_down_grows : (message : Message) (old new : LineValue) → IsLine old
    → IsCarriedDown message (λ t. Whole message) old new → LineGrows old new
carry_down_grows message old new line h =
    record {
      count = h.terminals.count;
      control =
          λ t less. subst (λ (c : ControlValue). Grows (peer_at old.control t).spool.delays
          (peer_at c t).spool.delays) (sym h.control)
          (grows_by_nothing (peer_at old.control t).spool.delays);
      terminals = λ t s is.
          let into : s < length (terminal_at old t).spools =
          subst (λ (n : ℕ). s < n) (sym (line.stations.members t is.there).tributary.spools)
          is.its_way in
          terminal_grows (terminal_at old t) (Whole message) (terminal_at new t) _
          (h.terminals.each t is.there) s into;
    }

-- the control station hears
carry_up_grows : (message : Message) (old new : LineValue) → IsLine old
    → IsCarriedUp message (Whole message) old new → LineGrows old new
carry_up_grows message old new line h =
    let grows : ControlGrows old.control new.control =
    control_grows old.control (Whole message) new.control h.sent h.control in
    record {
      count = ap (λ ts. length ts) h.terminals;
      control = λ t less. let there : t < length old.control.peers =
          omega (arith, less, line.stations.count) in grows.spools t there;
      terminals =
          λ t s is. subst (λ ts. Grows (spool_at (terminal_at old t).spools s).delays
          (spool_at (terminal_at (record old { terminals = ts }) t).spools s).delays)
          (sym h.terminals) (grows_by_nothing (spool_at (terminal_at old t).spools s).delays);
    }

carried_grows : (speaker : Speaker) (message : Message) (old new : LineValue) → IsLine old
    → IsCarriedBy speaker message (Whole message) old new → LineGrows old new
carried_grows Control message old new line h = carry_down_grows message old new line h
carried_grows (Terminal t) message old new line h = carry_up_grows message old new line h

-- what is heard as it was sent is heard fairly
whole_is_heard_fairly : (message : Message) → IsFairlyHeard message (Whole message)
whole_is_heard_fairly message = inl refl

carried_trusted : (speaker : Speaker) (message : Message) (old new : LineValue) → IsTrue old.trusted
    → IsCarriedBy speaker message (Whole message) old new → IsTrue new.trusted
carried_trusted Control message old new trusted h =
    h.trusted.1 (
      trusted,
      alike_is_fair message (terminal_count old) (Whole message)
          (whole_is_heard_fairly message),
    )
carried_trusted (Terminal t) message old new trusted h = h.trusted.1 (trusted, whole_is_heard_fairly message)

-- one transmission
abbrev AsSent : LineValue → LineValue → Type 0
AsSent old new = CarriesAs (λ (sent : Transmission). Whole sent.message) old new

step_grows : (old new : LineValue) → IsLine old → AsSent old new → LineGrows old new
step_grows old new line h = carried_grows h.sent.speaker h.sent.message old new line h.carried

step_trusted : (old new : LineValue) → IsTrue old.trusted → AsSent old new → IsTrue new.trusted
step_trusted old new trusted h =
    carried_trusted h.sent.speaker h.sent.message old new trusted h.carried

line_grows_in_turn : (old mid new : LineValue) → AsSent old mid → LineGrows old mid → LineGrows mid new
    → LineGrows old new
line_grows_in_turn old mid new h x y =
    record {
      count = y.count ∙ x.count;
      control = λ t less.
          let on : t < terminal_count mid = omega (arith, less, x.count) in
          grows_in_turn (peer_at old.control t).spool.delays (peer_at mid.control t).spool.delays
          (peer_at new.control t).spool.delays (x.control t less) (y.control t on);
      terminals = λ t s is.
          grows_in_turn (spool_at (terminal_at old t).spools s).delays
          (spool_at (terminal_at mid t).spools s).delays
          (spool_at (terminal_at new t).spools s).delays (x.terminals t s is)
          (y.terminals t s (channel_stays CarrySent old mid t (ToTerminal s) h is));
    }

-- many transmissions
abbrev Answer : Type 0
Answer = Result (Unit {0}) Stopped

run_grows : (at n : ℕ) (old new : LineValue) (r : Answer) → IsLine old
    → RunsFrom at old (sent_times n) r new → LineGrows old new
run_grows at zero old new (Ok done) line same = line_grows_by_nothing old new same
run_grows at zero old new (Err stopped) line never = absurd never
run_grows at (suc n) old new (Ok done) line go =
    line_grows_in_turn old go.mid new go.done (step_grows old go.mid line go.done)
    (run_grows (at + 1) n go.mid new (Ok done) go.line go.rest)
run_grows at (suc n) old new (Err stopped) line (inl stop) =
    line_grows_by_nothing old new (nothing_changed CarrySent old new stopped.why stop.refused)
run_grows at (suc n) old new (Err stopped) line (inr go) =
    line_grows_in_turn old go.mid new go.done (step_grows old go.mid line go.done)
    (run_grows (at + 1) n go.mid new (Err stopped) go.line go.rest)

-- counts that are equal at both ends are equal in between
abbrev Between : ℕ → ℕ → ℕ → Type 0
Between a b c = ((b ≡ a) × (a < 2 ^ 64 - 1)) × ((c ≡ b) × (b < 2 ^ 64 - 1))

counts_between : (a b c : ℕ) → Grows a b → Grows b c → (c ≡ a) × (a < 2 ^ 64 - 1) → Between a b c
counts_between a b c x y same =
    let equal : c ≡ a = same.0 in
    let less : a < 2 ^ 64 - 1 = same.1 in
    let first : (a ≤ b) × (b ≤ 2 ^ 64 - 1) = x (omega (arith, less)) in
    let second : (b ≤ c) × (c ≤ 2 ^ 64 - 1) = y first.1 in
    let low : a ≤ b = first.0 in
    let high : b ≤ c = second.0 in
    let now : b ≡ a = omega (arith, low, high, equal) in
    ((now, less), (equal ∙ sym now, omega (arith, now, less)))

same_delays_in_first : (old mid new : LineValue) → LineGrows old mid → LineGrows mid new → AsSent old mid
    → SameDelays old new → SameDelays old mid
same_delays_in_first old mid new x y h d =
    record {
      control = λ t less.
          let on : t < terminal_count mid = omega (arith, less, x.count) in
          (counts_between (peer_at old.control t).spool.delays (peer_at mid.control t).spool.delays
          (peer_at new.control t).spool.delays (x.control t less) (y.control t on)
          (d.control t less)).0;
      terminals = λ t s is.
          (counts_between (spool_at (terminal_at old t).spools s).delays
          (spool_at (terminal_at mid t).spools s).delays
          (spool_at (terminal_at new t).spools s).delays (x.terminals t s is)
          (y.terminals t s (channel_stays CarrySent old mid t (ToTerminal s) h is))
          (d.terminals t s is)).0;
    }

same_delays_in_rest : (old mid new : LineValue) → LineGrows old mid → LineGrows mid new → AsSent old mid
    → SameDelays old new → SameDelays mid new
same_delays_in_rest old mid new x y h d =
    record {
      control = λ t less.
          let before : t < terminal_count old = omega (arith, less, x.count) in
          (counts_between (peer_at old.control t).spool.delays (peer_at mid.control t).spool.delays
          (peer_at new.control t).spool.delays (x.control t before) (y.control t less)
          (d.control t before)).1;
      terminals = λ t s is.
          let was : IsChannel old t (ToTerminal s) =
          channel_was CarrySent old mid t (ToTerminal s) h is in
          (counts_between (spool_at (terminal_at old t).spools s).delays
          (spool_at (terminal_at mid t).spools s).delays
          (spool_at (terminal_at new t).spools s).delays (x.terminals t s was)
          (y.terminals t s is) (d.terminals t s was)).1;
    }

pub good_line : (l : LineValue) → IsLine l → IsTrue l.trusted → IsGood l
good_line l line trusted =
    record { line = line; trusted = trusted; together = line.together trusted }

same_delays_in_step : (at n : ℕ) (old new : LineValue) (r : Answer) → IsLine old → IsTrue old.trusted
    → (go : GoesOn CarrySent old (λ mid. RunsFrom (at + 1) mid (sent_times n) r new))
    → SameDelays old new →
    (IsTrue go.mid.trusted → SameDelays go.mid new → Walks (at + 1) n go.mid r new)
    → Goes old (λ mid. Walks (at + 1) n mid r new)
same_delays_in_step at n old new r line trusted go d rest =
    let x : LineGrows old go.mid = step_grows old go.mid line go.done in
    let y : LineGrows go.mid new = run_grows (at + 1) n go.mid new r go.line go.rest in
    let now : IsTrue go.mid.trusted = step_trusted old go.mid trusted go.done in
    record {
      mid = go.mid;
      carried = go.done;
      delays = same_delays_in_first old go.mid new x y go.done d;
      good = good_line go.mid go.line now;
      rest = rest now (same_delays_in_rest old go.mid new x y go.done d);
    }

pub runs_walk_without_delays : (at n : ℕ) (old new : LineValue) (r : Answer) → IsLine old → IsTrue old.trusted
    → RunsFrom at old (sent_times n) r new → SameDelays old new → Walks at n old r new
runs_walk_without_delays at zero old new (Ok done) line trusted same d = same
runs_walk_without_delays at zero old new (Err stopped) line trusted never d = never
runs_walk_without_delays at (suc n) old new (Ok done) line trusted go d =
    same_delays_in_step at n old new (Ok done) line trusted go d
    (λ now same. runs_walk_without_delays (at + 1) n go.mid new (Ok done) go.line now go.rest same)
runs_walk_without_delays at (suc n) old new (Err stopped) line trusted (inl stop) d =
    inl (record { place = stop.place; refused = stop.refused })
runs_walk_without_delays at (suc n) old new (Err stopped) line trusted (inr go) d =
    inr (same_delays_in_step at n old new (Err stopped) line trusted go d
    (λ now same. runs_walk_without_delays (at + 1) n go.mid new (Err stopped) go.line now go.rest same))
