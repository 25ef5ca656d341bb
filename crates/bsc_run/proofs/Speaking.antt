-- An accepted event keeps the number of terminals, and the sender of the pending transmission after
-- it belongs to the line.
use Rattle.std.proofs.Common.{◌≡◌, ◌≤◌, ℕ, zero, suc, List, length, Option, None, Some, Ok, sym}
use Rattle.std.proofs.Common.{◌∙◌, ap, subst, arith, Bool, true, false, if◌then◌else◌}
use Rattle.std.proofs.lemmas.List.{length-set}
use Rattle.bsc_frame.specs.declared.message.Message.{Message}
use Rattle.bsc_frame.specs.declared.message.Heard.{Heard}
use Rattle.bsc_bid.specs.Setup.{SetupValue}
use Rattle.bsc_bid.specs.Terminal.{TerminalValue}
use Rattle.bsc_carrier.specs.Cable.{CableValue}
use Rattle.bsc_bid.specs.declared.way.Way.{Way}
use Rattle.bsc_bid.specs.declared.way.Way.TheVariants.{FromTerminal, ToTerminal}
use Rattle.bsc_bid.specs.declared.speaker.Speaker.{Speaker}
use Rattle.bsc_bid.specs.declared.speaker.Speaker.TheVariants.{Control, Terminal}
use Rattle.bsc_line_model.specs.declared.transmission.Transmission.{Transmission}
use Rattle.bsc_line_model.specs.declared.event.Event.{Event}
use Rattle.bsc_line_model.specs.declared.event.Event.TheVariants.{OfferAt, OfferFor, Carry}
use Rattle.bsc_line_model.specs.declared.event.Event.TheVariants.{CarryEach, CarrySent, Silence}
use Rattle.bsc_line_model.specs.declared.event.Event.TheVariants.{Ready, Polled, UrgentAt}
use Rattle.bsc_line_model.specs.declared.event.Event.TheVariants.{UrgentFor, Release, Restart}
use Rattle.bsc_line_model.specs.Line.{LineValue, terminal_count, terminal_at}
use Rattle.bsc_line_model.specs.Transmission.{sent_by}
use Rattle.bsc_line_model.specs.Hearing.{heard_at}
use Rattle.bsc_line_model.specs.Terminals.{or_first, first_answer, answer_of, line_owner}
use Rattle.bsc_line_model.specs.Carries.{IsCarriedBy, OwnerActs}
use Rattle.bsc_line_model.specs.Offers.{ReleasesWay}
use Rattle.bsc_line_model.specs.Restarts.{is_same_party, pending_without}
use Rattle.bsc_line_model.specs.Kept.{IsLine, IsNewLine}
use Rattle.bsc_line_model.specs.Runs.{Does}
use Rattle.bsc_run.specs.Crossing.{connection_count}
use Rattle.bsc_run.specs.Speaking.{IsStation, IsSpeakerThere, Fits}

-- the number of terminals does not change
carried_count : (s : Speaker) (message : Message) (h : Heard) (old new : LineValue)
    → IsCarriedBy s message h old new → terminal_count new ≡ terminal_count old
carried_count Control message h old new c = c.terminals.count
carried_count (Terminal t) message h old new c = ap length c.terminals

owner_count : (o : Option ℕ) (old new : LineValue) → OwnerActs o old new → terminal_count new
    ≡ terminal_count old
owner_count None old new a = ap terminal_count a.becomes
owner_count (Some t) old new a = ap terminal_count a.becomes
    ∙ length-set old.terminals t (terminal_at new t)

release_count : (old : LineValue) (t : ℕ) (way : Way) (new : LineValue)
    → ReleasesWay old t way (Ok tt) new → terminal_count new ≡ terminal_count old
release_count old t FromTerminal new r = ap terminal_count r.becomes ∙ length-set old.terminals t _
release_count old t (ToTerminal s) new r = ap terminal_count r.becomes

count_kept : (e : Event) (old new : LineValue) → Does e old (Ok tt) new → terminal_count new
    ≡ terminal_count old
count_kept (OfferAt t codes) old new d = ap terminal_count d.2 ∙ length-set old.terminals t _
count_kept (OfferFor t s codes) old new d = ap terminal_count d.3
count_kept (Carry item) old new d = carried_count d.sent.speaker d.sent.message _ old new d.carried
count_kept (CarryEach items) old new d = d.carried.terminals.count
count_kept CarrySent old new d = carried_count d.sent.speaker d.sent.message _ old new d.carried
count_kept Silence old new d = owner_count (line_owner old.terminals) old new d.acts
count_kept (Ready t ready) old new d = ap terminal_count d.1 ∙ length-set old.terminals t _
count_kept (Polled t polled) old new d = ap terminal_count d.1
count_kept (UrgentAt t) old new d = ap terminal_count d.1 ∙ length-set old.terminals t _
count_kept (UrgentFor t) old new d = ap terminal_count d.1
count_kept (Release t way) old new d = release_count old t way new d
count_kept (Restart Control) old new d = ap terminal_count d.1
count_kept (Restart (Terminal t)) old new d =
    ap terminal_count d.1 ∙ length-set old.terminals t _

-- the sender belongs to the line
or_first_there : (l : LineValue) (a b : Option Transmission) → IsSpeakerThere l a
    → IsSpeakerThere l b → IsSpeakerThere l (or_first a b)
or_first_there l (Some x) b p q = p
or_first_there l None b p q = q

sent_by_there : (l : LineValue) (s : Speaker) (m : Option Message) → IsStation l s
    → IsSpeakerThere l (sent_by s m)
sent_by_there l s None h = tt
sent_by_there l s (Some m) h = h

first_answer_there : (l new : LineValue) (hears : ℕ → Heard) (n : ℕ) → n ≤ terminal_count l
    → IsSpeakerThere l (first_answer l.terminals hears new.terminals n)
first_answer_there l new hears zero h = tt
first_answer_there l new hears (suc n) h =
    or_first_there l (first_answer l.terminals hears new.terminals n)
    (sent_by (Terminal n) (answer_of l.terminals hears new.terminals n))
    (first_answer_there l new hears n (omega arith))
    (sent_by_there l (Terminal n) (answer_of l.terminals hears new.terminals n) (omega arith))

there_by : (l : LineValue) (p q : Option Transmission) → p ≡ q → IsSpeakerThere l q
    → IsSpeakerThere l p
there_by l p q e h = subst (IsSpeakerThere l) (sym e) h

carried_there : (s : Speaker) (message : Message) (h : Heard) (old new : LineValue)
    → IsCarriedBy s message h old new → IsSpeakerThere old new.pending
carried_there Control message h old new c =
    there_by old new.pending _ c.pending
    (first_answer_there old new (λ t. h) (terminal_count old) (omega arith))
carried_there (Terminal t) message h old new c =
    there_by old new.pending _ c.pending (sent_by_there old Control c.sent tt)

owner_there : (o : Option ℕ) (old new : LineValue) → OwnerActs o old new
    → IsSpeakerThere old new.pending
owner_there None old new a =
    there_by old new.pending _ (ap (λ (l : LineValue). l.pending) a.becomes)
    (sent_by_there old Control a.sent tt)
owner_there (Some t) old new a =
    there_by old new.pending _ (ap (λ (l : LineValue). l.pending) a.becomes)
    (sent_by_there old (Terminal t) a.sent a.there)

release_there : (old : LineValue) (t : ℕ) (way : Way) (new : LineValue)
    → ReleasesWay old t way (Ok tt) new → new.pending ≡ old.pending
release_there old t FromTerminal new r = ap (λ (l : LineValue). l.pending) r.becomes
release_there old t (ToTerminal s) new r = ap (λ (l : LineValue). l.pending) r.becomes

pending_there : (l : LineValue) (party : Speaker) (p : Option Transmission) → IsSpeakerThere l p
    → IsSpeakerThere l (pending_without party p)
pending_there l party None h = h
pending_there l party (Some sent) h = unless_same (is_same_party party sent.speaker)
  where
    unless_same : (same : Bool) → IsSpeakerThere l (if same then None else Some sent)
    unless_same true = tt
    unless_same false = h

speaker_there : (e : Event) (old new : LineValue) → Does e old (Ok tt) new
    → IsSpeakerThere old old.pending → IsSpeakerThere old new.pending
speaker_there (OfferAt t codes) old new d h =
    there_by old new.pending old.pending (ap (λ (l : LineValue). l.pending) d.2) h
speaker_there (OfferFor t s codes) old new d h =
    there_by old new.pending old.pending (ap (λ (l : LineValue). l.pending) d.3) h
speaker_there (Carry item) old new d h =
    carried_there d.sent.speaker d.sent.message _ old new d.carried
speaker_there (CarryEach items) old new d h =
    there_by old new.pending _ d.carried.pending
    (first_answer_there old new (heard_at items.now) (terminal_count old) (omega arith))
speaker_there CarrySent old new d h =
    carried_there d.sent.speaker d.sent.message _ old new d.carried
speaker_there Silence old new d h = owner_there (line_owner old.terminals) old new d.acts
speaker_there (Ready t ready) old new d h =
    there_by old new.pending old.pending (ap (λ (l : LineValue). l.pending) d.1) h
speaker_there (Polled t polled) old new d h =
    there_by old new.pending old.pending (ap (λ (l : LineValue). l.pending) d.1) h
speaker_there (UrgentAt t) old new d h =
    there_by old new.pending old.pending (ap (λ (l : LineValue). l.pending) d.1) h
speaker_there (UrgentFor t) old new d h =
    there_by old new.pending old.pending (ap (λ (l : LineValue). l.pending) d.1) h
speaker_there (Release t way) old new d h =
    there_by old new.pending old.pending (release_there old t way new d) h
speaker_there (Restart party) old new d h =
    there_by old new.pending (pending_without party old.pending)
    (ap (λ (l : LineValue). l.pending) d.1) (pending_there old party old.pending h)

-- a line with the same number of terminals has the same stations
station_moved : (old new : LineValue) (s : Speaker) → terminal_count new ≡ terminal_count old
    → IsStation old s → IsStation new s
station_moved old new Control e h = tt
station_moved old new (Terminal t) e h = omega (arith, e, h)

speaker_moved : (old new : LineValue) (p : Option Transmission) → terminal_count new
    ≡ terminal_count old → IsSpeakerThere old p → IsSpeakerThere new p
speaker_moved old new None e h = tt
speaker_moved old new (Some sent) e h = station_moved old new sent.speaker e h

-- the cable fits the line after an accepted event
pub fits_after : {S : Type 0} (e : Event) (old new : LineValue) (before after : CableValue S)
    → Fits old before
    → Does e old (Ok tt) new → IsLine new → connection_count after ≡ connection_count before
    → Fits new after
fits_after e old new before after f d line count = record {
  line = line;
  connections = count ∙ f.connections ∙ sym (count_kept e old new d);
  speaker =
      speaker_moved old new new.pending (count_kept e old new d)
      (speaker_there e old new d f.speaker);
}

-- nothing is pending on a new line
pub new_line_fits : {S : Type 0} (setup : SetupValue) (given : List TerminalValue)
    (poll_list : List ℕ) (l : LineValue) (c : CableValue S)
    → IsNewLine setup given poll_list l → IsLine l → connection_count c ≡ length given → Fits l c
new_line_fits setup given poll_list l c new line count = record {
  line = line;
  connections = count ∙ sym new.terminals.count;
  speaker = there_by l l.pending None new.pending tt;
}
