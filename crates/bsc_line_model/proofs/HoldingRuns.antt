-- From a new line whose control station does not restart, a terminal holds the line only if it is
-- polled: while the control station is at rest, no terminal holds the line.
use Rattle.std.proofs.Common.{◌≡◌, ◌≢◌, ◌⊎◌, inl, inr, ℕ, suc, ◌+◌, ◌<◌, IsTrue, List}
use Rattle.std.proofs.Common.{[], ◌∷◌, length, Option, None, Some, Result, Ok, Err}
use Rattle.std.proofs.Common.{slice_set, refl, sym, ◌∙◌, ap, subst, arith}
use Rattle.std.proofs.Common.{get_or-set_other, get_or-set_same}
use Rattle.std.proofs.lemmas.List.{length-set}
use Rattle.bsc_frame.specs.declared.message.Message.{Message}
use Rattle.bsc_frame.specs.declared.message.Heard.{Heard}
use Rattle.bsc_frame.specs.declared.message.Heard.TheVariants.{Whole}
use Rattle.bsc_bid.specs.Agreement.{Flight, Outward, InBid}
use Rattle.bsc_bid.specs.Fair.{IsFairlyHeard}
use Rattle.bsc_bid.specs.Receiver.{ReceiverStep, Rooms, heard_step}
use Rattle.bsc_bid.specs.Setup.{SetupValue}
use Rattle.bsc_bid.specs.Terminal.{TerminalValue}
use Rattle.bsc_tributary.specs.declared.mode.Mode.{Mode}
use Rattle.bsc_tributary.specs.declared.mode.Mode.TheVariants as mode
use Rattle.bsc_tributary.specs.Tributary.{TributaryValue, holds}
use Rattle.bsc_tributary.specs.Tributary.{restarted as restarted_tributary}
use Rattle.bsc_bid.specs.declared.way.Way.{Way}
use Rattle.bsc_bid.specs.declared.way.Way.TheVariants.{FromTerminal, ToTerminal}
use Rattle.bsc_control.specs.declared.task.Task.{Task}
use Rattle.bsc_control.specs.declared.task.Task.TheVariants.{AtRest, Polling}
use Rattle.bsc_control.specs.declared.task.Replied.{Replied}
use Rattle.bsc_control.specs.Peer.{PeerValue}
use Rattle.bsc_control.specs.Control.{ControlValue, ControlStep, peer, current}
use Rattle.bsc_control.specs.Table.{Hears as ControlHears, task_step, receive_step, replied_after}
use Rattle.bsc_control.specs.Table.{rooms_after}
use Rattle.bsc_line_model.specs.declared.error.Stopped.{Stopped}
use Rattle.bsc_line_model.specs.declared.event.Event.{Event}
use Rattle.bsc_line_model.specs.declared.event.Event.TheVariants.{OfferAt, OfferFor, Carry}
use Rattle.bsc_line_model.specs.declared.event.Event.TheVariants.{CarryEach, CarrySent, Silence}
use Rattle.bsc_line_model.specs.declared.event.Event.TheVariants.{Ready, UrgentAt, UrgentFor}
use Rattle.bsc_line_model.specs.declared.event.Event.TheVariants.{Polled, Release, Restart}
use Rattle.bsc_bid.specs.declared.speaker.Speaker.{Speaker}
use Rattle.bsc_bid.specs.declared.speaker.Speaker.TheVariants.{Control, Terminal}
use Rattle.bsc_line_model.specs.declared.transmission.Transmission.{Transmission}
use Rattle.bsc_line_model.specs.Transmission.{speaker_of}
use Rattle.bsc_line_model.specs.Line.{LineValue, terminal_in, terminal_at, terminal_count}
use Rattle.bsc_line_model.specs.Line.{no_terminal}
use Rattle.bsc_line_model.specs.Hearing.{heard_in, octets_in}
use Rattle.bsc_line_model.specs.Terminals.{line_owner}
use Rattle.bsc_line_model.specs.Carries.{IsCarriedBy, IsCarriedUp, OwnerActs}
use Rattle.bsc_line_model.specs.Offers.{ReleasesWay}
use Rattle.bsc_line_model.specs.Runs.{CarriesAs, Does, RunsFrom}
use Rattle.bsc_line_model.specs.Kept.{IsLine, IsNewLine}
use Rattle.bsc_line_model.specs.Together.{InTask, IsAtStart, IsBidMessage, IsInBidUp}
use Rattle.bsc_line_model.specs.BidLaws.{BidLaws}
use Rattle.bsc_line_model.specs.Holding.{NoControlRestart, RunsHoldOnlyWhilePolled}
use Rattle.bsc_line_model.proofs.AnswersHeard.{receiver_step_in_poll}
use Rattle.bsc_line_model.proofs.Carrying.{nobody_sends}
use Rattle.bsc_line_model.proofs.Holding.{bid_of_sending_terminal, holder_sends, holds_polled}
use Rattle.bsc_line_model.proofs.Refusals.{nothing_changed, was_trusted}
use Rattle.bsc_line_model.proofs.RunsKeep.{run_line}
use Rattle.bsc_line_model.proofs.SendingDown.{no_call_heard}
use Rattle.bsc_line_model.proofs.Stations.{same_or_not, current_terminal_there}

-- no terminal holds the line
abbrev NoneHolds : List TributaryValue → Type 0
NoneHolds ts = (t : ℕ) → t < length ts → IsTrue (holds (terminal_in ts t).mode) → ⊥

-- while the control station of a trusted line is at rest, no terminal holds the line
abbrev NoneHoldsAtRest : LineValue → Type 0
NoneHoldsAtRest l = IsTrue l.trusted → l.control.task ≡ AtRest → NoneHolds l.terminals

-- one terminal is replaced by one that does not hold the line
none_holds_with : (ts : List TributaryValue) (t : ℕ) (x : TributaryValue) → NoneHolds ts
    → (IsTrue (holds x.mode) → ⊥) → NoneHolds (slice_set ts t x)
none_holds_with ts t x none not_x u less h =
    let there : u < length ts = subst (λ (n : ℕ). u < n) (length-set ts t x) less in
    elim (same_or_not u t) [
      | inl same ↦
          not_x (subst (λ (y : TributaryValue). IsTrue (holds y.mode))
          (ap (λ (n : ℕ). terminal_in (slice_set ts t x) n) same
          ∙ get_or-set_same ts t x no_terminal (subst (λ (n : ℕ). n < length ts) same there)) h)
      | inr differ ↦
          none u there (subst (λ (y : TributaryValue). IsTrue (holds y.mode))
          (get_or-set_other ts t u x no_terminal differ) h)
    ]

-- the mode is that of the terminal before, or control mode
not_held_by_mode : (old new : Mode) → (IsTrue (holds old) → ⊥) → (new ≡ mode.Control) ⊎ (new ≡ old)
    → IsTrue (holds new) → ⊥
not_held_by_mode old new none (inl control) h =
    let no : IsTrue (holds mode.Control) = subst (λ (m : Mode). IsTrue (holds m)) control h in cc
not_held_by_mode old new none (inr same) h = none (subst (λ (m : Mode). IsTrue (holds m)) same h)

none_holds_after : (l : LineValue) (t : ℕ) (x : TributaryValue) → t < terminal_count l
    → (x.mode ≡ mode.Control) ⊎ (x.mode ≡ (terminal_at l t).mode) → NoneHolds l.terminals
    → NoneHolds (slice_set l.terminals t x)
none_holds_after l t x there is none =
    none_holds_with l.terminals t x none
    (not_held_by_mode (terminal_at l t).mode x.mode (none t there) is)

-- an event changes one terminal of the line
set_rests : (old new : LineValue) (t : ℕ) (x : TributaryValue) → t < terminal_count old
    → new.terminals ≡ slice_set old.terminals t x → new.control.task ≡ old.control.task
    → (x.mode ≡ mode.Control) ⊎ (x.mode ≡ (terminal_at old t).mode) → IsTrue old.trusted
    → NoneHoldsAtRest old → new.control.task ≡ AtRest → NoneHolds new.terminals
set_rests old new t x there terminals task is before none rest =
    subst NoneHolds (sym terminals)
    (none_holds_after old t x there is (none before (sym task ∙ rest)))

-- an event changes the control station only, and its task stays
control_rests : (old new : LineValue) → new.control.task ≡ old.control.task
    → new.terminals ≡ old.terminals → IsTrue old.trusted → NoneHoldsAtRest old
    → new.control.task ≡ AtRest → NoneHolds new.terminals
control_rests old new task terminals before none rest =
    subst NoneHolds (sym terminals) (none before (sym task ∙ rest))

-- a control station at rest has sent nothing
nothing_sent_at_rest : (l : LineValue) (sent : Transmission) → IsLine l → IsTrue l.trusted
    → l.control.task ≡ AtRest → l.pending ≡ Some sent → sent.speaker ≢ Control
nothing_sent_at_rest l sent line now rest pending speaker =
    let start : IsAtStart l.pending l.control l.terminals =
    subst (λ (k : Task). InTask k l.pending l.control l.terminals) rest (line.together now) in
    start.silent (ap speaker_of pending ∙ ap (λ (s : Speaker). Some s) speaker)

-- A terminal that sends to the control station is heard in its bid, so that the poll goes on.
goes_on_in_bid : (laws : BidLaws) (c d : ControlValue) (ts : List TributaryValue) (t : ℕ)
    (w : Message) (h : Heard) (out : Option Message) (replied : Replied)
    → c.task ≡ Polling replied
    → IsInBidUp (Some (record { speaker = Terminal t; message = w })) (peer c) (current c)
    (terminal_in ts (current c))
    → IsFairlyHeard w h → ControlHears c h d out → d.task ≢ AtRest
goes_on_in_bid laws c d ts t w h out replied task b fair row rest =
    let p : PeerValue = peer c in
    let x : TributaryValue = terminal_in ts (current c) in
    let rooms : Rooms = rooms_after c h d in
    let step : ReceiverStep = heard_step p.receiver p.spool h p.urgent rooms in
    let flying : InBid x.sender.phase x.queue p.receiver.alternation p.receiver.last p.spool.records
    (Outward w) =
    subst (λ (f : Flight). InBid x.sender.phase x.queue p.receiver.alternation p.receiver.last
    p.spool.records f) b.flies.1 b.bid in
    let bid : IsBidMessage w =
    laws.outward x.sender.phase x.queue p.receiver.alternation p.receiver.last p.spool.records w
    flying in
    let is : record { control = d; sent = out } ≡ receive_step c replied step =
    row.row ∙ ap (λ (k : Task). task_step c k h rooms) task
    ∙ receiver_step_in_poll c replied h rooms (no_call_heard w h bid fair) in
    let no : Polling (replied_after replied step.reply) ≡ AtRest =
    sym (ap (λ (s : ControlStep). s.control.task) is) ∙ rest in
    cc

-- the control station comes to rest as it hears a terminal, or was at rest: no terminal sends
carried_up_rests : (laws : BidLaws) (old new : LineValue) (t : ℕ) (w : Message) (heard : Heard)
    → IsLine old → old.pending ≡ Some (record { speaker = Terminal t; message = w })
    → IsCarriedUp w heard old new → IsTrue old.trusted → IsFairlyHeard w heard
    → NoneHoldsAtRest old → new.control.task ≡ AtRest → NoneHolds old.terminals
carried_up_rests laws old new t w heard line pending k before fair none rest u less holder =
    elim (bid_of_sending_terminal old.control.task old.pending old.control old.terminals u less
    (current_terminal_there old.control old.terminals line.stations)
    (holder_sends (terminal_at old u).mode holder) (line.together before)) [
      | inl bid ↦
          goes_on_in_bid laws old.control new.control old.terminals t w heard k.sent bid.replied
          bid.polling
          (subst (λ (sent : Option Transmission). IsInBidUp sent (peer old.control)
          (current old.control) (terminal_in old.terminals (current old.control))) pending bid.bid)
          fair k.control rest
      | inr task ↦ none before task u less holder
    ]

carried_rests : (laws : BidLaws) (old new : LineValue) (sent : Transmission) (heard : Heard)
    (speaker : Speaker) → sent.speaker ≡ speaker → IsLine old → old.pending ≡ Some sent
    → IsCarriedBy speaker sent.message heard old new → IsTrue new.trusted → IsTrue old.trusted
    → NoneHoldsAtRest old → new.control.task ≡ AtRest → NoneHolds new.terminals
carried_rests laws old new sent heard Control is line pending k now before none rest =
    absurd (nothing_sent_at_rest old sent line before
    (ap (λ (c : ControlValue). c.task) (sym k.control) ∙ rest) pending is)
carried_rests laws old new sent heard (Terminal t) is line pending k now before none rest =
    subst NoneHolds (sym k.terminals)
    (carried_up_rests laws old new t sent.message heard line
    (pending ∙ ap (λ (s : Speaker). Some (record { speaker = s; message = sent.message })) is) k
    before (k.trusted.0 now).1 none rest)

carries_rests : (laws : BidLaws) (hear : Transmission → Heard) (old new : LineValue) → IsLine old
    → CarriesAs hear old new → IsTrue new.trusted → IsTrue old.trusted → NoneHoldsAtRest old
    → new.control.task ≡ AtRest → NoneHolds new.terminals
carries_rests laws hear old new line k now before none rest =
    carried_rests laws old new k.sent (hear k.sent) k.sent.speaker refl line k.pending k.carried now
    before none rest

-- the control station acts on a silence only if no terminal holds the line
silence_rests : (old new : LineValue) (owner : Option ℕ) → line_owner old.terminals ≡ owner
    → OwnerActs owner old new → IsTrue old.trusted → NoneHoldsAtRest old
    → new.control.task ≡ AtRest → NoneHolds new.terminals
silence_rests old new None nobody k before none rest =
    subst NoneHolds (sym (ap (λ (l : LineValue). l.terminals) k.becomes))
    (λ t less holder. nobody_sends old.terminals nobody t less
    (holder_sends (terminal_at old t).mode holder))
silence_rests old new (Some t) nobody k before none rest =
    set_rests old new t (terminal_at new t) k.there (ap (λ (l : LineValue). l.terminals) k.becomes)
    (ap (λ (l : LineValue). l.control.task) k.becomes) k.kept.mode before none rest

release_rests : (old new : LineValue) (t : ℕ) (way : Way) → ReleasesWay old t way (Ok tt) new
    → IsTrue old.trusted → NoneHoldsAtRest old → new.control.task ≡ AtRest
    → NoneHolds new.terminals
release_rests old new t FromTerminal k before none rest =
    set_rests old new t _ k.there (ap (λ (l : LineValue). l.terminals) k.becomes)
    (ap (λ (l : LineValue). l.control.task) k.becomes) (inr refl) before none rest
release_rests old new t (ToTerminal s) k before none rest =
    control_rests old new (ap (λ (l : LineValue). l.control.task) k.becomes)
    (ap (λ (l : LineValue). l.terminals) k.becomes) before none rest

-- an event that is not a restart of the control station
event_rests : (laws : BidLaws) (event : Event) (old new : LineValue) → event ≢ Restart Control
    → IsLine old → Does event old (Ok tt) new → IsTrue new.trusted → IsTrue old.trusted
    → NoneHoldsAtRest old → new.control.task ≡ AtRest → NoneHolds new.terminals
event_rests laws (OfferAt t r) old new other line d now before none rest =
    set_rests old new t _ d.0 (ap (λ (l : LineValue). l.terminals) d.2)
    (ap (λ (l : LineValue). l.control.task) d.2) (inr refl) before none rest
event_rests laws (OfferFor t s r) old new other line d now before none rest =
    control_rests old new (ap (λ (l : LineValue). l.control.task) d.3)
    (ap (λ (l : LineValue). l.terminals) d.3) before none rest
event_rests laws (Carry item) old new other line d now before none rest =
    carries_rests laws (λ sent. heard_in (octets_in item)) old new line d now before none rest
event_rests laws (CarryEach items) old new other line d now before none rest =
    absurd (nothing_sent_at_rest old d.sent line before
    (ap (λ (c : ControlValue). c.task) (sym d.carried.control) ∙ rest) d.pending d.control)
event_rests laws CarrySent old new other line d now before none rest =
    carries_rests laws (λ sent. Whole sent.message) old new line d now before none rest
event_rests laws Silence old new other line d now before none rest =
    silence_rests old new (line_owner old.terminals) refl d.acts before none rest
event_rests laws (Ready t ready) old new other line d now before none rest =
    set_rests old new t _ d.0 (ap (λ (l : LineValue). l.terminals) d.1)
    (ap (λ (l : LineValue). l.control.task) d.1) (inr refl) before none rest
event_rests laws (UrgentAt t) old new other line d now before none rest =
    set_rests old new t _ d.0 (ap (λ (l : LineValue). l.terminals) d.1)
    (ap (λ (l : LineValue). l.control.task) d.1) (inr refl) before none rest
event_rests laws (UrgentFor t) old new other line d now before none rest =
    control_rests old new (ap (λ (l : LineValue). l.control.task) d.1)
    (ap (λ (l : LineValue). l.terminals) d.1) before none rest
event_rests laws (Polled t polled) old new other line d now before none rest =
    control_rests old new (ap (λ (l : LineValue). l.control.task) d.1)
    (ap (λ (l : LineValue). l.terminals) d.1) before none rest
event_rests laws (Release t way) old new other line d now before none rest =
    release_rests old new t way d before none rest
event_rests laws (Restart Control) old new other line d now before none rest = absurd (other refl)
event_rests laws (Restart (Terminal t)) old new other line d now before none rest =
    set_rests old new t (restarted_tributary (terminal_at old t)) d.0
    (ap (λ (l : LineValue). l.terminals) d.1) (ap (λ (l : LineValue). l.control.task) d.1)
    (inl refl) before none rest

-- the first event of a list, and the others
first_is_other : (x : Event) (xs : List Event) → NoControlRestart (x ∷ xs) → x ≢ Restart Control
first_is_other x xs others same = others (0, omega arith, same)

rest_are_others : (x : Event) (xs : List Event) → NoControlRestart (x ∷ xs) → NoControlRestart xs
rest_are_others x xs others c = others (suc c.0, omega (arith, c.1), c.2)

run_rests : (laws : BidLaws) (at : ℕ) (old new : LineValue) (xs : List Event) (r : Result (Unit {0}) Stopped)
    → NoControlRestart xs → IsLine old → RunsFrom at old xs r new → NoneHoldsAtRest old
    → NoneHoldsAtRest new
run_rests laws at old new [] (Ok done) others line k none = subst NoneHoldsAtRest (sym k) none
run_rests laws at old new [] (Err s) others line k none = absurd k
run_rests laws at old new (x ∷ xs) (Ok done) others line go none =
    run_rests laws (at + 1) go.mid new xs (Ok done) (rest_are_others x xs others) go.line go.rest
    (λ now. event_rests laws x old go.mid (first_is_other x xs others) line go.done now
    (was_trusted x old go.mid go.done now) none)
run_rests laws at old new (x ∷ xs) (Err s) others line (inl stop) none =
    subst NoneHoldsAtRest (sym (nothing_changed x old new s.why stop.refused)) none
run_rests laws at old new (x ∷ xs) (Err s) others line (inr go) none =
    run_rests laws (at + 1) go.mid new xs (Err s) (rest_are_others x xs others) go.line go.rest
    (λ now. event_rests laws x old go.mid (first_is_other x xs others) line go.done now
    (was_trusted x old go.mid go.done now) none)

-- no terminal of a new line holds it
none_holds_new : (setup : SetupValue) (given : List TerminalValue) (poll_list : List ℕ)
    (l : LineValue) → IsNewLine setup given poll_list l → NoneHolds l.terminals
none_holds_new setup given poll_list l new t less h =
    let before : t < length given = omega (arith, new.terminals.count) in
    let no : IsTrue (holds mode.Control) =
    subst (λ (m : Mode). IsTrue (holds m)) (new.terminals.each t before).mode h in cc

pub runs_hold_only_while_polled : BidLaws → RunsHoldOnlyWhilePolled
runs_hold_only_while_polled laws old new events r line run setup given poll_list is others now t less h =
    elim (holds_polled new t (run_line 0 old new events r line run) now less h) [
      | inl polled ↦ polled
      | inr rest ↦
          absurd (run_rests laws 0 old new events r others line run
          (λ trusted task. none_holds_new setup given poll_list old is) now rest t less h)
    ]
