-- Delivery within a visit and a round of exactly as many transmissions as their lengths.
use Rattle.std.proofs.Common.{◌≡◌, ◌≢◌, inl, inr, ℕ, ◌+◌, ◌<◌, ◌≤◌, true, false, Bool, nat_eq}
use Rattle.std.proofs.Common.{List, [], length, get_or, slice_get, Option, Some, Result, Ok}
use Rattle.std.proofs.Common.{Err, refl, sym, ◌∙◌, ap, subst, arith, if◌then◌else◌}
use Rattle.std.proofs.lemmas.Bool.{cases_lt}
use Rattle.std.proofs.lemmas.Bool.Decides.{nat_tests}
use Rattle.std.proofs.lemmas.List.{get_or_past}
use Rattle.std.proofs.lemmas.List.Elements.{All-get_or}
use Rattle.std.proofs.lemmas.Option.{slice_get-get_or}
use Rattle.bsc_frame.specs.declared.message.Message.{Message}
use Rattle.bsc_frame.specs.declared.message.Message.TheVariants as m
use Rattle.bsc_spool.specs.Queue.{QueueValue}
use Rattle.bsc_spool.specs.Spool.{SpoolValue}
use Rattle.bsc_bid.specs.declared.phase.Phase.{Phase}
use Rattle.bsc_bid.specs.Channel.{channel}
use Rattle.bsc_bid.specs.Ready.{IsAtRest}
use Rattle.bsc_bid.specs.Sender.{is_in_doubt}
use Rattle.bsc_bid.specs.Terminal.{TerminalValue}
use Rattle.bsc_tributary.specs.declared.mode.Mode.{Mode}
use Rattle.bsc_tributary.specs.declared.mode.Mode.TheVariants as mode
use Rattle.bsc_tributary.specs.Tributary.{spool_at}
use Rattle.bsc_tributary.specs.Kept.{SuitsMode}
use Rattle.bsc_control.specs.declared.task.Task.{Task}
use Rattle.bsc_control.specs.declared.task.Task.TheVariants as k
use Rattle.bsc_control.specs.declared.task.Replied.TheVariants.{Nothing}
use Rattle.bsc_bid.specs.declared.way.Way.{Way}
use Rattle.bsc_bid.specs.declared.way.Way.TheVariants.{FromTerminal, ToTerminal}
use Rattle.bsc_bid.specs.Addresses.{IsAddressOf, address_for}
use Rattle.bsc_control.specs.Peer.{OutboundValue, IsPeer, no_peer, no_outbound}
use Rattle.bsc_control.specs.Control.{peer_at, peer, current, terminals, terminal_of_entry}
use Rattle.bsc_control.specs.CallOrder.{way_from, first_call, wrapped, is_polled, polled_place}
use Rattle.bsc_control.specs.Kept.{IsTaskOf, outbound_of}
use Rattle.bsc_bid.specs.declared.speaker.Speaker.TheVariants as sp
use Rattle.bsc_line_model.specs.Transmission.{sent_by}
use Rattle.bsc_line_model.specs.declared.error.Stopped.{Stopped}
use Rattle.bsc_line_model.specs.declared.event.Event.{Event}
use Rattle.bsc_line_model.specs.Line.{LineValue, terminal_at, terminal_count, channel_of, phase_of}
use Rattle.bsc_line_model.specs.Kept.{IsLine}
use Rattle.bsc_line_model.specs.Runs.{Runs}
use Rattle.bsc_line_model.specs.Rounds.{block_count, poll_length, visit_length, round_length}
use Rattle.bsc_line_model.specs.Rounds.{entry_at, sent_times, IsReadyForVisit, BeginsVisit}
use Rattle.bsc_line_model.specs.Rounds.{IsDelivered, SameDelays, IsVisited, IsRoundDone}
use Rattle.bsc_line_model.specs.Rounds.{IsPolledEntry, next_visit, first_visit}
use Rattle.bsc_line_model.specs.Rounds.{RunsDeliverVisit, RunsDeliverRound}
use Rattle.bsc_line_model.specs.Together.{HasNoBid, NoBids, IsSelecting, InTask}
use Rattle.bsc_control.proofs.Calls.{current_within_peers}
use Rattle.bsc_control.proofs.Passing.{some_polled}
use Rattle.bsc_line_model.proofs.OutboundSteps.{selected_outbound_exists}
use Rattle.bsc_line_model.proofs.Soundness.{peer_has_way}
use Rattle.bsc_line_model.proofs.Stations.{same_or_not, terminal_in_directory}
use Rattle.bsc_line_model.proofs.Stations.{current_terminal_there}
use Rattle.bsc_line_model.proofs.DownControl.{address_at}
use Rattle.bsc_line_model.proofs.Walking.{IsGood, Walks, good_places}
use Rattle.bsc_line_model.proofs.Selections.{VisitLaws, Comes, Calls}
use Rattle.bsc_line_model.proofs.Polls.{no_bids_at_poll}
use Rattle.bsc_line_model.proofs.Visits.{IsReadyForVisitAt, IsVisited as Visiting, IsVisitDone}
use Rattle.bsc_line_model.proofs.Visits.{StaysBut}
use Rattle.bsc_line_model.proofs.Visits.{but_same, selections_length, visit_from}
use Rattle.bsc_line_model.proofs.VisitCounts.{calls_where_made, visit_is}
use Rattle.bsc_line_model.proofs.RoundSteps.{IsEmptied, IsRoundAt, round_from, still_visit_ready}
use Rattle.bsc_line_model.proofs.RoundSteps.{next_place_before_last, entry_names_terminal}
use Rattle.bsc_line_model.proofs.Delivered.{all_delivered_without_blocks}
use Rattle.bsc_line_model.proofs.FairRuns.{runs_walk_without_delays, good_line}

-- a selection address that is called is one of the terminal's
selects_count : (l : LineValue) → IsGood l → length (peer l.control).outbounds
    ≡ length (peer l.control).terminal.selects
selects_count l g =
    let is : IsPeer (peer l.control) =
    All-get_or IsPeer l.control.peers (current l.control) no_peer
    (current_within_peers l.control (good_places l g))
    g.line.stations.control.entries.peers in
    is.outbounds

called_there : (l : LineValue) (s : ℕ) → IsGood l → l.control.task ≡ k.Selecting s false → s
    < length (peer l.control).terminal.selects
called_there l s g task =
    subst (λ (n : ℕ). s < n) (selects_count l g)
    (selected_outbound_exists l.control s false g.line.stations.control task)

called_within : (l : LineValue) (way : Way) (s : ℕ) → IsGood l → IsTaskOf way l.control.task → way
    ≡ ToTerminal s → s < length (peer l.control).terminal.selects
called_within l way s g task is =
    called_there l s g (subst (λ (w : Way). IsTaskOf w l.control.task) is task)

-- the address of a call that is pending
own_address : (x : TerminalValue) (way : Way)
    → ((s : ℕ) → way ≡ ToTerminal s → s < length x.selects) → address_for x way
    ≡ Some (address_at x way)
own_address x FromTerminal within = refl
own_address x (ToTerminal s) within = slice_get-get_or x.selects s x.poll (within s refl)

-- a visit begins if the first call of an entry is pending
first_visit_ready : (l : LineValue) (t : ℕ) → IsGood l → t < terminal_count l → IsReadyForVisitAt l t → IsReadyForVisit l t
first_visit_ready l t g there c =
    record {
      ready = c.ready;
      not_urgent_at = c.urgent_at;
      not_urgent_for = c.urgent_for;
      no_doubt = λ way is. sure way;
    }
  where
    sure : (way : Way) → is_in_doubt (phase_of l t way) ≡ false
    sure FromTerminal = c.sure_up
    sure (ToTerminal s) = c.sure_down s

begins_next : (l : LineValue) (place : ℕ) → IsGood l → Calls l place (way_from (peer l.control) 0)
    → ((j : ℕ) → j < length l.control.poll_list → IsPolledEntry l j
    → IsReadyForVisitAt l (entry_at l j)) → BeginsVisit l place
begins_next l place g h visit_ready =
    let way : Way = way_from (peer l.control) 0 in
    let address : List ℕ = address_at (peer l.control).terminal way in
    let same : current l.control ≡ terminal_of_entry l.control place =
    ap (λ (n : ℕ). terminal_of_entry l.control n) h.called.place_is in
    let first : way ≡ (first_call l.control place).way =
    ap (λ (t : ℕ). way_from (peer_at l.control t) 0) same in
    let there : slice_get (terminals l.control) (current l.control)
    ≡ Some (peer l.control).terminal =
    terminal_in_directory l.control l.terminals (current l.control) g.line.stations
    (current_terminal_there l.control l.terminals g.line.stations)
    ∙ ap (λ (x : TerminalValue). Some x)
    (g.line.stations.members (current l.control)
    (current_terminal_there l.control l.terminals g.line.stations)).addresses in
    let own : IsAddressOf (terminals l.control) (current l.control) way address =
    record {
      terminal = (peer l.control).terminal;
      there = there;
      its_own =
          own_address (peer l.control).terminal way
          (λ s is. called_within l way s g h.called.task is);
    } in
    record {
      address = address;
      pending = h.pending ∙ ap (λ (o : Option Message). sent_by sp.Control o) h.called.call;
      called = record {
        place = h.called.place_is;
        called =
            subst (λ (w : Way). IsAddressOf (terminals l.control) (current l.control) w address)
            first own;
        task = subst (λ (w : Way). IsTaskOf w l.control.task) first h.called.task;
      };
      polled =
          subst (λ (t : ℕ). is_polled l.control t ≡ true) same h.called.polled;
      trusted = g.trusted;
      visit_ready = λ j less on_list.
          first_visit_ready l (entry_at l j) g (entry_names_terminal l j g less)
          (visit_ready j less on_list);
    }

-- a visit from its beginning
terminal_of : (l : LineValue) (place : ℕ) → BeginsVisit l place → current l.control
    ≡ entry_at l place
terminal_of l place b = ap (λ (n : ℕ). terminal_of_entry l.control n) b.called.place

first_calls : (l : LineValue) (place : ℕ) → IsGood l → (b : BeginsVisit l place)
    → Calls l place (way_from (peer l.control) 0)
first_calls l place g b =
    let same : current l.control ≡ entry_at l place = terminal_of l place b in
    let way : Way = (first_call l.control place).way in
    let calls : Calls l place way =
    calls_where_made l place b.address way g b.called b.pending
    (subst (λ (t : ℕ). is_polled l.control t ≡ true) (sym same) b.polled)
    (λ s is. called_within l way s g b.called.task is) in
    subst (λ (t : ℕ). Calls l place (way_from (peer_at l.control t) 0)) (sym same) calls

visit_ready_at : (l : LineValue) (t : ℕ) → IsGood l → t < terminal_count l → IsReadyForVisit l t → IsReadyForVisitAt l t
visit_ready_at l t g there c =
    record {
      ready = c.ready;
      urgent_at = c.not_urgent_at;
      urgent_for = c.not_urgent_for;
      sure_up = c.no_doubt FromTerminal (record { there = there; its_way = tt });
      sure_down = λ s.
          elim (cases_lt s (length (terminal_at l t).terminal.selects)) [
            | inl less ↦ c.no_doubt (ToTerminal s) (record { there = there; its_way = less })
            | inr past ↦ ap (λ (o : OutboundValue). is_in_doubt o.sender.phase)
                (get_or_past (peer_at l.control t).outbounds s no_outbound (beyond s past))
          ];
    }
  where
    beyond : (s : ℕ) → length (terminal_at l t).terminal.selects ≤ s
        → length (peer_at l.control t).outbounds ≤ s
    beyond s past =
        let before : t < length l.control.peers = omega (arith, there, g.line.stations.count) in
        let of_peer : IsPeer (peer_at l.control t) =
        All-get_or IsPeer l.control.peers t no_peer before
        g.line.stations.control.entries.peers in
        let same : length (terminal_at l t).terminal.selects
        ≡ length (peer_at l.control t).terminal.selects =
        ap (λ (x : TerminalValue). length x.selects)
        (g.line.stations.members t there).addresses in
        omega (arith, past, same, of_peer.outbounds)

-- while a call is pending, no bid is in progress
no_bids_by : (l : LineValue) (way : Way) (a : List ℕ) → IsGood l → IsTaskOf way l.control.task
    → l.pending ≡ Some (record { speaker = sp.Control; message = m.Call a })
    → NoBids l.control l.terminals
no_bids_by l FromTerminal a g task is = no_bids_at_poll l a Nothing g task is
no_bids_by l (ToTerminal s) a g task is =
    let selecting : IsSelecting l.pending l.control l.terminals s false =
    subst (λ (z : Task). InTask z l.pending l.control l.terminals) task g.together in
    selecting.no_bids

not_sending : (way : Way) (task : Task) (s : ℕ) → IsTaskOf way task → task ≡ k.Sending s → ⊥
not_sending FromTerminal task s is e = let both : k.Polling Nothing ≡ k.Sending s = sym is ∙ e in cc
not_sending (ToTerminal j) task s is e = let both : k.Selecting j false ≡ k.Sending s = sym is
    ∙ e in cc

rests_in : (n : Mode) (phase : Phase) (count : ℕ) → n ≢ mode.Sending → SuitsMode n phase count
    → IsAtRest phase
rests_in mode.Control phase count never is = is
rests_in (mode.Receiving s) phase count never is = is.0
rests_in mode.Sending phase count never is = absurd (never refl)

-- if no record waits for terminal t, all are delivered
delivered_at : (laws : VisitLaws) (l : LineValue) (place t : ℕ) (way : Way) → IsGood l
    → Calls l place way → t < terminal_count l → IsReadyForVisitAt l t → IsEmptied l t → IsDelivered l t
delivered_at laws l place t called g h there c e = by_way
  where
    no_bid : HasNoBid (peer_at l.control t) (terminal_at l t)
    no_bid =
        no_bids_by l called (address_at (peer l.control).terminal called) g h.called.task
        (h.pending ∙ ap (λ (o : Option Message). sent_by sp.Control o) h.called.call) t there

    by_way : IsDelivered l t
    by_way FromTerminal is =
        let rest : IsAtRest (terminal_at l t).sender.phase =
        rests_in (terminal_at l t).mode (terminal_at l t).sender.phase
        (length (terminal_at l t).spools) no_bid.mode
        (g.line.stations.members t there).tributary.bid in
        let x : _ =
        all_delivered_without_blocks laws.cuts (terminal_at l t).sender.phase (terminal_at l t).queue
        (peer_at l.control t).spool.records no_bid.up rest c.sure_up e.up in
        record { known = x.0; spooled = x.1 }
    by_way (ToTerminal s) is =
        let within : s < length (peer_at l.control t).outbounds =
        peer_has_way l.control l.terminals t (ToTerminal s) g.line.stations there is.its_way in
        let o : OutboundValue = outbound_of l.control t s in
        let rest : IsAtRest o.sender.phase =
        g.line.stations.control.orderly.rests t s
        (λ used. not_sending called l.control.task s h.called.task used.1) in
        let x : _ =
        all_delivered_without_blocks laws.cuts o.sender.phase o.queue
        (spool_at (terminal_at l t).spools s).records (no_bid.down s within) rest
        (c.sure_down s) (e.down s within) in
        record { known = x.0; spooled = x.1 }

-- the line at the end of a walk
line_after_walk : (P : LineValue → Type 0) (new : LineValue) (r : Result (Unit {0}) Stopped) → Comes P 0 r new
    → (r ≡ Ok tt) × P new
line_after_walk P new (Ok done) x = (refl, subst P (sym x.rest) x.holds)
line_after_walk P new (Err stopped) x = absurd x.rest

place_there : (l : LineValue) (place : ℕ) → IsGood l → BeginsVisit l place → place
    < length l.control.poll_list
place_there l place g b =
    subst (λ (n : ℕ). n < length l.control.poll_list) b.called.place
    g.line.stations.control.entries.place

-- the place of an entry; after the last one comes the first
wrapped_at_zero : (n : ℕ) → 0 < n → wrapped n 0 ≡ 0
wrapped_at_zero n less = next_place_before_last 0 n less (nat_eq 0 n) refl

at_end : (n : ℕ) (b : Bool) → nat_eq n n ≡ b → wrapped n n ≡ 0
at_end n true e = ap (λ (c : Bool). if c then 0 else n) e
at_end n false e = absurd (grind (arith, nat_tests))

-- a list with a place has a first one
some_entry : (l : LineValue) (place : ℕ) → place < length l.control.poll_list
    → 0 < length l.control.poll_list
some_entry l place within = omega (arith, within)

-- an entry that is polled was polled before
polled_before : (old new : LineValue) (j : ℕ) → entry_at new j ≡ entry_at old j
    → ((t : ℕ) → (peer_at new.control t).polled ≡ (peer_at old.control t).polled)
    → IsPolledEntry new j → IsPolledEntry old j
polled_before old new j same polled on_list =
    sym (polled (entry_at old j)) ∙ ap (is_polled new.control) (sym same) ∙ on_list

-- a round begins
round_begins : (l : LineValue) → IsGood l → BeginsVisit l (first_visit l) → IsRoundAt l l 0 []
round_begins l g b =
    record {
      good = g;
      list = refl;
      count = refl;
      polled = λ t. refl;
      calls =
          subst (λ (n : ℕ). Calls l (polled_place l.control n) (way_from (peer l.control) 0))
          (sym (wrapped_at_zero (length l.control.poll_list)
          (some_entry l (first_visit l) (place_there l (first_visit l) g b))))
          (first_calls l (first_visit l) g b);
      visit_ready = λ j less on_list.
          visit_ready_at l (entry_at l j) g (entry_names_terminal l j g less)
          (b.visit_ready j less on_list);
      visited = λ t inside seen. absurd (cc);
      passed = λ j less on_list. absurd (omega arith);
      fresh = λ t inside seen. refl;
    }

round_done : VisitLaws → (old new : LineValue) (result : Result (Unit {0}) Stopped) → IsLine old
    → BeginsVisit old (first_visit old) → Runs old (sent_times (round_length old)) result new
    → SameDelays old new
    → (result ≡ Ok tt) × IsRoundDone old new
round_done laws old new result line b runs delays =
    let g : IsGood old = good_line old line b.trusted in
    let n : ℕ = length old.control.poll_list in
    let w : Walks 0 (round_length old) old result new =
    runs_walk_without_delays 0 (round_length old) old new result line b.trusted runs delays in
    let x : Comes (λ z. (seen : List ℕ) × IsRoundAt old z n seen) 0 result new =
    round_from laws n 0 0 (round_length old) 0 [] old old new result (round_begins old g b)
    (omega arith)
    (λ j less. some_polled old.control j (first_visit old) less
    (place_there old (first_visit old) g b) b.polled)
    (omega arith) w in
    let done : (result ≡ Ok tt) × ((seen : List ℕ) × IsRoundAt old new n seen) =
    line_after_walk (λ z. (seen : List ℕ) × IsRoundAt old z n seen) new result x in
    let seen : List ℕ = done.1.0 in
    let h : IsRoundAt old new n seen = done.1.1 in
    let at_start : Calls new (first_visit old) (way_from (peer new.control) 0) =
    subst (λ (p : ℕ). Calls new (polled_place old.control p) (way_from (peer new.control) 0))
    (at_end n (nat_eq n n) refl) h.calls in
    let same : (j : ℕ) → entry_at new j ≡ entry_at old j =
    λ j. ap (λ (list : List ℕ). get_or list j 0) h.list in
    let there : (j : ℕ) → j < n → entry_at old j < terminal_count new =
    λ j less. subst (λ (c : ℕ). entry_at old j < c) (sym h.count) (entry_names_terminal old j g less) in (
      done.0,
      record {
        delivered =
            λ j less on_list. delivered_at laws new (first_visit old) (entry_at old j)
            (way_from (peer new.control) 0)
            h.good at_start (there j less) (h.visit_ready j less on_list)
            (h.visited (entry_at old j) (entry_names_terminal old j g less)
            (h.passed j less on_list));
        next = begins_next new (first_visit old) h.good at_start (λ j less on_list.
            let within : j < n = subst (λ (list : List ℕ). j < length list) h.list less in
            subst (λ (t : ℕ). IsReadyForVisitAt new t) (sym (same j))
            (h.visit_ready j within
            (polled_before old new j (same j) h.polled on_list)));
      },
    )

-- a visit
visit_begins : (laws : VisitLaws) (old new : LineValue) (place : ℕ) (r : Result (Unit {0}) Stopped)
    → IsGood old → BeginsVisit old place → Walks 0 (visit_length old (entry_at old place)) old r new
    → Comes (IsVisitDone (entry_at old place) place old) 0 r new
visit_begins laws old new place r g b w =
    let e : ℕ = entry_at old place in
    let cur : current old.control ≡ e = terminal_of old place b in
    let there : e < terminal_count old = entry_names_terminal old place g (place_there old place g b) in
    let v : Visiting e place 0 (block_count (terminal_at old e).queue) old old = record {
      good = g;
      present = cur;
      here = b.called.place;
      calls =
          subst (λ (z : ℕ). Calls old place (way_from (peer_at old.control z) 0)) cur
          (first_calls old place g b);
      visit_ready =
          visit_ready_at old e g there
          (b.visit_ready place (place_there old place g b) b.polled);
      done = λ s never. absurd (omega arith);
      blocks_up = refl;
      stays = but_same e old;
    } in
    let number : visit_length old e ≡ selections_length (peer_at old.control e) 0
    (length (peer_at old.control e).outbounds)
    + poll_length (block_count (terminal_at old e).queue) = visit_is old e in
    visit_from laws (length (peer_at old.control e).outbounds) 0 0 (visit_length old e) e place 0
    (block_count (terminal_at old e).queue) old old new r v there (omega arith)
    (omega (arith, number)) w

channel_same : (e t : ℕ) (way : Way) (old new : LineValue) → t < terminal_count old → t ≢ e
    → StaysBut e old new → channel_of new t way ≡ channel_of old t way
channel_same e t FromTerminal old new less differ h =
    ap (λ (q : QueueValue). channel q (peer_at new.control t).spool.records) (h.queue t less differ)
    ∙ ap (λ (s : SpoolValue). channel (terminal_at old t).queue s.records) (h.spool t differ)
channel_same e t (ToTerminal s) old new less differ h =
    ap (λ (o : OutboundValue). channel o.queue (spool_at (terminal_at new t).spools s).records)
    (h.outbound t s differ)
    ∙ ap (λ (rs : List (List ℕ)). channel (outbound_of old.control t s).queue rs)
    (h.spooled t s less differ)

visit_done : VisitLaws → (old new : LineValue) (place : ℕ) (result : Result (Unit {0}) Stopped)
    → IsLine old → BeginsVisit old place
    → Runs old (sent_times (visit_length old (entry_at old place))) result new → SameDelays old new
    → (result ≡ Ok tt) × IsVisited old new place
visit_done laws old new place result line b runs delays =
    let g : IsGood old = good_line old line b.trusted in
    let e : ℕ = entry_at old place in
    let w : Walks 0 (visit_length old e) old result new =
    runs_walk_without_delays 0 (visit_length old e) old new result line b.trusted runs delays in
    let done : (result ≡ Ok tt) × IsVisitDone e place old new =
    line_after_walk (IsVisitDone e place old) new result (visit_begins laws old new place result g b w) in
    let h : IsVisitDone e place old new = done.1 in
    let there : e < terminal_count old = entry_names_terminal old place g (place_there old place g b) in
    let now : e < terminal_count new = subst (λ (c : ℕ). e < c) (sym h.stays.count) there in
    let same : (j : ℕ) → entry_at new j ≡ entry_at old j =
    λ j. ap (λ (list : List ℕ). get_or list j 0) h.stays.poll_list in (
      done.0,
      record {
        delivered =
            delivered_at laws new (next_visit old place) e
            (way_from (peer new.control) 0) h.good h.calls now h.visit_ready
            (record { down = h.down; up = h.up });
        others = λ t way is differ. channel_same e t way old new is.there differ h.stays;
        next = begins_next new (next_visit old place) h.good h.calls (λ j less on_list.
            let within : j < length old.control.poll_list =
            subst (λ (list : List ℕ). j < length list) h.stays.poll_list less in
            let inside : entry_at old j < terminal_count old = entry_names_terminal old j g within in
            subst (λ (t : ℕ). IsReadyForVisitAt new t) (sym (same j))
            (elim (same_or_not (entry_at old j) e) [
              | inl this ↦ subst (λ (t : ℕ). IsReadyForVisitAt new t) (sym this) h.visit_ready
              | inr differ ↦ still_visit_ready e (entry_at old j) old new inside differ h.stays
                  (visit_ready_at old (entry_at old j) g inside (b.visit_ready j within
                  (polled_before old new j (same j) h.stays.polled on_list)))
            ]));
      },
    )

-- the same in terms of runs
pub delivers_visit : VisitLaws → RunsDeliverVisit
delivers_visit laws old new events result line runs place h =
    visit_done laws old new place result line h.begins
    (subst (λ (es : List Event). Runs old es result new) h.transmissions runs) h.delays

pub delivers_round : VisitLaws → RunsDeliverRound
delivers_round laws old new events result line runs h =
    round_done laws old new result line h.begins
    (subst (λ (es : List Event). Runs old es result new) h.transmissions runs) h.delays
