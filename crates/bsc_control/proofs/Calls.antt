-- What a call keeps, and that it is the next one.
use Rattle.std.proofs.Common.{◌≡◌, ◌≢◌, ℕ, zero, suc, ◌+◌, ◌≤◌, ◌<◌, Bool, true, false, not, nat_eq}
use Rattle.std.proofs.Common.{List, length, drop, get_or, set, Option, option_map, None, Some, refl}
use Rattle.std.proofs.Common.{sym, ◌∙◌, ap, subst, arith, length-drop, if◌then◌else◌}
use Rattle.std.proofs.lemmas.List.{length-set, get_or-drop}
use Rattle.std.proofs.lemmas.List.Quantifiers.{position-Some}
use Rattle.std.proofs.lemmas.Bool.{eqb-false}
use Rattle.std.proofs.lemmas.Option.{slice_get-get_or, slice_get-map}
use Rattle.std.specs.List.{All, slice_get, position}
use Rattle.bsc_frame.specs.declared.message.Message.TheVariants as m
use Rattle.bsc_spool.specs.Queue.{waiting}
use Rattle.bsc_bid.specs.declared.phase.Phase.{Phase}
use Rattle.bsc_bid.specs.declared.phase.Phase.TheVariants.{Idle, Unanswered, Held, InDoubt}
use Rattle.bsc_bid.specs.Ready.{IsAtRest}
use Rattle.bsc_bid.specs.Receiver.{new_receiver}
use Rattle.bsc_bid.specs.Sender.{is_in_doubt}
use Rattle.bsc_bid.specs.Terminal.{TerminalValue}
use Rattle.bsc_control.specs.declared.task.Replied.TheVariants.{Nothing}
use Rattle.bsc_control.specs.declared.task.Task.{Task}
use Rattle.bsc_control.specs.declared.task.Task.TheVariants.{Selecting, Polling}
use Rattle.bsc_bid.specs.declared.way.Way.{Way}
use Rattle.bsc_bid.specs.declared.way.Way.TheVariants.{FromTerminal, ToTerminal}
use Rattle.bsc_control.specs.CallOrder.{Call, After, Start, Selection, Interruption, Poll, way_at}
use Rattle.bsc_control.specs.CallOrder.{way_from, next_place, due_call, is_polled, passed_over}
use Rattle.bsc_control.specs.CallOrder.{place_further, call_past, next_call}
use Rattle.bsc_control.specs.Control.{ControlValue, ControlStep, HasEntries, terminals, peer_at}
use Rattle.bsc_control.specs.Control.{current}
use Rattle.bsc_control.specs.Control.{terminal_of_entry, with_peer}
use Rattle.bsc_control.specs.Kept.{IsSelected, outbound_of, phase_of, HasSettings, IsOrderly, Keeps}
use Rattle.bsc_control.specs.Kept.{IsCalled}
use Rattle.bsc_control.specs.Peer.{OutboundValue, PeerValue, no_outbound, no_peer, outbound_at}
use Rattle.bsc_control.specs.Peer.{is_selectable}
use Rattle.bsc_control.specs.Table.{poll_call_step, selection_call_step, select_address}
use Rattle.bsc_control.specs.Table.{way_call_step, make_call_step, call_past_step, rest_step}
use Rattle.bsc_control.specs.Table.{next_call_step}
use Rattle.bsc_control.proofs.Passing.{further_within, no_further, passed_within, polled_further}
use Rattle.bsc_control.proofs.PeerLists.{value_kept_by_set, map_kept_by_set, value_at_set_place}

-- no bid is in progress
pub record IsWithoutBid (c : ControlValue) : Type 0 where
  pub rests : (t s : ℕ) → IsAtRest (phase_of c t s)
  pub settings : (t s : ℕ) → s < length (peer_at c t).outbounds → HasSettings c (outbound_of c t s)

-- what a step that does not change the spools keeps
pub record KeepsSpools (old new : ControlValue) : Type 0 where
  pub keeps : Keeps old new
  pub orderly : IsOrderly new
  pub spools : (t : ℕ) → (peer_at new t).spool ≡ (peer_at old t).spool

-- the part of one terminal is replaced by one with the same addresses and sending sides that is
-- polled as before, and the station's place, task and counters change
abbrev pub moved : ControlValue → ℕ → PeerValue → ℕ → Task → ℕ → ℕ → ControlValue
moved c t p place task failures wacks =
    record (with_peer c t p) { place = place; task = task; failures = failures; wacks = wacks }

pub record IsSamePeer (c : ControlValue) (t : ℕ) (p : PeerValue) : Type 0 where
  pub terminal : p.terminal ≡ (peer_at c t).terminal
  pub polled : p.polled ≡ (peer_at c t).polled
  pub outbounds : p.outbounds ≡ (peer_at c t).outbounds

pub outbounds_of_same_peer : (c : ControlValue) (t : ℕ) (p : PeerValue) → IsSamePeer c t p → (j : ℕ)
    → (get_or (set c.peers t p) j no_peer).outbounds ≡ (peer_at c j).outbounds
outbounds_of_same_peer c t p same j =
    value_kept_by_set (λ (x : PeerValue). x.outbounds) c.peers t j p no_peer same.outbounds

pub keeps_moved : (c : ControlValue) (t : ℕ) (p : PeerValue) (place : ℕ) (task : Task)
    (failures wacks : ℕ) → IsSamePeer c t p → Keeps c (moved c t p place task failures wacks)
keeps_moved c t p place task failures wacks same =
    record {
      setup = refl;
      poll_list = refl;
      terminals = map_kept_by_set (λ (x : PeerValue). x.terminal) c.peers t p no_peer same.terminal;
      peers = length-set c.peers t p;
      polled = λ j. value_kept_by_set (λ (x : PeerValue). x.polled) c.peers t j p no_peer same.polled;
      outbounds = λ j. ap length (outbounds_of_same_peer c t p same j);
      offered =
          λ j s. ap (λ (os : List OutboundValue). (get_or os s no_outbound).queue.offered)
          (outbounds_of_same_peer c t p same j);
    }

pub rests_moved : (c : ControlValue) (t : ℕ) (p : PeerValue) → IsSamePeer c t p → (j s : ℕ)
    → IsAtRest (phase_of c j s)
    → IsAtRest (get_or (get_or (set c.peers t p) j no_peer).outbounds s no_outbound).sender.phase
rests_moved c t p same j s h =
    subst (λ (os : List OutboundValue). IsAtRest (get_or os s no_outbound).sender.phase)
    (sym (outbounds_of_same_peer c t p same j)) h

pub settings_moved : (c : ControlValue) (t : ℕ) (p : PeerValue) (place : ℕ) (task : Task)
    (failures wacks : ℕ) → IsSamePeer c t p
    → ((j s : ℕ) → s < length (peer_at c j).outbounds → HasSettings c (outbound_of c j s))
    → (j s : ℕ) → s < length (peer_at (moved c t p place task failures wacks) j).outbounds
    → HasSettings (moved c t p place task failures wacks)
    (outbound_of (moved c t p place task failures wacks) j s)
settings_moved c t p place task failures wacks same h j s there =
    let e = outbounds_of_same_peer c t p same j in
    let k : HasSettings c (outbound_of c j s) =
    h j s (subst (λ (os : List OutboundValue). s < length os) e there) in
    record {
      setup = ap (λ (os : List OutboundValue). (get_or os s no_outbound).sender.setup) e ∙ k.setup;
      format = ap (λ (os : List OutboundValue). (get_or os s no_outbound).queue.format) e
          ∙ k.format;
    }

-- a polling address is called
pub keeps_spools_poll_call_step : (c : ControlValue) (place failures : ℕ) → IsWithoutBid c
    → KeepsSpools c (poll_call_step c place failures).control
keeps_spools_poll_call_step c place failures without_bid =
    let t : ℕ = terminal_of_entry c place in
    let p : PeerValue = record (peer_at c t) { receiver = new_receiver true } in
    let same : IsSamePeer c t p = record { terminal = refl; polled = refl; outbounds = refl } in
    record {
      keeps = keeps_moved c t p place (Polling Nothing) failures 0 same;
      orderly =
          record {
            suits = value_at_set_place (λ (x : PeerValue). x.receiver) c.peers t p no_peer refl;
            rests = λ j s unused. rests_moved c t p same j s (without_bid.rests j s);
            settings = settings_moved c t p place (Polling Nothing) failures 0 same without_bid.settings;
          };
      spools = λ j. value_kept_by_set (λ (x : PeerValue). x.spool) c.peers t j p no_peer refl;
    }

-- IsSelected depends only on the sending sides
selected_by_outbounds : (p q : PeerValue) (s : ℕ) → q.outbounds ≡ p.outbounds → IsSelected p s
    → IsSelected q s
selected_by_outbounds p q s e h =
    record {
      there = subst (λ (os : List OutboundValue). s < length os) (sym e) h.there;
      idle =
          subst (λ (os : List OutboundValue). (get_or os s no_outbound).sender.phase ≡ Idle) (sym e)
          h.idle;
      some =
          subst (λ (os : List OutboundValue). 1 ≤ length (waiting (get_or os s no_outbound).queue))
          (sym e) h.some;
    }

-- a selection address for which records wait is called
pub keeps_spools_selection_call_step : (c : ControlValue) (place s : ℕ) → IsWithoutBid c
    → IsSelected (peer_at c (terminal_of_entry c place)) s
    → KeepsSpools c (selection_call_step c place s).control
keeps_spools_selection_call_step c place s without_bid selected =
    let t : ℕ = terminal_of_entry c place in
    let p : PeerValue = record (peer_at c t) { urgent = false } in
    let same : IsSamePeer c t p = record { terminal = refl; polled = refl; outbounds = refl } in
    record {
      keeps = keeps_moved c t p place (Selecting s false) 0 0 same;
      orderly =
          record {
            suits =
                selected_by_outbounds (peer_at c t) (get_or (set c.peers t p) t no_peer) s
                (outbounds_of_same_peer c t p same t) selected;
            rests = λ j k unused. rests_moved c t p same j k (without_bid.rests j k);
            settings = settings_moved c t p place (Selecting s false) 0 0 same without_bid.settings;
          };
      spools = λ j. value_kept_by_set (λ (x : PeerValue). x.spool) c.peers t j p no_peer refl;
    }

-- an address is selected only if records wait for it without doubt
some_wait_if_selectable : (n : ℕ) → not (nat_eq n 0) ≡ true → 1 ≤ n
some_wait_if_selectable zero h = absurd (cc)
some_wait_if_selectable (suc n) h = omega arith

idle_selectable : (o : OutboundValue) (phase : Phase) → IsAtRest phase
    → (if is_in_doubt phase then false else not (nat_eq (length (waiting o.queue)) 0)) ≡ true
    → (phase ≡ Idle) × (1 ≤ length (waiting o.queue))
idle_selectable o Idle rests h = (refl, some_wait_if_selectable (length (waiting o.queue)) h)
idle_selectable o (InDoubt count) rests h = absurd (cc)
idle_selectable o (Unanswered b) rests h = absurd rests
idle_selectable o (Held end alternation) rests h = absurd rests

selected_place : (p : PeerValue) (from i : ℕ) → ((s : ℕ) → IsAtRest (outbound_at p s).sender.phase)
    → position is_selectable (drop from p.outbounds) ≡ Some i → IsSelected p (from + i)
selected_place p from i rests h =
    let found = position-Some is_selectable (drop from p.outbounds) i no_outbound h in
    let e : get_or (drop from p.outbounds) i no_outbound ≡ outbound_at p (from + i) =
    get_or-drop from p.outbounds i no_outbound in
    let o : OutboundValue = outbound_at p (from + i) in
    let w : is_selectable o ≡ true =
    subst (λ (x : OutboundValue). is_selectable x ≡ true) e found.1 in
    let idle = idle_selectable o o.sender.phase (rests (from + i)) w in
    record {
      there = omega (arith, found.0, length-drop from p.outbounds);
      idle = idle.0;
      some =
          idle.1;
    }

selected_way : (p : PeerValue) (from s : ℕ) (found : Option ℕ)
    → ((s : ℕ) → IsAtRest (outbound_at p s).sender.phase)
    → position is_selectable (drop from p.outbounds) ≡ found → way_at from found ≡ ToTerminal s
    → IsSelected p s
selected_way p from s None rests e h = absurd (cc)
selected_way p from s (Some i) rests e h =
    let at : from + i ≡ s = cc in
    subst (λ (k : ℕ). IsSelected p k) at (selected_place p from i rests e)

-- a call by a way that is the polling address or an address for which records wait
keeps_spools_way_call_step : (c : ControlValue) (place : ℕ) (way : Way) → IsWithoutBid c
    → ((s : ℕ) → way ≡ ToTerminal s → IsSelected (peer_at c (terminal_of_entry c place)) s)
    → KeepsSpools c (way_call_step c place way).control
keeps_spools_way_call_step c place FromTerminal without_bid selected =
    keeps_spools_poll_call_step c place 0 without_bid
keeps_spools_way_call_step c place (ToTerminal s) without_bid selected =
    keeps_spools_selection_call_step c place s without_bid (selected s refl)

selected_from : (c : ControlValue) (t from : ℕ) → IsWithoutBid c → (s : ℕ) → way_from (peer_at c t) from
    ≡ ToTerminal s → IsSelected (peer_at c t) s
selected_from c t from without_bid s h =
    selected_way (peer_at c t) from s (position is_selectable (drop from (peer_at c t).outbounds))
    (without_bid.rests t) refl h

-- whatever the next call comes after, its way is the polling address or an address for which
-- records wait
due_call_is_selectable : (c : ControlValue) (after : After) → IsWithoutBid c → (s : ℕ)
    → (due_call c after).way ≡ ToTerminal s
    → IsSelected (peer_at c (terminal_of_entry c (due_call c after).place)) s
due_call_is_selectable c Start without_bid s h = selected_from c (current c) 0 without_bid s h
due_call_is_selectable c (Selection k) without_bid s h = selected_from c (current c) (k + 1) without_bid s h
due_call_is_selectable c Interruption without_bid s h = absurd (cc)
due_call_is_selectable c (Poll true) without_bid s h = selected_from c (current c) 0 without_bid s h
due_call_is_selectable c (Poll false) without_bid s h =
    selected_from c (terminal_of_entry c (next_place c)) 0 without_bid s h

call_past_is_selectable : (c : ControlValue) (call : Call) (passed : Option ℕ) → IsWithoutBid c
    → ((s : ℕ) → call.way ≡ ToTerminal s
    → IsSelected (peer_at c (terminal_of_entry c call.place)) s)
    → (s : ℕ) → (call_past c call passed).way ≡ ToTerminal s
    → IsSelected (peer_at c (terminal_of_entry c (call_past c call passed).place)) s
call_past_is_selectable c call None without_bid due s h = due s h
call_past_is_selectable c call (Some zero) without_bid due s h = due s h
call_past_is_selectable c call (Some (suc more)) without_bid due s h =
    selected_from c
    (terminal_of_entry c (place_further (length c.poll_list) call.place (suc more))) 0 without_bid s
    h

pub next_call_is_selectable : (c : ControlValue) (after : After) → IsWithoutBid c → (s : ℕ)
    → (next_call c after).way ≡ ToTerminal s
    → IsSelected (peer_at c (terminal_of_entry c (next_call c after).place)) s
next_call_is_selectable c after without_bid =
    call_past_is_selectable c (due_call c after) (passed_over c (due_call c after).place)
    without_bid (due_call_is_selectable c after without_bid)

-- a call is made past the entries that are passed over, or the station rests
past_or_at_rest : (P : ControlStep → Type 0) (c : ControlValue) (call : Call)
    (passed : Option ℕ) → P (rest_step c)
    → ((more : ℕ) → passed ≡ Some more → P (make_call_step c (call_past c call passed)))
    → P (call_past_step c call passed)
past_or_at_rest P c call None rest made = rest
past_or_at_rest P c call (Some more) rest made = made more refl

-- what holds if the station rests, and if it makes the next call, holds of the next call
pub by_next_call : (P : ControlStep → Type 0) (c : ControlValue) (after : After)
    → P (rest_step c) → P (make_call_step c (next_call c after)) → P (next_call_step c after)
by_next_call P c after rest made =
    past_or_at_rest P c (due_call c after) (passed_over c (due_call c after).place) rest
    (λ more is. made)

-- the station comes to rest
keeps_spools_rest_step : (c : ControlValue) → IsWithoutBid c → KeepsSpools c (rest_step c).control
keeps_spools_rest_step c without_bid =
    record {
      keeps =
          record {
            setup = refl;
            poll_list = refl;
            terminals = refl;
            peers = refl;
            polled = λ t. refl;
            outbounds = λ t. refl;
            offered = λ t s. refl;
          };
      orderly =
          record {
            suits = tt;
            rests = λ t s unused. without_bid.rests t s;
            settings =
                λ t s there. record {
                  setup = (without_bid.settings t s there).setup;
                  format = (without_bid.settings t s there).format;
                };
          };
      spools = λ t. refl;
    }

pub keeps_spools_next_call_step : (c : ControlValue) (after : After) → IsWithoutBid c
    → KeepsSpools c (next_call_step c after).control
keeps_spools_next_call_step c after without_bid =
    by_next_call (λ (step : ControlStep). KeepsSpools c step.control) c after
    (keeps_spools_rest_step c without_bid)
    (keeps_spools_way_call_step c (next_call c after).place (next_call c after).way without_bid
    (next_call_is_selectable c after without_bid))

-- the next place is a place in the poll list
pub next_place_within : (c : ControlValue) → c.place < length c.poll_list → next_place c
    < length c.poll_list
next_place_within c within = next_place_in_poll_list (nat_eq (c.place + 1) (length c.poll_list)) refl
  where
    next_place_in_poll_list : (b : Bool) → nat_eq (c.place + 1) (length c.poll_list) ≡ b
        → (if b then 0 else c.place + 1) < length c.poll_list
    next_place_in_poll_list true e = omega (arith, within)
    next_place_in_poll_list false e = let differ : c.place + 1 ≢ length c.poll_list =
        eqb-false (c.place + 1) (length c.poll_list) e in omega (arith, within, differ)

-- the place of the next call is a place in the poll list
due_call_within : (c : ControlValue) (after : After) → c.place < length c.poll_list
    → (due_call c after).place < length c.poll_list
due_call_within c Start within = within
due_call_within c (Selection s) within = within
due_call_within c Interruption within = within
due_call_within c (Poll true) within = within
due_call_within c (Poll false) within = next_place_within c within

call_past_within : (c : ControlValue) (call : Call) (passed : Option ℕ)
    → passed_over c call.place ≡ passed → call.place < length c.poll_list
    → (call_past c call passed).place < length c.poll_list
call_past_within c call None is within = within
call_past_within c call (Some zero) is within = within
call_past_within c call (Some (suc more)) is within =
    further_within (length c.poll_list) call.place (suc more) within
    (passed_within c call.place (suc more) (omega (arith, within)) is)

pub next_call_within : (c : ControlValue) (after : After) → c.place < length c.poll_list
    → (next_call c after).place < length c.poll_list
next_call_within c after within =
    call_past_within c (due_call c after) (passed_over c (due_call c after).place) refl
    (due_call_within c after within)

-- the terminal of a call that is made is polled
call_past_polled : (c : ControlValue) (call : Call) (passed : Option ℕ) (more : ℕ)
    → passed_over c call.place ≡ passed → call.place < length c.poll_list → passed ≡ Some more
    → is_polled c (terminal_of_entry c (call_past c call passed).place) ≡ true
call_past_polled c call None more is within some = absurd (cc)
call_past_polled c call (Some zero) more is within some =
    subst (λ (k : ℕ). is_polled c (terminal_of_entry c k) ≡ true)
    (no_further (length c.poll_list) call.place within)
    (polled_further c call.place 0 within is)
call_past_polled c call (Some (suc k)) more is within some =
    polled_further c call.place (suc k) within is

-- the present entry is one of the poll list, and each entry names a terminal
pub record HasPlaces (c : ControlValue) : Type 0 where
  pub place : c.place < length c.poll_list
  pub entries : All (λ t. t < length c.peers) c.poll_list

pub places : (c : ControlValue) → HasEntries c → HasPlaces c
places c h = record { place = h.place; entries = h.entries }

-- only the poll list, the place and the number of terminals matter
pub places_of_same_list : (c d : ControlValue) → d.poll_list ≡ c.poll_list → d.place ≡ c.place
    → length d.peers ≡ length c.peers → HasPlaces c → HasPlaces d
places_of_same_list c d list place count h =
    record {
      place = rw (list, place) h.place;
      entries =
          rw (list) (λ k z less. subst (λ (n : ℕ). get_or c.poll_list k z < n) (sym count)
          (h.entries k z less));
    }

-- the terminal of the present entry exists
pub current_within_peers : (c : ControlValue) → HasPlaces c → current c < length c.peers
current_within_peers c h = h.entries c.place 0 h.place

-- the terminal of the next call exists
pub next_call_within_peers : (c : ControlValue) (after : After) → HasPlaces c
    → terminal_of_entry c (next_call c after).place < length c.peers
next_call_within_peers c after h = h.entries (next_call c after).place 0 (next_call_within c after h.place)

pub terminal_of_peer : (c : ControlValue) (t : ℕ) → t < length c.peers → slice_get (terminals c) t
    ≡ Some (peer_at c t).terminal
terminal_of_peer c t within = slice_get-map (λ (x : PeerValue). x.terminal) c.peers t
    ∙ ap (option_map (λ (x : PeerValue). x.terminal)) (slice_get-get_or c.peers t no_peer within)

pub select_address_at : (t : TerminalValue) (s : ℕ) → s < length t.selects → slice_get t.selects s
    ≡ Some (select_address t s)
select_address_at t s within = slice_get-get_or t.selects s t.poll within

-- each entry names a terminal, and each selection address of a terminal has its sending side
pub record HasShape (c : ControlValue) : Type 0 where
  pub places : HasPlaces c
  pub lengths : (t : ℕ) → t < length c.peers → length (peer_at c t).outbounds
      ≡ length (peer_at c t).terminal.selects

pub shape_of_entries : (c : ControlValue) → HasEntries c → HasShape c
shape_of_entries c h =
    record {
      places = places c h;
      lengths =
          λ t within. (h.peers t no_peer within).outbounds;
    }

-- a call is sent to the address that it names
pub call_names_address : (c : ControlValue) (place : ℕ) (way : Way) (address : List ℕ) → HasShape c → place
    < length c.poll_list
    → is_polled c (terminal_of_entry c place) ≡ true
    → ((s : ℕ) → way ≡ ToTerminal s → IsSelected (peer_at c (terminal_of_entry c place)) s)
    → (way_call_step c place way).sent ≡ Some (m.Call address)
    → IsCalled (way_call_step c place way).control (record { place = place; way = way }) address
call_names_address c place FromTerminal address shaped within polled selected sent =
    let t : ℕ = terminal_of_entry c place in
    let p : PeerValue = record (peer_at c t) { receiver = new_receiver true } in
    record {
      place = refl;
      called =
          record {
            terminal = (peer_at c t).terminal;
            there =
                rw (map_kept_by_set (λ (x : PeerValue). x.terminal) c.peers t p no_peer refl)
                (terminal_of_peer c t (shaped.places.entries place 0 within));
            its_own = cc;
          };
      polled =
          value_kept_by_set (λ (x : PeerValue). x.polled) c.peers t t p no_peer refl ∙ polled;
      task = refl;
      failures = refl;
      wacks = refl;
    }
call_names_address c place (ToTerminal s) address shaped within polled selected sent =
    let t : ℕ = terminal_of_entry c place in
    let p : PeerValue = record (peer_at c t) { urgent = false } in
    let outbound : s < length (peer_at c t).outbounds = (selected s refl).there in
    let select : s < length (peer_at c t).terminal.selects =
    subst (λ (n : ℕ). s < n) (shaped.lengths t (shaped.places.entries place 0 within)) outbound in
    let own : slice_get (peer_at c t).terminal.selects s
    ≡ Some (select_address (peer_at c t).terminal s) =
    select_address_at (peer_at c t).terminal s select in
    record {
      place = refl;
      called =
          record {
            terminal = (peer_at c t).terminal;
            there =
                rw (map_kept_by_set (λ (x : PeerValue). x.terminal) c.peers t p no_peer refl)
                (terminal_of_peer c t (shaped.places.entries place 0 within));
            its_own = cc;
          };
      polled =
          value_kept_by_set (λ (x : PeerValue). x.polled) c.peers t t p no_peer refl ∙ polled;
      task = refl;
      failures = refl;
      wacks = refl;
    }

-- the next call is sent to the address that it names
pub next_is_called : (c : ControlValue) (after : After) (address : List ℕ) → HasShape c → IsWithoutBid c
    → (next_call_step c after).sent ≡ Some (m.Call address)
    → IsCalled (next_call_step c after).control (next_call c after) address
next_is_called c after address shaped without_bid =
    past_or_at_rest (λ (step : ControlStep). step.sent ≡ Some (m.Call address)
    → IsCalled step.control (next_call c after) address) c (due_call c after)
    (passed_over c (due_call c after).place) (λ sent. absurd (cc))
    (λ more is sent.
    call_names_address c (next_call c after).place (next_call c after).way address shaped
    (next_call_within c after shaped.places.place)
    (call_past_polled c (due_call c after) (passed_over c (due_call c after).place) more refl
    (due_call_within c after shaped.places.place) is)
    (next_call_is_selectable c after without_bid) sent)
