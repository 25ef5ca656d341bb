-- While no bid is in progress, the next call of the control station begins a selection or a poll,
-- or the station comes to rest.
use Rattle.std.proofs.Common.{◌≡◌, ◌≢◌, inl, inr, ℕ, ◌<◌, true, false, List, length, refl, sym, ap}
use Rattle.std.proofs.Common.{subst, get_or-set_other, get_or-set_same}
use Rattle.bsc_frame.specs.declared.message.Message.TheVariants as m
use Rattle.bsc_bid.specs.Receiver.{new_receiver}
use Rattle.bsc_tributary.specs.Tributary.{TributaryValue}
use Rattle.bsc_bid.specs.declared.way.Way.{Way}
use Rattle.bsc_bid.specs.declared.way.Way.TheVariants.{FromTerminal, ToTerminal}
use Rattle.bsc_control.specs.declared.task.Replied.TheVariants.{Nothing}
use Rattle.bsc_control.specs.Peer.{PeerValue, no_peer}
use Rattle.bsc_control.specs.Control.{ControlValue, ControlStep, peer_at, terminal_of_entry}
use Rattle.bsc_control.specs.Control.{with_peer}
use Rattle.bsc_control.specs.CallOrder.{Call, After, next_call}
use Rattle.bsc_control.specs.Table.{poll_call_step, selection_call_step, make_call_step}
use Rattle.bsc_control.specs.Table.{select_address, next_call_step}
use Rattle.bsc_control.proofs.Calls.{HasPlaces, by_next_call, next_call_within_peers}
use Rattle.bsc_bid.specs.declared.speaker.Speaker.TheVariants as sp
use Rattle.bsc_line_model.specs.Transmission.{sent_by}
use Rattle.bsc_line_model.specs.Line.{terminal_in}
use Rattle.bsc_line_model.specs.Together.{HasNoBid, NoBids, NoOtherBids, IsSelecting, IsPolling}
use Rattle.bsc_line_model.specs.Together.{InTask}
use Rattle.bsc_line_model.proofs.Stations.{same_or_not}

-- the peer that was written, and another one
replaced_peer : (c : ControlValue) (e : ℕ) (p : PeerValue) → e < length c.peers
    → peer_at (with_peer c e p) e ≡ p
replaced_peer c e p there = get_or-set_same c.peers e p no_peer there

other_peer_unchanged : (c : ControlValue) (e t : ℕ) (p : PeerValue) → t ≢ e → peer_at (with_peer c e p) t
    ≡ peer_at c t
other_peer_unchanged c e t p differ = get_or-set_other c.peers e t p no_peer differ

-- one peer is changed so that no bid with its terminal is in progress
no_other_bids : (c : ControlValue) (ts : List TributaryValue) (e : ℕ) (p : PeerValue) → NoBids c ts
    → NoOtherBids (with_peer c e p) ts e
no_other_bids c ts e p no_bids t less differ =
    subst (λ (q : PeerValue). HasNoBid q (terminal_in ts t)) (sym (other_peer_unchanged c e t p differ))
    (no_bids t less)

no_bids_with_peer : (c : ControlValue) (ts : List TributaryValue) (e : ℕ) (p : PeerValue) → e
    < length c.peers → NoBids c ts → (e < length ts → HasNoBid p (terminal_in ts e))
    → NoBids (with_peer c e p) ts
no_bids_with_peer c ts e p there no_bids here t less =
    elim (same_or_not t e) [
      | inl same ↦
          subst (λ (n : ℕ). HasNoBid (peer_at (with_peer c e p) n) (terminal_in ts n)) (sym same)
          (subst (λ (q : PeerValue). HasNoBid q (terminal_in ts e))
          (sym (replaced_peer c e p there))
          (here (subst (λ (n : ℕ). n < length ts) same less)))
      | inr differ ↦ no_other_bids c ts e p no_bids t less differ
    ]

-- the receiver begins anew, and the urgent flag falls; the channels depend on neither
no_bid_with_new_receiver : (p : PeerValue) (x : TributaryValue) → HasNoBid p x
    → HasNoBid (record p { receiver = new_receiver true }) x
no_bid_with_new_receiver p x q = record { mode = q.mode; up = q.up; down = q.down }

no_bid_without_urgent : (p : PeerValue) (x : TributaryValue) → HasNoBid p x
    → HasNoBid (record p { urgent = false }) x
no_bid_without_urgent p x q = record { mode = q.mode; up = q.up; down = q.down }

-- the polling address of an entry is called
pub no_bids_after_poll_call : (c : ControlValue) (ts : List TributaryValue) (place failures : ℕ)
    → terminal_of_entry c place < length c.peers → length c.peers ≡ length ts → NoBids c ts →
    IsPolling (sent_by sp.Control (poll_call_step c place failures).sent)
    (poll_call_step c place failures).control ts Nothing
no_bids_after_poll_call c ts place failures there count no_bids =
    let e : ℕ = terminal_of_entry c place in
    let p : PeerValue = peer_at c e in
    let d : PeerValue = record p { receiver = new_receiver true } in
    let here : e < length ts = subst (λ (n : ℕ). e < n) count there in
    record {
      others = no_other_bids c ts e d no_bids;
      present = inl (
        subst (λ (q : PeerValue). HasNoBid q (terminal_in ts e)) (sym (replaced_peer c e d there))
            (no_bid_with_new_receiver p (terminal_in ts e) (no_bids e here)),
        inl (ap (λ (q : PeerValue). m.Call q.terminal.poll) (sym (replaced_peer c e d there)), refl),
      );
    }

-- a selection address of an entry is called
pub no_bids_after_selection_call : (c : ControlValue) (ts : List TributaryValue) (place s : ℕ)
    → terminal_of_entry c place < length c.peers → length c.peers ≡ length ts → NoBids c ts →
    IsSelecting (sent_by sp.Control (selection_call_step c place s).sent)
    (selection_call_step c place s).control ts s false
no_bids_after_selection_call c ts place s there count no_bids =
    let e : ℕ = terminal_of_entry c place in
    let p : PeerValue = peer_at c e in
    let d : PeerValue = record p { urgent = false } in
    record {
      no_bids = no_bids_with_peer c ts e d there no_bids
          (λ less. no_bid_without_urgent p (terminal_in ts e) (no_bids e less));
      with_pending =
          ap (λ (q : PeerValue). m.Call (select_address q.terminal s))
          (sym (replaced_peer c e d there));
      fresh = tt;
    }

-- any call
pub no_bids_after_call : (c : ControlValue) (ts : List TributaryValue) (place : ℕ) (way : Way)
    → terminal_of_entry c place < length c.peers → length c.peers ≡ length ts → NoBids c ts →
    let call : Call = record { place = place; way = way } in
    InTask (make_call_step c call).control.task (sent_by sp.Control (make_call_step c call).sent)
    (make_call_step c call).control ts
no_bids_after_call c ts place FromTerminal there count no_bids =
    no_bids_after_poll_call c ts place 0 there count no_bids
no_bids_after_call c ts place (ToTerminal s) there count no_bids =
    no_bids_after_selection_call c ts place s there count no_bids

-- the next call, or rest
pub no_bids_after_next_call : (c : ControlValue) (ts : List TributaryValue) (after : After)
    → HasPlaces c → length c.peers ≡ length ts → NoBids c ts →
    InTask (next_call_step c after).control.task
    (sent_by sp.Control (next_call_step c after).sent) (next_call_step c after).control ts
no_bids_after_next_call c ts after places count no_bids =
    by_next_call (λ (step : ControlStep). InTask step.control.task
    (sent_by sp.Control step.sent) step.control ts) c after
    (record {
      silent = λ none. cc;
      rests = λ t less. record { up = (no_bids t less).up; down = (no_bids t less).down };
    })
    (no_bids_after_call c ts (next_call c after).place (next_call c after).way
    (next_call_within_peers c after places) count no_bids)
