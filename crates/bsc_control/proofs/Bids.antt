-- What a step of a sender keeps.
use Rattle.std.proofs.Common.{◌≡◌, ◌≢◌, ◌⊎◌, inl, inr, ℕ, zero, suc, ◌+◌, ◌<◌, true, false, List}
use Rattle.std.proofs.Common.{length, drop, Option, None, Some, refl, sym, ◌∙◌, ap, subst, arith}
use Rattle.std.proofs.lemmas.List.{length-set, get_or-set_same, get_or-set_other, drop-set-lt}
use Rattle.std.specs.List.{position}
use Rattle.bsc_frame.specs.declared.message.Message.TheVariants as m
use Rattle.bsc_bid.specs.Act.{Act}
use Rattle.bsc_bid.specs.Act as a
use Rattle.bsc_bid.specs.declared.phase.Phase.{Phase}
use Rattle.bsc_bid.specs.Ready.{IsGoing, IsAtRest}
use Rattle.bsc_bid.specs.Sender.{SenderStep}
use Rattle.bsc_control.specs.declared.task.Task.{Task}
use Rattle.bsc_control.specs.declared.task.Task.TheVariants.{Sending}
use Rattle.bsc_control.specs.CallOrder.{Call, After, Selection, Interruption, way_at, due_call}
use Rattle.bsc_control.specs.CallOrder.{way_from, first_call, is_polled, passed_over, place_further}
use Rattle.bsc_control.specs.CallOrder.{call_past, next_call}
use Rattle.bsc_control.specs.Control.{ControlValue, HasEntries, peer_at, peer, current}
use Rattle.bsc_control.specs.Control.{terminal_of_entry}
use Rattle.bsc_control.specs.Kept.{outbound_of, phase_of, HasSettings, Keeps, IsCalled}
use Rattle.bsc_control.specs.Peer.{OutboundValue, PeerValue, no_outbound, no_peer, outbound_at}
use Rattle.bsc_control.specs.Peer.{with_outbound, outbound_after, is_selectable}
use Rattle.bsc_control.specs.Table.{act_step, bid_step, next_call_step}
use Rattle.bsc_control.proofs.Calls.{IsWithoutBid, KeepsSpools, HasShape, shape_of_entries, places}
use Rattle.bsc_control.proofs.Calls.{places_of_same_list, current_within_peers}
use Rattle.bsc_control.proofs.Calls.{keeps_spools_next_call_step, next_is_called}
use Rattle.bsc_control.proofs.Passing.{passed_alike, polled_further, unpolled_here}
use Rattle.bsc_control.proofs.PeerLists.{value_kept_by_set, map_kept_by_set, holds_after_set}
use Rattle.bsc_control.proofs.Replacing.{replaced, unchanged_by_replacement}
use Rattle.bsc_control.proofs.Replacing.{outbounds_kept_by_replacement}
use Rattle.bsc_control.proofs.Replacing.{settings_replaced}
use Rattle.bsc_control.proofs.SenderSteps.{LeavesPhase, KeepsAndLeaves}

-- the station once the sender to a selection address of the present terminal and its queue are
-- replaced
abbrev pub stepped : ControlValue → ℕ → OutboundValue → ControlValue
stepped c s o = replaced c (current c) s o

-- the settings and the offered records stay
pub record OutboundKeeps (old new : OutboundValue) : Type 0 where
  pub setup : new.sender.setup ≡ old.sender.setup
  pub format : new.queue.format ≡ old.queue.format
  pub offered : new.queue.offered ≡ old.queue.offered

pub spools_kept_by_step : (c : ControlValue) (s : ℕ) (o : OutboundValue) (t : ℕ)
    → (peer_at (stepped c s o) t).spool ≡ (peer_at c t).spool
spools_kept_by_step c s o t =
    value_kept_by_set (λ (p : PeerValue). p.spool) c.peers (current c) t (with_outbound (peer c) s o) no_peer
    refl

polled_by_step : (c : ControlValue) (s : ℕ) (o : OutboundValue) (t : ℕ)
    → (peer_at (stepped c s o) t).polled ≡ (peer_at c t).polled
polled_by_step c s o t =
    value_kept_by_set (λ (p : PeerValue). p.polled) c.peers (current c) t (with_outbound (peer c) s o) no_peer
    refl

pub keeps_stepped : (c : ControlValue) (s : ℕ) (o : OutboundValue)
    → OutboundKeeps (outbound_of c (current c) s) o → Keeps c (stepped c s o)
keeps_stepped c s o k =
    record {
      setup = refl;
      poll_list = refl;
      terminals =
          map_kept_by_set (λ (p : PeerValue). p.terminal) c.peers (current c) (with_outbound (peer c) s o)
          no_peer refl;
      peers = length-set c.peers (current c) (with_outbound (peer c) s o);
      polled = polled_by_step c s o;
      outbounds = outbounds_kept_by_replacement c (current c) s o;
      offered = unchanged_by_replacement (λ (x : OutboundValue). x.queue.offered) c (current c) s o k.offered;
    }

settings_stepped : (c : ControlValue) (s : ℕ) (o : OutboundValue)
    → OutboundKeeps (outbound_of c (current c) s) o
    → ((t k : ℕ) → k < length (peer_at c t).outbounds → HasSettings c (outbound_of c t k))
    → (t k : ℕ) → k < length (peer_at (stepped c s o) t).outbounds
    → HasSettings (stepped c s o) (outbound_of (stepped c s o) t k)
settings_stepped c s o keeps h = settings_replaced c (current c) s o keeps.setup keeps.format h

-- the sending side that was replaced is the new one
outbound_stepped : (c : ControlValue) (s : ℕ) (o : OutboundValue) → current c < length c.peers → s
    < length (peer c).outbounds → outbound_of (stepped c s o) (current c) s ≡ o
outbound_stepped c s o within there =
    ap (λ (p : PeerValue). outbound_at p s)
    (get_or-set_same c.peers (current c) (with_outbound (peer c) s o) no_peer within)
    ∙ get_or-set_same (peer c).outbounds s o no_outbound there

-- a fact about all phases but the replaced one holds of all phases if it holds of the new one
phases_stepped : (P : ℕ → ℕ → Phase → Type 0) (c : ControlValue) (s : ℕ) (o : OutboundValue)
    → current c < length c.peers → s < length (peer c).outbounds
    → P (current c) s o.sender.phase
    → ((t k : ℕ) → ((t ≡ current c) × (k ≡ s) → ⊥) → P t k (phase_of c t k))
    → (t k : ℕ) → P t k (phase_of (stepped c s o) t k)
phases_stepped P c s o within there new others t k =
    holds_after_set (λ (j : ℕ) (p : PeerValue). (i : ℕ) → P j i (outbound_at p i).sender.phase) c.peers
    (current c) (with_outbound (peer c) s o) no_peer
    (holds_after_set (λ (i : ℕ) (x : OutboundValue). P (current c) i x.sender.phase) (peer c).outbounds s o
    no_outbound new (λ le. absurd (omega (arith, le, there)))
    (λ i ne. others (current c) i (λ e. ne e.1)))
    (λ le. absurd (omega (arith, le, within)))
    (λ j ne i. others j i (λ e. ne e.0))
    t k

-- all senders but the one to a selection address of the present terminal are at rest
pub record OthersRest (c : ControlValue) (s : ℕ) : Type 0 where
  pub entries : HasEntries c
  pub there : s < length (peer c).outbounds
  pub rests : (t k : ℕ) → ((t ≡ current c) × (k ≡ s) → ⊥) → IsAtRest (phase_of c t k)
  pub settings : (t k : ℕ) → k < length (peer_at c t).outbounds → HasSettings c (outbound_of c t k)

-- the sender ended its bid
pub without_bid_stepped : (c : ControlValue) (s : ℕ) (o : OutboundValue) → OthersRest c s
    → OutboundKeeps (outbound_of c (current c) s) o → IsAtRest o.sender.phase
    → IsWithoutBid (stepped c s o)
without_bid_stepped c s o h keeps rests =
    record {
      rests =
          phases_stepped (λ (t k : ℕ) (phase : Phase). IsAtRest phase) c s o
          (current_within_peers c (places c h.entries)) h.there rests h.rests;
      settings = settings_stepped c s o keeps h.settings;
    }

-- the sender continues its bid
pub keeps_spools_goes_on : (c : ControlValue) (s : ℕ) (o : OutboundValue) → OthersRest c s
    → OutboundKeeps (outbound_of c (current c) s) o → IsGoing o.sender.phase
    → KeepsSpools c (record (stepped c s o) { task = Sending s })
keeps_spools_goes_on c s o h keeps goes =
    let within = current_within_peers c (places c h.entries) in
    let kept : Keeps c (stepped c s o) = keeps_stepped c s o keeps in
    record {
      keeps =
          record {
            setup = kept.setup;
            poll_list = kept.poll_list;
            terminals = kept.terminals;
            peers = kept.peers;
            polled = kept.polled;
            outbounds = kept.outbounds;
            offered = kept.offered;
          };
      orderly =
          record {
            suits =
                record {
                  there =
                      subst (λ (n : ℕ). s < n) (sym (outbounds_kept_by_replacement c (current c) s o (current c)))
                      h.there;
                  going =
                      subst (λ (x : OutboundValue). IsGoing x.sender.phase)
                      (sym (outbound_stepped c s o within h.there)) goes;
                };
            rests =
                λ t k unused.
                phases_stepped (λ (j i : ℕ) (phase : Phase). ((j ≡ current c) × (i ≡ s) → ⊥)
                → IsAtRest phase) c s o within h.there
                (λ used. absurd (used (refl, refl)))
                (λ j i other used. h.rests j i used)
                t k (λ e. unused (e.0, ap Sending (sym e.1)));
            settings =
                λ t k there.
                let was : HasSettings (stepped c s o) (outbound_of (stepped c s o) t k) =
                settings_stepped c s o keeps h.settings t k there in
                record { setup = was.setup; format = was.format };
          };
      spools = spools_kept_by_step c s o;
    }

pub keeps_spools_after : (a b c : ControlValue) → Keeps a b
    → ((t : ℕ) → (peer_at b t).spool ≡ (peer_at a t).spool) → KeepsSpools b c → KeepsSpools a c
keeps_spools_after a b c k spools f =
    let l : Keeps b c = f.keeps in
    record {
      keeps =
          record {
            setup = l.setup ∙ k.setup;
            poll_list = l.poll_list ∙ k.poll_list;
            terminals = l.terminals ∙ k.terminals;
            peers = l.peers ∙ k.peers;
            polled = λ t. l.polled t ∙ k.polled t;
            outbounds = λ t. l.outbounds t ∙ k.outbounds t;
            offered = λ t s. l.offered t s ∙ k.offered t s;
          };
      orderly = f.orderly;
      spools = λ t. f.spools t ∙ spools t;
    }

-- the sender acts, and once the bid is over the next call is made
keeps_spools_perform_step : (c : ControlValue) (s : ℕ) (o : OutboundValue) (act : Act)
    (after : After) → OthersRest c s → OutboundKeeps (outbound_of c (current c) s) o
    → LeavesPhase act o.sender.phase
    → (act ≡ a.Quiet → c.task ≡ Sending s)
    → KeepsSpools c (act_step (stepped c s o) s act after).control
keeps_spools_perform_step c s o (a.Send text) after h keeps phase quiet =
    keeps_spools_goes_on c s o h keeps phase
keeps_spools_perform_step c s o a.Enq after h keeps phase quiet =
    keeps_spools_goes_on c s o h keeps phase
keeps_spools_perform_step c s o a.Over after h keeps phase quiet =
    keeps_spools_after c (stepped c s o) (act_step (stepped c s o) s a.Over after).control
    (keeps_stepped c s o keeps) (spools_kept_by_step c s o)
    (keeps_spools_next_call_step (stepped c s o) after (without_bid_stepped c s o h keeps phase))
keeps_spools_perform_step c s o a.Quiet after h keeps phase quiet =
    subst (λ (task : Task). KeepsSpools c (record (stepped c s o) { task = task }))
    (sym (quiet refl)) (keeps_spools_goes_on c s o h keeps phase)

pub outbound_keeps : (o : OutboundValue) (step : SenderStep) → KeepsAndLeaves o.sender o.queue step
    → OutboundKeeps o (outbound_after step)
outbound_keeps o step k = record { setup = k.setup; format = k.format; offered = k.offered }

pub keeps_spools_bid_step : (c : ControlValue) (s : ℕ) (step : SenderStep) (after : After)
    → OthersRest c s
    → KeepsAndLeaves (outbound_of c (current c) s).sender (outbound_of c (current c) s).queue step
    → (step.act ≡ a.Quiet → c.task ≡ Sending s) → KeepsSpools c (bid_step c s step after).control
keeps_spools_bid_step c s step after h keeps quiet =
    keeps_spools_perform_step c s (outbound_after step) step.act after h
    (outbound_keeps (outbound_of c (current c) s) step keeps) keeps.phase quiet

shape_stepped : (c : ControlValue) (s : ℕ) (o : OutboundValue) → HasShape c
    → HasShape (stepped c s o)
shape_stepped c s o h =
    let lengths : length (stepped c s o).peers ≡ length c.peers =
    length-set c.peers (current c) (with_outbound (peer c) s o) in
    record {
      places = places_of_same_list c (stepped c s o) refl refl lengths h.places;
      lengths =
          λ t within.
          outbounds_kept_by_replacement c (current c) s o t ∙ h.lengths t (subst (λ (n : ℕ). t < n) lengths within)
          ∙ sym (value_kept_by_set (λ (p : PeerValue). length p.terminal.selects) c.peers (current c) t
          (with_outbound (peer c) s o) no_peer refl);
    }

-- a bid to selection address s changes nothing that the call that is due depends on
due_call_kept_by_step : (c : ControlValue) (s : ℕ) (o : OutboundValue) (after : After)
    → (after ≡ Selection s) ⊎ (after ≡ Interruption)
    → due_call (stepped c s o) after ≡ due_call c after
due_call_kept_by_step c s o after (inl e) =
    let above : drop (s + 1) (peer (stepped c s o)).outbounds ≡ drop (s + 1) (peer c).outbounds =
    value_kept_by_set (λ (p : PeerValue). drop (s + 1) p.outbounds) c.peers (current c) (current c)
    (with_outbound (peer c) s o) no_peer
    (drop-set-lt (s + 1) (peer c).outbounds s o (omega arith)) in
    let same : due_call (stepped c s o) (Selection s) ≡ due_call c (Selection s) =
    ap (λ (os : List OutboundValue). record {
      place = c.place;
      way =
          way_at (s + 1) (position is_selectable os);
    }) above in
    subst (λ (x : After). due_call (stepped c s o) x ≡ due_call c x) (sym e) same
due_call_kept_by_step c s o after (inr e) =
    subst (λ (x : After). due_call (stepped c s o) x ≡ due_call c x) (sym e) refl

-- the call that is due after a bid is one of the present entry
due_at_place : (c : ControlValue) (s : ℕ) (after : After)
    → (after ≡ Selection s) ⊎ (after ≡ Interruption) → (due_call c after).place ≡ c.place
due_at_place c s after (inl e) = ap (λ (x : After). (due_call c x).place) e
due_at_place c s after (inr e) = ap (λ (x : After). (due_call c x).place) e

-- nor does it change the first call of an entry of another terminal
first_call_kept_by_step : (c : ControlValue) (s : ℕ) (o : OutboundValue) (place : ℕ)
    → terminal_of_entry c place ≢ current c
    → first_call (stepped c s o) place ≡ first_call c place
first_call_kept_by_step c s o place other =
    ap (λ (p : PeerValue). record { place = place; way = way_from p 0 })
    (get_or-set_other c.peers (current c) (terminal_of_entry c place) (with_outbound (peer c) s o)
    no_peer other)

-- nor the call that is made past the entries that are passed over, of which the present one is one
call_past_kept_by_step : (c : ControlValue) (s : ℕ) (o : OutboundValue) (call : Call)
    (passed : Option ℕ) → c.place < length c.poll_list → call.place ≡ c.place
    → passed_over c c.place ≡ passed
    → call_past (stepped c s o) call passed ≡ call_past c call passed
call_past_kept_by_step c s o call None within here is = refl
call_past_kept_by_step c s o call (Some zero) within here is = refl
call_past_kept_by_step c s o call (Some (suc more)) within here is =
    let place : ℕ = place_further (length c.poll_list) call.place (suc more) in
    let there : is_polled c (terminal_of_entry c place) ≡ true =
    subst (λ (k : ℕ). is_polled c (terminal_of_entry c
    (place_further (length c.poll_list) k (suc more))) ≡ true) (sym here)
    (polled_further c c.place (suc more) within is) in
    let off : is_polled c (current c) ≡ false = unpolled_here c c.place more within is in
    first_call_kept_by_step c s o place
    (λ same.
    let both : true ≡ false = sym there ∙ ap (is_polled c) same ∙ off in
    cc)

-- so the next call is the same
next_call_kept_by_step : (c : ControlValue) (s : ℕ) (o : OutboundValue) (after : After)
    → c.place < length c.poll_list
    → (after ≡ Selection s) ⊎ (after ≡ Interruption) → next_call (stepped c s o) after
    ≡ next_call c after
next_call_kept_by_step c s o after within which =
    let due : due_call (stepped c s o) after ≡ due_call c after =
    due_call_kept_by_step c s o after which in
    let here : (due_call c after).place ≡ c.place = due_at_place c s after which in
    let passed : passed_over (stepped c s o) (due_call c after).place
    ≡ passed_over c (due_call c after).place =
    passed_alike c (stepped c s o) refl (polled_by_step c s o) (due_call c after).place in
    ap (λ (call : Call). call_past (stepped c s o) call (passed_over (stepped c s o) call.place)) due
    ∙ ap (call_past (stepped c s o) (due_call c after)) passed
    ∙ call_past_kept_by_step c s o (due_call c after)
    (passed_over c (due_call c after).place) within here
    (ap (passed_over c) (sym here))

-- a call after a bid is the next one
calls_perform_step : (c : ControlValue) (s : ℕ) (o : OutboundValue) (act : Act) (after : After)
    (address : List ℕ) → OthersRest c s → OutboundKeeps (outbound_of c (current c) s) o
    → LeavesPhase act o.sender.phase
    → (after ≡ Selection s) ⊎ (after ≡ Interruption)
    → (act_step (stepped c s o) s act after).sent ≡ Some (m.Call address)
    → IsCalled (act_step (stepped c s o) s act after).control (next_call c after) address
calls_perform_step c s o (a.Send text) after address h keeps phase which sent = absurd (cc)
calls_perform_step c s o a.Enq after address h keeps phase which sent = absurd (cc)
calls_perform_step c s o a.Over after address h keeps phase which sent =
    subst (λ (call : Call). IsCalled (next_call_step (stepped c s o) after).control call address)
    (next_call_kept_by_step c s o after h.entries.place which)
    (next_is_called (stepped c s o) after address (shape_stepped c s o (shape_of_entries c h.entries))
    (without_bid_stepped c s o h keeps phase) sent)
calls_perform_step c s o a.Quiet after address h keeps phase which sent = absurd (cc)

pub calls_bid_step : (c : ControlValue) (s : ℕ) (step : SenderStep) (after : After)
    (address : List ℕ) → OthersRest c s
    → KeepsAndLeaves (outbound_of c (current c) s).sender (outbound_of c (current c) s).queue step
    → (after ≡ Selection s) ⊎ (after ≡ Interruption)
    → (bid_step c s step after).sent ≡ Some (m.Call address)
    → IsCalled (bid_step c s step after).control (next_call c after) address
calls_bid_step c s step after address h keeps which sent =
    calls_perform_step c s (outbound_after step) step.act after address h
    (outbound_keeps (outbound_of c (current c) s) step keeps) keeps.phase which sent
