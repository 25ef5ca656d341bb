-- A station begins again: what is pending, and how its channels rest. The stations fit together
-- once the control station began again.
use Rattle.std.proofs.Common.{◌≡◌, ◌≢◌, ℕ, ◌<◌, Bool, true, false, nat_eq, List, length}
use Rattle.std.proofs.Common.{Option, None, Some, refl, sym, ◌∙◌, ap, subst, arith}
use Rattle.std.proofs.lemmas.Bool.Decides.{nat_tests}
use Rattle.std.proofs.lemmas.List.{length-map, get_or-map}
use Rattle.bsc_frame.specs.declared.message.Message.{Message}
use Rattle.bsc_bid.specs.Agreement.{IsResting}
use Rattle.bsc_tributary.specs.Tributary.{TributaryValue, spool_at, restarted as restarted_tributary}
use Rattle.bsc_control.specs.declared.task.Task.TheVariants.{AtRest}
use Rattle.bsc_control.specs.Peer.{PeerValue, OutboundValue, no_peer, no_outbound, outbound_at}
use Rattle.bsc_control.specs.Peer.{restarted_peer, restarted_outbound}
use Rattle.bsc_control.specs.Control.{ControlValue, peer_at}
use Rattle.bsc_control.specs.Control.{restarted as restarted_control}
use Rattle.bsc_control.specs.Kept.{IsControl}
use Rattle.bsc_line_model.specs.Kept.{IsMember}
use Rattle.bsc_bid.specs.declared.speaker.Speaker.{Speaker}
use Rattle.bsc_bid.specs.declared.speaker.Speaker.TheVariants as sp
use Rattle.bsc_line_model.specs.declared.transmission.Transmission.{Transmission}
use Rattle.bsc_line_model.specs.Transmission.{speaker_of}
use Rattle.bsc_line_model.specs.Line.{terminal_in}
use Rattle.bsc_line_model.specs.Restarts.{is_same_party, pending_without}
use Rattle.bsc_line_model.specs.Kept.{AreStations}
use Rattle.bsc_line_model.specs.BidLaws.{BidLaws}
use Rattle.bsc_line_model.specs.Together.{Rests, HasNoBid}
use Rattle.bsc_line_model.specs.Together.{InTask}
use Rattle.bsc_line_model.proofs.Resting.{rests_in_task}

-- the pending transmission after a restart
same_number : (t : ℕ) → nat_eq t t ≡ true
same_number t = grind (arith, nat_tests)

other_number : (t u : ℕ) → t ≢ u → nat_eq t u ≡ false
other_number t u differ = grind (arith, nat_tests)

pub own_is_lost : (t : ℕ) (w : Message) → pending_without (sp.Terminal t)
    (Some (record { speaker = sp.Terminal t; message = w })) ≡ None
own_is_lost t w = rw (same_number t) refl

pub other_stays : (t u : ℕ) (w : Message) → t ≢ u → pending_without (sp.Terminal t)
    (Some (record { speaker = sp.Terminal u; message = w }))
    ≡ Some (record { speaker = sp.Terminal u; message = w })
other_stays t u w differ = rw (other_number t u differ) refl

not_of_control : (pending : Option Transmission)
    → speaker_of (pending_without sp.Control pending) ≢ Some sp.Control
not_of_control None is = cc
not_of_control (Some sent) is = by_speaker sent.speaker refl
  where
    by_speaker : (s : Speaker) → sent.speaker ≡ s → ⊥
    by_speaker sp.Control e =
        let none : pending_without sp.Control (Some sent) ≡ None = rw e refl in
        let no : None ≡ Some sp.Control =
        sym (ap speaker_of none) ∙ is in cc
    by_speaker (sp.Terminal u) e =
        let stays : pending_without sp.Control (Some sent) ≡ Some sent = rw e refl in
        let no : Some sent.speaker ≡ Some sp.Control = sym (ap speaker_of stays) ∙ is in
        let both : sent.speaker ≡ sp.Control = cc in
        let bad : sp.Terminal u ≡ sp.Control = sym e ∙ both in cc

pub still_not_of_control : (t : ℕ) (pending : Option Transmission)
    → speaker_of pending ≢ Some sp.Control
    → speaker_of (pending_without (sp.Terminal t) pending) ≢ Some sp.Control
still_not_of_control t None silent = silent
still_not_of_control t (Some sent) silent =
    by_party (is_same_party (sp.Terminal t) sent.speaker) refl
  where
    by_party : (same : Bool) → is_same_party (sp.Terminal t) sent.speaker ≡ same
        → speaker_of (pending_without (sp.Terminal t) (Some sent)) ≢ Some sp.Control
    by_party true e = rw e (λ none. cc)
    by_party false e = rw e silent

-- the channels of a terminal that began again
pub rests_restarted : (laws : BidLaws) (p : PeerValue) (x : TributaryValue) → Rests p x
    → Rests p (restarted_tributary x)
rests_restarted laws p x h =
    record { up = laws.restart x.sender x.queue p.spool.records h.up; down = h.down }

pub no_bid_restarted : (laws : BidLaws) (p : PeerValue) (x : TributaryValue) → Rests p x
    → HasNoBid p (restarted_tributary x)
no_bid_restarted laws p x h =
    let rests : Rests p (restarted_tributary x) = rests_restarted laws p x h in
    record { mode = λ sends. cc; up = rests.up; down = rests.down }

-- and those of a control station that began again
pub restarted_outbound_at : (p : PeerValue) (s : ℕ) → s < length p.outbounds
    → outbound_at (restarted_peer p) s ≡ restarted_outbound (outbound_at p s)
restarted_outbound_at p s less = get_or-map restarted_outbound p.outbounds s no_outbound no_outbound less

pub restarted_peer_at : (c : ControlValue) (t : ℕ) → t < length c.peers
    → peer_at (restarted_control c) t ≡ restarted_peer (peer_at c t)
restarted_peer_at c t less = get_or-map restarted_peer c.peers t no_peer no_peer less

rests_with_restarted : (laws : BidLaws) (p : PeerValue) (x : TributaryValue) → Rests p x
    → Rests (restarted_peer p) x
rests_with_restarted laws p x h =
    record {
      up = h.up;
      down = λ s less.
          let before : s < length p.outbounds =
          omega (arith, length-map p.outbounds restarted_outbound) in
          let o : OutboundValue = outbound_at p s in
          subst (λ (z : OutboundValue). IsResting z.sender.phase z.queue
          (spool_at x.spools s).records) (sym (restarted_outbound_at p s before))
          (laws.restart o.sender o.queue (spool_at x.spools s).records (h.down s before));
    }

-- the control station begins again
pub together_after_control_restart : (laws : BidLaws) (c : ControlValue) (ts : List TributaryValue)
    (pending : Option Transmission) → AreStations c ts → InTask c.task pending c ts
    → InTask AtRest (pending_without sp.Control pending) (restarted_control c) ts
together_after_control_restart laws c ts pending stations together =
    record {
      silent = not_of_control pending;
      rests = λ t less.
          let before : t < length c.peers = omega (arith, stations.count, less) in
          subst (λ (p : PeerValue). Rests p (terminal_in ts t)) (sym (restarted_peer_at c t before))
          (rests_with_restarted laws (peer_at c t) (terminal_in ts t)
          (rests_in_task laws c.task pending c ts t less together));
    }

-- the stations of a line whose control station began again
pub stations_again : (c : ControlValue) (ts : List TributaryValue) → AreStations c ts
    → IsControl (restarted_control c) → AreStations (restarted_control c) ts
stations_again c ts stations is =
    record {
      control = is;
      count = length-map c.peers restarted_peer ∙ stations.count;
      members = λ t less.
          let was : IsMember c t (terminal_in ts t) = stations.members t less in
          let before : t < length c.peers = omega (arith, stations.count, less) in
          record {
            tributary = was.tributary;
            addresses =
                was.addresses
                ∙ ap (λ (p : PeerValue). p.terminal) (sym (restarted_peer_at c t before));
            setup = was.setup;
          };
    }
