-- What one transmission of a visit leaves unchanged: all channels but one, and that neither end
-- asks for the line.
use Rattle.std.proofs.Common.{◌≡◌, ◌≢◌, inl, inr, ℕ, ◌<◌, true, false, List, length, slice_set}
use Rattle.std.proofs.Common.{refl, sym, ◌∙◌, ap, subst, arith, get_or-set_other, get_or-set_same}
use Rattle.std.proofs.lemmas.List.{length-set}
use Rattle.bsc_bid.specs.Receiver.{new_receiver}
use Rattle.bsc_tributary.specs.Tributary.{TributaryValue, spool_at}
use Rattle.bsc_bid.specs.declared.way.Way.{Way}
use Rattle.bsc_bid.specs.declared.way.Way.TheVariants.{FromTerminal, ToTerminal}
use Rattle.bsc_control.specs.Peer.{PeerValue, OutboundValue, no_peer, no_outbound, outbound_at}
use Rattle.bsc_control.specs.Peer.{with_outbound}
use Rattle.bsc_control.specs.Control.{ControlValue, peer_at, peer, current, terminal_of_entry}
use Rattle.bsc_control.specs.Table.{make_call_step, poll_call_step, selection_call_step}
use Rattle.bsc_line_model.specs.Line.{LineValue, terminal_in}
use Rattle.bsc_line_model.proofs.Stations.{same_or_not}

-- The channel of terminal t in one direction is not that of terminal e in another.
abbrev pub IsElsewhere : ℕ → Way → ℕ → Way → Type 0
IsElsewhere t other e way = t ≡ e → other ≡ way → ⊥

-- What the control station keeps for terminal t, if at most the channel (e, way) moves.
pub record PeerStays (e : ℕ) (way : Way) (t : ℕ) (old new : PeerValue) : Type 0 where
  pub terminal : new.terminal ≡ old.terminal
  pub polled : new.polled ≡ old.polled
  pub urgent : old.urgent ≡ false → new.urgent ≡ false
  pub count : length new.outbounds ≡ length old.outbounds
  pub down : (s : ℕ) → IsElsewhere t (ToTerminal s) e way → outbound_at new s ≡ outbound_at old s
  pub up : IsElsewhere t FromTerminal e way → new.spool ≡ old.spool

-- The control station keeps this for each terminal.
pub record ControlStays (e : ℕ) (way : Way) (old new : ControlValue) : Type 0 where
  pub poll_list : new.poll_list ≡ old.poll_list
  pub count : length new.peers ≡ length old.peers
  pub peers : (t : ℕ) → PeerStays e way t (peer_at old t) (peer_at new t)

-- What terminal t keeps, if at most the channel (e, way) moves.
pub record TerminalStays (e : ℕ) (way : Way) (t : ℕ) (old new : TributaryValue) : Type 0 where
  pub ready : new.ready ≡ old.ready
  pub urgent : old.urgent ≡ false → new.urgent ≡ false
  pub down : (s : ℕ) → IsElsewhere t (ToTerminal s) e way → (spool_at new.spools s).records
      ≡ (spool_at old.spools s).records
  pub queue : IsElsewhere t FromTerminal e way → new.queue ≡ old.queue
  pub phase : IsElsewhere t FromTerminal e way → new.sender.phase ≡ old.sender.phase

-- Each terminal keeps this.
pub record TerminalsStay (e : ℕ) (way : Way) (old new : List TributaryValue) : Type 0 where
  pub count : length new ≡ length old
  pub terminals : (t : ℕ) → t < length old
      → TerminalStays e way t (terminal_in old t) (terminal_in new t)

-- The line keeps this: at most the channel (e, way) moves.
pub record Stays (e : ℕ) (way : Way) (old new : LineValue) : Type 0 where
  pub control : ControlStays e way old.control new.control
  pub terminals : TerminalsStay e way old.terminals new.terminals

-- A step that moves nothing keeps all of it.
pub peer_same : (e : ℕ) (way : Way) (t : ℕ) (p : PeerValue) → PeerStays e way t p p
peer_same e way t p =
    record {
      terminal = refl;
      polled = refl;
      urgent = λ k. k;
      count = refl;
      down = λ s k. refl;
      up = λ k. refl;
    }

pub control_same : (e : ℕ) (way : Way) (c d : ControlValue) → d ≡ c → ControlStays e way c d
control_same e way c d same =
    subst (λ (k : ControlValue). ControlStays e way c k) (sym same)
    (record { poll_list = refl; count = refl; peers = λ t. peer_same e way t (peer_at c t) })

pub terminal_same : (e : ℕ) (way : Way) (t : ℕ) (x u : TributaryValue) → u ≡ x
    → TerminalStays e way t x u
terminal_same e way t x u same =
    subst (λ (y : TributaryValue). TerminalStays e way t x y) (sym same)
    (record {
      ready = refl;
      urgent = λ k. k;
      down = λ s k. refl;
      queue = λ k. refl;
      phase =
          λ k. refl;
    })

pub terminals_same : (e : ℕ) (way : Way) (ts us : List TributaryValue) → us ≡ ts
    → TerminalsStay e way ts us
terminals_same e way ts us same =
    subst (λ (ys : List TributaryValue). TerminalsStay e way ts ys) (sym same)
    (record {
      count = refl;
      terminals =
          λ t less. terminal_same e way t (terminal_in ts t) (terminal_in ts t) refl;
    })

-- one step after the other
peer_then : (e : ℕ) (way : Way) (t : ℕ) (p q r : PeerValue) → PeerStays e way t p q
    → PeerStays e way t q r → PeerStays e way t p r
peer_then e way t p q r a b =
    record {
      terminal = b.terminal ∙ a.terminal;
      polled = b.polled ∙ a.polled;
      urgent = λ k. b.urgent (a.urgent k);
      count = b.count ∙ a.count;
      down = λ s k. b.down s k ∙ a.down s k;
      up = λ k. b.up k ∙ a.up k;
    }

pub control_then : (e : ℕ) (way : Way) (a b c : ControlValue) → ControlStays e way a b
    → ControlStays e way b c → ControlStays e way a c
control_then e way a b c x y =
    record {
      poll_list = y.poll_list ∙ x.poll_list;
      count = y.count ∙ x.count;
      peers =
          λ t. peer_then e way t (peer_at a t) (peer_at b t) (peer_at c t) (x.peers t) (y.peers t);
    }

pub terminals_then : (e : ℕ) (way : Way) (a b c : List TributaryValue) → TerminalsStay e way a b
    → TerminalsStay e way b c → TerminalsStay e way a c
terminals_then e way a b c x y =
    record {
      count = y.count ∙ x.count;
      terminals = λ t less.
          let there : t < length b = omega (arith, x.count) in
          let f : TerminalStays e way t (terminal_in a t) (terminal_in b t) = x.terminals t less in
          let g : TerminalStays e way t (terminal_in b t) (terminal_in c t) = y.terminals t there in
          record {
            ready = g.ready ∙ f.ready;
            urgent = λ k. g.urgent (f.urgent k);
            down = λ s k. g.down s k ∙ f.down s k;
            queue = λ k. g.queue k ∙ f.queue k;
            phase = λ k. g.phase k ∙ f.phase k;
          };
    }

pub stays_then : (e : ℕ) (way : Way) (a b c : LineValue) → Stays e way a b → Stays e way b c
    → Stays e way a c
stays_then e way a b c x y =
    record {
      control = control_then e way a.control b.control c.control x.control y.control;
      terminals =
          terminals_then e way a.terminals b.terminals c.terminals x.terminals y.terminals;
    }

-- one peer is replaced
pub peer_written : (e : ℕ) (way : Way) (c d : ControlValue) (t : ℕ) (p : PeerValue) → t
    < length c.peers → PeerStays e way t (peer_at c t) p → d.peers ≡ slice_set c.peers t p
    → d.poll_list ≡ c.poll_list → ControlStays e way c d
peer_written e way c d t p there k same list =
    record {
      poll_list = list;
      count = ap (λ (ps : List PeerValue). length ps) same ∙ length-set c.peers t p;
      peers = λ u.
          elim (same_or_not u t) [
            | inl this ↦
                (let now : peer_at d t ≡ p =
                ap (λ (ps : List PeerValue). peer_at (record c { peers = ps }) t) same
                ∙ get_or-set_same c.peers t p no_peer there in
                subst (λ (n : ℕ). PeerStays e way n (peer_at c n) (peer_at d n)) (sym this)
                (subst (λ (q : PeerValue). PeerStays e way t (peer_at c t) q) (sym now) k))
            | inr other ↦
                (let now : peer_at d u ≡ peer_at c u =
                ap (λ (ps : List PeerValue). peer_at (record c { peers = ps }) u) same
                ∙ get_or-set_other c.peers t u p no_peer other in
                subst (λ (q : PeerValue). PeerStays e way u (peer_at c u) q) (sym now)
                (peer_same e way u (peer_at c u)))
          ];
    }

-- a call moves no channel
pub call_stays : (e : ℕ) (way : Way) (c : ControlValue) (place : ℕ) (to : Way)
    → terminal_of_entry c place < length c.peers
    → ControlStays e way c (make_call_step c (record { place = place; way = to })).control
call_stays e way c place FromTerminal there =
    let t : ℕ = terminal_of_entry c place in
    let p : PeerValue = peer_at c t in
    let q : PeerValue = record p { receiver = new_receiver true } in
    peer_written e way c (poll_call_step c place 0).control t q there
    (record {
      terminal = refl;
      polled = refl;
      urgent = λ k. k;
      count = refl;
      down = λ s k. refl;
      up =
          λ k. refl;
    }) refl refl
call_stays e way c place (ToTerminal s) there =
    let t : ℕ = terminal_of_entry c place in
    let p : PeerValue = peer_at c t in
    let q : PeerValue = record p { urgent = false } in
    peer_written e way c (selection_call_step c place s).control t q there
    (record {
      terminal = refl;
      polled = refl;
      urgent = λ k. refl;
      count = refl;
      down = λ k m. refl;
      up =
          λ k. refl;
    }) refl refl

-- a step of the sender to selection address s moves its own channel only
pub sender_stays : (c : ControlValue) (s : ℕ) (o : OutboundValue) (d : ControlValue) → current c
    < length c.peers → d.peers ≡ slice_set c.peers (current c) (with_outbound (peer c) s o)
    → d.poll_list ≡ c.poll_list → ControlStays (current c) (ToTerminal s) c d
sender_stays c s o d there same list =
    let p : PeerValue = peer c in
    peer_written (current c) (ToTerminal s) c d (current c) (with_outbound p s o) there
    (record {
      terminal = refl;
      polled = refl;
      urgent = λ k. k;
      count = length-set p.outbounds s o;
      down = λ k other.
          let differ : k ≢ s =
          λ same_number. other refl (ap (λ (n : ℕ). ToTerminal n) same_number) in
          get_or-set_other p.outbounds s k o no_outbound differ;
      up = λ k. refl;
    })
    same list
