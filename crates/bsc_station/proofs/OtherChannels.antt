-- A record that is offered on one channel is offered on no other.
use Rattle.std.proofs.Common.{◌≡◌, ◌<◌, ℕ, zero, suc, Bool, true, false, List, [], ◌∷◌, ◌++◌, length}
use Rattle.std.proofs.Common.{ap, refl, sym, ◌∙◌}
use Rattle.std.proofs.lemmas.Bool.{eqb-true, eqb-false}
use Rattle.std.proofs.lemmas.List.{get_or-set_same, get_or-set_other}
use Rattle.std.specs.Prelude.{nat_eq}
use Rattle.bsc_control.specs.Control.{ControlValue, peer_at, with_peer}
use Rattle.bsc_control.specs.Peer.{PeerValue, OutboundValue, no_outbound, no_peer, offered_to}
use Rattle.bsc_control.specs.Peer.{outbound_at}
use Rattle.bsc_bid.specs.declared.way.Way.{Way}
use Rattle.bsc_bid.specs.declared.way.Way.TheVariants.{FromTerminal, ToTerminal}
use Rattle.bsc_station.specs.Feeding.{offered_control}

module _ (c : ControlValue) (t s : ℕ) (codes : List ℕ) where
  -- the control station after a record was offered
  abbrev offering : ControlValue
  offering = with_peer c t (offered_to (peer_at c t) s codes)

  -- on its channel the record is the last
  pub offered_there : t < length c.peers → s < length (peer_at c t).outbounds
      → offered_control offering t (ToTerminal s)
      ≡ offered_control c t (ToTerminal s) ++ codes ∷ []
  offered_there less there =
      ap (λ (p : PeerValue). (outbound_at p s).queue.offered)
      (get_or-set_same c.peers t (offered_to (peer_at c t) s codes) no_peer less)
      ∙ ap (λ (o : OutboundValue). o.queue.offered)
      (get_or-set_same (peer_at c t).outbounds s _ no_outbound there)

  -- at another address of the same terminal nothing was
  offered_at_other : (z : ℕ) → t < length c.peers → (z ≡ s → ⊥)
      → offered_control offering t (ToTerminal z) ≡ offered_control c t (ToTerminal z)
  offered_at_other z less apart =
      ap (λ (p : PeerValue). (outbound_at p z).queue.offered)
      (get_or-set_same c.peers t (offered_to (peer_at c t) s codes) no_peer less)
      ∙ ap (λ (o : OutboundValue). o.queue.offered)
      (get_or-set_other (peer_at c t).outbounds s z _ no_outbound apart)

  -- on no other channel anything was
  pub offered_elsewhere : t < length c.peers → (u : ℕ) (other : Way)
      → (u ≡ t → other ≡ ToTerminal s → ⊥)
      → offered_control offering u other ≡ offered_control c u other
  offered_elsewhere less u FromTerminal apart = refl
  offered_elsewhere less u (ToTerminal z) apart = by (nat_eq u t) refl
    where
      by : (b : Bool) → nat_eq u t ≡ b
          → offered_control offering u (ToTerminal z) ≡ offered_control c u (ToTerminal z)
      by true e =
          let same : u ≡ t = eqb-true u t e in
          ap (λ (v : ℕ). offered_control offering v (ToTerminal z)) same
          ∙ offered_at_other z less (λ (is : z ≡ s). apart same (ap ToTerminal is))
          ∙ ap (λ (v : ℕ). offered_control c v (ToTerminal z)) (sym same)
      by false e =
          ap (λ (p : PeerValue). (outbound_at p z).queue.offered)
          (get_or-set_other c.peers t u (offered_to (peer_at c t) s codes) no_peer
          (eqb-false u t e))
