-- An offer changes nothing of a station that is kept beside the offered records.
use Rattle.std.proofs.Common.{◌≡◌, ◌≤◌, ℕ, nat_lt, zero, suc, List, [], ◌∷◌, length, get_or}
use Rattle.std.proofs.Common.{slice_set, Option, None, Some, refl, sym, ◌∙◌, ap, subst}
use Rattle.std.specs.Prelude.{◌&&◌, if◌then◌else◌}
use Rattle.std.proofs.lemmas.List.{length-set}
use Rattle.std.specs.List.{AllByRecursion}
use Rattle.bsc_bid.specs.declared.kept.KeptSender.{KeptSender}
use Rattle.bsc_control.specs.Control.{ControlValue, peer_at}
use Rattle.bsc_control.specs.Peer.{PeerValue, no_outbound, no_peer, offered}
use Rattle.bsc_control.specs.Peer.{offered_to, outbound_at}
use Rattle.bsc_control.specs.Stored.{kept_of_side}
use Rattle.bsc_spool.specs.declared.ends.Sending.{Sending}
use Rattle.bsc_spool.specs.declared.ends.Receiving.{Receiving}
use Rattle.bsc_spool.specs.declared.store.Store as store_of
use Rattle.bsc_station.specs.declared.party.Party as party_of
use Rattle.bsc_keeping.specs.AllKept.{HasAll, HasArrived}
use Rattle.bsc_keeping.specs.Changes.{known_now, records_of, sending_now}
use Rattle.bsc_station.specs.Feeding.{kept_at_control}
use Rattle.bsc_station.specs.Feeding.{control_with}
use Rattle.bsc_keeping.specs.declared.keeper.Keeper.{Keeper}

-- An element is replaced by one that f cannot tell from it: f of each place is as it was.
pub same_at : {X Y : Type 0} (f : X → Y) (xs : List X) (i n : ℕ) (x d : X)
    → f x ≡ f (get_or xs i d) → f (get_or (slice_set xs i x) n d) ≡ f (get_or xs n d)
same_at f [] i n x d e = refl
same_at f (y ∷ ys) zero zero x d e = e
same_at f (y ∷ ys) zero (suc n) x d e = refl
same_at f (y ∷ ys) (suc i) zero x d e = refl
same_at f (y ∷ ys) (suc i) (suc n) x d e = same_at f ys i n x d e

-- What is kept of each channel to a terminal is as it was.
same_side : (p : PeerValue) (select s : ℕ) (chars : List ℕ)
    → kept_of_side (outbound_at (offered_to p select chars) s) ≡ kept_of_side (outbound_at p s)
same_side p select s chars =
    same_at kept_of_side p.outbounds select s (offered (outbound_at p select) chars) no_outbound
    refl

pub same_where : (t s a b l m : ℕ) (k j : KeptSender) → a ≡ b → l ≡ m → k ≡ j
    → (if nat_lt t a && nat_lt s l then Some k else None)
    ≡ (if nat_lt t b && nat_lt s m then Some j else None)
same_where t s a b l m k j terminals addresses kept = rw terminals (rw addresses (rw kept refl))

-- So it is at the control station.
pub same_at_control : (c : ControlValue) (terminal select : ℕ) (chars : List ℕ) (t s : ℕ)
    → kept_at_control (control_with c terminal select chars) t s ≡ kept_at_control c t s
same_at_control c terminal select chars t s =
    let p = peer_at c terminal in
    let q = offered_to p select chars in
    let count = length-set c.peers terminal q in
    let addresses =
    same_at (λ (it : PeerValue). length it.outbounds) c.peers terminal t q no_peer
    (length-set p.outbounds select (offered (outbound_at p select) chars)) in
    let kept =
    same_at (λ (it : PeerValue). kept_of_side (outbound_at it s)) c.peers terminal t q no_peer
    (same_side p select s chars) in
    same_where t s _ _ _ _ _ _ count addresses kept

-- What has arrived from each terminal is as it was.
pub same_spool : (c : ControlValue) (terminal select : ℕ) (chars : List ℕ) (n : ℕ)
    → (peer_at (control_with c terminal select chars) n).spool.records
    ≡ (peer_at c n).spool.records
same_spool c terminal select chars n =
    same_at (λ (it : PeerValue). it.spool.records) c.peers terminal n
    (offered_to (peer_at c terminal) select chars) no_peer refl

pub same_received : (n a b : ℕ) (xs ys : List (List ℕ)) → a ≡ b → xs ≡ ys
    → (if nat_lt n a then xs else []) ≡ (if nat_lt n b then ys else [])
same_received n a b xs ys count arrived = rw count (rw arrived refl)

module _ {S M K Z : Type 0} (party : party_of.Ghosts S Z)
    (kept_at : S → ℕ → ℕ → Option KeptSender) (store : store_of.Ghosts K)
    (printed : M → ℕ → Option ℕ) (old new : S)
    (kept : (t s : ℕ) → kept_at new t s ≡ kept_at old t s)
    (arrived : (n : ℕ) → length (records_of party new (λ _. None) n)
    ≡ length (records_of party old (λ _. None) n)) where
  same_sending : (ends : List Sending) → sending_now kept_at new ends ≡ sending_now kept_at old ends
  same_sending [] = refl
  same_sending (end ∷ ends) =
      ap (λ (k : Option KeptSender). known_now end k ∷ sending_now kept_at new ends)
      (kept end.terminal end.select)
      ∙ ap (λ (l : List Sending). known_now end (kept_at old end.terminal end.select) ∷ l)
      (same_sending ends)

  same_arrived : (ends : List Receiving)
      → AllByRecursion (HasArrived party kept_at store printed old) ends
      → AllByRecursion (HasArrived party kept_at store printed new) ends
  same_arrived [] all = tt
  same_arrived (end ∷ ends) (first, rest) = (
    subst (λ (count : ℕ). count ≤ end.arrived) (sym (arrived end.number)) first,
    same_arrived ends rest,
  )

  -- What is kept has all of both stations, if it has all of one.
  pub all_of_same : (before after : Keeper K) → after.sending ≡ before.sending
      → after.receiving ≡ before.receiving → HasAll party kept_at store printed old before
      → HasAll party kept_at store printed new after
  all_of_same before after sending receiving has =
      record {
        sending =
            subst (λ ends. sending_now kept_at new ends ≡ ends)
            (sym (ap (λ v. v.items) sending)) (same_sending before.sending.items ∙ has.sending);
        receiving =
            subst (λ ends. AllByRecursion (HasArrived party kept_at store printed new) ends)
            (sym (ap (λ v. v.items) receiving))
            (same_arrived before.receiving.items has.receiving);
      }
