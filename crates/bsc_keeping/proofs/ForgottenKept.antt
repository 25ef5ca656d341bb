-- What a station forgets is not kept of it: what it knows of its records, and how many arrived, stay.
use Rattle.std.proofs.Common.{◌≡◌, ◌≤◌, ◌∙◌, ℕ, nat_lt, Bool, true, false, List, [], length, refl}
use Rattle.std.proofs.Common.{ap, sym, subst, Option, None}
use Rattle.std.specs.Prelude.{if◌then◌else◌}
use Rattle.std.proofs.lemmas.List.{length-set}
use Rattle.bsc_bid.specs.declared.kept.KeptSender.{KeptSender}
use Rattle.bsc_block.proofs.Forgotten.{length_forgotten}
use Rattle.bsc_control.specs.Control.{ControlValue, peer_at, with_peer}
use Rattle.bsc_control.specs.Peer.{PeerValue, forgotten_to, no_outbound, no_peer, outbound_at}
use Rattle.bsc_control.specs.Peer.{sent_forgotten}
use Rattle.bsc_control.specs.Stored.{kept_of_side}
use Rattle.bsc_spool.specs.declared.store.Store as store_of
use Rattle.bsc_station.specs.Forgetting.{ForgetsSent, ForgetsSentTo, nothing, further}
use Rattle.bsc_station.specs.declared.party.Party as party_of
use Rattle.bsc_spool.specs.Spool.{ForgetsRecords, SpoolValue}
use Rattle.bsc_keeping.proofs.OffersKept.{all_of_same, same_at, same_where}
use Rattle.bsc_keeping.specs.AllKept.{HasAll}
use Rattle.bsc_keeping.specs.Changes.{records_of}
use Rattle.bsc_station.specs.Feeding.{kept_at_control}
use Rattle.bsc_keeping.specs.declared.keeper.Keeper.{Keeper}

-- Two lists of one length, if there is such a channel.
same_if : (is : Bool) (xs ys : List (List ℕ)) → length xs ≡ length ys
    → length (if is then xs else []) ≡ length (if is then ys else [])
same_if true xs ys e = e
same_if false xs ys e = refl

pub same_count : (n a b : ℕ) (xs ys : List (List ℕ)) → a ≡ b → length xs ≡ length ys
    → length (if nat_lt n a then xs else []) ≡ length (if nat_lt n b then ys else [])
same_count n a b xs ys count e = rw count (same_if (nat_lt n b) xs ys e)

-- As many records are in a spool that forgets.
pub same_length : (old new : SpoolValue) (n : ℕ) → n ≤ length old.records
    → ForgetsRecords old n new → length new.records ≡ length old.records
same_length old new n there forgets =
    ap (λ rs. length rs) forgets.records ∙ length_forgotten n old.records there

-- What is kept of each channel to a terminal is as it was once records for an address are
-- forgotten.
same_side : (p : PeerValue) (select s n : ℕ)
    → kept_of_side (outbound_at (forgotten_to p select n) s) ≡ kept_of_side (outbound_at p s)
same_side p select s n =
    same_at kept_of_side p.outbounds select s (sent_forgotten (outbound_at p select) n) no_outbound
    refl

pub same_at_control : (c : ControlValue) (terminal select n t s : ℕ)
    → kept_at_control (with_peer c terminal (forgotten_to (peer_at c terminal) select n)) t s
    ≡ kept_at_control c t s
same_at_control c terminal select n t s =
    let p = peer_at c terminal in
    let q = forgotten_to p select n in
    let count = length-set c.peers terminal q in
    let addresses =
    same_at (λ (it : PeerValue). length it.outbounds) c.peers terminal t q no_peer
    (length-set p.outbounds select (sent_forgotten (outbound_at p select) n)) in
    let kept =
    same_at (λ (it : PeerValue). kept_of_side (outbound_at it s)) c.peers terminal t q no_peer
    (same_side p select s n) in
    same_where t s _ _ _ _ _ _ count addresses kept

-- What has arrived from each terminal is as it was then.
pub same_spools : (c : ControlValue) (terminal select n number : ℕ)
    → (let d = with_peer c terminal (forgotten_to (peer_at c terminal) select n) in
    (peer_at d number).spool.records ≡ (peer_at c number).spool.records)
same_spools c terminal select n number =
    same_at (λ (it : PeerValue). it.spool.records) c.peers terminal number
    (forgotten_to (peer_at c terminal) select n) no_peer refl

-- What is kept of each channel to a terminal is as it was if another spool is that of one.
pub same_outbounds : (c : ControlValue) (terminal : ℕ) (spool : SpoolValue) (t s : ℕ)
    → kept_at_control (with_peer c terminal (record (peer_at c terminal) { spool = spool })) t s
    ≡ kept_at_control c t s
same_outbounds c terminal spool t s =
    let q : PeerValue = record (peer_at c terminal) { spool = spool } in
    let addresses =
    same_at (λ (it : PeerValue). length it.outbounds) c.peers terminal t q no_peer refl in
    let kept =
    same_at (λ (it : PeerValue). kept_of_side (outbound_at it s)) c.peers terminal t q no_peer
    refl in
    same_where t s _ _ _ _ _ _ (length-set c.peers terminal q) addresses kept

-- What is known of a station, of its store, and of the monitor that prints its records.
module _ {S M K Z : Type 0} (party : party_of.Ghosts S Z)
    (kept_at : S → ℕ → ℕ → Option KeptSender) (store : store_of.Ghosts K)
    (printed : M → ℕ → Option ℕ) (keeper : Keeper K) where
  -- What is kept has all of a station that is another one of which it has all.
  pub all_of : (old new : S) → new ≡ old → HasAll party kept_at store printed old keeper
      → HasAll party kept_at store printed new keeper
  all_of old new is has =
      subst (λ station. HasAll party kept_at store printed station keeper) (sym is) has

  -- So it has of one that is to be kept like that, and at which as many records arrived.
  pub all_of_like : (old like new : S) → new ≡ like
      → ((t s : ℕ) → kept_at like t s ≡ kept_at old t s)
      → ((n : ℕ) → length (records_of party like (λ _. None) n)
      ≡ length (records_of party old (λ _. None) n))
      → HasAll party kept_at store printed old keeper
      → HasAll party kept_at store printed new keeper
  all_of_like old like new is kept arrived has =
      all_of like new is
      (all_of_same party kept_at store printed old like kept arrived keeper keeper refl refl has)

-- So it has of a control station that forgets records for one address after another, if it has
-- after each.
module _ {M K Z : Type 0} (party : party_of.Ghosts ControlValue Z)
    (kept_at : ControlValue → ℕ → ℕ → Option KeptSender) (store : store_of.Ghosts K)
    (printed : M → ℕ → Option ℕ) (keeper : Keeper K)
    (each : (mid new : ControlValue) (t s : ℕ) → HasAll party kept_at store printed mid keeper
    → ForgetsSentTo mid t s new → HasAll party kept_at store printed new keeper) where
  pub all_in_turn : {old new : ControlValue} → ForgetsSent old new
      → HasAll party kept_at store printed old keeper
      → HasAll party kept_at store printed new keeper
  all_in_turn nothing has = has
  all_in_turn (further before one) has = each _ _ _ _ (all_in_turn before has) one
