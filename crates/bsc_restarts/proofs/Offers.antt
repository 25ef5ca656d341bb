-- A station that is offered a record outlives its process.
use Rattle.std.proofs.Common.{◌≡◌, ◌≢◌, ◌∙◌, ◌<◌, ℕ, zero, suc, nat_eq, nat_lt, ◌&&◌, Bool, true}
use Rattle.std.proofs.Common.{false, List, [], ◌∷◌, ◌++◌, map, length, Option, None, Some, cond}
use Rattle.std.proofs.Common.{Result, Ok, ◌⊎◌, inl, inr, refl, sym, ap, subst, arith}
use Rattle.std.proofs.lemmas.Bool.{and_from, and_left, and_parts, and_right, eqb-false}
use Rattle.std.proofs.lemmas.Bool.Decides.{nat_tests}
use Rattle.std.proofs.lemmas.List.{drop-append-le, length-map}
use Rattle.std.specs.List.{AllByRecursion, find}
use Rattle.std.specs.Prelude.{OnOk, if◌then◌else◌}
use Rattle.bsc_spool.specs.Queue.{waiting}
use Rattle.bsc_bid.specs.Terminal.{HasDistinctAddresses, TerminalValue}
use Rattle.bsc_bid.specs.declared.kept.KeptSender.{KeptSender}
use Rattle.bsc_tributary.specs.Kept.{IsTributary}
use Rattle.bsc_bid.specs.Addresses.{AreDistinct}
use Rattle.bsc_control.specs.Control.{ControlValue, peer_at}
use Rattle.bsc_control.specs.Kept.{IsControl, outbound_of}
use Rattle.bsc_control.specs.Peer.{OutboundValue, PeerValue, no_outbound, no_peer, offered}
use Rattle.bsc_control.specs.Peer.{offered_to, outbound_at, with_outbound}
use Rattle.bsc_control.specs.Stored.{kept_of_side}
use Rattle.bsc_control.proofs.PeerLists.{value_kept_by_set}
use Rattle.bsc_control.proofs.Replacing.{replaced}
use Rattle.bsc_spool.specs.Contents.{Contents}
use Rattle.bsc_spool.specs.declared.change.Change.TheVariants.{Offered}
use Rattle.bsc_spool.specs.declared.channel.Channel.{Channel}
use Rattle.bsc_spool.specs.declared.ends.Receiving.{Receiving}
use Rattle.bsc_spool.specs.declared.ends.Sending.{Sending}
use Rattle.bsc_spool.specs.declared.fault.StoreFault.{StoreFault}
use Rattle.bsc_spool.specs.declared.store.Store as store_of
use Rattle.bsc_station.specs.LineTerminal.{LineTerminalValue}
use Rattle.bsc_station.specs.Feeding.{kept_at_control}
use Rattle.bsc_keeping.specs.Offers.{KeepsOffer, OffersIf, channel_of, channel_to, is_end_to}
use Rattle.bsc_station.specs.Feeding.{control_with, terminal_with}
use Rattle.bsc_keeping.specs.Own.{each_of, receiving_of, selection_of, selections_at, sending_of}
use Rattle.bsc_keeping.specs.Own.{sends_from, spools_of, terminal_at}
use Rattle.bsc_keeping.specs.declared.keeper.Keeper.{Keeper}
use Rattle.bsc_bid.specs.declared.speaker.Speaker.TheVariants.{Control}
use Rattle.bsc_restarts.specs.AfterCrash.{arrived_at_control, arrived_at_terminal, kept_at_terminal}
use Rattle.bsc_restarts.specs.AfterCrash.{waiting_at_control, waiting_at_terminal}
use Rattle.bsc_restarts.specs.Between.{IsControlOf, LeavesOffer, OutlivesOffers}
use Rattle.bsc_restarts.specs.Crashes.{IsSame, KeepsGiven, KeepsOne}
use Rattle.bsc_restarts.specs.Kept.{ChannelsDiffer, HasStation, Knows, KnowsReceived, KnowsSent}
use Rattle.bsc_restarts.specs.Kept.{bare_receiving, bare_sending, receiving_channels}
use Rattle.bsc_restarts.proofs.ControlGrowth.{sides_within}
use Rattle.bsc_restarts.proofs.Differing.{control_channels_differ, terminal_channels_differ}
use Rattle.bsc_restarts.proofs.Forgetting.{same_or_other}
use Rattle.bsc_restarts.proofs.Forgotten.{side_where}
use Rattle.bsc_restarts.proofs.Lists.{all_both, all_of_each, at_set, length_of_set, other_of_set}
use Rattle.bsc_restarts.proofs.Offered.{Gains, gains_here, only_gains}
use Rattle.bsc_restarts.proofs.OneSide.{AtMostOne, NoneAt, changed_on, knows_on, received_on}
use Rattle.bsc_restarts.proofs.Outliving.{all_left, differ_kept, has_with, has_without}
use Rattle.bsc_restarts.proofs.Stepping.{has_same}

-- ends of which nothing is known are found like those of which something is
find_either : (b : Bool) (end : Sending) (xs ys : Option Sending)
    → channel_of xs ≡ channel_of ys
    → channel_of (cond b (Some (bare_sending end)) xs) ≡ channel_of (cond b (Some end) ys)
find_either true end xs ys same = refl
find_either false end xs ys same = same

find_bare : (t s : ℕ) (ends : List Sending)
    → channel_to t s (map bare_sending ends) ≡ channel_to t s ends
find_bare t s [] = refl
find_bare t s (end ∷ ends) =
    find_either (is_end_to t s end) end (find (is_end_to t s) (map bare_sending ends))
    (find (is_end_to t s) ends) (find_bare t s ends)

none_bare : (t s : ℕ) (ends : List Sending) → NoneAt t s (map bare_sending ends) → NoneAt t s ends
none_bare t s [] none = tt
none_bare t s (end ∷ ends) (one, none) = (one, none_bare t s ends none)

at_most_bare : (t s : ℕ) (ends : List Sending) → AtMostOne t s (map bare_sending ends)
    → AtMostOne t s ends
at_most_bare t s [] most = tt
at_most_bare t s (end ∷ ends) (only, most) =
    (λ at. none_bare t s ends (only at), at_most_bare t s ends most)

module _ (IsSide : ℕ → ℕ → Type 0) where
  abbrev AreSides : List Sending → Type 0
  AreSides ends = AllByRecursion (λ (end : Sending). IsSide end.terminal end.select) ends

  sides_bare : (ends : List Sending) → AreSides (map bare_sending ends) → AreSides ends
  sides_bare [] sides = tt
  sides_bare (end ∷ ends) (one, sides) = (one, sides_bare ends sides)

-- of a station that gains what it is offered
module _ {S K : Type 0} (kept_at : S → ℕ → ℕ → Option KeptSender)
    (waits : S → ℕ → ℕ → List (List ℕ)) (records : S → ℕ → List (List ℕ))
    (store : store_of.Ghosts K) (sending : List Sending) (receiving : List Receiving)
    (offered_to_it : S → ℕ → ℕ → List ℕ → S)
    (IsSide : ℕ → ℕ → Type 0) (sides : AreSides IsSide sending)
    (differ : ChannelsDiffer sending receiving) (most : (t s : ℕ) → AtMostOne t s sending)
    (has : K → Channel → Contents) (given : KeepsGiven store has) (t s : ℕ) (chars : List ℕ)
    (station : S)
    (gains : (its : Channel) → channel_to t s sending ≡ Some its
    → Gains kept_at waits records t s chars station (offered_to_it station t s chars) IsSide)
    (old new : Keeper K)
    (knows : Knows (has old.store) sending receiving old)
    (all : HasStation kept_at waits records (has old.store) sending receiving station)
    (same_sending : new.sending ≡ old.sending) (same_receiving : new.receiving ≡ old.receiving)
  where
    abbrev with_it : S
    with_it = offered_to_it station t s chars

    record HasOffered (left : Channel → Contents) : Type 0 where
      has_all : HasStation kept_at waits records left sending receiving with_it
      sent : AllByRecursion (KnowsSent left) old.sending.items
      received : AllByRecursion (KnowsReceived left) old.receiving.items

    once_kept : (its : Channel) → channel_to t s old.sending.items ≡ Some its
        → (left : Channel → Contents) → KeepsOne (Offered its chars) (has old.store) left
        → HasOffered left
    once_kept its found left one =
        let ss = old.sending.items in
        let rs = old.receiving.items in
        let here : channel_to t s sending ≡ Some its =
        ap (channel_to t s) (sym knows.sends) ∙ find_bare t s ss ∙ found in
        let g = gains its here in
        let had =
        has_with kept_at waits records (has old.store) station sending ss receiving rs knows.sends
        knows.receives all in
        let change = Offered its chars in
        let only = only_gains kept_at waits records t s chars station with_it IsSide g in
        let kept =
        gains_here kept_at waits records t s chars station with_it IsSide g its (has old.store) left
        one in
        let out =
        changed_on kept_at waits records t s station with_it IsSide only its change refl
        (has old.store) left one kept ss (receiving_channels rs) found
        (differ_kept ss rs
        (subst (λ es. ChannelsDiffer es (map bare_receiving rs)) (sym knows.sends)
        (subst (λ es. ChannelsDiffer sending es) (sym knows.receives) differ)))
        (sides_bare IsSide ss (subst (AreSides IsSide) (sym knows.sends) sides))
        (at_most_bare t s ss (subst (AtMostOne t s) (sym knows.sends) (most t s))) had.sent in
        record {
          has_all =
              has_without kept_at waits records left with_it sending ss receiving rs knows.sends
              knows.receives
              (record {
                sent = out.sent;
                received =
                    received_on kept_at waits records t s station with_it IsSide only its change
                    refl (has old.store) left one kept rs out.apart had.received;
              });
          sent =
              out.knows (
                ap (λ (c : Contents). c.known) one.changed.1,
                ap (λ (c : Contents). c.in_doubt) one.changed.1,
              )
              knows.sent;
          received =
              knows_on kept_at waits records t s station with_it IsSide only its change refl
              (has old.store) left one kept rs out.apart knows.received;
        }

    -- the record was kept, and nothing else
    one_then_same : (its : Channel) (mid left : Channel → Contents)
        → KeepsOne (Offered its chars) (has old.store) mid → IsSame mid left
        → KeepsOne (Offered its chars) (has old.store) left
    one_then_same its mid left one same =
        record {
          changed = (one.changed.0, same its ∙ one.changed.1);
          others = λ channel other. same channel ∙ one.others channel other;
        }

    by_result : (result : Result (List ℕ) StoreFault) (found : Option Channel)
        → channel_to t s old.sending.items ≡ found
        → OffersIf store found chars result old.store new.store
        → LeavesOffer kept_at waits records store sending receiving has station with_it chars result
        old new
    by_result result None found (refused, same) =
        record {
          crash = λ left leaves.
              inl
              (has_same kept_at waits records sending receiving station (has old.store) left
              (leaves.same same) all);
          knows = λ ok sound. absurd cc;
          kept = λ ok sound. absurd cc;
        }
    by_result result (Some its) found offers =
        let done : result ≡ Ok chars → store.sound new.store → HasOffered (has new.store) =
        λ ok sound.
        let kept : store.keeps (Offered its chars ∷ []) old.store new.store =
        subst (λ r. OnOk r (store.keeps (Offered its chars ∷ []) old.store new.store)) ok offers.kept
        in
        let (mid, one, same) =
        given.keeps (Offered its chars ∷ []) old.store new.store kept sound in
        once_kept its found (has new.store) (one_then_same its mid (has new.store) one same) in
        record {
          crash = λ left leaves. elim
              (all_left store has given (Offered its chars ∷ []) old.store new.store offers.crash left
              leaves) [
                | inl same ↦
                    inl
                    (has_same kept_at waits records sending receiving station (has old.store) left same
                    all)
                | inr (mid, one, same) ↦
                    inr (once_kept its found left (one_then_same its mid left one same)).has_all
              ];
          knows = λ ok sound.
              record {
                sends = ap (λ v. map bare_sending v.items) same_sending ∙ knows.sends;
                receives = ap (λ v. map bare_receiving v.items) same_receiving ∙ knows.receives;
                sent =
                    subst (λ v. AllByRecursion (KnowsSent (has new.store)) v.items)
                    (sym same_sending) (done ok sound).sent;
                received =
                    subst (λ v. AllByRecursion (KnowsReceived (has new.store)) v.items)
                    (sym same_receiving) (done ok sound).received;
              };
          kept = λ ok sound. (done ok sound).has_all;
        }

-- a terminal has one end on which it sends
abbrev pub IsOwnSide : ℕ → ℕ → Type 0
IsOwnSide i j = (i ≡ 0) × (j ≡ 0)

found_one : (b : Bool) (end : Sending) (its : Channel)
    → channel_of (cond b (Some end) None) ≡ Some its → b ≡ true
found_one true end its found = refl
found_one false end its found = absurd cc

pub own_side : (terminal : TerminalValue) (t s : ℕ) (its : Channel)
    → channel_to t s (sends_from (Some terminal)) ≡ Some its → (t ≡ 0) × (s ≡ 0)
own_side terminal t s its found =
    let both = and_parts (nat_eq 0 t) (nat_eq 0 s) (found_one (nat_eq 0 t && nat_eq 0 s) _ its found)
    in
    let first : t ≡ 0 = grind (arith, nat_tests, both.0) in
    let second : s ≡ 0 = grind (arith, nat_tests, both.1) in (first, second)

pub own_gains : (terminal : TerminalValue) (t s : ℕ) (chars : List ℕ) (its : Channel)
    (l : LineTerminalValue) → IsTributary l.tributary
    → channel_to t s (sends_from (Some terminal)) ≡ Some its
    → Gains kept_at_terminal waiting_at_terminal arrived_at_terminal t s chars l
    (terminal_with l t s chars) IsOwnSide
own_gains terminal t s chars its l is found =
    let q = l.tributary.queue in
    let at = own_side terminal t s its found in
    record {
      kept = λ i j. refl;
      waits_here = drop-append-le q.known q.offered (chars ∷ []) is.ready.queue.known;
      waits_there = λ i j side elsewhere.
          let first : nat_eq i t ≡ true = grind (arith, nat_tests, side.0, at.0) in
          let second : nat_eq j s ≡ true = grind (arith, nat_tests, side.1, at.1) in
          let here : (nat_eq i t && nat_eq j s) ≡ true = and_from _ _ first second in absurd cc;
      arrived = λ n. refl;
    }

pub terminal_outlives_offers : {K : Type 0} (store : store_of.Ghosts K) (terminal : TerminalValue)
    → HasDistinctAddresses terminal
    → OutlivesOffers kept_at_terminal waiting_at_terminal arrived_at_terminal store
    (sends_from (Some terminal)) (spools_of terminal)
    (λ (l : LineTerminalValue). IsTributary l.tributary) terminal_with
terminal_outlives_offers store terminal distinct has given t s chars l result old new is knows all
    keeps =
    by_result kept_at_terminal waiting_at_terminal arrived_at_terminal store
    (sends_from (Some terminal)) (spools_of terminal) terminal_with IsOwnSide
    ((refl, refl), tt) (terminal_channels_differ terminal distinct) (λ i j. (λ at. tt, tt))
    has given t s chars l (λ its found. own_gains terminal t s chars its l is found) old new knows
    all keeps.sending keeps.receiving result (channel_to t s old.sending.items) refl keeps.offers

-- at most one end is found in lists of which at most one has any
at_most_both : (t s : ℕ) (xs ys : List Sending) → AtMostOne t s xs → AtMostOne t s ys
    → NoneAt t s xs ⊎ NoneAt t s ys → AtMostOne t s (xs ++ ys)
at_most_both t s [] ys first second either = second
at_most_both t s (x ∷ xs) ys (only, first) second (inl (none, rest)) = (
  λ at. absurd cc,
  at_most_both t s xs ys first second (inl rest),
)
at_most_both t s (x ∷ xs) ys (only, first) second (inr none) = (
  λ at. all_both (λ end. is_end_to t s end ≡ false) xs ys (only at) none,
  at_most_both t s xs ys first second (inr none),
)

at_most_each : (t s : ℕ) (f : ℕ → List Sending) (k n : ℕ) → ((i : ℕ) → AtMostOne t s (f i))
    → ((i : ℕ) → i ≢ k → NoneAt t s (f i)) → AtMostOne t s (each_of f n)
at_most_each t s f k zero each none = tt
at_most_each t s f k (suc n) each none =
    at_most_both t s (each_of f n) (f n) (at_most_each t s f k n each none) (each n)
    (elim (same_or_other n k) [
      | inl same ↦
          inl
          (all_of_each (λ end. is_end_to t s end ≡ false) f n
          (λ i few. none i (λ e. absurd (omega (arith, few, e, same)))))
      | inr other ↦ inr (none n other)
    ])

other_number : (i k : ℕ) → i ≢ k → nat_eq i k ≡ false
other_number i k other = grind (arith, nat_tests, other)

-- those of a control station
none_of_terminal : (t s : ℕ) (term : TerminalValue) (i : ℕ) → i ≢ t → (m : ℕ)
    → NoneAt t s (each_of (selection_of term i) m)
none_of_terminal t s term i other m =
    all_of_each (λ end. is_end_to t s end ≡ false) (selection_of term i) m
    (λ j few. (and_left (nat_eq i t) (nat_eq j s) (other_number i t other), tt))

at_most_selection : (t s : ℕ) (term : TerminalValue) (i m : ℕ)
    → AtMostOne t s (each_of (selection_of term i) m)
at_most_selection t s term i m =
    at_most_each t s (selection_of term i) s m (λ j. (λ at. tt, tt))
    (λ j other. (and_right (nat_eq i t) (nat_eq j s) (other_number j s other), tt))

pub at_most_of_control : (ts : List TerminalValue) (t s : ℕ) → AtMostOne t s (sending_of ts Control)
at_most_of_control ts t s =
    at_most_each t s (selections_at ts) t (length ts)
    (λ i. at_most_selection t s (terminal_at ts i) i (length (terminal_at ts i).selects))
    (λ i other.
    none_of_terminal t s (terminal_at ts i) i other (length (terminal_at ts i).selects))

-- there is such a terminal with such an address
abbrev pub HasAddress : List TerminalValue → ℕ → ℕ → Type 0
HasAddress ts i j = (i < length ts) × (j < length (terminal_at ts i).selects)

pub control_sides : (ts : List TerminalValue)
    → AllByRecursion (λ (end : Sending). HasAddress ts end.terminal end.select)
    (sending_of ts Control)
control_sides ts =
    all_of_each (λ (end : Sending). HasAddress ts end.terminal end.select) (selections_at ts)
    (length ts)
    (λ i few.
    all_of_each (λ (end : Sending). HasAddress ts end.terminal end.select)
    (selection_of (terminal_at ts i) i) (length (terminal_at ts i).selects)
    (λ j its. ((few, its), tt)))

-- what is found is there
this_or_later : (P : ℕ → ℕ → Type 0) (t s : ℕ) (end : Sending) (rest : Option Sending)
    (its : Channel) (b : Bool) → is_end_to t s end ≡ b → P end.terminal end.select
    → (channel_of rest ≡ Some its → P t s) → channel_of (cond b (Some end) rest) ≡ Some its
    → P t s
this_or_later P t s end rest its true at one later found =
    let both = and_parts (nat_eq end.terminal t) (nat_eq end.select s) at in
    let terminal : end.terminal ≡ t = grind (arith, nat_tests, both.0) in
    let select : end.select ≡ s = grind (arith, nat_tests, both.1) in
    subst (λ i. P i s) terminal (subst (λ j. P end.terminal j) select one)
this_or_later P t s end rest its false at one later found = later found

pub found_side : (P : ℕ → ℕ → Type 0) (t s : ℕ) (ends : List Sending) (its : Channel)
    → AllByRecursion (λ (end : Sending). P end.terminal end.select) ends
    → channel_to t s ends ≡ Some its → P t s
found_side P t s [] its all found = absurd cc
found_side P t s (end ∷ ends) its (one, all) found =
    this_or_later P t s end (find (is_end_to t s) ends) its (is_end_to t s end) refl one
    (λ later. found_side P t s ends its all later) found

-- another sending side than the one that changes: of another terminal, or of the same one
other_terminal : (c : ControlValue) (t s : ℕ) (o : OutboundValue) (i j : ℕ) → i ≢ t
    → outbound_of (replaced c t s o) i j ≡ outbound_of c i j
other_terminal c t s o i j other =
    ap (λ p. outbound_at p j)
    (other_of_set c.peers t i (with_outbound (peer_at c t) s o) no_peer other)

other_address : (c : ControlValue) (t s : ℕ) (o : OutboundValue) (i j : ℕ) → j ≢ s
    → outbound_of (replaced c t s o) i j ≡ outbound_of c i j
other_address c t s o i j other =
    value_kept_by_set (λ (p : PeerValue). outbound_at p j) c.peers t i
    (with_outbound (peer_at c t) s o) no_peer
    (other_of_set (peer_at c t).outbounds s j o no_outbound other)

pub other_side : (c : ControlValue) (t s : ℕ) (o : OutboundValue) (i j : ℕ) (b : Bool)
    → nat_eq i t ≡ b → (b && nat_eq j s) ≡ false
    → outbound_of (replaced c t s o) i j ≡ outbound_of c i j
other_side c t s o i j false apart elsewhere =
    other_terminal c t s o i j (eqb-false i t apart)
other_side c t s o i j true same elsewhere =
    other_address c t s o i j (eqb-false j s elsewhere)

-- the sending side of an end that is found
pub control_place : (ts : List TerminalValue) (t s : ℕ) (its : Channel) (c : ControlValue)
    → IsControlOf ts c → channel_to t s (sending_of ts Control) ≡ Some its
    → (t < length c.peers) × (s < length (peer_at c t).outbounds)
control_place ts t s its c is found =
    let there = found_side (HasAddress ts) t s (sending_of ts Control) its (control_sides ts) found
    in
    let count = length-map c.peers (λ (p : PeerValue). p.terminal) in (
      omega (arith, there.0, count, ap (λ (x : List TerminalValue). length x) is.addresses),
      omega (
        arith,
        there.1,
        is.sides t,
        ap (λ x. length (terminal_at x t).selects) is.addresses,
      ),
    )

pub gains_there : (IsSide : ℕ → ℕ → Type 0) (t s : ℕ) (chars : List ℕ) (c : ControlValue)
    → IsControl c → t < length c.peers → s < length (peer_at c t).outbounds
    → Gains kept_at_control waiting_at_control arrived_at_control t s chars c
    (control_with c t s chars) IsSide
gains_there IsSide t s chars c is terminal address =
    let p = peer_at c t in
    let o = outbound_of c t s in
    let q = offered_to p s chars in
    let n = offered o chars in
    let peers = length_of_set c.peers t q in
    let side : outbound_of (control_with c t s chars) t s ≡ n =
    ap (λ x. outbound_at x s) (at_set c.peers t q no_peer terminal)
    ∙ at_set p.outbounds s n no_outbound address in
    record {
      kept = λ i j.
          side_where i j
          (value_kept_by_set (λ (x : PeerValue). length x.outbounds) c.peers t i q no_peer
          (length_of_set p.outbounds s n))
          peers
          (value_kept_by_set (λ (x : PeerValue). kept_of_side (outbound_at x j)) c.peers t i q no_peer
          (value_kept_by_set kept_of_side p.outbounds s j n no_outbound refl));
      waits_here =
          ap (λ (x : OutboundValue). waiting x.queue) side
          ∙ drop-append-le o.queue.known o.queue.offered (chars ∷ [])
          (sides_within c is t s);
      waits_there = λ i j its_side elsewhere.
          ap (λ (x : OutboundValue). waiting x.queue)
          (other_side c t s n i j (nat_eq i t) refl elsewhere);
      arrived = λ i k.
          if nat_lt i (peers k)
          then value_kept_by_set (λ (x : PeerValue). x.spool.records) c.peers t i q no_peer refl k
          else [];
    }

pub control_gains : (ts : List TerminalValue) (t s : ℕ) (chars : List ℕ) (its : Channel)
    (c : ControlValue) → IsControlOf ts c → channel_to t s (sending_of ts Control) ≡ Some its
    → Gains kept_at_control waiting_at_control arrived_at_control t s chars c
    (control_with c t s chars) (HasAddress ts)
control_gains ts t s chars its c is found =
    let (terminal, address) = control_place ts t s its c is found in
    gains_there (HasAddress ts) t s chars c is.control terminal address

pub control_outlives_offers : {K : Type 0} (store : store_of.Ghosts K) (ts : List TerminalValue)
    → AreDistinct ts
    → OutlivesOffers kept_at_control waiting_at_control arrived_at_control store
    (sending_of ts Control) (receiving_of ts Control) (IsControlOf ts) control_with
control_outlives_offers store ts distinct has given t s chars c result old new is knows all keeps =
    by_result kept_at_control waiting_at_control arrived_at_control store (sending_of ts Control)
    (receiving_of ts Control) control_with (HasAddress ts) (control_sides ts)
    (control_channels_differ ts distinct) (at_most_of_control ts) has given t s chars c
    (λ its found. control_gains ts t s chars its c is found) old new knows all keeps.sending
    keeps.receiving result (channel_to t s old.sending.items) refl keeps.offers

-- the same of one of which less is known, at an address that it has
pub control_offered_there : {K : Type 0} (store : store_of.Ghosts K) (ts : List TerminalValue)
    → AreDistinct ts → (has : K → Channel → Contents) → KeepsGiven store has → (t s : ℕ)
    (chars : List ℕ) (c : ControlValue) (result : Result (List ℕ) StoreFault) (old new : Keeper K)
    → IsControl c → t < length c.peers → s < length (peer_at c t).outbounds
    → Knows (has old.store) (sending_of ts Control) (receiving_of ts Control) old
    → HasStation kept_at_control waiting_at_control arrived_at_control (has old.store)
    (sending_of ts Control) (receiving_of ts Control) c
    → KeepsOffer store t s chars result old new
    → LeavesOffer kept_at_control waiting_at_control arrived_at_control store
    (sending_of ts Control) (receiving_of ts Control) has c (control_with c t s chars) chars result
    old new
control_offered_there store ts distinct has given t s chars c result old new is terminal address
    knows all keeps =
    by_result kept_at_control waiting_at_control arrived_at_control store (sending_of ts Control)
    (receiving_of ts Control) control_with (HasAddress ts) (control_sides ts)
    (control_channels_differ ts distinct) (at_most_of_control ts) has given t s chars c
    (λ its found. gains_there (HasAddress ts) t s chars c is terminal address) old new knows all
    keeps.sending keeps.receiving result (channel_to t s old.sending.items) refl keeps.offers
