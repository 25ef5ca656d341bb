-- What a station forgets changes nothing of what its store has of it.
use Rattle.std.proofs.Common.{◌≡◌, ◌∙◌, ◌≤◌, ◌-◌, ◌+◌, ℕ, zero, suc, nat_lt, ◌&&◌, Bool, true}
use Rattle.std.proofs.Common.{false, List, [], ◌∷◌, length, drop, Option, None, Some, refl, sym, ap}
use Rattle.std.proofs.Common.{subst, arith, inl, inr, length-drop}
use Rattle.std.proofs.lemmas.Bool.{cases_lt}
use Rattle.std.proofs.lemmas.List.{drop-drop, drop_all, length-map}
use Rattle.std.specs.List.{AllByRecursion}
use Rattle.std.specs.Prelude.{if◌then◌else◌, slice_index_or, slice_set}
use Rattle.bsc_block.specs.Records.{after_forgotten, forgotten}
use Rattle.bsc_block.proofs.Forgotten.{drop_forgotten, forgotten_fewer, length_after_forgotten}
use Rattle.bsc_spool.specs.Queue.{waiting}
use Rattle.bsc_spool.specs.Spool.{SpoolValue}
use Rattle.bsc_bid.specs.declared.kept.KeptSender.{KeptSender}
use Rattle.bsc_tributary.specs.Tributary.{empty_spool, spool_at}
use Rattle.bsc_control.specs.Control.{ControlValue, peer_at, with_peer}
use Rattle.bsc_control.specs.Kept.{outbound_of}
use Rattle.bsc_control.specs.Peer.{OutboundValue, PeerValue, forgotten_to, no_outbound, no_peer}
use Rattle.bsc_control.specs.Peer.{outbound_at, sent_forgotten}
use Rattle.bsc_control.specs.Stored.{kept_of_side}
use Rattle.bsc_control.proofs.PeerLists.{value_kept_by_set}
use Rattle.bsc_spool.specs.Contents.{Contents, records_from}
use Rattle.bsc_spool.specs.declared.channel.Channel.{Channel}
use Rattle.bsc_spool.specs.declared.ends.Receiving.{Receiving}
use Rattle.bsc_spool.specs.declared.ends.Sending.{Sending}
use Rattle.bsc_station.specs.Forgetting.{ForgetsArrivedFor, ForgetsArrivedFrom, ForgetsOwn}
use Rattle.bsc_station.specs.Forgetting.{ForgetsSent, further, nothing}
use Rattle.bsc_station.specs.LineTerminal.{LineTerminalValue}
use Rattle.bsc_station.specs.Polling.{PollsTerminal}
use Rattle.bsc_station.specs.Feeding.{kept_at_control}
use Rattle.bsc_restarts.specs.AfterCrash.{arrived_at_control, arrived_at_terminal, kept_at_terminal}
use Rattle.bsc_restarts.specs.AfterCrash.{waiting_at_control, waiting_at_terminal}
use Rattle.bsc_restarts.specs.Between.{OutlivesForgetting}
use Rattle.bsc_restarts.specs.Kept.{HasAllReceived, HasReceivedOn, HasSentIf, HasSentOn, HasStation}
use Rattle.bsc_restarts.proofs.Lists.{length_of_set}

-- the records from a place on stay when those before it are forgotten
drop_past : (n k : ℕ) (rs : List (List ℕ)) → n ≤ k → drop k (forgotten n rs) ≡ drop k rs
drop_past n k rs few = elim (cases_lt (length rs) k) [
  | inl short ↦
      drop_all k (forgotten n rs)
      (omega (arith, short, few, length_after_forgotten n (drop n rs), length-drop n rs))
      ∙ sym (drop_all k rs (omega (arith, short)))
  | inr long ↦ drop_forgotten n k rs few long
]

-- what is forgotten twice
forgotten_on : (n k : ℕ) (rs : List (List ℕ)) → n ≤ k
    → forgotten k (after_forgotten n rs) ≡ after_forgotten k (drop (k - n) rs)
forgotten_on zero k rs few =
    let all : k ≡ k - 0 = omega arith in ap (λ m. after_forgotten k (drop m rs)) all
forgotten_on (suc n) zero rs few = absurd (omega (arith, few))
forgotten_on (suc n) (suc k) rs few =
    let less : k - n ≡ suc k - suc n = omega arith in
    ap (λ rest. [] ∷ rest) (forgotten_on n k rs (omega (arith, few)))
    ∙ ap (λ m. after_forgotten (suc k) (drop m rs)) less

pub received_forgotten : (it : Contents) (n : ℕ) (records : List (List ℕ))
    → n ≤ length it.arrived → HasAllReceived it records → HasAllReceived it (forgotten n records)
received_forgotten it n records few has =
    let all = records_from 0 it.arrived in elim (cases_lt has.places n) [
      | inl more ↦
          let sum : has.places + (n - has.places) ≡ n = omega (arith, more) in
          record {
            places = n;
            few = few;
            same =
                ap (forgotten n) has.same
                ∙ forgotten_on has.places n (drop has.places all) (omega (arith, more))
                ∙ ap (after_forgotten n) (drop-drop (n - has.places) has.places all)
                ∙ ap (λ m. after_forgotten n (drop m all)) sum;
          }
      | inr fewer ↦
          record {
            places = has.places;
            few = has.few;
            same =
                ap (forgotten n) has.same
                ∙ forgotten_fewer has.places n (drop has.places all) fewer;
          }
    ]

-- a station of which the same is to be kept, and that may have forgotten records that arrived
module _ {S : Type 0} (kept_at : S → ℕ → ℕ → Option KeptSender)
    (waits : S → ℕ → ℕ → List (List ℕ)) (records : S → ℕ → List (List ℕ)) (old new : S)
    (kept : (t s : ℕ) → kept_at new t s ≡ kept_at old t s)
    (waiting_same : (t s : ℕ) → waits new t s ≡ waits old t s)
    (received : (n : ℕ) (it : Contents) → HasAllReceived it (records old n)
    → HasAllReceived it (records new n)) (has : Channel → Contents) where
  sent_still : (ends : List Sending)
      → AllByRecursion (HasSentOn kept_at waits records has old) ends
      → AllByRecursion (HasSentOn kept_at waits records has new) ends
  sent_still [] all = tt
  sent_still (end ∷ ends) (one, all) = (
    subst (λ k. HasSentIf (has end.channel) k (waits new end.terminal end.select))
        (sym (kept end.terminal end.select))
        (subst (HasSentIf (has end.channel) (kept_at old end.terminal end.select))
        (sym (waiting_same end.terminal end.select)) one),
    sent_still ends all,
  )

  received_still : (ends : List Receiving)
      → AllByRecursion (HasReceivedOn kept_at waits records has old) ends
      → AllByRecursion (HasReceivedOn kept_at waits records has new) ends
  received_still [] all = tt
  received_still (end ∷ ends) (one, all) =
      (received end.number (has end.channel) one, received_still ends all)

  pub has_still : (sending : List Sending) (receiving : List Receiving)
      → HasStation kept_at waits records has sending receiving old
      → HasStation kept_at waits records has sending receiving new
  has_still sending receiving all =
      record {
        sent = sent_still sending all.sent;
        received = received_still receiving all.received;
      }

-- a spool or a peer with some records forgotten
abbrev StillReceived : List (List ℕ) → List (List ℕ) → Type 0
StillReceived xs ys = (it : Contents) → HasAllReceived it xs → HasAllReceived it ys

at_set_place : {X : Type 0} (f : X → List (List ℕ)) (xs : List X) (i j : ℕ) (x d : X)
    → StillReceived (f (slice_index_or xs i d)) (f x)
    → StillReceived (f (slice_index_or xs j d)) (f (slice_index_or (slice_set xs i x) j d))
at_set_place f [] i j x d still = λ it has. has
at_set_place f (y ∷ ys) zero zero x d still = still
at_set_place f (y ∷ ys) zero (suc j) x d still = λ it has. has
at_set_place f (y ∷ ys) (suc i) zero x d still = λ it has. has
at_set_place f (y ∷ ys) (suc i) (suc j) x d still = at_set_place f ys i j x d still

received_if : (b : Bool) (xs ys : List (List ℕ)) → StillReceived xs ys
    → StillReceived (if b then xs else []) (if b then ys else [])
received_if true xs ys still = still
received_if false xs ys still = λ it has. has

forgets_first : (n : ℕ) (xs ys : List (List ℕ)) → n ≤ length xs → ys ≡ forgotten n xs
    → StillReceived xs ys
forgets_first n xs ys few same it has =
    subst (HasAllReceived it) (sym same)
    (received_forgotten it n xs
    (omega (
      arith,
      few,
      ap (λ rs. length rs) has.same,
      length_after_forgotten has.places (drop has.places (records_from 0 it.arrived)),
      length-drop has.places (records_from 0 it.arrived),
      length-map it.arrived (λ f. f.«record»),
      has.few,
    )) has)

-- a terminal
own_forgotten : (has : Channel → Contents) (sending : List Sending) (receiving : List Receiving)
    (old new : LineTerminalValue)
    → HasStation kept_at_terminal waiting_at_terminal arrived_at_terminal has sending receiving old
    → ForgetsOwn old new
    → HasStation kept_at_terminal waiting_at_terminal arrived_at_terminal has sending receiving new
own_forgotten has sending receiving old new all (inl same) =
    subst (HasStation kept_at_terminal waiting_at_terminal arrived_at_terminal has sending receiving)
    (sym same) all
own_forgotten has sending receiving old new all (inr own) =
    let q = old.tributary.queue in
    has_still kept_at_terminal waiting_at_terminal arrived_at_terminal old new
    (λ t s. ap (λ l. kept_at_terminal l t s) own.state)
    (λ t s.
    ap (λ l. waiting_at_terminal l t s) own.state ∙ drop_past own.n q.known q.offered own.known)
    (λ n it got. subst (λ l. HasAllReceived it (arrived_at_terminal l n)) (sym own.state) got)
    has sending receiving all

arrived_forgotten : (has : Channel → Contents) (sending : List Sending)
    (receiving : List Receiving) (number count : ℕ) (old new : LineTerminalValue)
    → HasStation kept_at_terminal waiting_at_terminal arrived_at_terminal has sending receiving old
    → ForgetsArrivedFor old number count new
    → HasStation kept_at_terminal waiting_at_terminal arrived_at_terminal has sending receiving new
arrived_forgotten has sending receiving number count old new all (inl same) =
    subst (HasStation kept_at_terminal waiting_at_terminal arrived_at_terminal has sending receiving)
    (sym same) all
arrived_forgotten has sending receiving number count old new all (inr one) =
    let spools = old.tributary.spools in
    has_still kept_at_terminal waiting_at_terminal arrived_at_terminal old new
    (λ t s. ap (λ l. kept_at_terminal l t s) one.others)
    (λ t s. ap (λ l. waiting_at_terminal l t s) one.others)
    (λ n it got.
    subst (λ l. HasAllReceived it (arrived_at_terminal l n)) (sym one.others)
    (received_if (nat_lt n (length old.tributary.terminal.selects)) _ _
    (at_set_place (λ (p : SpoolValue). p.records) spools number n
    (spool_at new.tributary.spools number) empty_spool
    (forgets_first one.n _ _ one.there one.forgets.records)) it got))
    has sending receiving all

pub terminal_outlives_forgetting :
    OutlivesForgetting kept_at_terminal waiting_at_terminal arrived_at_terminal ForgetsOwn
    ForgetsArrivedFor (λ old terminal wanted new. new ≡ old)
terminal_outlives_forgetting =
    record {
      sent = own_forgotten;
      arrived = arrived_forgotten;
      polled = λ has sending receiving terminal wanted old new all same.
          subst
          (HasStation kept_at_terminal waiting_at_terminal arrived_at_terminal has sending receiving)
          (sym same) all;
    }

-- what is to be kept of a sending side that may be there
pub side_where : (i j : ℕ) {a b l m : ℕ} {k o : KeptSender} → l ≡ m → a ≡ b → k ≡ o
    → (if nat_lt i a && nat_lt j l then Some k else None)
    ≡ (if nat_lt i b && nat_lt j m then Some o else None)
side_where i j addresses terminals kept =
    λ n. if nat_lt i (terminals n) && nat_lt j (addresses n) then Some (kept n) else None

-- a control station of which records of one sending side are forgotten
side_forgotten : (has : Channel → Contents) (sending : List Sending) (receiving : List Receiving)
    (c : ControlValue) (t s n : ℕ) → n ≤ (outbound_of c t s).queue.known
    → HasStation kept_at_control waiting_at_control arrived_at_control has sending receiving c
    → HasStation kept_at_control waiting_at_control arrived_at_control has sending receiving
    (with_peer c t (forgotten_to (peer_at c t) s n))
side_forgotten has sending receiving c t s n few all =
    let p = peer_at c t in
    let o = sent_forgotten (outbound_of c t s) n in
    let q = forgotten_to p s n in
    let count = length_of_set c.peers t q in
    has_still kept_at_control waiting_at_control arrived_at_control c (with_peer c t q)
    (λ i j.
    side_where i j (value_kept_by_set (λ (x : PeerValue). length x.outbounds) c.peers t i q no_peer
    (length_of_set p.outbounds s o)) count
    (value_kept_by_set (λ (x : PeerValue). kept_of_side (outbound_at x j)) c.peers t i q no_peer
    (value_kept_by_set kept_of_side p.outbounds s j o no_outbound refl)))
    (λ i j.
    value_kept_by_set (λ (x : PeerValue). waiting (outbound_at x j).queue) c.peers t i q no_peer
    (value_kept_by_set (λ (x : OutboundValue). waiting x.queue) p.outbounds s j o no_outbound
    (drop_past n (outbound_of c t s).queue.known (outbound_of c t s).queue.offered few)))
    (λ i it got.
    subst (HasAllReceived it)
    (λ k. if nat_lt i (sym count k)
    then sym (value_kept_by_set (λ (x : PeerValue). x.spool.records) c.peers t i q no_peer refl) k
    else [])
    got)
    has sending receiving all

sides_forgotten : (has : Channel → Contents) (sending : List Sending) (receiving : List Receiving)
    (old new : ControlValue)
    → HasStation kept_at_control waiting_at_control arrived_at_control has sending receiving old
    → ForgetsSent old new
    → HasStation kept_at_control waiting_at_control arrived_at_control has sending receiving new
sides_forgotten has sending receiving old new all nothing = all
sides_forgotten has sending receiving old new all (further {mid = mid} before (inl same)) =
    subst (HasStation kept_at_control waiting_at_control arrived_at_control has sending receiving)
    (sym same) (sides_forgotten has sending receiving old mid all before)
sides_forgotten has sending receiving old new all
    (further {mid = mid} {t = t} {s = s} before (inr one)) =
    subst (HasStation kept_at_control waiting_at_control arrived_at_control has sending receiving)
    (sym one.state)
    (side_forgotten has sending receiving mid t s one.n one.known
    (sides_forgotten has sending receiving old mid all before))

peer_forgotten : (has : Channel → Contents) (sending : List Sending) (receiving : List Receiving)
    (number count : ℕ) (old new : ControlValue)
    → HasStation kept_at_control waiting_at_control arrived_at_control has sending receiving old
    → ForgetsArrivedFrom old number count new
    → HasStation kept_at_control waiting_at_control arrived_at_control has sending receiving new
peer_forgotten has sending receiving number count old new all (inl same) =
    subst (HasStation kept_at_control waiting_at_control arrived_at_control has sending receiving)
    (sym same) all
peer_forgotten has sending receiving number count old new all (inr one) =
    let p : PeerValue = record (peer_at old number) { spool = (peer_at new number).spool } in
    let peers = length_of_set old.peers number p in
    subst (HasStation kept_at_control waiting_at_control arrived_at_control has sending receiving)
    (sym one.others)
    (has_still kept_at_control waiting_at_control arrived_at_control old (with_peer old number p)
    (λ i j.
    side_where i j
    (value_kept_by_set (λ (x : PeerValue). length x.outbounds) old.peers number i p no_peer refl)
    peers
    (value_kept_by_set (λ (x : PeerValue). kept_of_side (outbound_at x j)) old.peers number i p
    no_peer refl))
    (λ i j.
    value_kept_by_set (λ (x : PeerValue). waiting (outbound_at x j).queue) old.peers number i p
    no_peer refl)
    (λ i it got.
    subst
    (λ n. HasAllReceived it
    (if nat_lt i n then (peer_at (with_peer old number p) i).spool.records else []))
    (sym peers)
    (received_if (nat_lt i (length old.peers)) _ _
    (at_set_place (λ (x : PeerValue). x.spool.records) old.peers number i p no_peer
    (forgets_first one.n _ _ one.there one.forgets.records)) it got))
    has sending receiving all)

-- one of whose terminals is polled from now on, or is not
peer_polled : (has : Channel → Contents) (sending : List Sending) (receiving : List Receiving)
    (t : ℕ) (wanted : Bool) (old new : ControlValue)
    → HasStation kept_at_control waiting_at_control arrived_at_control has sending receiving old
    → PollsTerminal old t wanted new
    → HasStation kept_at_control waiting_at_control arrived_at_control has sending receiving new
peer_polled has sending receiving t wanted old new all polls =
    let p : PeerValue = record (peer_at old t) { polled = wanted } in
    let peers = length_of_set old.peers t p in
    subst (HasStation kept_at_control waiting_at_control arrived_at_control has sending receiving)
    (sym polls.state)
    (has_still kept_at_control waiting_at_control arrived_at_control old (with_peer old t p)
    (λ i j.
    side_where i j
    (value_kept_by_set (λ (x : PeerValue). length x.outbounds) old.peers t i p no_peer refl)
    peers
    (value_kept_by_set (λ (x : PeerValue). kept_of_side (outbound_at x j)) old.peers t i p no_peer
    refl))
    (λ i j.
    value_kept_by_set (λ (x : PeerValue). waiting (outbound_at x j).queue) old.peers t i p no_peer
    refl)
    (λ i it got.
    subst (HasAllReceived it)
    (λ k. if nat_lt i (sym peers k)
    then sym (value_kept_by_set (λ (x : PeerValue). x.spool.records) old.peers t i p no_peer refl) k
    else [])
    got)
    has sending receiving all)

pub control_outlives_forgetting :
    OutlivesForgetting kept_at_control waiting_at_control arrived_at_control ForgetsSent
    ForgetsArrivedFrom PollsTerminal
control_outlives_forgetting =
    record { sent = sides_forgotten; arrived = peer_forgotten; polled = peer_polled }
