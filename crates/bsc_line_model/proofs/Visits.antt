-- A visit in which all is heard: the selections in the order of their addresses, then the poll.
use Rattle.std.proofs.Common.{◌≡◌, ◌≢◌, ◌⊎◌, inl, inr, ℕ, zero, suc, ◌+◌, ◌*◌, ◌<◌, ◌≤◌, true}
use Rattle.std.proofs.Common.{false, Bool, IsTrue, not, nat_eq, List, [], ◌∷◌, length, drop, Result}
use Rattle.std.proofs.Common.{refl, sym, ◌∙◌, ap, subst, arith, if◌then◌else◌}
use Rattle.std.proofs.Math.Seq.{drop-cons}
use Rattle.std.proofs.lemmas.Bool.Decides.{nat_tests}
use Rattle.std.proofs.lemmas.List.{drop_all}
use Rattle.std.proofs.lemmas.List.Elements.{All-get_or}
use Rattle.bsc_block.specs.Blocks.{blocks}
use Rattle.bsc_spool.specs.Queue.{QueueValue, waiting}
use Rattle.bsc_bid.specs.declared.phase.Phase.TheVariants.{Idle}
use Rattle.bsc_bid.specs.Sender.{is_in_doubt}
use Rattle.bsc_tributary.specs.Tributary.{spool_at}
use Rattle.bsc_bid.specs.declared.way.Way.{Way}
use Rattle.bsc_bid.specs.declared.way.Way.TheVariants.{FromTerminal, ToTerminal}
use Rattle.bsc_control.specs.Peer.{PeerValue, OutboundValue, IsPeer, IsOutbound, no_peer}
use Rattle.bsc_control.specs.Peer.{no_outbound, outbound_at, is_selectable}
use Rattle.bsc_control.specs.Control.{peer_at, peer, current}
use Rattle.bsc_control.specs.CallOrder.{way_from, place_after, polled_place}
use Rattle.bsc_control.specs.Kept.{outbound_of}
use Rattle.bsc_line_model.specs.declared.error.Stopped.{Stopped}
use Rattle.bsc_line_model.specs.Line.{LineValue, terminal_at}
use Rattle.bsc_line_model.specs.Rounds.{block_count, selection_length, poll_length, next_visit}
use Rattle.bsc_line_model.proofs.Stations.{same_or_not}
use Rattle.bsc_line_model.proofs.BlockCounts.{CutLaws, blocks_of_some_records}
use Rattle.bsc_line_model.proofs.Staying.{Stays, IsElsewhere}
use Rattle.bsc_control.proofs.Calls.{current_within_peers}
use Rattle.bsc_control.proofs.Passing.{polled_place_alike}
use Rattle.bsc_line_model.proofs.Walking.{IsGood, good_places, Walks}
use Rattle.bsc_line_model.proofs.Selections.{VisitLaws, Comes, Calls, IsSelectionDone}
use Rattle.bsc_line_model.proofs.Selections.{selection_delivers_blocks}
use Rattle.bsc_line_model.proofs.Selections.{current_of_same_place}
use Rattle.bsc_line_model.proofs.Polls.{IsPollDone, poll_delivers_blocks}
use Rattle.bsc_line_model.proofs.VisitWays.{way_in, first_way, later_way}

-- all but the channels of terminal e is unchanged
pub record StaysBut (e : ℕ) (old new : LineValue) : Type 0 where
  pub poll_list : new.control.poll_list ≡ old.control.poll_list
  pub count : length new.terminals ≡ length old.terminals
  pub addresses : (t : ℕ) → (peer_at new.control t).terminal ≡ (peer_at old.control t).terminal
  pub polled : (t : ℕ) → (peer_at new.control t).polled ≡ (peer_at old.control t).polled
  pub lists : (t : ℕ) → length (peer_at new.control t).outbounds
      ≡ length (peer_at old.control t).outbounds
  pub urgent_for : (t : ℕ) → (peer_at old.control t).urgent ≡ false → (peer_at new.control t).urgent
      ≡ false
  pub ready : (t : ℕ) → t < length old.terminals → (terminal_at new t).ready
      ≡ (terminal_at old t).ready
  pub urgent_at : (t : ℕ) → t < length old.terminals → (terminal_at old t).urgent ≡ false
      → (terminal_at new t).urgent ≡ false
  pub outbound : (t s : ℕ) → t ≢ e → outbound_of new.control t s ≡ outbound_of old.control t s
  pub spool : (t : ℕ) → t ≢ e → (peer_at new.control t).spool ≡ (peer_at old.control t).spool
  pub queue : (t : ℕ) → t < length old.terminals → t ≢ e → (terminal_at new t).queue
      ≡ (terminal_at old t).queue
  pub phase : (t : ℕ) → t < length old.terminals → t ≢ e → (terminal_at new t).sender.phase
      ≡ (terminal_at old t).sender.phase
  pub spooled : (t s : ℕ) → t < length old.terminals → t ≢ e
      → (spool_at (terminal_at new t).spools s).records
      ≡ (spool_at (terminal_at old t).spools s).records

pub but_of : (e : ℕ) (way : Way) (old new : LineValue) → Stays e way old new → StaysBut e old new
but_of e way old new h =
    let else_where : (t : ℕ) (other : Way) → t ≢ e → IsElsewhere t other e way =
    λ t other differ same w. differ same in
    record {
      poll_list = h.control.poll_list;
      count = h.terminals.count;
      addresses = λ t. (h.control.peers t).terminal;
      polled = λ t. (h.control.peers t).polled;
      lists = λ t. (h.control.peers t).count;
      urgent_for = λ t. (h.control.peers t).urgent;
      ready = λ t less. (h.terminals.terminals t less).ready;
      urgent_at = λ t less. (h.terminals.terminals t less).urgent;
      outbound = λ t s differ. (h.control.peers t).down s (else_where t (ToTerminal s) differ);
      spool = λ t differ. (h.control.peers t).up (else_where t FromTerminal differ);
      queue =
          λ t less differ. (h.terminals.terminals t less).queue (else_where t FromTerminal differ);
      phase =
          λ t less differ. (h.terminals.terminals t less).phase (else_where t FromTerminal differ);
      spooled =
          λ t s less differ. (h.terminals.terminals t less).down s
          (else_where t (ToTerminal s) differ);
    }

-- nothing moves
pub but_same : (e : ℕ) (l : LineValue) → StaysBut e l l
but_same e l =
    record {
      poll_list = refl;
      count = refl;
      addresses = λ t. refl;
      polled = λ t. refl;
      lists = λ t. refl;
      urgent_for =
          λ t z. z;
      ready = λ t z. refl;
      urgent_at = λ t z y. y;
      outbound = λ t s z. refl;
      spool =
          λ t z. refl;
      queue = λ t z y. refl;
      phase = λ t z y. refl;
      spooled = λ t s z y. refl;
    }

-- and so is the entry whose visit comes next
pub polled_place_stays : {e : ℕ} (old new : LineValue) (place : ℕ) → StaysBut e old new
    → polled_place new.control place ≡ polled_place old.control place
polled_place_stays old new place h =
    polled_place_alike old.control new.control h.poll_list h.polled place

next_visit_stays : {e : ℕ} (old new : LineValue) (place : ℕ) → StaysBut e old new
    → next_visit new place ≡ next_visit old place
next_visit_stays old new place h =
    ap (λ (list : List ℕ). polled_place new.control (place_after list place)) h.poll_list
    ∙ polled_place_stays old new (place_after old.control.poll_list place) h

pub but_then : (e : ℕ) (a b c : LineValue) → StaysBut e a b → StaysBut e b c → StaysBut e a c
but_then e a b c x y =
    let on : (t : ℕ) → t < length a.terminals → t < length b.terminals =
    λ t less. omega (arith, less, x.count) in
    record {
      poll_list = y.poll_list ∙ x.poll_list;
      count = y.count ∙ x.count;
      addresses = λ t. y.addresses t ∙ x.addresses t;
      polled = λ t. y.polled t ∙ x.polled t;
      lists = λ t. y.lists t ∙ x.lists t;
      urgent_for = λ t k. y.urgent_for t (x.urgent_for t k);
      ready = λ t less. y.ready t (on t less) ∙ x.ready t less;
      urgent_at = λ t less k. y.urgent_at t (on t less) (x.urgent_at t less k);
      outbound = λ t s differ. y.outbound t s differ ∙ x.outbound t s differ;
      spool = λ t differ. y.spool t differ ∙ x.spool t differ;
      queue = λ t less differ. y.queue t (on t less) differ ∙ x.queue t less differ;
      phase = λ t less differ. y.phase t (on t less) differ ∙ x.phase t less differ;
      spooled = λ t s less differ. y.spooled t s (on t less) differ ∙ x.spooled t s less differ;
    }

-- the transmissions of the selections of k addresses from this one on
abbrev pub selections_length : PeerValue → ℕ → ℕ → ℕ
selections_length p from zero = 0
selections_length p from (suc k) = selection_length (block_count (outbound_at p from).queue)
    + selections_length p (from + 1) k

pub same_lengths : (p q : PeerValue) (from k : ℕ)
    → ((s : ℕ) → from ≤ s → outbound_at q s ≡ outbound_at p s) → selections_length q from k
    ≡ selections_length p from k
same_lengths p q from zero same = refl
same_lengths p q from (suc k) same =
    let rest : selections_length q (from + 1) k ≡ selections_length p (from + 1) k =
    same_lengths p q (from + 1) k (λ s less. same s (omega arith)) in
    rw (same from (omega arith), rest) refl

-- terminal e is ready for a visit
pub record IsReadyForVisitAt (l : LineValue) (e : ℕ) : Type 0 where
  pub ready : IsTrue (terminal_at l e).ready
  pub urgent_at : (terminal_at l e).urgent ≡ false
  pub urgent_for : (peer_at l.control e).urgent ≡ false
  pub sure_up : is_in_doubt (terminal_at l e).sender.phase ≡ false
  pub sure_down : (s : ℕ) → is_in_doubt (outbound_of l.control e s).sender.phase ≡ false

-- the visit has reached a selection address, with i blocks to come from the terminal
pub record IsVisited (e place from i : ℕ) (start l : LineValue) : Type 0 where
  pub good : IsGood l
  pub present : current l.control ≡ e
  pub here : l.control.place ≡ place
  pub calls : Calls l place (way_from (peer_at l.control e) from)
  pub visit_ready : IsReadyForVisitAt l e
  pub done : (s : ℕ) → s < from → block_count (outbound_of l.control e s).queue ≡ 0
  pub blocks_up : block_count (terminal_at l e).queue ≡ i
  pub stays : StaysBut e start l

-- the visit is over
pub record IsVisitDone (e place : ℕ) (start l : LineValue) : Type 0 where
  pub good : IsGood l
  pub calls : Calls l (next_visit start place) (way_from (peer l.control) 0)
  pub visit_ready : IsReadyForVisitAt l e
  pub down : (s : ℕ) → s < length (peer_at l.control e).outbounds
      → block_count (outbound_of l.control e s).queue ≡ 0
  pub up : block_count (terminal_at l e).queue ≡ 0
  pub stays : StaysBut e start l

selection_at : (laws : VisitLaws) (n at more count e place : ℕ) (l new : LineValue)
    (r : Result (Unit {0}) Stopped) (s : ℕ) → IsGood l → current l.control ≡ e → l.control.place
    ≡ place → Calls l place (ToTerminal s) → IsReadyForVisitAt l e →
    block_count (outbound_of l.control e s).queue ≡ suc n → count ≡ 2 + 2 * suc n + more
    → Walks at count l r new → Comes (IsSelectionDone e place s l) more r new
selection_at laws n at more count e place l new r s g present here calls visit_ready number is w =
    subst (λ (p : ℕ). Comes (IsSelectionDone e p s l) more r new) here
    (subst (λ (z : ℕ). Comes (IsSelectionDone z l.control.place s l) more r new) present
    (selection_delivers_blocks laws n at more count l new r s g
    (subst (λ (p : ℕ). Calls l p (ToTerminal s)) (sym here) calls)
    (subst (λ (z : ℕ). IsTrue (terminal_at l z).ready) (sym present) visit_ready.ready)
    (subst (λ (z : ℕ). (terminal_at l z).urgent ≡ false) (sym present) visit_ready.urgent_at)
    (subst (λ (z : ℕ). block_count (outbound_of l.control z s).queue ≡ suc n) (sym present) number)
    is w))

poll_at : (laws : VisitLaws) (n at more count e place : ℕ) (l new : LineValue)
    (r : Result (Unit {0}) Stopped) → IsGood l → current l.control ≡ e → l.control.place ≡ place
    → Calls l place FromTerminal → IsReadyForVisitAt l e →
    block_count (terminal_at l e).queue ≡ n → count ≡ 2 + 2 * n + more → Walks at count l r new
    → Comes (IsPollDone e place l) more r new
poll_at laws n at more count e place l new r g present here calls visit_ready number is w =
    subst (λ (p : ℕ). Comes (IsPollDone e p l) more r new) here
    (subst (λ (z : ℕ). Comes (IsPollDone z l.control.place l) more r new) present
    (poll_delivers_blocks laws n at more count l new r g
    (subst (λ (p : ℕ). Calls l p FromTerminal) (sym here) calls)
    (subst (λ (z : ℕ). is_in_doubt (terminal_at l z).sender.phase ≡ false) (sym present)
    visit_ready.sure_up) (subst (λ (z : ℕ). (peer_at l.control z).urgent ≡ false) (sym present)
    visit_ready.urgent_for)
    (subst (λ (z : ℕ). block_count (terminal_at l z).queue ≡ n) (sym present) number) is w))

-- after the poll
visit_ends : (e place from i : ℕ) (start l new : LineValue) → e < length l.terminals
    → length (peer_at l.control e).outbounds ≤ from → IsVisited e place from i start l
    → IsPollDone e place l new → IsVisitDone e place start new
visit_ends e place from i start l new there all v h =
    let down : (s : ℕ) → outbound_of new.control e s ≡ outbound_of l.control e s =
    λ s. (h.stays.control.peers e).down s (λ same way. cc) in
    record {
      good = h.good;
      calls =
          subst (λ (p : ℕ). Calls new p (way_from (peer new.control) 0))
          (next_visit_stays start l place v.stays) h.calls;
      visit_ready = record {
        ready = (h.stays.terminals.terminals e there).ready ∙ v.visit_ready.ready;
        urgent_at = (h.stays.terminals.terminals e there).urgent v.visit_ready.urgent_at;
        urgent_for = (h.stays.control.peers e).urgent v.visit_ready.urgent_for;
        sure_up = h.sure;
        sure_down = λ s. ap (λ (o : OutboundValue). is_in_doubt o.sender.phase) (down s)
            ∙ v.visit_ready.sure_down s;
      };
      down = λ s less.
          let before : s < from = let count : length (peer_at new.control e).outbounds
          ≡ length (peer_at l.control e).outbounds = (h.stays.control.peers e).count in
          omega (arith, less, count, all) in
          ap (λ (o : OutboundValue). block_count o.queue) (down s) ∙ v.done s before;
      up = h.delivered;
      stays = but_then e start l new v.stays (but_of e FromTerminal l new h.stays);
    }

-- after a selection
selection_ends : (e place from i : ℕ) (start l new : LineValue) → e < length l.terminals
    → IsVisited e place from i start l → IsSelectionDone e place from l new
    → IsVisited e place (from + 1) i start new
selection_ends e place from i start l new there v h =
    let down : (s : ℕ) → s ≢ from → outbound_of new.control e s ≡ outbound_of l.control e s =
    λ s differ. (h.stays.control.peers e).down s
    (λ same way. differ (let both : ToTerminal s ≡ ToTerminal from = way in let it : s
    ≡ from = cc in it)) in
    let cur : current new.control ≡ e =
    current_of_same_place l.control new.control h.stays.control.poll_list
    (h.calls.called.place_is ∙ sym v.here) ∙ v.present in
    let idle : (outbound_of new.control e from).sender.phase ≡ Idle =
    subst (λ (z : ℕ). (outbound_of new.control z from).sender.phase ≡ Idle) cur h.idle in
    let delivered : block_count (outbound_of new.control e from).queue ≡ 0 =
    subst (λ (z : ℕ). block_count (outbound_of new.control z from).queue ≡ 0) cur h.delivered in
    let else_where : IsElsewhere e FromTerminal e (ToTerminal from) = λ same way. cc in
    record {
      good = h.good;
      present = cur;
      here = h.calls.called.place_is;
      calls =
          subst (λ (z : ℕ). Calls new place (way_from (peer_at new.control z) (from + 1))) cur
          h.calls;
      visit_ready = record {
        ready = (h.stays.terminals.terminals e there).ready ∙ v.visit_ready.ready;
        urgent_at = (h.stays.terminals.terminals e there).urgent v.visit_ready.urgent_at;
        urgent_for = (h.stays.control.peers e).urgent v.visit_ready.urgent_for;
        sure_up = ap is_in_doubt ((h.stays.terminals.terminals e there).phase else_where)
            ∙ v.visit_ready.sure_up;
        sure_down = λ s.
            elim (same_or_not s from) [
              | inl same ↦ subst (λ (z : ℕ). is_in_doubt (outbound_of new.control e z).sender.phase
                  ≡ false) (sym same) (ap is_in_doubt idle)
              | inr differ ↦ ap (λ (o : OutboundValue). is_in_doubt o.sender.phase) (down s differ)
                  ∙ v.visit_ready.sure_down s
            ];
      };
      done = λ s less.
          elim (same_or_not s from) [
            | inl same ↦ subst (λ (z : ℕ). block_count (outbound_of new.control e z).queue ≡ 0)
                (sym same) delivered
            | inr differ ↦ ap (λ (o : OutboundValue). block_count o.queue) (down s differ)
                ∙ v.done s (omega (arith, less, differ))
          ];
      blocks_up = ap block_count ((h.stays.terminals.terminals e there).queue else_where)
          ∙ v.blocks_up;
      stays = but_then e start l new v.stays (but_of e (ToTerminal from) l new h.stays);
    }

-- an address is called if records wait for it without doubt
pub true_or_false : (b : Bool) → (b ≡ true) ⊎ (b ≡ false)
true_or_false true = inl refl
true_or_false false = inr refl

some_by : (n : ℕ) (c : Bool) → nat_eq n 0 ≡ c → not c ≡ true → 0 < n
some_by n true e k = absurd (cc)
some_by n false e k = grind (arith, nat_tests)

none_by : (n : ℕ) (c : Bool) → nat_eq n 0 ≡ c → not c ≡ false → n ≡ 0
none_by n true e k = grind (arith, nat_tests)
none_by n false e k = absurd (cc)

selectable_has_waiting : (o : OutboundValue) (b : Bool) → is_in_doubt o.sender.phase ≡ b → is_selectable o ≡ true → 0
    < length (waiting o.queue)
selectable_has_waiting o true e some = let never : is_selectable o ≡ false =
    ap (λ (c : Bool). if c then false else not (nat_eq (length (waiting o.queue)) 0)) e in
    absurd (cc)
selectable_has_waiting o false e some =
    some_by (length (waiting o.queue)) (nat_eq (length (waiting o.queue)) 0) refl
    (sym (ap (λ (c : Bool). if c then false else not (nat_eq (length (waiting o.queue)) 0)) e)
    ∙ some)

none_waits : (o : OutboundValue) → is_in_doubt o.sender.phase ≡ false → is_selectable o ≡ false
    → length (waiting o.queue) ≡ 0
none_waits o e none =
    none_by (length (waiting o.queue)) (nat_eq (length (waiting o.queue)) 0) refl
    (sym (ap (λ (c : Bool). if c then false else not (nat_eq (length (waiting o.queue)) 0)) e)
    ∙ none)

no_blocks : (laws : CutLaws) (q : QueueValue) (rs : List (List ℕ)) → waiting q ≡ rs → length rs ≡ 0
    → block_count q ≡ 0
no_blocks laws q [] is none = ap (λ (xs : List (List ℕ)). length (blocks q.format xs)) is
    ∙ ap (λ (bs : List (List (List ℕ))). length bs) (laws.none q.format)
no_blocks laws q (x ∷ rs) is none = absurd (omega (arith, none))

-- an address for which no record waits is passed over
passes_over : (laws : VisitLaws) (e place from i : ℕ) (start l : LineValue) → from
    < length (peer_at l.control e).outbounds → is_selectable (outbound_of l.control e from) ≡ false
    → IsVisited e place from i start l → IsVisited e place (from + 1) i start l
passes_over laws e place from i start l there none v =
    let os : List OutboundValue = (peer_at l.control e).outbounds in
    let o : OutboundValue = outbound_of l.control e from in
    let first : drop from os ≡ o ∷ drop (suc from) os = drop-cons os from no_outbound there in
    let more : suc from ≡ from + 1 = omega arith in
    let way : way_from (peer_at l.control e) from ≡ way_from (peer_at l.control e) (from + 1) =
    ap (λ (xs : List OutboundValue). way_in from xs) first
    ∙ later_way from o (drop (suc from) os) none
    ∙ ap (λ (k : ℕ). way_in (from + 1) (drop k os)) more in
    let nothing : block_count o.queue ≡ 0 =
    no_blocks laws.cuts o.queue (waiting o.queue) refl
    (none_waits o (v.visit_ready.sure_down from) none) in
    record {
      good = v.good;
      present = v.present;
      here = v.here;
      calls = subst (λ (w : Way). Calls l place w) way v.calls;
      visit_ready = v.visit_ready;
      done = λ s less.
          elim (same_or_not s from) [
            | inl same ↦ subst (λ (z : ℕ). block_count (outbound_of l.control e z).queue ≡ 0)
                (sym same) nothing
            | inr differ ↦ v.done s (omega (arith, less, differ))
          ];
      blocks_up = v.blocks_up;
      stays = v.stays;
    }

-- an address for which records wait is called
some_to_send : (laws : VisitLaws) (e from : ℕ) (l : LineValue) → IsGood l → current l.control ≡ e
    → from < length (peer_at l.control e).outbounds → is_selectable (outbound_of l.control e from)
    ≡ true → (n : ℕ) × (block_count (outbound_of l.control e from).queue ≡ suc n)
some_to_send laws e from l g present there some =
    let o : OutboundValue = outbound_of l.control e from in
    let inside : e < length l.control.peers =
    subst (λ (z : ℕ). z < length l.control.peers) present
    (current_within_peers l.control (good_places l g)) in
    let is : IsPeer (peer_at l.control e) =
    All-get_or IsPeer l.control.peers e no_peer inside g.line.stations.control.entries.peers in
    let ready : IsOutbound o =
    All-get_or IsOutbound (peer_at l.control e).outbounds from no_outbound there is.ready in
    blocks_of_some_records laws.cuts o.queue.format (waiting o.queue) ready.queue.format
    (laws.cuts.rest o.queue.format.full o.queue.known o.queue.offered ready.queue.short)
    (selectable_has_waiting o (is_in_doubt o.sender.phase) refl some)

calls_it : (e place from i : ℕ) (start l : LineValue) → from
    < length (peer_at l.control e).outbounds → is_selectable (outbound_of l.control e from) ≡ true
    → IsVisited e place from i start l → Calls l place (ToTerminal from)
calls_it e place from i start l there some v =
    let first : drop from (peer_at l.control e).outbounds ≡ outbound_of l.control e from
    ∷ drop (suc from) (peer_at l.control e).outbounds =
    drop-cons (peer_at l.control e).outbounds from no_outbound there in
    subst (λ (w : Way). Calls l place w)
    (ap (λ (os : List OutboundValue). way_in from os) first
    ∙ first_way from (outbound_of l.control e from)
    (drop (suc from) (peer_at l.control e).outbounds) some) v.calls

polls_it : (e place from i : ℕ) (start l : LineValue) → length (peer_at l.control e).outbounds
    ≤ from → IsVisited e place from i start l → Calls l place FromTerminal
polls_it e place from i start l all v =
    subst (λ (w : Way). Calls l place w)
    (ap (λ (os : List OutboundValue). way_in from os)
    (drop_all from (peer_at l.control e).outbounds all)) v.calls

-- the visit, from this selection address on
pub visit_from : (laws : VisitLaws) (k at more count e place from i : ℕ) (start l new : LineValue)
    (r : Result (Unit {0}) Stopped) → IsVisited e place from i start l → e < length l.terminals
    → from + k ≡ length (peer_at l.control e).outbounds →
    count ≡ selections_length (peer_at l.control e) from k + poll_length i + more
    → Walks at count l r new → Comes (IsVisitDone e place start) more r new
visit_from laws zero at more count e place from i start l new r v there number is w =
    let all : length (peer_at l.control e).outbounds ≤ from = omega (arith, number) in
    let x : Comes (IsPollDone e place l) more r new =
    poll_at laws i at more count e place l new r v.good v.present v.here
    (polls_it e place from i start l all v) v.visit_ready v.blocks_up (omega (arith, is)) w in
    record {
      at = x.at;
      line = x.line;
      holds =
          visit_ends e place from i start l x.line there all v x.holds;
      rest = x.rest;
    }
visit_from laws (suc k) at more count e place from i start l new r v there number is w =
    let p : PeerValue = peer_at l.control e in
    let inside : from < length p.outbounds = omega (arith, number) in
    let rest : ℕ = selections_length p (from + 1) k + poll_length i + more in
    elim (true_or_false (is_selectable (outbound_of l.control e from))) [
      | inl some ↦
          (let n : (n : ℕ) × (block_count (outbound_of l.control e from).queue ≡ suc n) =
          some_to_send laws e from l v.good v.present inside some in
          let sum : count ≡ selection_length (suc n.0) + selections_length p (from + 1) k
          + poll_length i + more =
          subst (λ (j : ℕ). count ≡ selection_length j + selections_length p (from + 1) k
          + poll_length i + more) n.1 is in
          let x : Comes (IsSelectionDone e place from l) rest r new =
          selection_at laws n.0 at rest count e place l new r from v.good v.present v.here
          (calls_it e place from i start l inside some v) v.visit_ready n.1 (omega (arith, sum)) w in
          let q : PeerValue = peer_at x.line.control e in
          let same : selections_length q (from + 1) k ≡ selections_length p (from + 1) k =
          same_lengths p q (from + 1) k (λ s less. (x.holds.stays.control.peers e).down s
          (λ here way. let both : ToTerminal s ≡ ToTerminal from = way in let it : s ≡ from =
          cc in omega (arith, less, it))) in
          let long : length q.outbounds ≡ length p.outbounds =
          (x.holds.stays.control.peers e).count in
          let still : e < length x.line.terminals = let kept : length x.line.terminals
          ≡ length l.terminals = x.holds.stays.terminals.count in omega (arith, there, kept) in
          visit_from laws k x.at more rest e place (from + 1) i start x.line new r
          (selection_ends e place from i start l x.line there v x.holds) still
          (omega (arith, number, long)) (omega (arith, same)) x.rest)
      | inr none ↦
          (let nothing : block_count (outbound_of l.control e from).queue ≡ 0 =
          (passes_over laws e place from i start l inside none v).done from (omega arith) in
          let sum : count ≡ selection_length 0 + selections_length p (from + 1) k + poll_length i
          + more =
          subst (λ (j : ℕ). count ≡ selection_length j + selections_length p (from + 1) k
          + poll_length i + more) nothing is in
          visit_from laws k at more count e place (from + 1) i start l new r
          (passes_over laws e place from i start l inside none v) there (omega (arith, number))
          (omega (arith, sum)) w)
    ]
