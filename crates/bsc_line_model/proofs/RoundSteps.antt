-- A round of the poll list in which all is heard: a visit of each entry whose terminal is polled,
-- in which no record waits for a terminal that was visited before.
use Rattle.std.proofs.Common.{◌≡◌, ◌≢◌, inl, inr, ℕ, zero, suc, ◌+◌, ◌<◌, true, false, Bool}
use Rattle.std.proofs.Common.{nat_eq, is_some, position, filter, List, [], ◌∷◌, length, drop, get_or}
use Rattle.std.proofs.Common.{Option, option_map, None, Some, Result, refl, sym, ◌∙◌, ap, subst, arith}
use Rattle.std.proofs.Common.{if◌then◌else◌}
use Rattle.std.proofs.Math.Seq.{drop-cons}
use Rattle.std.proofs.lemmas.Bool.Decides.{nat_tests}
use Rattle.std.proofs.lemmas.List.{drop_all}
use Rattle.bsc_spool.specs.Queue.{QueueValue}
use Rattle.bsc_bid.specs.Sender.{is_in_doubt}
use Rattle.bsc_control.specs.Peer.{PeerValue, OutboundValue}
use Rattle.bsc_control.specs.Control.{ControlValue, peer_at, peer, current, terminal_of_entry}
use Rattle.bsc_control.specs.CallOrder.{way_from, wrapped, is_polled, passed_over, place_past}
use Rattle.bsc_control.specs.CallOrder.{polled_place}
use Rattle.bsc_control.specs.Kept.{outbound_of}
use Rattle.bsc_line_model.specs.declared.error.Stopped.{Stopped}
use Rattle.bsc_line_model.specs.Line.{LineValue, terminal_at, terminal_count}
use Rattle.bsc_line_model.specs.Rounds.{block_count, poll_length, visit_length, entries_length}
use Rattle.bsc_line_model.specs.Rounds.{is_seen, entry_at, next_visit, IsPolledEntry}
use Rattle.bsc_line_model.specs.Rounds.{WholeListIsVisited, WholeListPassesNone}
use Rattle.bsc_control.proofs.Passing.{no_further, passes_none, polled_place_past_one}
use Rattle.bsc_control.proofs.Passing.{polled_place_alike}
use Rattle.bsc_control.proofs.Positions.{position_at_front, position_later}
use Rattle.bsc_line_model.proofs.Stations.{same_or_not}
use Rattle.bsc_line_model.proofs.Walking.{IsGood, Walks, good_places}
use Rattle.bsc_line_model.proofs.Selections.{VisitLaws, Comes, Calls}
use Rattle.bsc_line_model.proofs.Visits.{StaysBut, but_same, IsReadyForVisitAt, IsVisited}
use Rattle.bsc_line_model.proofs.Visits.{IsVisitDone}
use Rattle.bsc_line_model.proofs.Visits.{selections_length, same_lengths, true_or_false}
use Rattle.bsc_line_model.proofs.Visits.{visit_from}
use Rattle.bsc_line_model.proofs.VisitCounts.{visit_is, no_selections}

-- one more terminal was visited
pub seen_unless_visited_now : (t e : ℕ) (seen : List ℕ) → t ≢ e → is_seen t (e ∷ seen) ≡ is_seen t seen
seen_unless_visited_now t e seen differ =
    let no : nat_eq t e ≡ false = grind (arith, nat_tests) in
    ap (is_some {T = ℕ}) (position_later (nat_eq t) e seen no)
    ∙ some_of_mapped (position (nat_eq t) seen)
  where
    some_of_mapped : (o : Option ℕ) → is_some (option_map (λ (k : ℕ). 1 + k) o) ≡ is_some o
    some_of_mapped None = refl
    some_of_mapped (Some k) = refl

pub visited_now_is_seen : (t e : ℕ) (seen : List ℕ) → t ≡ e → is_seen t (e ∷ seen) ≡ true
visited_now_is_seen t e seen same =
    let yes : nat_eq t e ≡ true = grind (arith, nat_tests) in
    ap (is_some {T = ℕ}) (position_at_front (nat_eq t) e seen yes)

-- no record waits on the channels of terminal t
pub record IsEmptied (l : LineValue) (t : ℕ) : Type 0 where
  pub down : (s : ℕ) → s < length (peer_at l.control t).outbounds
      → block_count (outbound_of l.control t s).queue ≡ 0
  pub up : block_count (terminal_at l t).queue ≡ 0

-- the round has reached entry k
pub record IsRoundAt (start l : LineValue) (k : ℕ) (seen : List ℕ) : Type 0 where
  pub good : IsGood l
  pub list : l.control.poll_list ≡ start.control.poll_list
  pub count : length l.terminals ≡ length start.terminals
  pub polled : (t : ℕ) → (peer_at l.control t).polled ≡ (peer_at start.control t).polled
  pub calls : Calls l (polled_place start.control (wrapped (length start.control.poll_list) k))
      (way_from (peer l.control) 0)
  pub visit_ready : (j : ℕ) → j < length start.control.poll_list → IsPolledEntry start j
      → IsReadyForVisitAt l (get_or start.control.poll_list j 0)
  pub visited : (t : ℕ) → t < length start.terminals → is_seen t seen ≡ true → IsEmptied l t
  pub passed : (j : ℕ) → j < k → IsPolledEntry start j
      → is_seen (get_or start.control.poll_list j 0) seen ≡ true
  pub fresh : (t : ℕ) → t < length start.terminals → is_seen t seen ≡ false → visit_length l t
      ≡ visit_length start t

-- the length of a visit of a terminal that was visited before
emptied_length : (l : LineValue) (t : ℕ) → IsEmptied l t → visit_length l t ≡ 2
emptied_length l t h =
    visit_is l t ∙ ap (λ (n : ℕ). n + poll_length (block_count (terminal_at l t).queue))
    (no_selections (peer_at l.control t) 0 (length (peer_at l.control t).outbounds)
    (omega arith) h.down)
    ∙ (let none : block_count (terminal_at l t).queue ≡ 0 = h.up in omega (arith, none))

other_terminal_stays_emptied : (e t : ℕ) (a l : LineValue) → t < length a.terminals → t ≢ e → StaysBut e a l
    → IsEmptied a t → IsEmptied l t
other_terminal_stays_emptied e t a l less differ h x =
    record {
      down = λ s inside.
          let before : s < length (peer_at a.control t).outbounds =
          subst (λ (n : ℕ). s < n) (h.lists t) inside in
          ap (λ (o : OutboundValue). block_count o.queue) (h.outbound t s differ) ∙ x.down s before;
      up = ap block_count (h.queue t less differ) ∙ x.up;
    }

-- the lengths of the visits of other terminals
other_visit_length_unchanged : (e t : ℕ) (a l : LineValue) → t < length a.terminals → t ≢ e → StaysBut e a l
    → visit_length l t ≡ visit_length a t
other_visit_length_unchanged e t a l less differ h =
    let p : PeerValue = peer_at a.control t in
    let q : PeerValue = peer_at l.control t in
    let sums : selections_length q 0 (length p.outbounds)
    ≡ selections_length p 0 (length p.outbounds) =
    same_lengths p q 0 (length p.outbounds) (λ s from. h.outbound t s differ) in
    visit_is l t ∙ ap (λ (n : ℕ). selections_length q 0 n
    + poll_length (block_count (terminal_at l t).queue)) (h.lists t)
    ∙ ap (λ (n : ℕ). n + poll_length (block_count (terminal_at l t).queue)) sums
    ∙ ap (λ (x : QueueValue). selections_length p 0 (length p.outbounds)
    + poll_length (block_count x)) (h.queue t less differ) ∙ sym (visit_is a t)

-- the other terminals stay ready for a visit
pub still_visit_ready : (e t : ℕ) (a l : LineValue) → t < length a.terminals → t ≢ e → StaysBut e a l
    → IsReadyForVisitAt a t → IsReadyForVisitAt l t
still_visit_ready e t a l less differ h c =
    record {
      ready = h.ready t less ∙ c.ready;
      urgent_at = h.urgent_at t less c.urgent_at;
      urgent_for = h.urgent_for t c.urgent_for;
      sure_up = ap is_in_doubt (h.phase t less differ) ∙ c.sure_up;
      sure_down =
          λ s. ap (λ (o : OutboundValue). is_in_doubt o.sender.phase) (h.outbound t s differ)
          ∙ c.sure_down s;
    }

pub next_place_before_last : (k n : ℕ) → k < n → (b : Bool) → nat_eq k n ≡ b → (if b then 0 else k) ≡ k
next_place_before_last k n less true e = absurd (grind (arith, nat_tests))
next_place_before_last k n less false e = refl

-- an entry whose terminal is polled is the first one from it on
pub polled_place_here : (c : ControlValue) (place : ℕ) → place < length c.poll_list
    → is_polled c (terminal_of_entry c place) ≡ true → polled_place c place ≡ place
polled_place_here c place within is =
    ap (place_past (length c.poll_list) place) (passes_none c place within is)
    ∙ no_further (length c.poll_list) place within

-- if all pass, a filter keeps all
all_are_kept : (p : ℕ → Bool) (xs : List ℕ) → ((k : ℕ) → k < length xs → p (get_or xs k 0) ≡ true)
    → filter p xs ≡ xs
all_are_kept p [] all = refl
all_are_kept p (x ∷ xs) all =
    ap (λ (b : Bool). if b then x ∷ filter p xs else filter p xs) (all 0 (omega arith))
    ∙ ap (λ (ys : List ℕ). x ∷ ys)
    (all_are_kept p xs (λ k less. all (suc k) (omega (arith, less))))

pub whole_list_is_visited : WholeListIsVisited
whole_list_is_visited l whole =
    all_are_kept (is_polled l.control) l.control.poll_list whole

pub whole_list_passes_none : WholeListPassesNone
whole_list_passes_none l place whole within =
    polled_place_here l.control place within (whole place within)

-- the visit of entry k
visit_entry : (laws : VisitLaws) (at more count k : ℕ) (seen : List ℕ) (start l new : LineValue)
    (r : Result (Unit {0}) Stopped) → IsRoundAt start l k seen → k < length start.control.poll_list
    → IsPolledEntry start k →
    let e : ℕ = get_or start.control.poll_list k 0 in
    (e < length l.terminals → count ≡ visit_length l e + more → Walks at count l r new
    → Comes (IsVisitDone e k l) more r new)
visit_entry laws at more count k seen start l new r h less on_list there is w =
    let e : ℕ = get_or start.control.poll_list k 0 in
    let p : PeerValue = peer_at l.control e in
    let i : ℕ = block_count (terminal_at l e).queue in
    let wrap : polled_place start.control (wrapped (length start.control.poll_list) k) ≡ k =
    ap (polled_place start.control)
    (next_place_before_last k (length start.control.poll_list) less
    (nat_eq k (length start.control.poll_list)) refl)
    ∙ polled_place_here start.control k less on_list in
    let here : l.control.place ≡ k = h.calls.called.place_is ∙ wrap in
    let cur : current l.control ≡ e = ap (λ (n : ℕ). get_or l.control.poll_list n 0) here
    ∙ ap (λ (list : List ℕ). get_or list k 0) h.list in
    let calls : Calls l k (way_from (peer l.control) 0) =
    subst (λ (n : ℕ). Calls l n (way_from (peer l.control) 0)) wrap h.calls in
    let v : IsVisited e k 0 i l l = record {
      good = h.good;
      present = cur;
      here = here;
      calls = subst (λ (z : ℕ). Calls l k (way_from (peer_at l.control z) 0)) cur calls;
      visit_ready = h.visit_ready k less on_list;
      done = λ s never. absurd (omega arith);
      blocks_up = refl;
      stays = but_same e l;
    } in
    let number : visit_length l e ≡ selections_length p 0 (length p.outbounds) + poll_length i =
    visit_is l e in
    visit_from laws (length p.outbounds) at more count e k 0 i l l new r v there (omega arith)
    (omega (arith, is, number)) w

-- an entry names a terminal
pub entry_names_terminal : (l : LineValue) (j : ℕ) → IsGood l → j < length l.control.poll_list → entry_at l j
    < terminal_count l
entry_names_terminal l j g less =
    subst (λ (n : ℕ). entry_at l j < n) g.line.stations.count
    ((good_places l g).entries j 0 less)

entry_length : (e : ℕ) (seen : List ℕ) (start l : LineValue)
    → (is_seen e seen ≡ true → IsEmptied l e)
    → (is_seen e seen ≡ false → visit_length l e ≡ visit_length start e) → (b : Bool)
    → is_seen e seen ≡ b → visit_length l e ≡ (if is_seen e seen then 2 else visit_length start e)
entry_length e seen start l old fresh true is = emptied_length l e (old is)
    ∙ ap (λ (b : Bool). if b then 2 else visit_length start e) (sym is)
entry_length e seen start l old fresh false is = fresh is
    ∙ ap (λ (b : Bool). if b then 2 else visit_length start e) (sym is)

-- the terminals of the entries from k on that are polled
abbrev polled_from : LineValue → ℕ → List ℕ
polled_from l k = filter (is_polled l.control) (drop k l.control.poll_list)

-- an entry whose terminal is not polled is passed over
pass_entry : (k : ℕ) (seen : List ℕ) (start l : LineValue) → IsRoundAt start l k seen
    → k < length start.control.poll_list
    → is_polled start.control (entry_at start k) ≡ false
    → (passed_over start.control k ≡ None → ⊥) → IsRoundAt start l (k + 1) seen
pass_entry k seen start l h less off some =
    let n : ℕ = length start.control.poll_list in
    let here : polled_place start.control (wrapped n k)
    ≡ polled_place start.control (wrapped n (k + 1)) =
    ap (polled_place start.control) (next_place_before_last k n less (nat_eq k n) refl)
    ∙ polled_place_past_one start.control k less off some in
    record {
      good = h.good;
      list = h.list;
      count = h.count;
      polled = h.polled;
      calls = subst (λ (p : ℕ). Calls l p (way_from (peer l.control) 0)) here h.calls;
      visit_ready = h.visit_ready;
      visited = h.visited;
      passed = λ j before on_list.
          elim (same_or_not j k) [
            | inl same ↦ absurd
                (let both : true ≡ false = sym on_list
                ∙ ap (λ (i : ℕ). is_polled start.control (entry_at start i)) same ∙ off in
                cc)
            | inr differ ↦ h.passed j (omega (arith, before, differ)) on_list
          ];
      fresh = h.fresh;
    }

-- an entry was visited
entry_visited : (k : ℕ) (seen : List ℕ) (start l x : LineValue) → IsRoundAt start l k seen
    → k < length start.control.poll_list
    → ((j : ℕ) → j < length start.control.poll_list
    → get_or start.control.poll_list j 0 < length l.terminals)
    → IsVisitDone (get_or start.control.poll_list k 0) k l x
    → IsRoundAt start x (k + 1) (get_or start.control.poll_list k 0 ∷ seen)
entry_visited k seen start l x h less there done =
    let list : List ℕ = start.control.poll_list in
    let e : ℕ = get_or list k 0 in
    let next : next_visit l k ≡ polled_place start.control (wrapped (length list) (k + 1)) =
    ap (λ (ts : List ℕ). polled_place l.control (wrapped (length ts) (k + 1))) h.list
    ∙ polled_place_alike start.control l.control h.list h.polled
    (wrapped (length list) (k + 1)) in
    record {
      good = done.good;
      list = done.stays.poll_list ∙ h.list;
      count = done.stays.count ∙ h.count;
      polled = λ t. done.stays.polled t ∙ h.polled t;
      calls = subst (λ (p : ℕ). Calls x p (way_from (peer x.control) 0)) next done.calls;
      visit_ready = λ j inside on_list.
          elim (same_or_not (get_or list j 0) e) [
            | inl same ↦ subst (λ (t : ℕ). IsReadyForVisitAt x t) (sym same) done.visit_ready
            | inr differ ↦ still_visit_ready e (get_or list j 0) l x (there j inside) differ
                done.stays (h.visit_ready j inside on_list)
          ];
      visited = λ t inside seen_it.
          elim (same_or_not t e) [
            | inl same ↦ subst (λ (z : ℕ). IsEmptied x z) (sym same)
                (record { down = done.down; up = done.up })
            | inr differ ↦ other_terminal_stays_emptied e t l x
                (subst (λ (n : ℕ). t < n) (sym h.count) inside) differ done.stays
                (h.visited t inside (sym (seen_unless_visited_now t e seen differ) ∙ seen_it))
          ];
      passed = λ j before on_list.
          elim (same_or_not (get_or list j 0) e) [
            | inl same ↦ visited_now_is_seen (get_or list j 0) e seen same
            | inr differ ↦
                (let other : j ≢ k = λ same. differ (ap (λ (n : ℕ). get_or list n 0) same) in
                seen_unless_visited_now (get_or list j 0) e seen differ
                ∙ h.passed j (omega (arith, before, other)) on_list)
          ];
      fresh = λ t inside not_seen.
          elim (same_or_not t e) [
            | inl same ↦ absurd (let now : is_seen t (e ∷ seen) ≡ true = visited_now_is_seen t e seen same in
                let both : true ≡ false = sym now ∙ not_seen in cc)
            | inr differ ↦ other_visit_length_unchanged e t l x (subst (λ (n : ℕ). t < n) (sym h.count) inside)
                differ done.stays ∙ h.fresh t inside (sym (seen_unless_visited_now t e seen differ) ∙ not_seen)
          ];
    }

-- the entries from k on
pub round_from : (laws : VisitLaws) (m at more count k : ℕ) (seen : List ℕ)
    (start l new : LineValue) (r : Result (Unit {0}) Stopped) → IsRoundAt start l k seen → k + m
    ≡ length start.control.poll_list →
    ((j : ℕ) → j < length start.control.poll_list → passed_over start.control j ≡ None → ⊥) →
    count ≡ entries_length start seen (polled_from start k) + more
    → Walks at count l r new →
    Comes (λ z. (seen : List ℕ) × IsRoundAt start z (length start.control.poll_list) seen) more r
    new
round_from laws zero at more count k seen start l new r h number some is w =
    let end : k ≡ length start.control.poll_list = omega (arith, number) in
    let none : entries_length start seen (polled_from start k) ≡ 0 =
    ap (λ (ts : List ℕ). entries_length start seen (filter (is_polled start.control) ts))
    (drop_all k start.control.poll_list (omega (arith, end))) in
    let left : count ≡ more = omega (arith, is, none) in
    record {
      at = at;
      line = l;
      holds = (seen, subst (λ (j : ℕ). IsRoundAt start l j seen) end h);
      rest = subst (λ (j : ℕ). Walks at j l r new) left w;
    }
round_from laws (suc m) at more count k seen start l new r h number some is w =
    let list : List ℕ = start.control.poll_list in
    let e : ℕ = get_or list k 0 in
    let less : k < length list = omega (arith, number) in
    let there : (j : ℕ) → j < length list → get_or list j 0 < length l.terminals =
    λ j inside. subst (λ (ts : List ℕ). get_or ts j 0 < length l.terminals) h.list
    (entry_names_terminal l j h.good (subst (λ (ts : List ℕ). j < length ts) (sym h.list) inside)) in
    let here : e < length l.terminals = there k less in
    let here_first : e < length start.terminals = subst (λ (n : ℕ). e < n) h.count here in
    let next : suc k ≡ k + 1 = omega arith in
    let cut : drop k list ≡ e ∷ drop (k + 1) list = drop-cons list k 0 less
    ∙ ap (λ (j : ℕ). e ∷ drop j list) next in
    elim (true_or_false (is_polled start.control e)) [
      | inl on_list ↦
          (let rest : ℕ = entries_length start (e ∷ seen) (polled_from start (k + 1)) + more in
          let parts : polled_from start k ≡ e ∷ polled_from start (k + 1) =
          ap (filter (is_polled start.control)) cut
          ∙ ap (λ (b : Bool). if b then e ∷ polled_from start (k + 1)
          else polled_from start (k + 1)) on_list in
          let sum : count ≡ (if is_seen e seen then 2 else visit_length start e)
          + entries_length start (e ∷ seen) (polled_from start (k + 1)) + more = is
          ∙ ap (λ (ts : List ℕ). entries_length start seen ts + more) parts in
          let this : visit_length l e ≡ (if is_seen e seen then 2 else visit_length start e) =
          entry_length e seen start l (h.visited e here_first) (h.fresh e here_first)
          (is_seen e seen) refl in
          let x : Comes (IsVisitDone e k l) rest r new =
          visit_entry laws at rest count k seen start l new r h less on_list here
          (omega (arith, sum, this)) w in
          round_from laws m x.at more rest (k + 1) (e ∷ seen) start x.line new r
          (entry_visited k seen start l x.line h less there x.holds) (omega (arith, number)) some
          refl x.rest)
      | inr off ↦
          (let parts : polled_from start k ≡ polled_from start (k + 1) =
          ap (filter (is_polled start.control)) cut
          ∙ ap (λ (b : Bool). if b then e ∷ polled_from start (k + 1)
          else polled_from start (k + 1)) off in
          round_from laws m at more count (k + 1) seen start l new r
          (pass_entry k seen start l h less off (some k less)) (omega (arith, number)) some
          (is ∙ ap (λ (ts : List ℕ). entries_length start seen ts + more) parts) w)
    ]
