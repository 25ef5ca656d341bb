-- Steps that change sending sides of a control station, one at a time.
use Rattle.std.proofs.Common.{◌≡◌, ◌≢◌, ◌⊎◌, ◌∙◌, ◌≤◌, ◌<◌, ℕ, zero, suc, List, [], ◌∷◌, ◌++◌}
use Rattle.std.proofs.Common.{length, refl, sym, ap, subst, inl, inr, arith}
use Rattle.std.proofs.lemmas.Bool.{cases_lt}
use Rattle.bsc_bid.specs.Terminal.{TerminalValue}
use Rattle.bsc_control.specs.declared.task.Task.TheVariants.{AtRest}
use Rattle.bsc_control.specs.Control.{ControlValue, peer_at, with_peer}
use Rattle.bsc_control.specs.Kept.{outbound_of}
use Rattle.bsc_control.specs.Peer.{OutboundValue, PeerValue, no_outbound, no_peer, outbound_at}
use Rattle.bsc_control.specs.Peer.{with_outbound}
use Rattle.bsc_control.proofs.PeerLists.{value_kept_by_set}
use Rattle.bsc_spool.specs.declared.channel.Channel.{Channel}
use Rattle.bsc_spool.specs.declared.ends.Sending.{Sending}
use Rattle.bsc_keeping.specs.Own.{channel_to, each_of, selection_of, selections_at, sending_end}
use Rattle.bsc_keeping.specs.Own.{terminal_at}
use Rattle.bsc_restarts.proofs.Lists.{at_set, length_of_set, other_of_set}

-- the station has such a side
pub record HasSide (x : ControlValue) (t s : ℕ) : Type 0 where
  pub peer : t < length x.peers
  pub outbound : s < length (peer_at x t).outbounds

-- nothing of a station changes but its sending sides
pub record OnlySides (x y : ControlValue) : Type 0 where
  pub task : y.task ≡ x.task
  pub peers : length y.peers ≡ length x.peers
  pub spools : (i : ℕ) → (peer_at y i).spool ≡ (peer_at x i).spool
  pub lengths : (i : ℕ) → length (peer_at y i).outbounds ≡ length (peer_at x i).outbounds

pub no_side : (x y : ControlValue) → y ≡ x → OnlySides x y
no_side x y is = record {
  task = ap (λ (c : ControlValue). c.task) is;
  peers = ap (λ (c : ControlValue). length c.peers) is;
  spools = λ i. ap (λ c. (peer_at c i).spool) is;
  lengths = λ i. ap (λ c. length (peer_at c i).outbounds) is;
}

pub sides_then : (x y z : ControlValue) → OnlySides x y → OnlySides y z → OnlySides x z
sides_then x y z one two = record {
  task = two.task ∙ one.task;
  peers = two.peers ∙ one.peers;
  spools = λ i. two.spools i ∙ one.spools i;
  lengths = λ i. two.lengths i ∙ one.lengths i;
}

pub still_has : (x y : ControlValue) (t s : ℕ) → OnlySides x y → HasSide x t s → HasSide y t s
still_has x y t s only has = record {
  peer = omega (arith, has.peer, only.peers);
  outbound = omega (arith, has.outbound, only.lengths t);
}

-- the station with this sending side
abbrev pub set_side : ControlValue → ℕ → ℕ → OutboundValue → ControlValue
set_side x t s o = with_peer x t (with_outbound (peer_at x t) s o)

pub only_set : (x : ControlValue) (t s : ℕ) (o : OutboundValue) → OnlySides x (set_side x t s o)
only_set x t s o =
    let p = with_outbound (peer_at x t) s o in
    record {
      task = refl;
      peers = length_of_set x.peers t p;
      spools = λ i. value_kept_by_set (λ (q : PeerValue). q.spool) x.peers t i p no_peer refl;
      lengths = λ i.
          value_kept_by_set (λ (q : PeerValue). length q.outbounds) x.peers t i p no_peer
          (length_of_set (peer_at x t).outbounds s o);
    }

pub other_side : (x : ControlValue) (t s : ℕ) (o : OutboundValue) (i j : ℕ)
    → (i ≢ t) ⊎ (j ≢ s) → outbound_of (set_side x t s o) i j ≡ outbound_of x i j
other_side x t s o i j (inl other) =
    ap (λ p. outbound_at p j)
    (other_of_set x.peers t i (with_outbound (peer_at x t) s o) no_peer other)
other_side x t s o i j (inr other) =
    value_kept_by_set (λ p. outbound_at p j) x.peers t i (with_outbound (peer_at x t) s o) no_peer
    (other_of_set (peer_at x t).outbounds s j o no_outbound other)

pub this_side : (x : ControlValue) (t s : ℕ) (o : OutboundValue) → HasSide x t s
    → outbound_of (set_side x t s o) t s ≡ o
this_side x t s o has =
    ap (λ p. outbound_at p s)
    (at_set x.peers t (with_outbound (peer_at x t) s o) no_peer has.peer)
    ∙ at_set (peer_at x t).outbounds s o no_outbound has.outbound

-- a step for the channel of an end changes only its sending side, and that as g says
pub record ChangesSide (act : Sending → ControlValue → ControlValue)
    (g : Channel → OutboundValue → OutboundValue) : Type 0 where
  pub only : (e : Sending) (x : ControlValue) → OnlySides x (act e x)
  pub others : (e : Sending) (x : ControlValue) (i j : ℕ) → (i ≢ e.terminal) ⊎ (j ≢ e.select)
      → outbound_of (act e x) i j ≡ outbound_of x i j
  pub this : (e : Sending) (x : ControlValue) → HasSide x e.terminal e.select → x.task ≡ AtRest
      → outbound_of (act e x) e.terminal e.select
      ≡ g e.channel (outbound_of x e.terminal e.select)

-- the steps for all of these ends, in order
abbrev pub each : (Sending → ControlValue → ControlValue) → List Sending → ControlValue
    → ControlValue
each act [] x = x
each act (e ∷ es) x = each act es (act e x)

each_then : (act : Sending → ControlValue → ControlValue) (es fs : List Sending)
    (x : ControlValue) → each act (es ++ fs) x ≡ each act fs (each act es x)
each_then act [] fs x = refl
each_then act (e ∷ es) fs x = each_then act es fs (act e x)

-- the first sending sides of a terminal are changed
record FirstSides (g : Channel → OutboundValue → OutboundValue) (term : TerminalValue) (t n : ℕ)
    (x y : ControlValue) : Type 0 where
  only : OnlySides x y
  others : (i j : ℕ) → (i ≢ t) ⊎ (n ≤ j) → outbound_of y i j ≡ outbound_of x i j
  done : (s : ℕ) → s < n → HasSide x t s
      → outbound_of y t s ≡ g (channel_to term s) (outbound_of x t s)

not_below : (n j : ℕ) → suc n ≤ j → j ≢ n
not_below n j from is = absurd (omega (arith, from, is))

not_above : (n j : ℕ) → j < n → j ≢ n
not_above n j few is = absurd (omega (arith, few, is))

before_places : (n i j t : ℕ) → (i ≢ t) ⊎ (suc n ≤ j) → (i ≢ t) ⊎ (j ≢ n)
before_places n i j t (inl other) = inl other
before_places n i j t (inr from) = inr (not_below n j from)

fewer_places : (n i j t : ℕ) → (i ≢ t) ⊎ (suc n ≤ j) → (i ≢ t) ⊎ (n ≤ j)
fewer_places n i j t (inl other) = inl other
fewer_places n i j t (inr from) = inr (omega (arith, from))

first_sides : (act : Sending → ControlValue → ControlValue)
    (g : Channel → OutboundValue → OutboundValue) → ChangesSide act g → (term : TerminalValue)
    (t n : ℕ) (x : ControlValue) → x.task ≡ AtRest
    → FirstSides g term t n x (each act (each_of (selection_of term t) n) x)
first_sides act g changes term t zero x rest = record {
  only = no_side x x refl;
  others = λ i j other. refl;
  done = λ s few has. absurd (omega (arith, few));
}
first_sides act g changes term t (suc n) x rest =
    let before = first_sides act g changes term t n x rest in
    let y = each act (each_of (selection_of term t) n) x in
    let e = sending_end (channel_to term n) t n in
    let is = each_then act (each_of (selection_of term t) n) (e ∷ []) x in
    let all : FirstSides g term t (suc n) x (act e y) = record {
      only = sides_then x y (act e y) before.only (changes.only e y);
      others = λ i j other.
          changes.others e y i j (before_places n i j t other)
          ∙ before.others i j (fewer_places n i j t other);
      done = λ s few has. elim (cases_lt s n) [
        | inl less ↦
            changes.others e y t s (inr (not_above n s less)) ∙ before.done s less has
        | inr from ↦
            let same : s ≡ n = omega (arith, few, from) in
            let there : HasSide y t n = still_has x y t n before.only (subst (HasSide x t) same has) in
            let last : outbound_of (act e y) t n ≡ g (channel_to term n) (outbound_of x t n) =
            changes.this e y there (before.only.task ∙ rest)
            ∙ ap (g (channel_to term n)) (before.others t n (inr (omega arith))) in
            subst
            (λ k. outbound_of (act e y) t k ≡ g (channel_to term k) (outbound_of x t k))
            (sym same) last
      ];
    } in
    subst (FirstSides g term t (suc n) x) (sym is) all

-- the sending sides of the first terminals are changed
pub record FirstTerminals (g : Channel → OutboundValue → OutboundValue) (ts : List TerminalValue)
    (n : ℕ) (x y : ControlValue) : Type 0 where
  pub only : OnlySides x y
  pub others : (i j : ℕ) → n ≤ i → outbound_of y i j ≡ outbound_of x i j
  pub done : (t s : ℕ) → t < n → s < length (terminal_at ts t).selects → HasSide x t s
      → outbound_of y t s ≡ g (channel_to (terminal_at ts t) s) (outbound_of x t s)

pub first_terminals : (act : Sending → ControlValue → ControlValue)
    (g : Channel → OutboundValue → OutboundValue) → ChangesSide act g → (ts : List TerminalValue)
    (n : ℕ) (x : ControlValue) → x.task ≡ AtRest
    → FirstTerminals g ts n x (each act (each_of (selections_at ts) n) x)
first_terminals act g changes ts zero x rest = record {
  only = no_side x x refl;
  others = λ i j from. refl;
  done = λ t s few within has. absurd (omega (arith, few));
}
first_terminals act g changes ts (suc n) x rest =
    let before = first_terminals act g changes ts n x rest in
    let y = each act (each_of (selections_at ts) n) x in
    let term = terminal_at ts n in
    let z = each act (selections_at ts n) y in
    let last =
    first_sides act g changes term n (length term.selects) y (before.only.task ∙ rest) in
    let is = each_then act (each_of (selections_at ts) n) (selections_at ts n) x in
    let all : FirstTerminals g ts (suc n) x z = record {
      only = sides_then x y z before.only last.only;
      others = λ i j from.
          last.others i j (inl (not_below n i from)) ∙ before.others i j (omega (arith, from));
      done = λ t s few within has. elim (cases_lt t n) [
        | inl less ↦
            last.others t s (inl (not_above n t less)) ∙ before.done t s less within has
        | inr from ↦
            let same : t ≡ n = omega (arith, few, from) in
            let there : HasSide y n s =
            still_has x y n s before.only (subst (λ k. HasSide x k s) same has) in
            let inside : s < length term.selects =
            subst (λ k. s < length (terminal_at ts k).selects) same within in
            let one : outbound_of z n s ≡ g (channel_to term s) (outbound_of x n s) =
            last.done s inside there
            ∙ ap (g (channel_to term s)) (before.others n s (omega arith)) in
            subst
            (λ k. outbound_of z k s ≡ g (channel_to (terminal_at ts k) s) (outbound_of x k s))
            (sym same) one
      ];
    } in
    subst (FirstTerminals g ts (suc n) x) (sym is) all
