-- Of records that are forgotten already nothing more is forgotten.
use Rattle.std.proofs.Common.{◌≡◌, ◌≢◌, ◌⊎◌, ◌∙◌, ◌≤◌, ℕ, refl, sym, ap, subst}
use Rattle.std.proofs.Common.{inl, inr, arith}
use Rattle.std.proofs.lemmas.Bool.{cases_lt}
use Rattle.bsc_control.specs.Control.{ControlValue}
use Rattle.bsc_control.specs.Kept.{outbound_of}
use Rattle.bsc_control.specs.Peer.{OutboundValue, sent_forgotten}
use Rattle.bsc_station.specs.Forgetting.{ForgetsSent, ForgetsSentTo, nothing, further}
use Rattle.bsc_restarts.proofs.Sides.{HasSide, OnlySides, no_side, only_set, other_side, set_side}
use Rattle.bsc_restarts.proofs.Sides.{sides_then, this_side}

pub same_or_other : (i j : ℕ) → (i ≡ j) ⊎ (i ≢ j)
same_or_other i j = elim (cases_lt i j) [
  | inl less ↦ inr (λ e. absurd (omega (arith, less, e)))
  | inr from ↦ elim (cases_lt j i) [
    | inl more ↦ inr (λ e. absurd (omega (arith, more, e)))
    | inr to ↦ inl (omega (arith, from, to))
  ]
]

-- all known records of the sending sides are forgotten
abbrev pub AreForgotten : ControlValue → Type 0
AreForgotten x =
    (t s : ℕ) → HasSide x t s → (n : ℕ) → n ≤ (outbound_of x t s).queue.known
    → sent_forgotten (outbound_of x t s) n ≡ outbound_of x t s

-- the sending sides are the same
pub record SameSides (x y : ControlValue) : Type 0 where
  pub only : OnlySides x y
  pub sides : (t s : ℕ) → HasSide x t s → outbound_of y t s ≡ outbound_of x t s

back_to : (x y : ControlValue) (t s : ℕ) → OnlySides x y → HasSide y t s → HasSide x t s
back_to x y t s only has = record {
  peer = omega (arith, has.peer, only.peers);
  outbound = omega (arith, has.outbound, only.lengths t);
}

forgets_to : (x y : ControlValue) (t s : ℕ) → ForgetsSentTo x t s y → AreForgotten x
    → SameSides x y
forgets_to x y t s (inl is) all = record {
  only = no_side x y is;
  sides = λ i j has. ap (λ c. outbound_of c i j) is;
}
forgets_to x y t s (inr one) all =
    let o = sent_forgotten (outbound_of x t s) one.n in
    record {
      only =
          sides_then x (set_side x t s o) y (only_set x t s o)
          (no_side (set_side x t s o) y one.state);
      sides = λ i j has. elim (same_or_other i t) [
        | inr other ↦
            ap (λ c. outbound_of c i j) one.state ∙ other_side x t s o i j (inl other)
        | inl it ↦ elim (same_or_other j s) [
          | inr other ↦
              ap (λ c. outbound_of c i j) one.state ∙ other_side x t s o i j (inr other)
          | inl is ↦
              let there : HasSide x t s = subst (HasSide x t) is (subst (λ k. HasSide x k j) it has) in
              (λ k. outbound_of y (it k) (is k))
              ∙ ap (λ c. outbound_of c t s) one.state ∙ this_side x t s o there
              ∙ all t s there one.n one.known ∙ sym (λ k. outbound_of x (it k) (is k))
        ]
      ];
    }

pub forgets_sent : {x y : ControlValue} → ForgetsSent x y → AreForgotten x → SameSides x y
forgets_sent {x} nothing all = record {
  only = no_side x x refl;
  sides = λ t s has. refl;
}
forgets_sent {x} {y} (further {mid = mid} before one) all =
    let so_far = forgets_sent before all in
    let still : AreForgotten mid =
    λ t s has n few.
    let is = so_far.sides t s (back_to x mid t s so_far.only has) in
    let known = ap (λ (o : OutboundValue). o.queue.known) is in
    ap (λ o. sent_forgotten o n) is
    ∙ all t s (back_to x mid t s so_far.only has) n (omega (arith, few, known)) ∙ sym is in
    let last = forgets_to mid y _ _ one still in
    record {
      only = sides_then x mid y so_far.only last.only;
      sides = λ t s has.
          let there : HasSide mid t s = record {
            peer = omega (arith, has.peer, so_far.only.peers);
            outbound = omega (arith, has.outbound, so_far.only.lengths t);
          } in
          last.sides t s there ∙ so_far.sides t s has;
    }
