-- The call of `refuses`: its arguments and its result. Assumes `Logic`.
use Rattle.std.proofs.Common.{◌≡◌, ℕ, ◌^◌, ◌<◌, Bool, List, [], ◌∷◌, refl, ap, w64}
use seplogic.Ra.Ura.{Ura}
use mir.Val.{Val, vbool, vint, vptr}
use base.Logic.{SProp, ent, sep, ex, guard, id⊢}
use base.Fml.{Lft, Share, ftrue, flft}
use prog.Memory.{Memory}
use prog.Routine.{Routine}
use types.Logic.{Logic, sem}
use types.Kit.{‵, raw, ◌⊛◌, some, later, ◌$◌, ◌∵◌, !, qed, done, move, keep, use1, split, join}
use types.Kit.{pick, show, check, await, updating, now as at_once, fjoin, feq_i, feq_l, flt_i}
use contract.Monad.{Fun}
use denote.Builtin.{bool}
use denote.Memory.{hidden_shr}
use denote.Steps.{nothing, only}
use denote.Triple.Clauses.{Lasts, lasts}
use denote.Triple.Spec.{triple_of}
use denote.Triple.Statement.{Contract}
use Rattle.test_alloc.proofs.Behind.{Counts}
use Rattle.test_alloc.specs.contracts.refusing.refuses as callee

module _ {M : Type 1} {𝓤 : Ura M} (𝓛 : Logic 𝓤) (at_mem : Memory → SProp 𝓤) (run : Routine → Fun 𝓤)
  where
    abbrev pub Asks : Contract 𝓤
    Asks = triple_of 𝓛 callee.signature (callee.spec 𝓛 at_mem run)

    abbrev pub asked : Lft → Share → ℕ × ℕ → Counts.Denot → ℕ → Asks.Ghost
    asked κ q p x n = (
      (
        (κ, tt),
        (q, tt),
        tt,
        (record { ref_ptr = p; now = x }, (n, tt)),
        (vptr p.0 p.1 ∷ [], (vint w64 n ∷ [], tt)),
      ),
      tt,
    )

module _ {M : Type 1} {𝓤 : Ura M} (𝓛 : Logic 𝓤) (at_mem : Memory → SProp 𝓤) (run : Routine → Fun 𝓤)
    (κ : Lft) (q : Share) (p : ℕ × ℕ) (x : Counts.Denot) (n : ℕ) where
  open 𝓛 use {H, A}

  abbrev y : (Asks 𝓛 at_mem run).Ghost
  y = asked 𝓛 at_mem run κ q p x n

  pub asks : n < 2 ^ 64
      → ent 𝓤 (sep 𝓤 (sem 𝓛 (hidden_shr Counts κ x p.0 p.1)) (A.lft κ q))
      ((Asks 𝓛 at_mem run).pre y)
  asks fits =
      qed 𝓛 (‵ (hidden_shr Counts κ x p.0 p.1) ∷ ‵ (flft κ q) ∷ []) ∵ nothing ! $ nothing ! $
      flt_i ! n (2 ^ 64) fits $ feq_i ! (List Val) (vint w64 n ∷ []) (vint w64 n ∷ []) refl $ fjoin
      ! $ fjoin ! $
      move ! (2 ∷ []) $ feq_i ! (List Val) (vptr p.0 p.1 ∷ []) (vptr p.0 p.1 ∷ []) refl $ fjoin ! $
      fjoin ! $
      move ! (2 ∷ []) $ nothing ! $ move ! (1 ∷ 0 ∷ []) $ join ! $ join ! $ join ! $ done !

  pub tells : (v : Val)
      → ent 𝓤 ((Asks 𝓛 at_mem run).post y v)
      (H.⇛ (ex 𝓤 (λ (r : Bool). guard 𝓤 (v ≡ vbool r) (A.lft κ q))))
  tells v = qed 𝓛 (raw ((Asks 𝓛 at_mem run).post y v) ∷ []) ∵ updating ! $
      use1 𝓛
      (later
      (some (λ (r : Bool). ((‵ (flft κ q) ⊛ ‵ ftrue) ⊛ ‵ (bool.own_val r (v ∷ []))) ⊛ some
      (λ (ws : Lasts callee.ended y.0.0 y.0.3). ‵ (lasts callee.ended y.0.0 y.0.3 ws) ⊛ ‵
      ftrue)))) (id⊢ 𝓤 _) $
      await ! tt $ pick ! (λ r. split ! $ split ! $ move ! (1 ∷ []) $ feq_l ! (λ e. split ! $
      at_once ! $ show ! (λ (s : Bool). guard 𝓤 (v ≡ vbool s) (A.lft κ q)) r $ check ! (ap only e) $
      keep ! (0 ∷ []) $ done !))
