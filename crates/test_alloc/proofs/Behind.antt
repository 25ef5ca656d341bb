-- The contents of a `&` to the allocator: a `&` to the allocator below, and one to the cell with the counts.
-- Assumes `Logic`.
use Rattle.std.proofs.Common.{ℕ, ◌+◌, [], ◌∷◌, refl, Bor}
use seplogic.Ra.Ura.{Ura}
use mir.Syntax.{Args, a_type, dnil, dcons}
use base.Logic.{ent, sep, id⊢}
use base.Fml.{Lft, Fml, fsep}
use prog.Memory.{size, align, up}
use types.Logic.{Logic, sem}
use types.Kit.{‵, ◌$◌, ◌∵◌, !, qed, done, move, keep, use1, join, fsplit}
use denote.RattleType.{RattleType}
use denote.Memory.{hidden_shr}
use denote.Opens.{unhide}
use denote.Builtin.{usize, RefOf}
use denote.Exit.{yes}
use denote.Ref.{bor_shr_at, shr_vals}
use denote.Signature.{Slot, plain}
use denote.Triple.Walked.{Goes, stay_dropped, Goes-dropped}
use denote.Param.{bounded, param}
use Rattle.std.proofs.alloc.Calls.{Al, α, seen}
use Rattle.std.specs.contracts.cell.Cell as cell
use Rattle.test_alloc.specs.contracts.requests.Requests as tally
use Rattle.test_alloc.specs.contracts.refusing.Refusing as refusing

-- the type of the cell
abbrev pub Counts : RattleType
Counts = cell.the_row tally.the_row

module _ (Z : Al) where
  -- the arguments with which both methods are instantiated
  abbrev pub args : Args
  args = bounded (a_type ∷ []) (Z.row, tt) (dcons Z.d (dcons Z.drops dnil))

  abbrev pub Whole : RattleType
  Whole = refusing.the_row (param 0 Z.row)

  -- the addresses of the two fields, from that of the allocator
  abbrev pub below : ℕ × ℕ → ℕ × ℕ
  below p = (p.0, p.1 + up (align (α Z)) 0)

  abbrev pub counts : ℕ × ℕ → ℕ × ℕ
  counts p = (p.0, p.1 + up 8 (up (align (α Z)) 0 + size (α Z)))

  -- the parameter `&self` of both methods, and what it owns
  abbrev pub self : Slot 2
  self = RefOf (0 ∷ []) tt (plain (λ _. Whole)) (λ _. tt)

  abbrev pub passed : Lft → Bor Whole.Denot → Fml
  passed κ r = fsep (bor_shr_at r (shr_vals r)) (hidden_shr Whole κ r.now r.ref_ptr.0 r.ref_ptr.1)

  module _ {M : Type 1} {𝓤 : Ura M} (𝓛 : Logic 𝓤) where
    pub self_goes : Goes 𝓛 2 self yes (stay_dropped self yes)
    self_goes = Goes-dropped 𝓛 2 self yes (λ κs x f. refl)

    pub opened : (κ : Lft) (r : Bor Whole.Denot) → let p = r.ref_ptr in
        ent 𝓤 (sem 𝓛 (passed κ r)) (sep 𝓤 (sem 𝓛 (seen Z κ (below p) r.now.inner))
        (sem 𝓛 (hidden_shr Counts κ r.now.tally (counts p).0 (counts p).1)))
    opened κ r = let p = r.ref_ptr in
        qed 𝓛 (‵ (passed κ r) ∷ []) ∵ fsplit ! $ move ! (1 ∷ []) $ unhide ! $ fsplit ! $ fsplit ! $
        use1 𝓛 (‵ (seen Z κ (below p) r.now.inner)) (id⊢ 𝓤 _) $ move ! (1 ∷ []) $ fsplit ! $
        use1 𝓛 (‵ (hidden_shr Counts κ r.now.tally (counts p).0 (counts p).1)) (id⊢ 𝓤 _) $ keep !
        (2 ∷ 0 ∷ []) $ join ! $ done !

-- the same for a number, as the size and the alignment are
pub number_goes : {M : Type 1} {𝓤 : Ura M} (𝓛 : Logic 𝓤)
    → Goes 𝓛 2 (plain (λ _. usize)) yes (stay_dropped (plain (λ _. usize)) yes)
number_goes 𝓛 = Goes-dropped 𝓛 2 (plain (λ _. usize)) yes (λ κs x f. refl)
