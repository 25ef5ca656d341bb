-- The machine value of a pointer to what was made.
use Rattle.std.proofs.Common.{◌≡◌, ℕ, List, [], ◌∷◌, ◌++◌, refl, sym, ap, ◌∙◌, subst}
use Rattle.std.specs.Prelude.{Option, Some, None}
use seplogic.Ra.Ura.{Ura}
use mir.Val.{Val, vstruct, vcons, vnil, of_list}
use types.Logic.{Logic, sem}
use types.Kit.{Item, Goal, Seq, Step, step, ‵, ◌$◌, move, drop, fsplit, fjoin, fpick, fpack, feq_i, feq_l}
use denote.RattleType.{RattleType, Valss}
use denote.Builtin.{RawPtr}
use denote.RawPtr.{Ptr, block_ptr, null_ptr, ptr_val}
use denote.Steps.{nothing}
use denote.Struct.Struct.{within}
use denote.Struct.Owning.{shape}
use Rattle.bsc_embed.specs.Pointers.{owns_made}
use Rattle.bsc_embed.specs.contracts.handles.made.Made as made
use Rattle.bsc_embed.specs.contracts.handles.pointer.MadePointer as pointer

abbrev pub one : Val → Val
one v = vstruct (vcons v vnil)

module _ {M : Type 1} {𝓤 : Ura M} {𝓛 : Logic 𝓤} {K : Type 0} {Γ : List (Item 𝓤)} {G : Goal 𝓤 𝓛.H} where
  pub pointer_out : K → (d : pointer.the_row.Denot) (vs : List Val)
      → (vs ≡ one (ptr_val d.at) ∷ [] → Seq K 𝓛 (‵ (owns_made made.the_row d.at d.made) ∷ Γ) G)
      → Seq K 𝓛 (‵ (pointer.the_row.own_val d vs) ∷ Γ) G
  pointer_out t d vs k =
      fsplit t $ fpick t (λ vss. fsplit t $ feq_l t (λ ev. fsplit t $ feq_l t (λ ep. drop t $
      k (subst (λ (ps : List Val). vs ≡ vstruct (of_list (ps ++ [])) ∷ []) ep ev))))

  pub pointer_in : K → (d : pointer.the_row.Denot)
      → Step K 𝓛 (‵ (pointer.the_row.own_val d (one (ptr_val d.at) ∷ [])) ∷ Γ) G
      (‵ (owns_made made.the_row d.at d.made) ∷ Γ) G
  pointer_in t d = step (λ s. let v : Val = one (ptr_val d.at) in
      nothing t $ feq_i t (List Val) (ptr_val d.at ∷ []) (ptr_val d.at ∷ []) refl $ fjoin t $
      feq_i t (List Val) (v ∷ []) (v ∷ []) refl $ fjoin t $
      fpack t (Valss (RawPtr ∷ [])) (within (shape pointer.the_type) (d.at, tt) (v ∷ [])) (ptr_val d.at ∷ [], tt) $
      fjoin t $ s)
