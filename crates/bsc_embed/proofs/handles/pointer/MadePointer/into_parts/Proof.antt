-- `into_parts` knows of what type the pointer is.
use Rattle.std.proofs.Common.{◌≡◌, List, [], ◌∷◌, ◌++◌, refl, sym, ap, ◌∙◌, subst}
use Rattle.std.specs.Prelude.{Option, Some, None}
use mir.Syntax.{impl, tnil, dnil}
use mir.Raw.{raw as bare}
use denote.Memory.{lone}
use Rattle.libc.specs.Heap.{chunk}
use Rattle.std_alloc.specs.Box.Ownership.{box_owns}
use Rattle.bsc_embed.specs.Pointers.{owns_made}
use mir.Val.{Val, vptr}
use base.Logic.{SProp, ent, emp, never, id⊢, fst∗}
use base.Fml.{ftrue}
use prog.Wp.{WpFn}
use types.Logic.{sem}
use types.Kit.{‵, raw, ◌⊛◌, ◌$◌, ◌∵◌, !, qed, by, move, keep, drop, split, fsplit, fjoin, suffices, use0, rewrite}
use types.Run.{stop, fld, of_opd, no_more, and_then, returns, enter}
use types.ByLocal.{alloc_all, pass_all, free_all, look_at, get, get_in, sets}
use types.Part.{agg, sub, whole}
use contract.Monad.{fact, fact_i}
use contract.Running.{tables}
use denote.Exit.{yes}
use denote.RattleType.{RattleType, owns}
use denote.Signature.{types_at, plain}
use denote.RawPtr.{Ptr, block_ptr, null_ptr, ptr_val, in_a_block}
use denote.Steps.{nothing, heard}
use denote.Triple.Walked.{Stays, stay_dropped, walk_of}
use Rattle.std.proofs.alloc.Calls.{Goes-blank, handle_tells}
use Rattle.std.proofs.raw_atomic.Walks.{proved_at, leaves}
use Rattle.std.specs.contracts.alloc.Global as global
use Rattle.std.specs.contracts.impls.GlobalAllocator.TheImpl.{ghosts}
use Rattle.std.proofs.alloc.Global.TheLaws.{the_row_laws}
use Rattle.bsc_embed.proofs.PartValues.{two, parts_fit, parts_in}
use Rattle.bsc_embed.proofs.PointerValues.{one, pointer_in, pointer_out}
use Rattle.bsc_embed.specs.contracts.handles.made.Made as made
use Rattle.bsc_embed.specs.contracts.handles.pointer.MadePointer as pointer
use Rattle.bsc_embed.specs.contracts.handles.pointer.MadePointer.into_parts.{ended, clauses}
use Rattle.bsc_embed.specs.contracts.handles.pointer.MadePointer.into_parts.Key.{name as #self}
use Rattle.bsc_embed.proofs.handles.pointer.MadePointer.into_parts.Statement.{statement}
use Rattle.bsc_embed.proofs.handles.pointer.MadePointer.into_parts.Code as code

pub into_parts_spec : {M : Type 1} → statement M
into_parts_spec 𝓤 𝓛 𝓜 𝓡 wired =
    let H = 𝓛.H in let 𝓣 = tables 𝓤 H 𝓜 𝓡 𝓡.env in
    let R : RattleType = made.the_row in let Z : RattleType = global.the_row in
    let c = clauses 𝓛 𝓜.mem 𝓡.returns in
    let hs : Stays ended.signature.params ended.kept = (stay_dropped (plain (λ _. pointer.the_row)) yes, (stay_dropped (plain (λ _. Z)) yes, tt)) in
    proved_at 𝓛 ended hs c 𝓜 𝓡 (Goes-blank 𝓛 0 (plain (λ _. pointer.the_row)) yes (λ κs x f. tt), (Goes-blank 𝓛 0 (plain (λ _. Z)) yes (λ κs x f. tt), tt)) #self code.function
    (code.unfolded 𝓤 H 𝓜 𝓡 wired) (λ z are.
    let κs = z.0.0 in let v = z.0.3.0 in let a = z.0.3.1.0 in
    let Post : Val → SProp 𝓤 = (walk_of 𝓛 ended hs c).post z in
    let Run : List Val → SProp 𝓤 = λ ws. WpFn 𝓤 H 𝓣.C 𝓣.Λ code.function ws Post in
    qed 𝓛 ((‵ ftrue ⊛ ‵ (owns (types_at ended.signature.params κs) z.0.3 z.0.4)) ∷ raw ((c κs z.0.3).requires z.1) ∷ []) ∵
    split ! $ move ! (1 ∷ []) $ fsplit ! $ pointer_out ! v z.0.4.0 (λ ws.
    -- [what is owned; the allocator; no tokens; the requires]
    move ! (3 ∷ []) $ heard ! _ (λ known.
    rewrite ! 0 (λ (x : Option R.Denot). ‵ (owns_made R v.at x)) known.1 refl $
    in_a_block ! v.at (λ p. box_owns chunk R p known.0)
    (fst∗ 𝓤 (never 𝓤) (sem 𝓛 (chunk (bare (lone R.mir)) null_ptr))) (λ b o there.
    move ! (1 ∷ []) $ fsplit ! $
    handle_tells (record { row = Z; laws = the_row_laws; g = ghosts; d = impl [] tnil dnil; drops = impl [] tnil dnil }) ! a z.0.4.1.0 (λ h handle fits.
    move ! (1 ∷ []) $ drop ! $ move ! (1 ∷ []) $
    -- [the memory; the allocator; no tokens]
    let w : Val = one (vptr b o) in
    let first = ws ∙ ap (λ (p : Ptr). one (ptr_val p) ∷ []) there in
    suffices ! (Run (w ∷ h ∷ []))
    (subst (λ (us : List Val). ent 𝓤 (Run (w ∷ h ∷ [])) (Run us)) (sym (λ i. first i ++ (handle i ++ []))) (id⊢ 𝓤 (Run (w ∷ h ∷ [])))) $
    enter ! 𝓣.C 𝓣.Λ code.function (w ∷ h ∷ []) Post $ alloc_all ! (λ l. pass_all ! refl ((tt, (tt, tt)), (fits, tt)) $
    sets ! (of_opd ! (get_in ! (fld ! refl (stop !)) (sub ! 0 refl (whole !)))) refl (tt, tt) $
    sets ! (of_opd ! (get ! refl)) refl (tt, tt) $
    sets ! (agg ! (and_then ! (get ! refl) (and_then ! (get ! refl) (no_more !)))) refl (parts_fit R Z the_row_laws ghosts b o h fits) $
    parts_in R Z the_row_laws ghosts ! b o h a known.0 $
    use0 𝓛 (raw (fact 𝓤 (Some known.0 ≡ v.made))) (fact_i 𝓤 (Some known.0 ≡ v.made) (emp 𝓤) (sym known.1)) $
    nothing ! $ nothing ! $ fjoin ! $ nothing ! $ fjoin ! $
    returns ! (look_at ! 0 refl) $ free_all ! refl $
    keep ! (3 ∷ 0 ∷ 2 ∷ 1 ∷ []) $
    by ! (leaves 𝓛 ended hs c z (two (vptr b o) h) (record { at = block_ptr b o; alloc = a; value = known.0 }) (tt, (tt, tt)) (tt, (tt, tt)))))))))
