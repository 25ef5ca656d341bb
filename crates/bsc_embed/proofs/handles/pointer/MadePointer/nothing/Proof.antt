-- `nothing` makes a pointer to nothing.
use Rattle.std.proofs.Common.{◌≡◌, List, [], ◌∷◌, ◌++◌, refl, sym, ap, ◌∙◌, subst, lit<}
use Rattle.std.specs.Prelude.{Option, Some, None}
use Rattle.std.proofs.raw_atomic.Walks.{proved}
use mir.Val.{Val}
use base.Fml.{ftrue}
use types.Kit.{‵, raw, ◌⊛◌, ◌$◌, ◌∵◌, !, qed, done, move, keep, drop, split, join, frame, group, suffices}
use types.Run.{enter, of_opd, lit, no_more, and_then, returns}
use types.ByLocal.{alloc_all, pass_all, free_all, look_at, get, sets}
use types.Part.{agg}
use denote.RawPtr.{null_ptr, ptr_val}
use denote.Steps.{nothing}
use denote.Triple.Entry.{on_entry}
use denote.Triple.Walked.{Stays, walk_of, says, ends_at}
use Rattle.bsc_embed.proofs.PointerValues.{one, pointer_in}
use Rattle.bsc_embed.specs.contracts.handles.pointer.MadePointer as pointer
use Rattle.bsc_embed.specs.contracts.handles.pointer.MadePointer.nothing as f
use Rattle.bsc_embed.proofs.handles.pointer.MadePointer.nothing.Statement.{statement}
use Rattle.bsc_embed.proofs.handles.pointer.MadePointer.nothing.Code as code

abbrev stayed : Stays f.ended.signature.params f.ended.kept
stayed = tt

pub nothing_spec : {M : Type 1} → statement M
nothing_spec 𝓤 𝓛 𝓜 𝓡 wired =
    let c = f.clauses 𝓛 𝓜.mem 𝓡.returns in let W = walk_of 𝓛 f.ended stayed c in
    let empty : pointer.the_row.Denot = record { at = null_ptr; made = None } in
    proved 𝓛 f.ended stayed c 𝓜 𝓡 tt f.Key.name code.function (code.unfolded 𝓤 𝓛.H 𝓜 𝓡 wired)
    (λ κs. tt) (λ κs. tt) (λ κs qs bounds a n are.
    let y : W.Ghost = ((κs, qs, bounds, a, tt), tt) in
    qed 𝓛 (raw (on_entry 𝓛 f.signature κs qs a tt) ∷ ‵ ftrue ∷ []) ∵ drop ! $ drop ! $
    enter ! _ _ _ _ _ $ alloc_all ! (λ l. pass_all ! refl tt $
    sets ! (agg ! (and_then ! (lit ! tt) (no_more !))) refl (tt, (record { fits = lit< tt }, tt)) $
    returns ! (look_at ! 0 refl) $ free_all ! refl $
    suffices ! _ (ends_at 𝓛 f.ended stayed c y (one (ptr_val null_ptr)) empty tt tt) $ says ! refl $
    nothing ! $ pointer_in ! empty $ nothing ! $ nothing ! $ done !))
