-- `allocate`: a refused request returns `Err`, and any other request is passed to the allocator below.
-- Assumes `Logic`.
use Rattle.std.proofs.Common.{◌≡◌, Bool, true, false, [], ◌∷◌, Ok, Err, refl, w64}
use mir.Syntax.{Fn}
use mir.Val.{Val, vbool, vint}
use mir.MapTy.{inst_fn}
use base.Logic.{id⊢}
use base.Fml.{ftrue, flft}
use prog.Memory.{size, align, capped}
use contract.BorrowLft.{◌⊑◌, ⊑_trans}
use contract.Monad.{fact}
use contract.Running.{tables}
use types.Kit.{Item, ‵, raw, ◌⊛◌, some, later, given, Sq, prop, at_ret, ◌$◌, ◌∵◌, !, qed, by, move}
use types.Kit.{keep, use0, use1, use2, split, join, pick, learn, fsplit, fjoin, await}
use types.Part.{agg}
use types.Run.{enter, addr, stop, fld, lit, no_more, and_then, first, branches, skips, exec}
use types.Run.{returns, returns_within}
use types.ByLocal.{alloc_all, pass_all, free_all, look_at, get, through, sets, lands_as, env}
use denote.Exit.{yes}
use denote.Memory.{hidden_shr}
use denote.Plain.{uint_vals, uint_Tells}
use denote.RawPtr.{block_ptr}
use denote.RattleType.{owns}
use denote.Ref.{shr_vals}
use denote.Signature.{types_at}
use denote.Steps.{nothing, heard}
use denote.Triple.Call.{calls_at}
use denote.Triple.Clauses.{Ended, Lasts, at_exit}
use denote.Triple.Table.{framed}
use denote.Triple.Walked.{Stays, walk_of, stay_dropped}
use Rattle.std.proofs.VecSteps.Shapes.{after}
use Rattle.std.proofs.raw_atomic.Walks.{proved, leaves}
use Rattle.std.proofs.alloc.Calls.{Al, seen, Answer, answer_val, Answer-typed, Answer-Ok}
use Rattle.std.proofs.alloc.Calls.{Answer-err, Takes, at_takes, Answered, Takes-goes, Takes-gives}
use Rattle.std.proofs.alloc.Calls.{answers}
use Rattle.test_alloc.proofs.Behind.{args, Counts, below, counts, self_goes, opened}
use Rattle.test_alloc.proofs.Behind.{number_goes}
use Rattle.test_alloc.proofs.Asks.{Asks, asked, asks, tells}
use Rattle.test_alloc.proofs.refusing.refuses.Met.{met as refuses}
use Rattle.test_alloc.specs.contracts.refusing.RefusingAllocator.allocate as f
use Rattle.test_alloc.specs.contracts.refusing.RefusingAllocator.allocate.Key.{name as #self}
use Rattle.test_alloc.proofs.refusing.RefusingAllocator.allocate.Statement.{statement}
use Rattle.test_alloc.proofs.refusing.RefusingAllocator.allocate.Code as code

module _ (Z : Al) where
  abbrev ended : Ended
  ended = f.ended Z.row Z.g Z.d Z.drops

  abbrev stayed : Stays ended.signature.params ended.kept
  stayed = (stay_dropped _ yes, (stay_dropped _ yes, (stay_dropped _ yes, tt)))

pub allocate_spec : {M : Type 1} → statement M
allocate_spec 𝓤 𝓛 𝓜 𝓡 wired B L g d d' met _ =
    let Z : Al = record { row = B; laws = L; g = g; d = d; drops = d' } in
    let c = f.clauses B g d d' 𝓛 𝓜.mem 𝓡.returns in
    let W = walk_of 𝓛 (ended Z) (stayed Z) c in
    let 𝓣 = tables 𝓤 𝓛.H 𝓜 𝓡 𝓡.env in
    let here : Fn = inst_fn (args Z) code.function in
    proved 𝓛 (ended Z) (stayed Z) c 𝓜 𝓡
    (self_goes Z 𝓛, (number_goes 𝓛, (number_goes 𝓛, tt)))
    (#self (args Z)) here (code.unfolded 𝓤 𝓛.H 𝓜 𝓡 wired (B, tt) d d')
    (λ κs. (shr_vals, (uint_vals w64, (uint_vals w64, tt))))
    (λ κs. ((λ r vs is. is.0), (uint_Tells w64, (uint_Tells w64, tt)))) (λ κs qs bounds a τ are.
    let κ = κs.0 in let q = qs.0 in let p = a.0.ref_ptr in let h = a.0.now.inner in let n = a.1.0 in
    let al = a.1.1.0 in
    let y : W.Ghost =
    ((κs, qs, bounds, a, (shr_vals a.0, (vint w64 n ∷ [], (vint w64 al ∷ [], tt)))), τ) in
    let Asked : Type 0 = (capped (size τ) ≡ n) × (capped (align τ) ≡ al) in
    let tallying = asked 𝓛 𝓜.mem 𝓡.returns κ q (counts Z p) a.0.now.tally n in
    let taking = at_takes Z 𝓛 𝓜.mem 𝓡.returns κ q (below Z p) h n al τ in
    let ends : Lasts (ended Z) κs a = (tt, (tt, (tt, tt))) in
    let Rest = ‵ (flft κs.1.0 qs.1.0) ⊛ ‵ ftrue in
    let Ensured : Answer.Denot → Item 𝓤 =
    λ r. raw ((c κs a).ensures τ r (at_exit (ended Z) κs a ends)) in
    let out : (v : Val) (r : Answer.Denot)
    → Sq 𝓛 (‵ (Answer.own_val r (v ∷ [])) ∷ Ensured r ∷ ‵ (flft κ q) ∷ Rest ∷ [])
    (prop (W.post y v)) = λ v r.
    move ! (2 ∷ 3 ∷ []) $ join ! $ nothing ! $ nothing ! $ fjoin ! $ nothing ! $ fjoin ! $ nothing !
    $ fjoin ! $ move ! (1 ∷ 0 ∷ []) $
    by ! (leaves 𝓛 (ended Z) (stayed Z) c y v r ends (tt, (tt, (tt, tt)))) in
    let fails : Sq 𝓛 (‵ (flft κ q) ∷ Rest ∷ []) (prop (W.post y (answer_val false 0 0))) =
    nothing ! $ use1 𝓛 (Ensured (Err (record {}))) (id⊢ 𝓤 _) $
    use0 𝓛 (‵ (Answer.own_val (Err (record {})) (answer_val false 0 0 ∷ []))) (Answer-err 𝓛) $ out
    (answer_val false 0 0) (Err (record {})) in
    qed 𝓛 (((‵ (flft κ q) ⊛ Rest) ⊛ ‵ (owns (types_at (ended Z).signature.params κs) a y.0.4))
    ∷ (raw (fact 𝓤 (κs.1.0 ⊑ B.lives)) ⊛ raw (fact 𝓤 Asked)) ∷ []) ∵
    move ! (1 ∷ []) $ split ! $ heard ! _ (λ within. heard ! Asked (λ layout.
    split ! $ split ! $ move ! (2 ∷ []) $ fsplit ! $
    use1 𝓛 (‵ (seen Z κ (below Z p) h) ⊛ ‵
    (hidden_shr Counts κ a.0.now.tally (counts Z p).0 (counts Z p).1)) (opened Z 𝓛 κ a.0) $
    split ! $
    -- [the `&` to the cell; the token of its lifetime; the `&` to the allocator below; the other
    -- tokens]
    keep ! (1 ∷ 3 ∷ 0 ∷ 4 ∷ []) $
    enter ! _ _ _ _ _ $ alloc_all ! (λ l. pass_all ! refl
    ((tt, tt), ((tt, record { fits = are.1.0.1 }), ((tt, record { fits = are.1.1.0.1 }), tt))) $
    sets ! (addr ! (through ! refl (fld ! refl (stop !)))) refl (tt, tt) $
    use2 𝓛 (raw ((Asks 𝓛 𝓜.mem 𝓡.returns).pre tallying))
    (asks 𝓛 𝓜.mem 𝓡.returns κ q (counts Z p) a.0.now.tally n are.1.0.1) $
    calls_at ! (framed 𝓤 𝓛.H 𝓜 𝓣) (Asks 𝓛 𝓜.mem 𝓡.returns)
    (refuses 𝓤 𝓛 𝓜 𝓡 (code.calls-test_alloc::refusing::refuses 𝓡.env wired)) tallying
    (and_then ! (get ! refl) (and_then ! (get ! refl) (no_more !))) (λ t.
    use1 𝓛 (later (some (λ (refused : Bool). given (t ≡ vbool refused) (‵ (flft κ q)))))
    (tells 𝓛 𝓜.mem 𝓡.returns κ q (counts Z p) a.0.now.tally n t) $
    await ! tt $ pick ! (λ refused. learn ! (λ e. lands_as ! e refl (tt, tt) $
    first ! $ branches ! (get ! refl)
    (λ is_refused. sets ! (agg ! (no_more !)) refl (tt, tt) $
    sets ! (agg ! (and_then ! (lit ! tt) (and_then ! (get ! refl) (no_more !)))) refl
    (Answer-typed false 0 0) $
    returns_within ! (W.post y) refl (look_at ! 0 refl) $ free_all ! refl $ keep ! (0 ∷ 2 ∷ []) $
    fails)
    (λ is_allowed. skips ! $ exec ! 𝓣.C 𝓣.Λ (env here.locals l) (after 3 here.body)
    (at_ret _ (W.post y)) $
    move ! (1 ∷ 0 ∷ []) $ sets ! (addr ! (through ! refl (fld ! refl (stop !)))) refl (tt, tt) $
    use2 𝓛 (raw ((Takes Z 𝓛 𝓜.mem 𝓡.returns).pre taking))
    (Takes-goes Z 𝓛 𝓜.mem 𝓡.returns κ q (below Z p) h (⊑_trans κ κs.1.0 B.lives bounds.0 within) n
    al τ layout.0 layout.1 are.1.0.1 are.1.1.0.1) $
    calls_at ! (framed 𝓤 𝓛.H 𝓜 𝓣) (Takes Z 𝓛 𝓜.mem 𝓡.returns) (met.allocate d') taking
    (and_then ! (get ! refl) (and_then ! (get ! refl) (and_then ! (get ! refl) (no_more !))))
    (λ v.
    use1 𝓛 (later (raw (Answered Z 𝓛 𝓜.mem 𝓡.returns h τ v) ⊛ ‵ (flft κ q)))
    (Takes-gives Z 𝓛 𝓜.mem 𝓡.returns κ q (below Z p) h n al τ v) $ await ! tt $ split ! $
    answers Z ! 𝓜.mem 𝓡.returns h τ v
    (λ b o is. fjoin ! $ lands_as ! is refl (Answer-typed true b o) $ returns ! (look_at ! 0 refl) $
    free_all ! refl $ use1 𝓛 (Ensured (Ok (block_ptr b o))) (id⊢ 𝓤 _) $
    use0 𝓛 (‵ (Answer.own_val (Ok (block_ptr b o)) (answer_val true b o ∷ []))) (Answer-Ok 𝓛 b o) $
    out (answer_val true b o) (Ok (block_ptr b o)))
    (λ is. lands_as ! is refl (Answer-typed false 0 0) $ returns ! (look_at ! 0 refl) $ free_all !
    refl $ fails))))))))))
