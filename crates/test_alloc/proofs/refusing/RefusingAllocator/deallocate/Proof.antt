-- `deallocate`: the block is returned to the allocator below. Assumes `Logic`.
use Rattle.std.proofs.Common.{◌≡◌, [], ◌∷◌, refl, w64}
use mir.Syntax.{Fn}
use mir.Val.{vunit, vint, vptr}
use mir.MapTy.{inst_fn}
use base.Logic.{fst∗, never}
use base.Fml.{Fml, ftrue, fsep, flft}
use prog.Memory.{size, align, capped}
use prog.Wp.{WpFn}
use contract.BorrowLft.{◌⊑◌, ⊑_trans}
use contract.Monad.{fact}
use contract.Running.{tables}
use types.Logic.{sem}
use types.Kit.{split3, group, regoal, feq_i, ‵, raw, ◌⊛◌, later, given, prop, ◌$◌, ◌∵◌, !, qed, by}
use types.Kit.{move, keep, use1, split, join, learn, fsplit, fjoin, await}
use types.Run.{enter, of_opd, unit_lit, addr, stop, fld, no_more, and_then, returns}
use types.ByLocal.{alloc_all, pass_all, free_all, look_at, get, through, sets, lands_as}
use denote.Builtin.{RawPtr}
use denote.Exit.{yes}
use denote.Memory.{hidden_shr}
use denote.Plain.{uint_vals, uint_Tells}
use denote.RawPtr.{Ptr, block_ptr, null_ptr, ptr_val, room_for, in_a_block, rawptr_vals}
use denote.RawPtr.{rawptr_Tells}
use denote.RattleType.{owns}
use denote.Ref.{shr_vals}
use denote.Signature.{plain, types_at}
use denote.Steps.{nothing, heard}
use denote.Triple.Call.{calls_at}
use denote.Triple.Clauses.{Ended}
use denote.Triple.Table.{framed}
use denote.Triple.Walked.{Stays, walk_of, stay_dropped, Goes-dropped}
use Rattle.std.proofs.raw_atomic.Walks.{proved, leaves}
use Rattle.std.proofs.alloc.Calls.{Al, seen, Gives, at_gives, Gives-goes, Gives-Gives}
use Rattle.test_alloc.proofs.Behind.{args, Counts, below, counts, self_goes, opened}
use Rattle.test_alloc.proofs.Behind.{number_goes}
use Rattle.test_alloc.specs.contracts.refusing.RefusingAllocator.deallocate as f
use Rattle.test_alloc.specs.contracts.refusing.RefusingAllocator.deallocate.Key.{name as #self}
use Rattle.test_alloc.proofs.refusing.RefusingAllocator.deallocate.Statement.{statement}
use Rattle.test_alloc.proofs.refusing.RefusingAllocator.deallocate.Code as code

module _ (Z : Al) where
  abbrev ended : Ended
  ended = f.ended Z.row Z.g Z.d Z.drops

  abbrev stayed : Stays ended.signature.params ended.kept
  stayed =
      (stay_dropped _ yes, (stay_dropped _ yes, (stay_dropped _ yes, (stay_dropped _ yes, tt))))

pub deallocate_spec : {M : Type 1} → statement M
deallocate_spec 𝓤 𝓛 𝓜 𝓡 wired B L g d d' met _ =
    let Z : Al = record { row = B; laws = L; g = g; d = d; drops = d' } in
    let c = f.clauses B g d d' 𝓛 𝓜.mem 𝓡.returns in
    let W = walk_of 𝓛 (ended Z) (stayed Z) c in
    let 𝓣 = tables 𝓤 𝓛.H 𝓜 𝓡 𝓡.env in
    let here : Fn = inst_fn (args Z) code.function in
    proved 𝓛 (ended Z) (stayed Z) c 𝓜 𝓡 (
      self_goes Z 𝓛,
      (
        Goes-dropped 𝓛 2 (plain (λ _. RawPtr)) yes (λ κs x f. refl),
        (number_goes 𝓛, (number_goes 𝓛, tt)),
      ),
    )
    (#self (args Z)) here (code.unfolded 𝓤 𝓛.H 𝓜 𝓡 wired (B, tt) d d')
    (λ κs. (shr_vals, (rawptr_vals, (uint_vals w64, (uint_vals w64, tt)))))
    (λ κs. ((λ r vs is. is.0), (rawptr_Tells, (uint_Tells w64, (uint_Tells w64, tt)))))
    (λ κs qs bounds a τ are.
    let κ = κs.0 in let q = qs.0 in let p = a.0.ref_ptr in let h = a.0.now.inner in let n =
    a.1.1.0 in let al = a.1.1.1.0 in
    let y : Ptr → W.Ghost =
    λ x. (
      (
        κs,
        qs,
        bounds,
        (a.0, (x, (n, (al, tt)))),
        (shr_vals a.0, (rawptr_vals x, (vint w64 n ∷ [], (vint w64 al ∷ [], tt)))),
      ),
      τ,
    ) in
    let Asked : Type 0 = (capped (size τ) ≡ n) × (capped (align τ) ≡ al) in
    let Block : Ptr → Fml = λ x. fsep (room_for τ x) (g.dealloc_token h τ x) in
    let Rest = ‵ (flft κs.1.0 qs.1.0) ⊛ ‵ ftrue in
    qed 𝓛
    (((‵ (flft κ q) ⊛ Rest) ⊛ ‵ (owns (types_at (ended Z).signature.params κs) a (y a.1.0).0.4))
    ∷ (raw (fact 𝓤 (κs.1.0 ⊑ B.lives)) ⊛ raw (fact 𝓤 Asked) ⊛ ‵ (Block a.1.0)) ∷ []) ∵
    move ! (1 ∷ []) $ split3 ! $ heard ! _ (λ within. heard ! Asked (λ layout. move ! (1 ∷ []) $
    split ! $ split ! $ move ! (2 ∷ []) $ fsplit ! $
    use1 𝓛 (‵ (seen Z κ (below Z p) h) ⊛ ‵
    (hidden_shr Counts κ a.0.now.tally (counts Z p).0 (counts Z p).1)) (opened Z 𝓛 κ a.0) $
    split ! $
    -- [the block; the `&` to the allocator below; the token of its lifetime; the other tokens]
    keep ! (5 ∷ 0 ∷ 3 ∷ 4 ∷ []) $
    in_a_block ! a.1.0 Block (fst∗ 𝓤 (never 𝓤) (sem 𝓛 (g.dealloc_token h τ null_ptr))) (λ b o at.
    let giving = at_gives Z 𝓛 𝓜.mem 𝓡.returns κ q (below Z p) h b o n al τ in
    regoal !
    (λ x. prop (WpFn 𝓤 𝓛.H 𝓣.C 𝓣.Λ here
    (vptr p.0 p.1 ∷ ptr_val x ∷ vint w64 n ∷ vint w64 al ∷ []) (W.post (y x)))) at refl $
    enter ! _ _ _ _ _ $ alloc_all ! (λ l. pass_all ! refl (
      (tt, tt),
      (
        (tt, tt),
        (
          (tt, record { fits = are.1.1.0.1 }),
          ((tt, record { fits = are.1.1.1.0.1 }), tt),
        ),
      ),
    ) $
    sets ! (addr ! (through ! refl (fld ! refl (stop !)))) refl (tt, tt) $ fsplit ! $ group ! 4 $
    use1 𝓛 (raw ((Gives Z 𝓛 𝓜.mem 𝓡.returns).pre giving))
    (Gives-goes Z 𝓛 𝓜.mem 𝓡.returns κ q (below Z p) h (⊑_trans κ κs.1.0 B.lives bounds.0 within) b o
    n al τ layout.0 layout.1 are.1.1.0.1 are.1.1.1.0.1) $
    calls_at ! (framed 𝓤 𝓛.H 𝓜 𝓣) (Gives Z 𝓛 𝓜.mem 𝓡.returns) (met.deallocate d') giving
    (and_then ! (get ! refl) (and_then ! (get ! refl)
    (and_then ! (get ! refl) (and_then ! (get ! refl) (no_more !))))) (λ v.
    use1 𝓛 (later (given (v ≡ vunit) (‵ (flft κ q))))
    (Gives-Gives Z 𝓛 𝓜.mem 𝓡.returns κ q (below Z p) h b o n al τ v) $ await ! tt $ learn !
    (λ is.
    lands_as ! is refl (tt, tt) $ sets ! (of_opd ! (unit_lit !)) refl (tt, tt) $ returns !
    (look_at ! 0 refl) $ free_all ! refl $
    join ! $ nothing ! $ feq_i ! _ (vunit ∷ []) _ refl $ nothing ! $ nothing ! $ fjoin ! $ nothing !
    $ fjoin ! $ nothing ! $ fjoin ! $ nothing ! $ fjoin ! $ move ! (3 ∷ []) $
    by ! (leaves 𝓛 (ended Z) (stayed Z) c (y (block_ptr b o)) vunit tt (tt, (tt, (tt, (tt, tt))))
    (tt, (tt, (tt, (tt, tt))))))))))))
