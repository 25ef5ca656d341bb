-- Shows that each write appends to what was written.
use Rattle.std.proofs.Common.{◌≡◌, ◌++◌, take, drop, sym, ap, ◌∙◌, append_assoc}
use Rattle.std.proofs.Common.{take-append-drop}
use Rattle.std.proofs.lemmas.List.{take_rest}
use Rattle.std.proofs.KnownBytes.{Appends-kept, Appends-trans}
use Rattle.bsc_text.proofs.printed.put.Goals.{in-Ok, in-Err+else-ne}
use Rattle.bsc_text.proofs.printed.put.Goals as goal

pub writes-preserved : goal.writes-preserved
writes-preserved g c =
    let (done, whole, appended) = c.writes.invariant in
    let rest = c.writes.rest.now in
    elim c.match-write.branch [
      | in-Ok w ↦ rw w.rest-is (
        done ++ take w.in-Ok.count rest,
        whole ∙ ap (λ l. done ++ l) (sym (take-append-drop w.in-Ok.count rest))
            ∙ sym (append_assoc done (take w.in-Ok.count rest) (drop w.in-Ok.count rest))
            ∙ ap (λ l. done ++ take w.in-Ok.count rest ++ l) (sym (take_rest rest w.in-Ok.count)),
        Appends-trans _ _ _ _ _ appended w.in-Ok.ensures.bytes,
      )
      | in-Err+else-ne w ↦ rw w.rest-is (
        done,
        whole,
        Appends-kept _ _ _ _ appended w.in-Err.ensures.bytes,
      )
    ]
