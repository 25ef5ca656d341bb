use Rattle.std.proofs.Common.{◌≡◌, ◌∙◌, ◌+◌, ◌∷◌, ap, subst, drop, rules, arith}
use Rattle.sqlite.specs.State.{HasCleanDisk}
use Rattle.sqlite.specs.Held.{state}
use Rattle.sqlite.proofs.StateLemmas.{survives_then}
use Rattle.bsc_store.specs.Checks.{marks_after, marks_after_all}
use Rattle.bsc_store.specs.Tables.{Ran, RanAll}
use Rattle.bsc_store.proofs.Steps.{rest_from, keeps_then}
use Rattle.bsc_store.proofs.writing.write_all.Goals as goal

pub loop-change-preserved : goal.loop-change-preserved
loop-change-preserved g c =
    let first = c.args.tx.now.conn.now in
    let mid = c.loop-change.tx.conn.now in
    let now = c.write.new.tx.conn.now in
    let before = c.loop-change.invariant in
    let step = c.in_ok-write.ensures in
    let rest = drop (c.loop-change.change-index + 1) c.args.step.now in
    let after : c.in_ok-after.after ≡ marks_after c.change-item.result c.loop-change.last = c.in_ok-after.ensures in
    let begins = rest_from c.args.step.now c.loop-change.change-index c.change-item.result (search rules) c.change-item.is in
    record {
      same = search rules;
      survives = survives_then (state g.S.Store first) (state g.S.Store mid) (state g.S.Store now) _ _ (λ _. ⊥) (λ _ db none. none) (λ _ db none. none) before.survives step.survives;
      kept = λ clean inside.
          let early : HasCleanDisk (state g.S.Store mid) = omega (arith, step.survives.clean) in
          keeps_then _ _ _ (before.kept early inside) (c.write.ensures.kept clean (before.goes_on early inside));
      goes_on = λ clean inside. (step.ran clean (before.goes_on (omega (arith, step.survives.clean)) inside)).goes_on;
      marks = ap (marks_after_all rest) after ∙ ap (λ cs. marks_after_all cs c.loop-change.last) begins ∙ before.marks;
      ran = λ clean inside last others.
          let early : HasCleanDisk (state g.S.Store mid) = omega (arith, step.survives.clean) in
          let one = subst (λ m. Ran g.S.Store m c.change-item.result mid now) after (step.ran clean (before.goes_on early inside)) in
          let left = subst (λ m. RanAll g.S.Store m rest now last) after others in
          let both : RanAll g.S.Store c.loop-change.last (c.change-item.result ∷ rest) mid last = (now, one, left) in
          before.ran early inside last (subst (λ cs. RanAll g.S.Store c.loop-change.last cs mid last) begins both);
    }
