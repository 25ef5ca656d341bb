-- Each step of the loop of `blocks` passes one block.
use Rattle.std.proofs.Common.{◌≡◌, ◌<◌, ℕ, length, drop, ◌∙◌, ap, subst, arith}
use Rattle.std.proofs.lemmas.List.{length-drop}
use Rattle.bsc_block.specs.Blocks.{taken}
use Rattle.bsc_spool.specs.Queue.{QueueValue, IsQueue}
use Rattle.bsc_spool.proofs.BlockCount.{TakesOne, one_block}
use Rattle.bsc_spool.proofs.queue.Queue.blocks.Goals as goal

pub pack-at-requires-clause-there : goal.pack-at-requires-clause-there
pack-at-requires-clause-there g c =
    let count : length c.self.inside.records.items ≡ length c.args.self.now.offered =
    ap (λ (z : QueueValue). length z.offered) c.self.view_is in
    omega (arith, c.loop-at.invariant.inside, count)

pub pack-at-requires-clause-short : goal.pack-at-requires-clause-short
pack-at-requires-clause-short g c = c.self.invariant.short

pub overflow_add-at : goal.overflow_add-at
overflow_add-at g c =
    let left = length-drop c.loop-at.at c.self.inside.records.items in
    omega (arith, c.loop-at-test.true, c.len.ensures, c.pack-at.ensures.greatest.there, left)

pub overflow_add-count : goal.overflow_add-count
overflow_add-count g c =
    omega (arith, c.loop-at-test.true, c.len.ensures, c.loop-at.invariant.few)

pub returns-clause-few : goal.returns-clause-few
returns-clause-few g c =
    omega (
      arith,
      c.loop-at.invariant.few,
      c.loop-at.invariant.inside,
      length-drop c.args.self.now.known c.args.self.now.offered,
    )

pub loop-at-preserved : goal.loop-at-preserved
loop-at-preserved g c =
    let q : QueueValue = c.args.self.now in
    let at : ℕ = c.loop-at.at in
    let is : IsQueue q = subst IsQueue c.self.view_is c.self.invariant in
    let count : length c.self.inside.records.items ≡ length q.offered =
    ap (λ (z : QueueValue). length z.offered) c.self.view_is in
    let less : at < length q.offered = omega (arith, c.loop-at-test.true, c.len.ensures, count) in
    let takes : c.pack-at.result ≡ taken q.format (drop at q.offered) =
    c.pack-at.ensures.value
    ∙ ap (λ (z : QueueValue). taken z.format (drop at z.offered)) c.self.view_is in
    let one : TakesOne q.format q.offered at c.pack-at.result =
    one_block c.cut_into_blocks.ensures.taken c.cut_into_blocks.ensures.some
    c.cut_into_blocks.ensures.next c.cut_into_blocks.ensures.rest q.format q.offered at
    c.pack-at.result is.format is.short less takes in
    record {
      inside = one.inside;
      few = omega (arith, one.some, c.loop-at.invariant.few);
      count = omega (arith, one.count, c.loop-at.invariant.count);
    }
