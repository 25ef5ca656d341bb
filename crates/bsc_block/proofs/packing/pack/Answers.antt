-- `pack` stops at the greatest number of records that a block takes.
use Rattle.std.proofs.Common.{◌≡◌, ◌∙◌, ◌-◌, inl, inr, arith, List, ℕ, drop}
use Rattle.std.proofs.Common.{length}
use Rattle.std.proofs.lemmas.List.{length-drop}
use Rattle.bsc_block.proofs.Taking.{stops_there, is_taken_taken}
use Rattle.bsc_block.proofs.Waiting.{front_cost_waiting, stops_at}
use Rattle.bsc_block.proofs.packing.pack.Goals as goal

pub loop-count-preserved : goal.loop-count-preserved
loop-count-preserved g c =
    record {
      few = omega (arith, c.if-count-eq-MAX_UNITS.false, c.loop-count.invariant.few);
      total =
          omega (
            arith,
            c.loop-count.invariant.total,
            c.cost-total.ensures.value,
            front_cost_waiting c.args.format c.args.records.now.items c.args.from
                c.loop-count.count c.chars.result.now c.chars.ensures.chars,
          );
      fits = c.if-total-limit.false;
    }

pub returns-then-count-eq-MAX_UNITS-clause-value : goal.returns-then-count-eq-MAX_UNITS-clause-value
returns-then-count-eq-MAX_UNITS-clause-value g c =
    is_taken_taken c.args.format (drop c.args.from c.args.records.now.items) c.loop-count.count
    (stops_at c.args.format c.args.records.now.items c.args.from c.loop-count.count
    c.loop-count.total c.cost-total.result c.from-limit.result c.chars.result.now
    c.chars.ensures.chars c.loop-count.invariant.few c.loop-count.invariant.total
    c.loop-count.invariant.fits c.cost-total.ensures.value
    (c.from-limit.ensures ∙ c.block_chars.ensures.value) c.then-count-eq-MAX_UNITS.either)

pub returns-then-count-eq-MAX_UNITS-clause-greatest :
    goal.returns-then-count-eq-MAX_UNITS-clause-greatest
returns-then-count-eq-MAX_UNITS-clause-greatest g c =
    stops_at c.args.format c.args.records.now.items c.args.from c.loop-count.count
    c.loop-count.total c.cost-total.result c.from-limit.result c.chars.result.now
    c.chars.ensures.chars c.loop-count.invariant.few c.loop-count.invariant.total
    c.loop-count.invariant.fits c.cost-total.ensures.value
    (c.from-limit.ensures ∙ c.block_chars.ensures.value) c.then-count-eq-MAX_UNITS.either

pub returns-clause-value : goal.returns-clause-value
returns-clause-value g c =
    let rs : List (List ℕ) = c.args.records.now.items in
    let within : length (drop c.args.from rs) ≡ length rs - c.args.from =
    length-drop c.args.from rs in
    let all : c.loop-count.count ≡ c.len.result - c.args.from =
    omega (arith, c.loop-count-test.false, c.loop-count.auto.count-end) in
    is_taken_taken c.args.format (drop c.args.from rs) (c.len.result - c.args.from)
    (rw (← all) (stops_there c.args.format (drop c.args.from rs) c.loop-count.count (omega arith)
    (omega (arith, within, all, c.len.ensures)) (omega arith)
    (inr (inl (omega (arith, within, all, c.len.ensures))))))
