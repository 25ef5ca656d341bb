-- The characters from the end before to the end of a record are that record.
use Rattle.std.proofs.Common.{get_or, arith}
use Rattle.bsc_block.proofs.Pieces.{IsPart, part_at}
use Rattle.bsc_block.proofs.packed.part.Goals as goal

pub slice_bounds-result-count : goal.slice_bounds-result-count
slice_bounds-result-count c =
    (part_at c.args.ends.now c.args.chars.now c.args.place c.start-from.result c.requires.records
    c.requires.place c.start-from.ensures).low

pub slice_bounds-result-start : goal.slice_bounds-result-start
slice_bounds-result-start c =
    let at : IsPart c.args.ends.now c.args.chars.now c.args.place c.start-from.result
    (get_or c.args.ends.now c.args.place 0) =
    part_at c.args.ends.now c.args.chars.now c.args.place c.start-from.result c.requires.records
    c.requires.place c.start-from.ensures in
    omega (arith, at.low, at.high)

pub slice_bounds-result-end : goal.slice_bounds-result-end
slice_bounds-result-end c =
    let at : IsPart c.args.ends.now c.args.chars.now c.args.place c.start-from.result
    (get_or c.args.ends.now c.args.place 0) =
    part_at c.args.ends.now c.args.chars.now c.args.place c.start-from.result c.requires.records
    c.requires.place c.start-from.ensures in
    omega (arith, at.low, at.high)

pub returns-clause-value : goal.returns-clause-value
returns-clause-value c =
    (part_at c.args.ends.now c.args.chars.now c.args.place c.start-from.result c.requires.records
    c.requires.place c.start-from.ensures).is

pub returns-clause-record : goal.returns-clause-record
returns-clause-record c =
    (part_at c.args.ends.now c.args.chars.now c.args.place c.start-from.result c.requires.records
    c.requires.place c.start-from.ensures).of_record
