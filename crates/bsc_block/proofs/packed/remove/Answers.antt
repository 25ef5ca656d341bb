-- `remove` leaves the other records.
use Rattle.std.proofs.Common.{◌≡◌, arith}
use Rattle.bsc_block.proofs.Removing.{left, lowered}
use Rattle.bsc_block.proofs.packed.remove.Goals as goal

pub remove_front-requires : goal.remove_front-requires
remove_front-requires g c =
    omega (
      arith,
      c.args.chars.now.ok.0,
      (left c.args.ends.now.items c.args.chars.now.items c.args.count c.index-removed.result.now
          c.requires.records c.requires.some c.requires.there c.index-removed.ensures).within,
    )

pub returns-clause-records : goal.returns-clause-records
returns-clause-records g c =
    let low : c.lower.new.ends.items
    ≡ lowered c.index-removed.result.now c.remove_front-2.new.list.items = c.lower.ensures.items in
    rw (low, c.remove_front-2.ensures.items, c.remove_front.ensures.items)
    (left c.args.ends.now.items c.args.chars.now.items c.args.count c.index-removed.result.now
    c.requires.records c.requires.some c.requires.there c.index-removed.ensures).records

pub returns-clause-items : goal.returns-clause-items
returns-clause-items g c =
    let low : c.lower.new.ends.items
    ≡ lowered c.index-removed.result.now c.remove_front-2.new.list.items = c.lower.ensures.items in
    rw (low, c.remove_front-2.ensures.items, c.remove_front.ensures.items)
    (left c.args.ends.now.items c.args.chars.now.items c.args.count c.index-removed.result.now
    c.requires.records c.requires.some c.requires.there c.index-removed.ensures).items
