-- `put` appends one record.
use Rattle.std.proofs.Common.{◌≡◌, ◌+◌, length, arith}
use Rattle.bsc_block.proofs.Pieces.{pieces_push, are_records_push}
use Rattle.bsc_block.proofs.packed.put.Goals as goal

pub returns-clause-records : goal.returns-clause-records
returns-clause-records g c =
    let end : c.len.result ≡ length c.args.chars.now.items + length c.args.new.now =
    omega (arith, c.len.ensures, c.in-Ok.ensures.len, c.args.chars.now.ok.0) in
    rw (c.push_reserved.ensures.items, c.in-Ok.ensures.items, end)
    (are_records_push c.args.ends.now.items c.args.chars.now.items c.args.new.now
    c.requires.records c.requires.new)

pub returns-clause-items : goal.returns-clause-items
returns-clause-items g c =
    let end : c.len.result ≡ length c.args.chars.now.items + length c.args.new.now =
    omega (arith, c.len.ensures, c.in-Ok.ensures.len, c.args.chars.now.ok.0) in
    rw (c.push_reserved.ensures.items, c.in-Ok.ensures.items, end)
    (pieces_push 0 c.args.ends.now.items c.args.chars.now.items c.args.new.now
    c.requires.records.cut)
