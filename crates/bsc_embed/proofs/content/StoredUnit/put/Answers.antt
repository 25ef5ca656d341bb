-- `put` stores the unit and keeps the characters after its length.
use Rattle.std.proofs.Common.{length, drop}
use Rattle.std.proofs.Math.Seq.{drop-append_seam}
use Rattle.bsc_frame.specs.Units.{text_unit}
use Rattle.bsc_embed.proofs.Units.{unit_put}
use Rattle.bsc_embed.proofs.content.StoredUnit.put.Goals as goal

pub returns-clause-unit : goal.returns-clause-unit
returns-clause-unit c =
    rw c.copy_from_slice.ensures.after
    (unit_put (text_unit c.args.unit) c.args.self.now.chars c.requires)

pub returns-clause-kept : goal.returns-clause-kept
returns-clause-kept c =
    rw c.copy_from_slice.ensures.after
    (drop-append_seam c.args.unit.chars.now
    (drop (length c.args.unit.chars.now) c.args.self.now.chars))
