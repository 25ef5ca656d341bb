-- The loop invariant of `append`: the records stored so far, and room for the others.
use Rattle.std.proofs.Common.{◌≡◌, ◌+◌, ◌*◌, ◌≤◌, ◌++◌, take, vec_len, vec_capacity}
use Rattle.bsc_frame.specs.declared.limits.TheConstants.{MAX_CHARS, MAX_UNITS}
use Rattle.bsc_block.specs.Pieces.{pieces, AreRecords}
use Rattle.bsc_block.proofs.packed.Packed.append.Given as goal

abbrev pub invariant-loop-place : goal.invariant-loop-place
invariant-loop-place g l = record {
  records : AreRecords l.self-inside.ends.items l.self-inside.chars.items;
  stored : pieces 0 l.self-inside.ends.items l.self-inside.chars.items
      ≡ l.fn.self.items ++ take l.place l.block;
  room : vec_len l.self-inside.chars + MAX_UNITS * MAX_CHARS
      ≤ vec_capacity l.self-inside.chars + l.place * MAX_CHARS;
  end_room : vec_len l.self-inside.ends + MAX_UNITS
      ≤ vec_capacity l.self-inside.ends + l.place;
}
