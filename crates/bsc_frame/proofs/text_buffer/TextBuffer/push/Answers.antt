-- `push` has room for the unit, and leaves a buffer with it at the end.
use Rattle.std.proofs.Common.{lit<}
use Rattle.bsc_frame.proofs.TextBuffers.{buffer_push, buffer_room, buffer_count}
use Rattle.bsc_frame.proofs.text_buffer.TextBuffer.push.Goals as goal

pub append-requires : goal.append-requires
append-requires c =
    (lit< tt, buffer_room c.args.self.now _ c.requires.buffer c.requires.room c.requires.unit.most)

pub push-requires : goal.push-requires
push-requires c = (lit< tt, buffer_count c.args.self.now c.requires.room)

pub returns-clause-units : goal.returns-clause-units
returns-clause-units c =
    (buffer_push c.args.self.now (record { chars = c.append.new.buffer; marks = c.push.new.self; end = c.args.self.now.end })
    (record { end = c.len.result; em = c.args.unit.em }) c.args.unit.chars.now
    c.requires.buffer c.requires.room c.requires.unit c.append.ensures c.push.ensures.items
    c.len.ensures.value).0

pub returns-clause-buffer : goal.returns-clause-buffer
returns-clause-buffer c =
    (buffer_push c.args.self.now (record { chars = c.append.new.buffer; marks = c.push.new.self; end = c.args.self.now.end })
    (record { end = c.len.result; em = c.args.unit.em }) c.args.unit.chars.now
    c.requires.buffer c.requires.room c.requires.unit c.append.ensures c.push.ensures.items
    c.len.ensures.value).1
