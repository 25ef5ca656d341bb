-- A buffer of one unit or more holds a text.
use Rattle.bsc_frame.proofs.TextBuffers.{holds_text}
use Rattle.bsc_frame.proofs.text_buffer.TextBuffer.text.Goals as goal

pub invariant_of-result : goal.invariant_of-result
invariant_of-result c = holds_text c.args.self.now c.requires.buffer c.requires.some
