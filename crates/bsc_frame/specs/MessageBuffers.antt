-- The message that a buffer holds, if it holds one.
use Rattle.std.specs.Prelude.{◌<◌, length, Option, Some, None}
use Rattle.bsc_frame.specs.TextBuffers.{buffer_units, buffer_text, IsTextBuffer}
use Rattle.bsc_frame.specs.declared.text_buffer.TextBuffer.{TextBuffer}
use Rattle.bsc_frame.specs.declared.message.Message.{Message}
use Rattle.bsc_frame.specs.declared.message.Message.TheVariants as m
use Rattle.bsc_frame.specs.declared.message_buffer.Kind.{Kind}
use Rattle.bsc_frame.specs.declared.message_buffer.Kind.TheVariants.{Nothing, Eot, Call, Enq, Reply}
use Rattle.bsc_frame.specs.declared.message_buffer.Kind.TheVariants.{Text}

-- The message of this kind, with the text of the buffer if it is one.
abbrev pub message_in : Kind → TextBuffer → Option Message
message_in Nothing b = None
message_in Eot b = Some m.Eot
message_in (Call a) b = Some (m.Call a)
message_in Enq b = Some m.Enq
message_in (Reply r) b = Some (m.Reply r)
message_in Text b = Some (m.Text (buffer_text b))

-- The units of a text, at least one, are within their limits.
pub record HasUnits (b : TextBuffer) : Type 0 where
  pub buffer : IsTextBuffer b
  pub some : 0 < length (buffer_units b)

-- The buffer holds what its kind says: for a text it has units.
abbrev pub HoldsMessage : Kind → TextBuffer → Type 0
HoldsMessage Text b = HasUnits b
HoldsMessage _ b = Unit {0}
