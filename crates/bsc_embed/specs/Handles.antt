-- What a handle has.
use Rattle.std.specs.Prelude.{Option}
use Rattle.bsc_embed.specs.declared.handles.handle.Handle.{Handle}
use Rattle.bsc_embed.specs.declared.handles.made.Made.{Made}

-- What was made, if something was.
abbrev pub made_in : Handle → Option Made
made_in h = h.pointer.made
