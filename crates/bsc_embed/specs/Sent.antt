-- What is stored in a buffer of the caller.
use Rattle.std.specs.Prelude.{ℕ, nat_le, if◌then◌else◌, List, [], length, Option, Some, None}
use Rattle.bsc_frame.specs.declared.message.Message.{Message}
use Rattle.bsc_frame.specs.Wire.{wire}

-- The octets of a message that a buffer of this length takes: all of them, or none if there is no
-- message or too little room.
abbrev pub octets_within : ℕ → Option Message → List ℕ
octets_within room None = []
octets_within room (Some m) = if nat_le (length (wire m)) room then wire m else []
