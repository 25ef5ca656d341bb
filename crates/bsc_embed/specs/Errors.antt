-- The texts of errors. This is the project's own.
use Rattle.std.specs.Prelude.{ℕ, nat_le, if◌then◌else◌, List, [], length, Option, Some, None}
use Rattle.bsc_embed.specs.Faults.{fault_at, fault_text}
use Rattle.bsc_embed.specs.declared.interface.fault.Fault.{Fault}

-- The text of an error that a buffer of this length takes: all of it, or none if there is no such
-- error or too little room.
abbrev pub fault_within : ℕ → Option Fault → List ℕ
fault_within room None = []
fault_within room (Some f) = if nat_le (length (fault_text f)) room then fault_text f else []

abbrev pub text_within : ℕ → ℕ → List ℕ
text_within room number = fault_within room (fault_at number)
