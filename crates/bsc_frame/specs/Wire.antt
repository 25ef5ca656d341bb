-- The octets that are sent for each message (GA27-3004: control characters and sequences in
-- USASCII).
use Rattle.std.specs.Prelude.{ℕ, List, [], ◌∷◌, ◌++◌, map}
use Rattle.bsc_octet.specs.Octet.{odd_octet}
use Rattle.bsc_frame.specs.Replies.{reply_octets}
use Rattle.bsc_frame.specs.Units.{units_wire}
use Rattle.bsc_frame.specs.declared.message.Message.{Message}
use Rattle.bsc_frame.specs.declared.message.Message.TheVariants.{Eot, Call, Enq, Reply, Text}
use Rattle.bsc_octet.specs.declared.controls.TheConstants.{ENQ, EOT, PAD, STX, SYN}

-- A body between two SYN and one PAD.
abbrev pub framed : List ℕ → List ℕ
framed body = SYN ∷ SYN ∷ [] ++ body ++ PAD ∷ []

-- What is sent for each message, one on each line. A call is EOT with its PAD, two SYN, the address
-- and ENQ.
abbrev pub wire : Message → List ℕ
wire Eot = framed (EOT ∷ [])
wire (Call a) = framed (EOT ∷ PAD ∷ SYN ∷ SYN ∷ [] ++ map odd_octet a ++ ENQ ∷ [])
wire Enq = framed (ENQ ∷ [])
wire (Reply r) = framed (reply_octets r)
wire (Text t) = framed (STX ∷ units_wire t.units t.end)
