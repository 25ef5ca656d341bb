-- The replies of a receiver, one on each line: the octets that carry it, between SYN and PAD, and
-- its name (GA27-3004: control characters and sequences in USASCII).
use Rattle.std.specs.Prelude.{ℕ, List, [], ◌∷◌, Option, Some, None, if◌then◌else◌, codes}
use Rattle.std.specs.Str.{bytes_eq}
use Rattle.bsc_octet.specs.declared.controls.TheConstants.{ACK0, ACK1, NAK, WACK, RVI}
use Rattle.bsc_frame.specs.declared.message.Message.TheVariants as m
use Rattle.bsc_frame.specs.declared.message.Heard.{Heard}
use Rattle.bsc_frame.specs.declared.message.Heard.TheVariants.{Whole}
use Rattle.bsc_frame.specs.declared.reply.Reply.{Reply}
use Rattle.bsc_frame.specs.declared.reply.Reply.TheVariants.{Ack0, Ack1, Nak, Wack, Rvi}

-- The octets of a reply.
abbrev pub reply_octets : Reply → List ℕ
reply_octets Ack0 = ACK0
reply_octets Ack1 = ACK1
reply_octets Nak = NAK ∷ []
reply_octets Wack = WACK
reply_octets Rvi = RVI

-- The name of a reply.
abbrev pub reply_name : Reply → List ℕ
reply_name Ack0 = codes "ACK0"
reply_name Ack1 = codes "ACK1"
reply_name Nak = codes "NAK"
reply_name Wack = codes "WACK"
reply_name Rvi = codes "RVI"

-- The reply whose octets these are, if they are those of one.
abbrev pub reply_spelled : List ℕ → Option Reply
reply_spelled body =
    if bytes_eq body ACK0 then Some Ack0
    else if bytes_eq body ACK1 then Some Ack1
    else if bytes_eq body (NAK ∷ []) then Some Nak
    else if bytes_eq body WACK then Some Wack
    else if bytes_eq body RVI then Some Rvi
    else None

-- The reply that was heard, if it was one.
abbrev pub reply_in : Heard → Option Reply
reply_in (Whole (m.Reply r)) = Some r
reply_in _ = None
