-- The numbers of `enum bsc_kind` in bsc.h.
use Rattle.std.specs.Prelude.{ℕ, ◌==◌, if◌then◌else◌, Option, Some, None}
use Rattle.bsc_embed.specs.declared.kind.Kind.{Kind}
use Rattle.bsc_embed.specs.declared.kind.Kind.TheVariants.{Noise, Failed, Eot, Call, Enq, Reply}
use Rattle.bsc_embed.specs.declared.kind.Kind.TheVariants.{Text}
use Rattle.bsc_frame.specs.declared.reply.Reply.TheVariants.{Ack0, Ack1, Nak, Wack, Rvi}

-- The kind with this number in C.
abbrev pub kind_at : ℕ → Option Kind
kind_at number =
    if number == 0 then Some Noise
    else if number == 1 then Some Failed
    else if number == 2 then Some Eot
    else if number == 3 then Some Call
    else if number == 4 then Some Enq
    else if number == 5 then Some (Reply Ack0)
    else if number == 6 then Some (Reply Ack1)
    else if number == 7 then Some (Reply Nak)
    else if number == 8 then Some (Reply Wack)
    else if number == 9 then Some (Reply Rvi)
    else if number == 10 then Some Text
    else None
