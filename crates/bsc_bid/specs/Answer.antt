-- The meaning of a reply to a block that waits for one (GA27-3004: alternating acknowledgements,
-- WACK and RVI).
use Rattle.bsc_frame.specs.declared.reply.Reply.{Reply}
use Rattle.bsc_frame.specs.declared.reply.Reply.TheVariants.{Ack0, Ack1, Nak, Wack, Rvi}
use Rattle.bsc_bid.specs.declared.alternation.Alternation.{Alternation}
use Rattle.bsc_bid.specs.declared.alternation.Alternation.TheVariants.{Even, Odd}
use Rattle.bsc_bid.specs.declared.answer.Answer.{Answer}
use Rattle.bsc_bid.specs.declared.answer.Answer.TheVariants.{Accepted, Refused, Delayed}
use Rattle.bsc_bid.specs.declared.answer.Answer.TheVariants.{Interrupted}

-- The alternation after one more block.
abbrev pub other : Alternation → Alternation
other Even = Odd
other Odd = Even

-- The acknowledgement of this many blocks: ACK0 if their number is even, ACK1 if it is odd.
abbrev pub ack : Alternation → Reply
ack Even = Ack0
ack Odd = Ack1

-- The meaning of a reply to a block: the acknowledgement that the block expects, the other one or
-- NAK, WACK, or RVI. The alternation is that of the number of blocks taken once the block is taken.
abbrev pub answer_of : Alternation → Reply → Answer
answer_of Odd Ack1 = Accepted
answer_of Odd Ack0 = Refused
answer_of Even Ack1 = Refused
answer_of Even Ack0 = Accepted
answer_of _ Nak = Refused
answer_of _ Wack = Delayed
answer_of _ Rvi = Interrupted
