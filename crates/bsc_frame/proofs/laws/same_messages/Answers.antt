-- The comparison of two messages decides whether they are the same.
use Rattle.bsc_frame.proofs.Messages.{message_decides}
use Rattle.bsc_frame.proofs.laws.same_messages.Goals as goal

pub returns : goal.returns
returns c = message_decides
