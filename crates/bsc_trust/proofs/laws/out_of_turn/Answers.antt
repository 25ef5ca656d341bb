-- No answer is heard on a connection that is barred.
use Rattle.bsc_trust.proofs.Barring.{no_answer_afterwards}
use Rattle.bsc_trust.proofs.laws.out_of_turn.Goals as goal

pub returns : goal.returns
returns c = no_answer_afterwards
