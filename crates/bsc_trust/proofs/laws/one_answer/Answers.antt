-- At most one answer for each sending, from the lemmas that count them.
use Rattle.bsc_trust.proofs.Counting.{at_most_one, as_many_as_sendings}
use Rattle.bsc_trust.proofs.laws.one_answer.Goals as goal

pub returns-clause-after_sending : goal.returns-clause-after_sending
returns-clause-after_sending c = at_most_one

pub returns-clause-in_all : goal.returns-clause-in_all
returns-clause-in_all c = as_many_as_sendings
