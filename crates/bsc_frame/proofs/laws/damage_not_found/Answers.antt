-- Damage that is not detected, from the lemmas about sums and two examples.
use Rattle.bsc_frame.proofs.SumChanges.{two_turned}
use Rattle.bsc_frame.proofs.DamageNotFound.{other_text, other_reply}
use Rattle.bsc_frame.proofs.laws.damage_not_found.Goals as goal

pub returns-clause-sums : goal.returns-clause-sums
returns-clause-sums c = two_turned

pub returns-clause-text : goal.returns-clause-text
returns-clause-text c = other_text

pub returns-clause-reply : goal.returns-clause-reply
returns-clause-reply c = other_reply
