-- What stays when records are forgotten, from the lemmas about such lists.
use Rattle.bsc_block.proofs.Forgotten.{length_forgotten, drop_forgotten, short_forgotten}
use Rattle.bsc_block.proofs.laws.forgotten_records.Goals as goal

pub returns-clause-count : goal.returns-clause-count
returns-clause-count c = length_forgotten

pub returns-clause-rest : goal.returns-clause-rest
returns-clause-rest c = drop_forgotten

pub returns-clause-short : goal.returns-clause-short
returns-clause-short c = short_forgotten
