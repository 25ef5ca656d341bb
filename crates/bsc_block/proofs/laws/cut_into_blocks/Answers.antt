-- How waiting records are divided into blocks, from the lemmas about the next block.
use Rattle.std.proofs.Common.{length, ◌≤◌}
use Rattle.bsc_block.specs.Blocks.{taken}
use Rattle.bsc_frame.proofs.Elements.{all_drop}
use Rattle.bsc_block.proofs.Taking.{taken_is_taken, taken_some}
use Rattle.bsc_block.proofs.Cutting.{blocks_next}
use Rattle.bsc_block.proofs.laws.cut_into_blocks.Goals as goal

pub returns-clause-taken : goal.returns-clause-taken
returns-clause-taken c = taken_is_taken

pub returns-clause-some : goal.returns-clause-some
returns-clause-some c = λ f rs i s. taken_some f rs (taken f rs) i s (taken_is_taken f rs)

pub returns-clause-next : goal.returns-clause-next
returns-clause-next c = blocks_next

pub returns-clause-rest : goal.returns-clause-rest
returns-clause-rest c = λ full k rs h. all_drop (λ r. length r ≤ full) k rs h
