-- Records for one more selection address may be forgotten.
use Rattle.bsc_station.specs.Forgetting.{nothing, further}
use Rattle.bsc_station.proofs.forgetting.forget_sent_to_all.Goals as goal

pub returns-then-terminal-terminals : goal.returns-then-terminal-terminals
returns-then-terminal-terminals g c = nothing

pub selects-init : goal.selects-init
selects-init g c = nothing

pub selects-preserved : goal.selects-preserved
selects-preserved g c = further c.selects.invariant c.forget_sent_to.ensures
