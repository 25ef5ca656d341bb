-- `pending` lends the pending transmission, which keeps the limits of a message.
use Rattle.bsc_line.proofs.line.Line.pending.Goals as goal

pub returns-clause-value : goal.returns-clause-value
returns-clause-value g c = rw (← c.self.view_is) c.transmission-sent.ensures

pub returns-clause-limits : goal.returns-clause-limits
returns-clause-limits g c = rw (← c.self.view_is, ← c.transmission-sent.ensures) c.within_limits.ensures
