-- `run` keeps the records of a trusted line and delivers those of a visit and of a round; from a
-- new line, a terminal holds it only while it is polled.
use Rattle.bsc_line.proofs.line.Line.run.Goals as goal

pub returns-clause-visit : goal.returns-clause-visit
returns-clause-visit g c =
    λ place h. c.visit.ensures c.args.self.now c.do_each.new.self c.args.events.now c.do_each.result
    c.is_line.ensures c.do_each.ensures place h

pub returns-clause-holder : goal.returns-clause-holder
returns-clause-holder g c =
    c.line_holder.ensures.since_new c.args.self.now c.do_each.new.self c.args.events.now
    c.do_each.result c.is_line.ensures c.do_each.ensures
