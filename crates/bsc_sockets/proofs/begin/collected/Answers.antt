-- One more address of the host is taken.
use Rattle.std.proofs.Common.{rules, arith}
use Rattle.bsc_sockets.proofs.Hosts.{one_more_host}
use Rattle.bsc_sockets.proofs.begin.collected.Goals as goal

pub hosts-preserved : goal.hosts-preserved
hosts-preserved g c =
    one_more_host c.hosts.all.items _ _ c.push.new.self.items _ c.in-Some.host _ _
    c.hosts.invariant c.in-Some.ensures.steps.0 (omega (arith, c.in-Some.ensures.steps.1))
    (search rules)
