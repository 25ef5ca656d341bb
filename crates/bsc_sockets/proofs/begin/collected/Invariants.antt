-- The loop invariant of `collected`.
use Rattle.std.proofs.Common.{◌≡◌, ◌++◌}
use Rattle.std.specs.Net.ToAddrs.{host_addrs}
use Rattle.bsc_sockets.proofs.begin.collected.Given as goal

-- The addresses so far, and those that are left, are all addresses.
abbrev pub invariant-hosts : goal.invariant-hosts
invariant-hosts g l = l.all.items ++ host_addrs l.host-iterator ≡ host_addrs l.fn.hosts
