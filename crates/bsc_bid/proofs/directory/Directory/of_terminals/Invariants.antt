-- The addresses of this many terminals have been entered.
use Rattle.std.proofs.Common.{◌≡◌, take}
use Rattle.bsc_bid.specs.Addresses.{numbered}
use Rattle.bsc_bid.proofs.directory.Directory.of_terminals.Given as goal

abbrev pub invariant-loop-number : goal.invariant-loop-number
invariant-loop-number g l = l.directory ≡ numbered 0 (take l.number l.terminals)
