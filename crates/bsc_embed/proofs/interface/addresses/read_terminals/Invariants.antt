-- The loop invariant of `read_terminals`: the terminals read so far.
use Rattle.std.proofs.Common.{◌≡◌, Ok, take}
use Rattle.bsc_embed.specs.Addresses.{terminals_in}
use Rattle.bsc_embed.proofs.interface.addresses.read_terminals.Given as goal

abbrev pub invariant-loop-addresses : goal.invariant-loop-addresses
invariant-loop-addresses l = terminals_in (take l.addresses-index l.stored) ≡ Ok l.terminals.items
