-- The loop invariant of `terminal`: the selection addresses read so far.
use Rattle.std.proofs.Common.{◌≡◌, Some, take, length}
use Rattle.bsc_bid.specs.declared.limits.TheConstants.{MAX_SELECTS}
use Rattle.bsc_embed.specs.Addresses.{addresses_in}
use Rattle.bsc_embed.proofs.interface.addresses.StoredAddresses.terminal.Given as goal

abbrev pub invariant-loop-place : goal.invariant-loop-place
invariant-loop-place l = record {
  long : length l.selects ≡ MAX_SELECTS;
  read : addresses_in (take l.place l.self.selects) ≡ Some (take l.place l.selects);
}
