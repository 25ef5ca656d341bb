-- This many selection addresses have been entered after the polling address.
use Rattle.std.proofs.Common.{◌≡◌, ◌++◌, ◌∷◌, take}
use Rattle.bsc_bid.specs.declared.way.Way.TheVariants.{FromTerminal}
use Rattle.bsc_bid.specs.Addresses.{numbered_selects}
use Rattle.bsc_bid.proofs.directory.Directory.enter_all.Given as goal

abbrev pub invariant-loop-select : goal.invariant-loop-select
invariant-loop-select g l = l.self ≡ l.fn.self ++ (l.terminal.poll, (l.number, FromTerminal))
    ∷ numbered_selects l.number 0 (take l.select l.terminal.selects)
