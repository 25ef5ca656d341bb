-- The channels of the terminals so far are added.
use Rattle.std.proofs.Common.{◌≡◌}
use Rattle.bsc_keeping.specs.Own.{each_of, polled_at, selections_at}
use Rattle.bsc_keeping.proofs.own.channels_of_control.Given as goal

abbrev pub invariant-terminals : goal.invariant-terminals
invariant-terminals l =
    record {
      sending : l.sending.items ≡ each_of (selections_at l.terminals) l.number;
      receiving : l.receiving.items ≡ each_of (polled_at l.terminals) l.number;
    }
