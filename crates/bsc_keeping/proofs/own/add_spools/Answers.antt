-- Shows that the channel to one more selection address is added.
use Rattle.bsc_keeping.specs.Own.{spool_of}
use Rattle.bsc_keeping.proofs.Owns.{each_of_more}
use Rattle.bsc_keeping.proofs.own.add_spools.Goals as goal

pub selects-preserved : goal.selects-preserved
selects-preserved c =
    each_of_more c.args.ends.now.items c.selects.ends.items c.add_spool.new.ends.items
    (spool_of c.args.terminal.now) c.selects.number c.selects.invariant c.in_ok-add_spool.ensures
