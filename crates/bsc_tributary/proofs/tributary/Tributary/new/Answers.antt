-- `Tributary::new` returns a new terminal.
use Rattle.std.proofs.Common.{◌≡◌, ◌∙◌, [], ap, refl}
use Rattle.bsc_block.specs.Format.{FormatValue}
use Rattle.bsc_spool.specs.Queue.{queue_of}
use Rattle.bsc_tributary.proofs.Stays.{new_is}
use Rattle.bsc_tributary.proofs.tributary.Tributary.new.Given as given
use Rattle.bsc_tributary.proofs.tributary.Tributary.new.Goals as goal

-- the queue is empty, in the format of the settings
new_queue_is_empty : (g : given.Over) (c : goal.After-new-4 g) → c.new-3.result
    ≡ queue_of c.args.setup.format [] 0
new_queue_is_empty g c = c.new-3.ensures ∙ ap (λ (f : FormatValue). queue_of f [] 0) c.format.ensures.value

pub invariant_of-result : goal.invariant_of-result
invariant_of-result g c =
    new_is c.args.terminal c.args.setup c.new.result c.new-2.result c.new-3.result c.new-4.result
    c.requires c.selects.ensures.limits c.format.ensures.limits
    c.new.ensures (new_queue_is_empty g c) (c.new-4.ensures.count ∙ c.selects.ensures.count)

pub returns : goal.returns
returns g c =
    record {
      terminal_given = refl;
      mode = refl;
      ready = refl;
      not_urgent = refl;
      sender = c.new.ensures;
      receiver = c.new-2.ensures;
      queue = new_queue_is_empty g c;
      spools = c.new-4.ensures.empty;
      tributary = invariant_of-result g c;
    }
