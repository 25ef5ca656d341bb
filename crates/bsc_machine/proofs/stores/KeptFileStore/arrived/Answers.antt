-- The store in a file gives what its table gives.
use Rattle.std.proofs.Common.{◌≡◌, IfOk, subst, rules, w64, to_z, of_z}
use Rattle.bsc_machine.specs.contracts.stores.KeptFileStore.TheImpl.{ghosts}
use Rattle.bsc_machine.proofs.stores.KeptFileStore.arrived.Goals as goal

pub returns-clause-finds : goal.returns-clause-finds
returns-clause-finds c =
    let back : to_z w64 (of_z w64 c.args.mark) ≡ c.args.mark = search rules in
    subst
    (λ m. IfOk c.arrived.result
    (λ it. ghosts.finds_arrived c.args.channel.now m c.args.more it c.args.self.now
    (record { paths = c.args.self.now.paths; table = c.arrived.new.self })))
    back c.arrived.ensures.finds
