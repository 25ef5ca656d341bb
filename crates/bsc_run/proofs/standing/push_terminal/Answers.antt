-- Shows that the channel from the terminal is added, and then each channel to it.
use Rattle.std.proofs.Common.{◌≡◌, ◌∷◌, [], add-one, arith}
use Rattle.bsc_bid.specs.declared.way.Way.TheVariants.{FromTerminal, ToTerminal}
use Rattle.bsc_line_model.specs.Offers.{select_count}
use Rattle.bsc_run.specs.Changes.{standing_on, standings_to}
use Rattle.bsc_run.proofs.Standings.{joined}
use Rattle.bsc_run.proofs.standing.push_terminal.Goals as goal

pub selects-preserved : goal.selects-preserved
selects-preserved g c =
    rw add-one
    (joined _ c.selects.channels.items (standings_to c.args.line.now c.args.terminal c.selects.select)
    _ (standing_on c.args.line.now c.args.terminal (ToTerminal c.selects.select) ∷ [])
    c.selects.invariant
    (rw c.standing-in-selects.ensures at c.in_ok-push-2.ensures.items))

pub returns : goal.returns
returns g c =
    let all : c.selects.select ≡ select_count c.args.line.now c.args.terminal =
    omega (arith, c.addresses-select-end.ensures.value) in
    joined c.args.channels.now.items c.push.new.self.items
    (standing_on c.args.line.now c.args.terminal FromTerminal ∷ []) c.selects.channels.items
    (standings_to c.args.line.now c.args.terminal (select_count c.args.line.now c.args.terminal))
    (rw c.standing.ensures at c.in_ok-push.ensures.items) (rw all at c.selects.invariant)
