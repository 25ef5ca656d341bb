-- What was made is in the handle, or the reason why not is told.
use Rattle.std.proofs.Common.{sym, ap, subst, ◌∙◌}
use Rattle.bsc_embed.specs.Handles.{made_in}
use Rattle.bsc_embed.specs.declared.handles.made.Made.TheVariants.{Terminal}
use Rattle.bsc_embed.specs.TerminalMaking.{IsMade}
use Rattle.bsc_embed.proofs.Makings.{has_nothing, made_and_kept, not_made}
use Rattle.bsc_embed.proofs.terminal.bsc_terminal_new.Goals as goal

pub returns-in-Ok : goal.returns-in-Ok
returns-in-Ok c =
    made_and_kept Terminal (IsMade c.args.settings.now c.args.addresses.now) (made_in c.args.handle.now) _ _
    c.in-Ok.terminal (has_nothing _ (sym c.is_made.ensures.answer ∙ c.if-is_made.false))
    (subst (IsMade c.args.settings.now c.args.addresses.now) c.in-Ok.is c.new_terminal.ensures) c.keep.ensures

pub returns-in-Err : goal.returns-in-Err
returns-in-Err c =
    let nothing : _ = has_nothing _ (sym c.is_made.ensures.answer ∙ c.if-is_made.false) in
    not_made Terminal (IsMade c.args.settings.now c.args.addresses.now) (made_in c.args.handle.now)
    _ _ c.in-Err.fault nothing (ap made_in c.is_made.ensures.same ∙ nothing)
    (subst (IsMade c.args.settings.now c.args.addresses.now) c.in-Err.is c.new_terminal.ensures)
    c.number-in-Err.ensures
