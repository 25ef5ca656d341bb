-- What was made is in the handle, or the reason why not is told.
use Rattle.std.proofs.Common.{sym, subst, ◌∙◌}
use Rattle.bsc_embed.specs.Handles.{made_in}
use Rattle.bsc_embed.specs.declared.handles.made.Made.TheVariants.{Line}
use Rattle.bsc_embed.specs.LineMaking.{MakesLine}
use Rattle.bsc_embed.proofs.Makings.{has_nothing, made_and_kept}
use Rattle.bsc_embed.proofs.line.bsc_line_new.Goals as goal

pub returns-in-Ok : goal.returns-in-Ok
returns-in-Ok c =
    made_and_kept Line (MakesLine c.args.settings.now c.args.terminals.now c.args.poll_list.now) (made_in c.args.handle.now) _ _
    c.in-Ok.line (has_nothing _ (sym c.is_made.ensures.answer ∙ c.if-is_made.false))
    (subst (MakesLine c.args.settings.now c.args.terminals.now c.args.poll_list.now) c.in-Ok.is c.new_line.ensures) c.keep.ensures
