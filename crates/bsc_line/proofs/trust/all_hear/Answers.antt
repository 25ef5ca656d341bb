-- `all_hear` returns whether all terminals hear the message.
use Rattle.std.proofs.Common.{◌↔◌, IsTrue, sym, subst}
use Rattle.bsc_line_model.specs.Trust.{AllHear}
use Rattle.bsc_line.specs.declared.hearing.Hearings.{Hearings}
use Rattle.bsc_line.specs.Hearings.{hearing_of}
use Rattle.bsc_line.proofs.Alike.{same_test_for_each}
use Rattle.bsc_line.proofs.trust.all_hear.Goals as goal

pub returns-in-Alike : goal.returns-in-Alike
returns-in-Alike c =
    subst (λ (x : Hearings). IsTrue c.is_whole.result ↔ AllHear c.args.count (hearing_of x)
    c.args.message.now)
    (sym c.in-Alike.is) (same_test_for_each c.is_whole.result _ c.args.count c.requires c.is_whole.ensures)

pub returns-in-Each : goal.returns-in-Each
returns-in-Each c =
    subst (λ (x : Hearings). IsTrue c.each_hears.result ↔ AllHear c.args.count (hearing_of x)
    c.args.message.now)
    (sym c.in-Each.is) c.each_hears.ensures
