-- `all_fair` returns whether each terminal hears the message fairly.
use Rattle.std.proofs.Common.{◌↔◌, IsTrue, sym, subst}
use Rattle.bsc_bid.specs.Fair.{IsFairlyHeard}
use Rattle.bsc_line_model.specs.Trust.{EachOf}
use Rattle.bsc_line.specs.declared.hearing.Hearings.{Hearings}
use Rattle.bsc_line.specs.Hearings.{hearing_of}
use Rattle.bsc_line.proofs.Alike.{same_test_for_each}
use Rattle.bsc_line.proofs.trust.all_fair.Goals as goal

pub returns-in-Alike : goal.returns-in-Alike
returns-in-Alike c =
    subst (λ (x : Hearings). IsTrue c.is_fairly_heard.result ↔ EachOf c.args.count
    (λ t. IsFairlyHeard c.args.message.now (hearing_of x t)))
    (sym c.in-Alike.is) (same_test_for_each c.is_fairly_heard.result _ c.args.count c.requires
    c.is_fairly_heard.ensures)

pub returns-in-Each : goal.returns-in-Each
returns-in-Each c =
    subst (λ (x : Hearings). IsTrue c.each_is_fair.result ↔ EachOf c.args.count
    (λ t. IsFairlyHeard c.args.message.now (hearing_of x t)))
    (sym c.in-Each.is) c.each_is_fair.ensures
