-- `all_miss` returns whether all terminals miss a call.
use Rattle.std.proofs.Common.{◌↔◌, IsTrue, sym, subst}
use Rattle.bsc_line_model.specs.Trust.{EachOf, IsMissed}
use Rattle.bsc_line.specs.declared.hearing.Hearings.{Hearings}
use Rattle.bsc_line.specs.Hearings.{hearing_of}
use Rattle.bsc_line.proofs.Alike.{same_test_for_each}
use Rattle.bsc_line.proofs.trust.all_miss.Goals as goal

pub returns-in-Alike : goal.returns-in-Alike
returns-in-Alike c =
    subst (λ (x : Hearings). IsTrue c.is_missed.result ↔ EachOf c.args.count
    (λ t. IsMissed (hearing_of x t)))
    (sym c.in-Alike.is) (same_test_for_each c.is_missed.result _ c.args.count c.requires c.is_missed.ensures)

pub returns-in-Each : goal.returns-in-Each
returns-in-Each c =
    subst (λ (x : Hearings). IsTrue c.each_misses.result ↔ EachOf c.args.count
    (λ t. IsMissed (hearing_of x t)))
    (sym c.in-Each.is) c.each_misses.ensures
