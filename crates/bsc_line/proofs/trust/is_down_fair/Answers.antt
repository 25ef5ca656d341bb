-- `is_down_fair` returns whether the transmission keeps the line trusted.
use Rattle.std.proofs.Common.{◌↔◌, IsTrue, IfSome, Option, sym, subst}
use Rattle.bsc_line_model.specs.declared.transmission.Transmission.{Transmission}
use Rattle.bsc_line.specs.Hearings.{hearing_of}
use Rattle.bsc_line_model.specs.Trust.{IsHeardFairly}
use Rattle.bsc_line.proofs.trust.is_down_fair.Goals as goal

pub returns-in-Some : goal.returns-in-Some
returns-in-Some c =
    subst (λ (o : Option Transmission). IfSome o
    (λ (s : Transmission). IsTrue c.is_heard_fairly.result ↔ IsHeardFairly s.message
    c.args.count (hearing_of c.args.hearings.now))) (sym c.in-Some.is) c.is_heard_fairly.ensures
