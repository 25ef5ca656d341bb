-- `hear_in` lets each terminal hear, and leaves the first answer.
use Rattle.std.proofs.Common.{◌≡◌, length, ◌∙◌}
use Rattle.bsc_tributary.specs.Tributary.{TributaryValue}
use Rattle.bsc_line_model.specs.Terminals.{EachHears, EachKeeps, first_answer}
use Rattle.bsc_line.specs.Hearings.{hearing_of}
use Rattle.bsc_line.proofs.WrittenBack.{holds_back}
use Rattle.bsc_line.proofs.terminals.hear_in.Goals as goal

pub returns-clause-each : goal.returns-clause-each
returns-clause-each g c =
    holds_back {S = TributaryValue}
    (λ old new. EachHears old (hearing_of c.args.hearings.now) new) _ _ _ _ _
    c.as_mut_slice.ensures.value (c.hear_all.auto.terminals ∙ c.as_mut_slice.ensures.len)
    c.hear_all.ensures.each

pub returns-clause-keeps : goal.returns-clause-keeps
returns-clause-keeps g c =
    holds_back {S = TributaryValue}
    (λ old new. EachKeeps old (hearing_of c.args.hearings.now) new) _ _ _ _ _
    c.as_mut_slice.ensures.value (c.hear_all.auto.terminals ∙ c.as_mut_slice.ensures.len)
    c.hear_all.ensures.keeps

pub returns-clause-first : goal.returns-clause-first
returns-clause-first g c =
    holds_back {S = TributaryValue}
    (λ old new. c.hear_all.new.first
    ≡ first_answer old (hearing_of c.args.hearings.now) new (length old)) _ _ _ _ _
    c.as_mut_slice.ensures.value (c.hear_all.auto.terminals ∙ c.as_mut_slice.ensures.len)
    c.hear_all.ensures.first
