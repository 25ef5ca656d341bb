-- `hear_one` lets the terminal hear, and keeps the first answer.
use Rattle.std.proofs.Common.{Option, None, subst, ◌∙◌, ap}
use Rattle.bsc_frame.specs.declared.message.Message.{Message}
use Rattle.bsc_tributary.specs.Tributary.{TributaryValue}
use Rattle.bsc_tributary.specs.Kept.{IsHearing}
use Rattle.bsc_bid.specs.declared.speaker.Speaker.TheVariants.{Terminal}
use Rattle.bsc_line_model.specs.Transmission.{sent_by}
use Rattle.bsc_line_model.specs.Terminals.{answer, or_first}
use Rattle.bsc_line.proofs.EachHearing.{sent_is, first_answer_kept_by_quiet}
use Rattle.bsc_line.proofs.terminals.hear_one.Goals as goal

pub returns-then-overhear-clause-hearing : goal.returns-then-overhear-clause-hearing
returns-then-overhear-clause-hearing g c =
    let silent : IsHearing c.args.terminal.now c.args.heard.now c.overhear.new.self None =
    c.overhear.ensures.silent c.if-overhear.true in
    subst (λ (o : Option Message). IsHearing c.args.terminal.now c.args.heard.now
    c.overhear.new.self o)
    (sent_is c.args.terminal.now c.args.heard.now c.overhear.new.self None silent.row) silent

pub returns-then-overhear-clause-first : goal.returns-then-overhear-clause-first
returns-then-overhear-clause-first g c =
    let silent : IsHearing c.args.terminal.now c.args.heard.now c.overhear.new.self None =
    c.overhear.ensures.silent c.if-overhear.true in
    first_answer_kept_by_quiet c.args.first.now c.args.place
    ∙ ap (λ (o : Option Message). or_first c.args.first.now (sent_by (Terminal c.args.place) o))
    (sent_is c.args.terminal.now c.args.heard.now c.overhear.new.self None silent.row)

pub returns-clause-hearing : goal.returns-clause-hearing
returns-clause-hearing g c =
    subst (λ (x : TributaryValue). IsHearing x c.args.heard.now c.hear_apart.new.terminal
    (answer x c.args.heard.now c.hear_apart.new.terminal))
    (c.overhear.ensures.left c.if-overhear.false) c.hear_apart.ensures.hearing

pub returns-clause-first : goal.returns-clause-first
returns-clause-first g c =
    c.hear_apart.ensures.first
    ∙ ap (λ (x : TributaryValue). or_first c.args.first.now
    (sent_by (Terminal c.args.place) (answer x c.args.heard.now c.hear_apart.new.terminal)))
    (c.overhear.ensures.left c.if-overhear.false)
