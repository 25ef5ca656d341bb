-- `hear_all` lets each terminal hear, and leaves the first answer.
use Rattle.std.proofs.Common.{◌≡◌, length, sym, ◌∙◌, ap, subst, arith, ℕ, Option}
use Rattle.bsc_frame.specs.declared.message.Heard.{Heard}
use Rattle.bsc_tributary.specs.Tributary.{TributaryValue}
use Rattle.bsc_line_model.specs.declared.transmission.Transmission.{Transmission}
use Rattle.bsc_bid.specs.declared.speaker.Speaker.TheVariants.{Terminal}
use Rattle.bsc_line_model.specs.Transmission.{sent_by}
use Rattle.bsc_line.specs.Hearings.{hearing_of}
use Rattle.bsc_line_model.specs.Terminals.{answer, or_first, first_answer, EachHears, EachKeeps}
use Rattle.bsc_line.proofs.EachHearing.{Heeds, none_have_heard, one_more_has_heard}
use Rattle.bsc_line.proofs.EachHearing.{first_answer_with_one_more, all_have_heard}
use Rattle.bsc_line.proofs.terminals.hear_all.Goals as goal

pub loop-i-init : goal.loop-i-init
loop-i-init g c =
    record {
      heard = none_have_heard c.args.terminals.now (hearing_of c.args.hearings.now);
      first = c.clear.ensures;
    }

pub loop-i-preserved : goal.loop-i-preserved
loop-i-preserved g c =
    let t : TributaryValue = c.index-terminals-i.result in
    let h : Heard = hearing_of c.args.hearings.now c.loop-i.i in
    let u : TributaryValue = c.hear_at.new.terminal in
    let heeds : Heeds t h u (answer t h u) =
    subst (λ (x : TributaryValue). Heeds x h u (answer x h u)) (sym c.index-terminals-i.is)
    (record { row = c.hear_at.ensures.hearing.row; after = c.hear_at.ensures.hearing.after }) in
    record {
      heard =
          one_more_has_heard c.args.terminals.now (hearing_of c.args.hearings.now) c.loop-i.terminals
          c.loop-i.i t u (answer t h u) c.loop-i.invariant.heard c.loop-i-test.true
          c.index-terminals-i.is heeds;
      first = c.hear_at.ensures.first
          ∙ ap (λ (x : TributaryValue). or_first c.loop-i.first
          (sent_by (Terminal c.loop-i.i) (answer x h u))) (sym c.index-terminals-i.is)
          ∙ ap (λ (o : Option Transmission). or_first o
          (sent_by (Terminal c.loop-i.i) (answer t h u))) c.loop-i.invariant.first
          ∙ sym (first_answer_with_one_more c.args.terminals.now (hearing_of c.args.hearings.now) c.loop-i.terminals
          c.loop-i.i t u (answer t h u) c.loop-i.invariant.heard c.loop-i-test.true
          c.index-terminals-i.is heeds);
    }

pub returns : goal.returns
returns g c =
    let all : c.loop-i.i ≡ length c.args.terminals.now = omega arith in
    let heard : EachHears c.args.terminals.now (hearing_of c.args.hearings.now) c.loop-i.terminals
    × EachKeeps c.args.terminals.now (hearing_of c.args.hearings.now) c.loop-i.terminals =
    all_have_heard c.args.terminals.now (hearing_of c.args.hearings.now) c.loop-i.terminals c.loop-i.i
    c.loop-i.invariant.heard all in
    record {
      each = heard.0;
      keeps = heard.1;
      first =
          c.loop-i.invariant.first
          ∙ ap (λ (n : ℕ). first_answer c.args.terminals.now (hearing_of c.args.hearings.now)
          c.loop-i.terminals n) all;
    }
