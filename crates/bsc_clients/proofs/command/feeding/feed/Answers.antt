-- Shows that what is told after the last command is printed after its answer.
use Rattle.std.proofs.Common.{arith, subst, sym, ◌∙◌}
use Rattle.std.proofs.lemmas.Grind.{common_steps}
use Rattle.std.proofs.lemmas.Result.{on_ok_weaker}
use Rattle.bsc_clients.specs.Answers.{HearsTo}
use Rattle.bsc_clients.specs.Feeding.{commands_known}
use Rattle.bsc_clients.proofs.Sent.{fault_after, feeds_followed, feeds_plain}
use Rattle.bsc_clients.proofs.Told.{hears_ended, hears_left}
use Rattle.bsc_clients.proofs.command.feeding.feed.Goals as goal

pub returns-then-follows-clause-fed : goal.returns-then-follows-clause-fed
returns-then-follows-clause-fed g c =
    on_ok_weaker c.follow.result
    (λ told. record {
      text = c.in_ok-given.given.text.items;
      takes_lines = c.in_ok-given.given.takes_lines;
      given = c.in_ok-given.ensures.given;
      feeds =
          feeds_followed
          (commands_known c.in_ok-given.given.takes_lines c.in_ok-given.given.text.items
          (g.R.Read.remaining c.args.input.now))
          (g.O.Write.contents c.args.said.now) (g.O.Write.contents c.send_given.new.said)
          (g.W.Write.contents c.args.out.now) (g.W.Write.contents c.send_given.new.out)
          (g.W.Write.contents c.follow.new.out)
          (rw c.if-follows.true at c.in_ok-follows.ensures.sent) told;
    }) c.follow.ensures.told

pub returns-then-follows-clause-refused : goal.returns-then-follows-clause-refused
returns-then-follows-clause-refused g c =
    λ e. fault_after
    (commands_known c.in_ok-given.given.takes_lines c.in_ok-given.given.text.items
    (g.R.Read.remaining c.args.input.now)) c.in_ok-follows.follows
    (g.O.Write.contents c.args.said.now) (g.O.Write.contents c.send_given.new.said)
    (g.W.Write.contents c.args.out.now) (g.W.Write.contents c.send_given.new.out)
    (g.W.Write.contents c.follow.new.out) c.in_ok-follows.ensures.sent
    (c.follow.ensures.refused e)

pub returns-clause-fed : goal.returns-clause-fed
returns-clause-fed g c = record {
  text = c.in_ok-given.given.text.items;
  takes_lines = c.in_ok-given.given.takes_lines;
  given = c.in_ok-given.ensures.given;
  feeds =
      feeds_plain
      (commands_known c.in_ok-given.given.takes_lines c.in_ok-given.given.text.items
      (g.R.Read.remaining c.args.input.now))
      (g.O.Write.contents c.args.said.now) (g.O.Write.contents c.send_given.new.said)
      (g.W.Write.contents c.args.out.now) (g.W.Write.contents c.send_given.new.out)
      (rw c.if-follows.false at c.in_ok-follows.ensures.sent);
}

pub returns-then-follows-clause-heard : goal.returns-then-follows-clause-heard
returns-then-follows-clause-heard g c =
    on_ok_weaker c.follow.result
    (λ hears. record {
      text = c.in_ok-given.given.text.items;
      takes_lines = c.in_ok-given.given.takes_lines;
      given = c.in_ok-given.ensures.given;
      sent = c.in_ok-follows.ensures.sent.sent;
      asked = c.in_ok-follows.ensures.sent.asked;
      hears =
          subst (λ b. HearsTo b (g.I.Read.remaining c.args.heard.now)
          (g.W.Write.contents c.args.out.now) (g.W.Write.contents c.follow.new.out))
          (sym c.if-follows.true ∙ c.in_ok-follows.ensures.sent.follow)
          (hears_ended _ _ _ (g.I.Read.remaining c.args.heard.now) (g.W.Write.contents c.args.out.now)
          (g.W.Write.contents c.send_given.new.out) (g.W.Write.contents c.follow.new.out)
          (grind (
            arith,
            common_steps,
            c.in-Ok.ensures.inner,
            c.in-Ok.ensures.empty,
            c.in-Ok.ensures.capacity,
          )) c.in_ok-follows.ensures.heard hears);
    }) c.follow.ensures.heard

pub returns-clause-heard : goal.returns-clause-heard
returns-clause-heard g c = record {
  text = c.in_ok-given.given.text.items;
  takes_lines = c.in_ok-given.given.takes_lines;
  given = c.in_ok-given.ensures.given;
  sent = c.in_ok-follows.ensures.sent.sent;
  asked = c.in_ok-follows.ensures.sent.asked;
  hears =
      subst (λ b. HearsTo b (g.I.Read.remaining c.args.heard.now)
      (g.W.Write.contents c.args.out.now) (g.W.Write.contents c.send_given.new.out))
      (sym c.if-follows.false ∙ c.in_ok-follows.ensures.sent.follow)
      (hears_left _ _ (g.I.Read.remaining c.args.heard.now) (g.W.Write.contents c.args.out.now)
      (g.W.Write.contents c.send_given.new.out) (grind (
        arith,
        common_steps,
        c.in-Ok.ensures.inner,
        c.in-Ok.ensures.empty,
        c.in-Ok.ensures.capacity,
      )) c.in_ok-follows.ensures.heard);
}
