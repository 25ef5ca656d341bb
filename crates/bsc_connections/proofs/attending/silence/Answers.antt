-- `silence` tells the monitor, and sends what the station answers if the monitor accepts.
use Rattle.std.proofs.Common.{◌∷◌, refl, subst}
use Rattle.bsc_connections.specs.declared.awaited.Handled.TheVariants.{Silence}
use Rattle.bsc_connections.specs.declared.awaited.Pace.{Pace}
use Rattle.bsc_connections.specs.Histories.{WasSilent}
use Rattle.bsc_connections.proofs.attending.silence.Goals as goal

pub returns-clause-silent : goal.returns-clause-silent
returns-clause-silent g c =
    let (later, replies) = c.reply-result.ensures.replies in (
      WasSilent ∷ later,
      record {
        answer = c.act.new.sent;
        acted = c.act.ensures;
        answers = record {
          told = c.note-told.result;
          monitor = c.note-told.new.self;
          tells = c.note-told.ensures.told;
          waiter = c.reply-result.new.waiter;
          later = later;
          replies = replies;
          happens = refl;
          handles = subst (λ (pace : Pace).
              g.T.Waiter.handles c.reply-result.new.waiter Silence pace c.handled.new.self)
              c.pace.ensures c.handled.ensures;
        };
      },
    )
