-- The inner monitor is told, and what the station has changed is kept if it accepts the event.
use Rattle.std.proofs.Common.{Ok, Err, refl, sym, subst}
use Rattle.bsc_connections.specs.Notes.{told_by}
use Rattle.bsc_keeping.proofs.keeping.KeepingMonitor.note.Goals as goal

pub returns-in-Ok-clause-told : goal.returns-in-Ok-clause-told
returns-in-Ok-clause-told g c =
    record {
      told = Ok c.in_ok-goes_on.goes_on;
      tells = subst
          (λ m.
          g.M.Monitor.is_told c.args.self.now.watch.now c.args.station.now (told_by c.args.note)
          (Ok c.in_ok-goes_on.goes_on) m)
          (sym c.keep.ensures.watch) c.in_ok-goes_on.ensures.told;
      keeps_told = record {
        done = Ok c.in-Ok.field-0;
        keeps_step = c.in-Ok.ensures.keeps;
        returns = refl;
      };
      same_watch = c.keep.ensures.same_watch;
      same_kept = c.keep.ensures.same_kept;
    }

pub returns-in-Err-clause-told : goal.returns-in-Err-clause-told
returns-in-Err-clause-told g c =
    record {
      told = Ok c.in_ok-goes_on.goes_on;
      tells = subst
          (λ m.
          g.M.Monitor.is_told c.args.self.now.watch.now c.args.station.now (told_by c.args.note)
          (Ok c.in_ok-goes_on.goes_on) m)
          (sym c.keep.ensures.watch) c.in_ok-goes_on.ensures.told;
      keeps_told = record {
        done = Err c.in-Err.error;
        keeps_step = c.in-Err.ensures.keeps;
        returns = refl;
      };
      same_watch = c.keep.ensures.same_watch;
      same_kept = c.keep.ensures.same_kept;
    }
