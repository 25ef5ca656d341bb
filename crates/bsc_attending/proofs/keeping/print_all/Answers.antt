-- After the last turn all is printed, unless a record could not be.
use Rattle.bsc_attending.specs.Printer.{followed_of}
use Rattle.bsc_attending.proofs.AllPrinted.{all_unless_failed}
use Rattle.bsc_attending.proofs.keeping.print_all.Goals as goal

pub returns-then-not-more : goal.returns-then-not-more
returns-then-not-more g c =
    record {
      printed =
          all_unless_failed g.S.Party c.args.station.now 1024
          (followed_of g.W.Write.contents c.turns.stored.printer)
          (followed_of g.W.Write.contents c.print_turn-more.new.self) c.outcome.result
          c.if-not-more.ensures c.outcome.ensures;
    }
