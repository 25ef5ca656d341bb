-- What a station sends that has no store, it sends after the records that arrived are printed.
use Rattle.bsc_keeping.specs.Printed.{KeepsPrinted}
use Rattle.bsc_keeping.proofs.Kept.{shown_by}
use Rattle.bsc_keeping.proofs.Printing.{all_are_printed}
use Rattle.bsc_keeping.proofs.laws.printed_before_sent.Goals as goal

pub returns : goal.returns
returns g c old new happened result steps some =
    let shown =
    shown_by
    (KeepsPrinted g.S.Party g.O.Write.contents) g.M.Monitor.is_told g.S.Station g.R.Read g.W.Write g.F.Framing _ _ _ g.T.Waiter old new happened
    result steps in
    let prints = (shown.sent some).1.0 in
    (prints, all_are_printed g.S.Party new.station _ _ prints)
