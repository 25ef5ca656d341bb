-- What its parts fail with, making the connection fails with.
use Rattle.std.proofs.Common.{is_some}
use Rattle.std.proofs.lemmas.Result.{err_from_is_err_and}
use Rattle.bsc_sockets.proofs.Faults.{connect_by_denial, connect_unwatched}
use Rattle.bsc_sockets.proofs.begin.connect_to_any.Goals as goal

pub returns-in_err-stream-clause-failed : goal.returns-in_err-stream-clause-failed
returns-in_err-stream-clause-failed g c =
    let p = err_from_is_err_and c.from_residual-in_err-stream.result
    c.from_residual-in_err-stream.ensures.1 in
    rw (p.1, p.2) (connect_unwatched (is_some c.args.settings.stops_with) _ c.in_err-stream.ensures)

pub returns-in_err-add-clause-failed : goal.returns-in_err-add-clause-failed
returns-in_err-add-clause-failed g c =
    let p = err_from_is_err_and c.from_residual-in_err-add.result
    c.from_residual-in_err-add.ensures.1 in
    rw (p.1, p.2) (connect_by_denial (is_some c.args.settings.stops_with) _
    c.in_err-add.ensures.failed)
