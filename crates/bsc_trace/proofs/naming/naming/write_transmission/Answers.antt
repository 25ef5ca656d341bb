-- Shows that the output is that for what the octets are heard as.
use Rattle.bsc_text.proofs.Fronts.{for_err}
use Rattle.bsc_trace.proofs.HeardNames.{is_heard}
use Rattle.bsc_trace.proofs.naming.naming.write_transmission.Goals as goal

pub returns-clause-ok : goal.returns-clause-ok
returns-clause-ok g c =
    let decoded = c.decode-heard.ensures in
    record {
      heard = c.decode-heard.result;
      is_heard =
          is_heard c.args.octets.now c.decode-heard.result decoded.whole decoded.failed
          decoded.noise;
      appended = c.in_ok-write_shown.ensures.ok;
    }

pub returns-in_err-write_shown-clause-front : goal.returns-in_err-write_shown-clause-front
returns-in_err-write_shown-clause-front g c =
    let decoded = c.decode-heard.ensures in
    for_err c.from_residual.result (record {
      heard = c.decode-heard.result;
      is_heard =
          is_heard c.args.octets.now c.decode-heard.result decoded.whole decoded.failed
          decoded.noise;
      appended = c.in_err-write_shown.ensures.front;
    })
