-- Shows that status 0 means that the arguments were obeyed, and that any other is that of a fault.
use Rattle.std.proofs.Common.{inl, inr, map, string_bytes, sym, ◌∙◌}
use Rattle.std.specs.Io.Buffered.{writer_contents}
use Rattle.bsc_command.specs.Faults.{IsPrintFault}
use Rattle.bsc_command.specs.Program.{HasFailedReportAt, IsFaultAt}
use Rattle.bsc_command.proofs.Keeping.{fault_kept, obeyed_kept}
use Rattle.bsc_command.proofs.Outcomes.{and_then, early_kept, fault_told, promise_of_success}
use Rattle.bsc_command.proofs.Outcomes.{told_of}
use Rattle.bsc_command.proofs.Reports.{failed_report_kept, reported_at_kept}
use Rattle.bsc_command.proofs.Statuses.{never_zero}
use Rattle.bsc_command.proofs.whole_command.command.Goals as goal

pub returns-in-Ok-clause-done : goal.returns-in-Ok-clause-done
returns-in-Ok-clause-done g c = λ _.
    and_then c.args.words
    (λ given p.
    obeyed_kept g.H.Stream.Write.contents g.H.Stream.Read.remaining g.H.Trace.Write.contents
    g.H.Network.traces (map string_bytes given.items)
    (g.R.Read.remaining c.args.input.now) (writer_contents g.W.Write.contents c.args.out.now)
    (writer_contents g.W.Write.contents c.obey_given-outcome.new.out)
    (writer_contents g.W.Write.contents c.flush_after.new.out) p c.in-Ok.ensures.kept)
    (promise_of_success c.obey_given-outcome.result c.in-Ok.ensures.ok c.obey_given-outcome.ensures.ok)

pub returns-in-Ok-clause-reported : goal.returns-in-Ok-clause-reported
returns-in-Ok-clause-reported g c = λ _.
    and_then c.args.words
    (λ given p.
    reported_at_kept (writer_contents g.W.Write.contents) c.obey_given-outcome.new.out
    c.flush_after.new.out c.in-Ok.ensures.kept (map string_bytes given.items)
    (g.R.Read.remaining c.args.input.now) p)
    (promise_of_success c.obey_given-outcome.result c.in-Ok.ensures.ok
    c.obey_given-outcome.ensures.reported)

pub returns-in-Err-clause-fault : goal.returns-in-Err-clause-fault
returns-in-Err-clause-fault g c = λ _.
    let contents = g.H.Stream.Write.contents in
    let remaining = g.H.Stream.Read.remaining in
    let trace = g.H.Trace.Write.contents in
    let traces = g.H.Network.traces in
    let input = g.R.Read.remaining c.args.input.now in
    let held = writer_contents g.W.Write.contents c.args.out.now in
    let wrote = writer_contents g.W.Write.contents c.obey_given-outcome.new.out in
    let holds = writer_contents g.W.Write.contents c.flush_after.new.out in
    let told =
    fault_told c.args.words
    (λ given f. IsFaultAt contents remaining trace traces (map string_bytes given.items) f input held wrote)
    (λ given f. IsFaultAt contents remaining trace traces (map string_bytes given.items) f input held holds)
    IsPrintFault c.obey_given-outcome.result c.in-Err.fault (λ given p. inr (inl p))
    (λ given p.
    fault_kept contents remaining trace traces (map string_bytes given.items) c.in-Err.fault input held wrote
    holds p c.in-Err.ensures.kept)
    c.obey_given-outcome.ensures.fault c.in-Err.ensures.fault in
    let written = writer_contents g.W.Write.contents in
    let reports =
    told_of c.args.words
    (λ given f. HasFailedReportAt written (map string_bytes given.items) f input
    c.obey_given-outcome.new.out)
    (λ given f. HasFailedReportAt written (map string_bytes given.items) f input
    c.flush_after.new.out)
    IsPrintFault c.obey_given-outcome.result c.in-Err.fault (λ given p. inr (inl p))
    (λ given p.
    failed_report_kept written c.obey_given-outcome.new.out c.flush_after.new.out
    c.in-Err.ensures.kept (map string_bytes given.items) c.in-Err.fault input p)
    c.obey_given-outcome.ensures.unreported c.in-Err.ensures.fault in
    let early =
    early_kept written c.obey_given-outcome.result c.in-Err.fault c.args.out.now
    c.obey_given-outcome.new.out c.flush_after.new.out c.obey_given-outcome.ensures.early
    c.in-Err.ensures.kept c.in-Err.ensures.fault in
    (c.in-Err.fault, told.0, told.1, c.fail.ensures, reports, early)

pub returns-in-Err-clause-done : goal.returns-in-Err-clause-done
returns-in-Err-clause-done g c = λ zero. absurd (never_zero c.in-Err.fault (sym c.fail.ensures ∙ zero))

pub returns-in-Err-clause-flushed : goal.returns-in-Err-clause-flushed
returns-in-Err-clause-flushed g c = λ zero. absurd (never_zero c.in-Err.fault (sym c.fail.ensures ∙ zero))

pub returns-in-Err-clause-reported : goal.returns-in-Err-clause-reported
returns-in-Err-clause-reported g c = λ zero. absurd (never_zero c.in-Err.fault (sym c.fail.ensures ∙ zero))

pub returns-in-Err-clause-untold : goal.returns-in-Err-clause-untold
returns-in-Err-clause-untold g c = λ zero. absurd (never_zero c.in-Err.fault (sym c.fail.ensures ∙ zero))
