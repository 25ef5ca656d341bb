-- Shows that the line hears the octets that crossed the cable for the pending transmission.
use Rattle.std.proofs.Common.{◌≡◌, Err, ap, refl, rules}
use Rattle.bsc_frame.specs.Wire.{wire}
use Rattle.bsc_config.specs.Events.{carry}
use Rattle.bsc_run.specs.Crossing.{streams_of}
use Rattle.bsc_run.specs.declared.error.StepError.{StepError}
use Rattle.bsc_run.proofs.Acting.{acts_unsent, hears_octets}
use Rattle.bsc_run.proofs.Causes.{cause_of_crossing, cause_of_traced, trace_is_fault}
use Rattle.bsc_run.proofs.actions.carry_pending.Goals as goal

pub returns-clause-acts : goal.returns-clause-acts
returns-clause-acts g c =
    hears_octets (streams_of g.S.Write.contents g.S.Read.remaining) c.args.number carry wire
    c.args.line.now c.hear.new.line c.args.cable.now c.send_pending.new.cable
    (g.D.Write.contents c.args.trace.now) (g.D.Write.contents c.hear.new.trace) c.as_slice.result
    c.send_pending.new.read.items c.hear.result (λ e h. h) (λ n e. refl) c.requires
    c.as_slice.ensures.value c.in_ok-send_pending.ensures.sends c.send_pending.ensures.count
    c.hear.ensures.reads c.hear.ensures.does c.hear.ensures.line c.hear.ensures.traced
    (trace_is_fault c.args.number c.hear.result c.hear.ensures.faults)

pub returns-in_err-send_pending-clause-acts : goal.returns-in_err-send_pending-clause-acts
returns-in_err-send_pending-clause-acts g c =
    let same : c.from_residual.result ≡ Err c.in_err-send_pending.field-0.0 = search rules in
    rw same
    (acts_unsent (streams_of g.S.Write.contents g.S.Read.remaining) c.args.number carry
    c.args.line.now c.args.cable.now c.send_pending.new.cable
    (g.D.Write.contents c.args.trace.now) c.in_err-send_pending.field-0.0 (λ e m. m)
    (λ why is. c.in_err-send_pending.ensures.refused why (ap (λ (e : StepError). Err e) is)))

pub returns-clause-cause : goal.returns-clause-cause
returns-clause-cause g c =
    cause_of_traced c.args.number carry c.send_pending.new.cable.fault c.hear.result c.hear.ensures.faults

pub returns-in_err-send_pending-clause-cause : goal.returns-in_err-send_pending-clause-cause
returns-in_err-send_pending-clause-cause g c =
    let same : c.from_residual.result ≡ Err c.in_err-send_pending.field-0.0 = search rules in
    rw same (cause_of_crossing c.args.number carry c.send_pending.new.cable.fault c.in_err-send_pending.field-0.0 refl
    c.in_err-send_pending.ensures.cause)
