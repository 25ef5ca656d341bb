-- Shows that each event that sends nothing over the cable is answered as the line answers it.
use Rattle.std.proofs.Common.{refl}
use Rattle.bsc_line_model.specs.declared.event.Event.TheVariants as event
use Rattle.bsc_config.specs.Events.{silence, ready, polled, urgent_at, urgent_for, release}
use Rattle.bsc_run.specs.Crossing.{streams_of}
use Rattle.bsc_run.proofs.Acting.{acts_as, offers_at, offers_for}
use Rattle.bsc_run.proofs.actions.act.Goals as goal

pub returns-in-OfferAt-clause-acts : goal.returns-in-OfferAt-clause-acts
returns-in-OfferAt-clause-acts g c =
    rw c.in-OfferAt.is
    (offers_at (streams_of g.S.Write.contents g.S.Read.remaining) c.args.number
    c.in-OfferAt.terminal c.in-OfferAt.codes c.args.line.now c.offer_at.new.self c.args.cable.now
    (g.D.Write.contents c.args.trace.now) (g.D.Write.contents c.tell.new.trace)
    c.offer_at.result c.tell.result c.requires c.offer_at.ensures.does c.offer_at.ensures.line
    (rw c.in-OfferAt.is at c.tell.ensures.answers))

pub returns-in-OfferFor-clause-acts : goal.returns-in-OfferFor-clause-acts
returns-in-OfferFor-clause-acts g c =
    rw c.in-OfferFor.is
    (offers_for (streams_of g.S.Write.contents g.S.Read.remaining) c.args.number
    c.in-OfferFor.terminal c.in-OfferFor.select c.in-OfferFor.codes c.args.line.now
    c.offer_for-answer.new.self c.args.cable.now (g.D.Write.contents c.args.trace.now)
    (g.D.Write.contents c.tell-in-OfferFor.new.trace) c.offer_for-answer.result
    c.tell-in-OfferFor.result c.requires c.offer_for-answer.ensures.does
    c.offer_for-answer.ensures.line (rw c.in-OfferFor.is at c.tell-in-OfferFor.ensures.answers))

pub returns-in-Silence-clause-acts : goal.returns-in-Silence-clause-acts
returns-in-Silence-clause-acts g c =
    rw c.in-Silence.is
    (acts_as (streams_of g.S.Write.contents g.S.Read.remaining) c.args.number silence
    event.Silence c.args.line.now c.silence.new.self c.args.cable.now
    (g.D.Write.contents c.args.trace.now) (g.D.Write.contents c.tell-in-Silence.new.trace)
    c.silence.result c.tell-in-Silence.result (refl, refl) (λ x m. m) c.requires
    c.silence.ensures.does c.silence.ensures.line (rw c.in-Silence.is at c.tell-in-Silence.ensures.answers))

pub returns-in-Ready-clause-acts : goal.returns-in-Ready-clause-acts
returns-in-Ready-clause-acts g c =
    rw c.in-Ready.is
    (acts_as (streams_of g.S.Write.contents g.S.Read.remaining) c.args.number (ready c.in-Ready.terminal c.in-Ready.ready)
    (event.Ready c.in-Ready.terminal c.in-Ready.ready) c.args.line.now c.set_ready.new.self c.args.cable.now
    (g.D.Write.contents c.args.trace.now) (g.D.Write.contents c.tell-in-Ready.new.trace)
    c.set_ready.result c.tell-in-Ready.result (refl, refl) (λ x m. m) c.requires
    c.set_ready.ensures.does c.set_ready.ensures.line (rw c.in-Ready.is at c.tell-in-Ready.ensures.answers))

pub returns-in-Polled-clause-acts : goal.returns-in-Polled-clause-acts
returns-in-Polled-clause-acts g c =
    rw c.in-Polled.is
    (acts_as (streams_of g.S.Write.contents g.S.Read.remaining) c.args.number (polled c.in-Polled.terminal c.in-Polled.polled)
    (event.Polled c.in-Polled.terminal c.in-Polled.polled) c.args.line.now c.set_polled.new.self c.args.cable.now
    (g.D.Write.contents c.args.trace.now) (g.D.Write.contents c.tell-in-Polled.new.trace)
    c.set_polled.result c.tell-in-Polled.result (refl, refl) (λ x m. m) c.requires
    c.set_polled.ensures.does c.set_polled.ensures.line (rw c.in-Polled.is at c.tell-in-Polled.ensures.answers))

pub returns-in-UrgentAt-clause-acts : goal.returns-in-UrgentAt-clause-acts
returns-in-UrgentAt-clause-acts g c =
    rw c.in-UrgentAt.is
    (acts_as (streams_of g.S.Write.contents g.S.Read.remaining) c.args.number (urgent_at c.in-UrgentAt.terminal)
    (event.UrgentAt c.in-UrgentAt.terminal) c.args.line.now c.set_urgent_at.new.self c.args.cable.now
    (g.D.Write.contents c.args.trace.now) (g.D.Write.contents c.tell-in-UrgentAt.new.trace)
    c.set_urgent_at.result c.tell-in-UrgentAt.result (refl, refl) (λ x m. m) c.requires
    c.set_urgent_at.ensures.does c.set_urgent_at.ensures.line (rw c.in-UrgentAt.is at c.tell-in-UrgentAt.ensures.answers))

pub returns-in-UrgentFor-clause-acts : goal.returns-in-UrgentFor-clause-acts
returns-in-UrgentFor-clause-acts g c =
    rw c.in-UrgentFor.is
    (acts_as (streams_of g.S.Write.contents g.S.Read.remaining) c.args.number (urgent_for c.in-UrgentFor.terminal)
    (event.UrgentFor c.in-UrgentFor.terminal) c.args.line.now c.set_urgent_for.new.self c.args.cable.now
    (g.D.Write.contents c.args.trace.now) (g.D.Write.contents c.tell-in-UrgentFor.new.trace)
    c.set_urgent_for.result c.tell-in-UrgentFor.result (refl, refl) (λ x m. m) c.requires
    c.set_urgent_for.ensures.does c.set_urgent_for.ensures.line (rw c.in-UrgentFor.is at c.tell-in-UrgentFor.ensures.answers))

pub returns-in-Release-clause-acts : goal.returns-in-Release-clause-acts
returns-in-Release-clause-acts g c =
    rw c.in-Release.is
    (acts_as (streams_of g.S.Write.contents g.S.Read.remaining) c.args.number (release c.in-Release.terminal c.in-Release.way)
    (event.Release c.in-Release.terminal c.in-Release.way) c.args.line.now c.release.new.self c.args.cable.now
    (g.D.Write.contents c.args.trace.now) (g.D.Write.contents c.tell-in-Release.new.trace)
    c.release.result c.tell-in-Release.result (refl, refl) (λ x m. m) c.requires
    c.release.ensures.does c.release.ensures.line (rw c.in-Release.is at c.tell-in-Release.ensures.answers))
