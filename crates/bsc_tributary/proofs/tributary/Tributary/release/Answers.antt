-- `release` makes the sender's release step and returns its answer.
use Rattle.bsc_tributary.proofs.Offering.{stays_release, release_state, release_answer}
use Rattle.bsc_tributary.proofs.Offering.{setup_kept_by_release}
use Rattle.bsc_tributary.proofs.tributary.Tributary.release.Goals as goal

pub invariant_of-self : goal.invariant_of-self
invariant_of-self g c = stays_release _ c.args.count _ c.self.invariant c.release.ensures.row
    (c.release.ensures.ready c.self.invariant.ready)

pub returns-clause-state : goal.returns-clause-state
returns-clause-state g c = release_state _ _ c.args.count _ c.self.view_is c.release.ensures.row

pub returns-clause-answer : goal.returns-clause-answer
returns-clause-answer g c = release_answer _ _ c.args.count _ c.self.view_is c.release.ensures.row

pub returns-clause-same : goal.returns-clause-same
returns-clause-same g c =
    setup_kept_by_release _ _ c.args.count _ c.self.view_is c.self.invariant c.release.ensures.row
    (c.release.ensures.ready c.self.invariant.ready)
