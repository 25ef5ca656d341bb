-- `offer` adds the record to the queue, or gives it back.
use Rattle.bsc_tributary.proofs.Offering.{offered_either, stays_offer, offer_ok, offer_err}
use Rattle.bsc_tributary.proofs.Offering.{setup_kept_by_offer}
use Rattle.bsc_tributary.proofs.tributary.Tributary.offer.Goals as goal

pub invariant_of-self : goal.invariant_of-self
invariant_of-self g c =
    stays_offer _ _ c.args.record c.offer.new.self c.self.invariant c.self.view_is c.requires
    (offered_either c.offer.result _ _ _ c.offer.ensures.ok c.offer.ensures.err)

pub returns-clause-ok : goal.returns-clause-ok
returns-clause-ok g c =
    offer_ok c.offer.result _ _ c.args.record c.offer.new.self c.self.view_is c.offer.ensures.ok

pub returns-clause-err : goal.returns-clause-err
returns-clause-err g c =
    offer_err c.offer.result _ _ c.offer.new.self c.self.view_is c.offer.ensures.err

pub returns-clause-same : goal.returns-clause-same
returns-clause-same g c =
    setup_kept_by_offer _ _ c.offer.new.self c.self.view_is
    (stays_offer _ _ c.args.record c.offer.new.self c.self.invariant c.self.view_is c.requires
    (offered_either c.offer.result _ _ _ c.offer.ensures.ok c.offer.ensures.err))
