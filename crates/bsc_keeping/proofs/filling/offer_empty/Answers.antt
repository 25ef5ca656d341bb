-- One more empty record is offered.
use Rattle.std.proofs.Common.{◌∙◌, add-one, ap, []}
use Rattle.bsc_keeping.proofs.FilledFrom.{offered_more}
use Rattle.bsc_keeping.proofs.filling.offer_empty.Goals as goal

pub records-preserved : goal.records-preserved
records-preserved g c =
    let offered = g.P.Fills.offered in
    let t = c.args.end.now.terminal in
    let s = c.args.end.now.select in
    record {
      fills = g.met.P.Fills.further _ _ _ c.records.invariant.fills c.offer_again.ensures.fills;
      takes = c.offer_again.ensures.takes ∙ c.records.invariant.takes;
      offered =
          c.in_ok-offer_again.ensures.offered
          ∙ ap (λ r. offered c.records.station t s r) c.empty.ensures
          ∙ ap (λ x. offered x t s []) c.records.invariant.offered
          ∙ rw add-one (offered_more offered t s c.records.counter [] c.args.station.now);
    }
