-- The records of one more channel are offered.
use Rattle.std.proofs.Common.{refl}
use Rattle.bsc_spool.specs.Contents.{never}
use Rattle.bsc_keeping.proofs.FilledFrom.{each_offered, reads_item}
use Rattle.bsc_keeping.proofs.Reading.{is_as_before, then}
use Rattle.bsc_keeping.proofs.filling.offer_for_all.Goals as goal

pub ends-init : goal.ends-init
ends-init g c = record {
  fills = g.met.P.Fills.unchanged c.args.station.now;
  takes = c.requires;
  reads = never;
  offered = λ has gives sound. refl;
}

pub ends-preserved : goal.ends-preserved
ends-preserved g c =
    record {
      fills = g.met.P.Fills.further _ _ _ c.ends.invariant.fills c.offer_all.ensures.fills;
      takes = c.offer_all.ensures.takes;
      reads = then g.K.Store _ _ _ c.ends.invariant.reads c.offer_all.ensures.reads;
      offered = λ has gives sound.
          let was = is_as_before g.K.Store has gives _ _ c.offer_all.ensures.reads sound in
          let before = is_as_before g.K.Store has gives _ _ c.ends.invariant.reads was.0 in
          each_offered g.P.Fills.offered (has c.args.store.now) c.args.ends.now c.ends.end-index
          c.end-item.result c.ends.station c.offer_all.new.station _
          (reads_item c.args.ends.now c.ends.end-index c.end-item.result c.ends-test.true
          c.end-item.is)
          (has c.ends.store c.end-item.result.channel) (before.1 c.end-item.result.channel)
          (c.in_ok-offer_all.ensures.offered has gives sound)
          (c.ends.invariant.offered has gives was.0);
    }

pub returns-in_err-offer_all-clause-reads : goal.returns-in_err-offer_all-clause-reads
returns-in_err-offer_all-clause-reads g c =
    then g.K.Store _ _ _ c.ends.invariant.reads c.offer_all.ensures.reads
