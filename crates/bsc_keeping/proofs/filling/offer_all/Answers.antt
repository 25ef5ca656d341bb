-- One more record is offered, which is the next one that the store has.
use Rattle.std.proofs.Common.{◌≡◌, ◌+◌, ap, refl, subst, sym, rules, arith, w64, to_z, of_z}
use Rattle.bsc_spool.specs.Contents.{never, again}
use Rattle.bsc_spool.specs.declared.store.Progress.{Progress}
use Rattle.bsc_keeping.proofs.FilledFrom.{IsAt, from_first, moves_on, offered_next, offered_whole}
use Rattle.bsc_keeping.proofs.Reading.{is_as_before, next_offered, then}
use Rattle.bsc_keeping.proofs.filling.offer_all.Goals as goal

pub returns-in_err-progress-clause-reads : goal.returns-in_err-progress-clause-reads
returns-in_err-progress-clause-reads g c = again never c.progress.ensures.reads

pub returns-then-progress-clause-reads : goal.returns-then-progress-clause-reads
returns-then-progress-clause-reads g c = again never c.progress.ensures.reads

pub returns-in_err-offer_empty-clause-reads : goal.returns-in_err-offer_empty-clause-reads
returns-in_err-offer_empty-clause-reads g c = again never c.progress.ensures.reads

pub records-init : goal.records-init
records-init g c = record {
  fills = g.met.P.Fills.unchanged c.offer_empty.new.station;
  takes = c.offer_empty.ensures.takes;
  reads = never;
  offered = λ has gives sound. (from_first _ c.in_ok-progress.progress.known, refl);
}

pub returns-in_err-mark-clause-reads : goal.returns-in_err-mark-clause-reads
returns-in_err-mark-clause-reads g c =
    then g.K.Store _ _ _ (again never c.progress.ensures.reads)
    (again c.records.invariant.reads c.offer_next.ensures.reads)

pub records-preserved : goal.records-preserved
records-preserved g c =
    let channel = c.args.end.now.channel in
    let t = c.args.end.now.terminal in
    let s = c.args.end.now.select in
    let i = c.records.counter in
    record {
      fills = g.met.P.Fills.further _ _ _ c.records.invariant.fills c.offer_next.ensures.fills;
      takes = c.offer_next.ensures.takes;
      reads = again c.records.invariant.reads c.offer_next.ensures.reads;
      offered = λ has gives sound.
          let was = gives.was_sound _ _ c.offer_next.ensures.reads sound in
          let so_far = c.records.invariant.offered has gives was in
          let (found, marked, finds, made) = c.in_ok-mark.ensures.offered in
          let records = (has c.progress.new.self channel).offered in
          let here =
          next_offered g.K.Store has gives c.progress.new.self c.records.store
          c.offer_next.new.store channel i (to_z w64 c.records.mark-bits) c.records.more found
          c.records.invariant.reads was sound finds so_far.0 in
          let back : to_z w64 (of_z w64 c.in_ok-mark.mark) ≡ c.in_ok-mark.mark = search rules in (
            subst (λ m. IsAt records (i + 1) m 0) (sym back)
                (moves_on records i found c.in_ok-mark.mark here marked),
            offered_next g.P.Fills.offered t s records i found c.records.station
                c.offer_next.new.station _ here made so_far.1,
          );
    }

pub returns-clause-reads : goal.returns-clause-reads
returns-clause-reads g c =
    then g.K.Store _ _ _ (again never c.progress.ensures.reads) c.records.invariant.reads

pub returns-clause-offered : goal.returns-clause-offered
returns-clause-offered g c has gives sound =
    let channel = c.args.end.now.channel in
    let t = c.args.end.now.terminal in
    let s = c.args.end.now.select in
    let then =
    is_as_before g.K.Store has gives c.progress.new.self c.records.store
    c.records.invariant.reads sound in
    let count =
    gives.counts channel c.in_ok-progress.progress c.args.store.now c.progress.new.self
    c.in_ok-progress.ensures.counts then.0 in
    let same =
    gives.stays c.args.store.now c.progress.new.self c.progress.ensures.reads then.0 channel in
    let it = has c.args.store.now channel in
    let so_far = c.records.invariant.offered has gives sound in
    let known = ap (λ (p : Progress). p.known) count in
    let all = ap (λ (p : Progress). p.offered) count in
    offered_whole g.P.Fills.offered t s it c.in_ok-progress.progress.known c.records.counter
    c.args.station.now c.offer_empty.new.station c.records.station
    c.in_ok-offer_empty.ensures.offered known (omega (arith, all, c.records-test.false))
    (rw same at so_far.1)
