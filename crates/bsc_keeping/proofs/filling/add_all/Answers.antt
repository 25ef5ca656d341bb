-- One more record is gained, which is the next one that the store has.
use Rattle.std.proofs.Common.{◌≡◌, ◌+◌, ap, subst, sym, rules, arith, w64, to_z, of_z}
use Rattle.bsc_spool.specs.Contents.{never, again}
use Rattle.bsc_spool.specs.declared.store.Progress.{Progress}
use Rattle.bsc_keeping.proofs.FilledFrom.{IsAt, from_first, gained_next, moves_on}
use Rattle.bsc_keeping.proofs.FilledFrom.{added_whole}
use Rattle.bsc_keeping.proofs.Reading.{is_as_before, next_arrived, then}
use Rattle.bsc_keeping.proofs.filling.add_all.Goals as goal

pub returns-in_err-progress-clause-reads : goal.returns-in_err-progress-clause-reads
returns-in_err-progress-clause-reads g c = again never c.progress.ensures.reads

pub returns-then-progress-clause-reads : goal.returns-then-progress-clause-reads
returns-then-progress-clause-reads g c = again never c.progress.ensures.reads

pub returns-in_err-add_forgotten-clause-reads : goal.returns-in_err-add_forgotten-clause-reads
returns-in_err-add_forgotten-clause-reads g c = again never c.progress.ensures.reads

pub records-init : goal.records-init
records-init g c = record {
  fills = g.met.P.Fills.unchanged c.add_forgotten.new.station;
  reads = never;
  adds = λ has gives sound. (from_first _ c.forgotten-forgotten.result, λ last rest. rest);
}

pub returns-in_err-mark-clause-reads : goal.returns-in_err-mark-clause-reads
returns-in_err-mark-clause-reads g c =
    then g.K.Store _ _ _ (again never c.progress.ensures.reads)
    (again c.records.invariant.reads c.add_next.ensures.reads)

pub records-preserved : goal.records-preserved
records-preserved g c =
    let channel = c.args.end.now.channel in
    let number = c.args.end.now.number in
    let i = c.records.counter in
    record {
      fills = g.met.P.Fills.further _ _ _ c.records.invariant.fills c.add_next.ensures.fills;
      reads = again c.records.invariant.reads c.add_next.ensures.reads;
      adds = λ has gives sound.
          let was = gives.was_sound _ _ c.add_next.ensures.reads sound in
          let so_far = c.records.invariant.adds has gives was in
          let (found, marked, finds, gained) = c.in_ok-mark.ensures.gains in
          let records = (has c.progress.new.self channel).arrived in
          let here =
          next_arrived g.K.Store has gives c.progress.new.self c.records.store
          c.add_next.new.store channel i (to_z w64 c.records.mark-bits) c.records.more found
          c.records.invariant.reads was sound finds so_far.0 in
          let back : to_z w64 (of_z w64 c.in_ok-mark.mark) ≡ c.in_ok-mark.mark = search rules in (
            subst (λ m. IsAt records (i + 1) m 0) (sym back)
                (moves_on records i found c.in_ok-mark.mark here marked),
            λ last left. so_far.1 last
                (gained_next g.P.Fills.gains g.P.Fills.forgets number records i found c.records.station
                c.add_next.new.station last here gained left),
          );
    }

pub returns-clause-reads : goal.returns-clause-reads
returns-clause-reads g c =
    then g.K.Store _ _ _ (again never c.progress.ensures.reads) c.records.invariant.reads

pub returns-clause-adds : goal.returns-clause-adds
returns-clause-adds g c has gives sound =
    let channel = c.args.end.now.channel in
    let then =
    is_as_before g.K.Store has gives c.progress.new.self c.records.store
    c.records.invariant.reads sound in
    let count =
    gives.counts channel c.in_ok-progress.progress c.args.store.now c.progress.new.self
    c.in_ok-progress.ensures.counts then.0 in
    let same =
    gives.stays c.args.store.now c.progress.new.self c.progress.ensures.reads then.0 channel in
    let it = has c.args.store.now channel in
    let so_far = c.records.invariant.adds has gives sound in
    let all = ap (λ (p : Progress). p.arrived) count in
    added_whole g.P.Fills.gains g.P.Fills.forgets c.args.end.now.number c.args.forgets_printed it
    c.in_ok-progress.progress c.forgotten-forgotten.result c.records.counter c.args.station.now
    c.add_forgotten.new.station c.records.station count c.forgotten-forgotten.ensures
    c.in_ok-add_forgotten.ensures.adds (omega (arith, all, c.records-test.false))
    (rw same at so_far.1 c.records.station)

pub returns-clause-end : goal.returns-clause-end
returns-clause-end g c has gives sound =
    let channel = c.args.end.now.channel in
    let then =
    is_as_before g.K.Store has gives c.progress.new.self c.records.store
    c.records.invariant.reads sound in
    let count =
    gives.counts channel c.in_ok-progress.progress c.args.store.now c.progress.new.self
    c.in_ok-progress.ensures.counts then.0 in
    ap (λ (p : Progress). record c.args.end.now { arrived = p.arrived; printed = p.printed }) count
