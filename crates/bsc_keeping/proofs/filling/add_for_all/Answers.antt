-- The records of one more channel are added.
use Rattle.std.proofs.Common.{◌<◌, ◌∙◌, ap, get_or, length, subst}
use Rattle.bsc_control.proofs.PeerLists.{map_with_one_more}
use Rattle.bsc_spool.specs.Contents.{Contents, never}
use Rattle.bsc_keeping.specs.Filled.{receiving_from}
use Rattle.bsc_keeping.proofs.FilledFrom.{each_gained, reads_first, rests_on}
use Rattle.bsc_keeping.proofs.Reading.{is_as_before, then}
use Rattle.bsc_keeping.proofs.filling.add_for_all.Goals as goal

pub ends-init : goal.ends-init
ends-init g c = record {
  fills = g.met.P.Fills.unchanged c.args.station.now;
  reads = never;
  adds = λ has gives sound last rest. rest;
  ends = λ has gives sound. c.deref_mut-end-items.ensures.value;
  rest = c.deref_mut-end-items.ensures.value;
}

pub ends-preserved : goal.ends-preserved
ends-preserved g c =
    let i = c.ends.end-index in
    let ends = c.args.ends.now.items in
    let end = get_or c.ends.end-items i c.end-item.result in
    let within = subst (λ l. i < length l) c.deref_mut-end-items.ensures.value c.ends-test.true in
    record {
      fills = g.met.P.Fills.further _ _ _ c.ends.invariant.fills c.add_all.ensures.fills;
      reads = then g.K.Store _ _ _ c.ends.invariant.reads c.add_all.ensures.reads;
      adds = λ has gives sound last left.
          let was = is_as_before g.K.Store has gives _ _ c.add_all.ensures.reads sound in
          let before = is_as_before g.K.Store has gives _ _ c.ends.invariant.reads was.0 in
          c.ends.invariant.adds has gives was.0 last
          (each_gained g.P.Fills.gains g.P.Fills.forgets c.args.forgets_printed
          (has c.args.store.now) ends i end c.ends.station c.add_all.new.station last
          (reads_first c.ends.end-items ends i c.end-item.result within c.ends.invariant.rest)
          (has c.ends.store end.channel) (before.1 end.channel)
          (c.in_ok-add_all.ensures.adds has gives sound) left);
      ends = λ has gives sound.
          let was = is_as_before g.K.Store has gives _ _ c.add_all.ensures.reads sound in
          let before = is_as_before g.K.Store has gives _ _ c.ends.invariant.reads was.0 in
          let known =
          c.in_ok-add_all.ensures.end has gives sound
          ∙ ap
          (λ (h : Contents). record end { arrived = length h.arrived; printed = h.printed })
          (before.1 end.channel) in
          map_with_one_more (receiving_from (has c.args.store.now)) ends c.ends.end-items _ i
          c.end-item.result c.add_all.new.end c.ends-test.true
          c.deref_mut-end-items.ensures.value (c.ends.invariant.ends has gives was.0) c.end-item.is
          known;
      rest = rests_on c.ends.end-items ends i c.add_all.new.end c.ends.invariant.rest;
    }

pub returns-in_err-add_all-clause-reads : goal.returns-in_err-add_all-clause-reads
returns-in_err-add_all-clause-reads g c =
    then g.K.Store _ _ _ c.ends.invariant.reads c.add_all.ensures.reads
