-- What is kept of one more channel is recalled.
use Rattle.std.proofs.Common.{◌<◌, ◌∙◌, ap, get_or, length, refl, subst}
use Rattle.bsc_control.proofs.PeerLists.{map_with_one_more}
use Rattle.bsc_spool.specs.Contents.{Contents, never, again}
use Rattle.bsc_keeping.specs.Filled.{sending_from}
use Rattle.bsc_keeping.proofs.FilledFrom.{each_recalled, reads_first, rests_on}
use Rattle.bsc_keeping.proofs.Reading.{is_as_before}
use Rattle.bsc_keeping.proofs.filling.recall_all.Goals as goal

pub ends-init : goal.ends-init
ends-init g c = record {
  fills = g.met.P.Fills.unchanged c.args.station.now;
  reads = never;
  recalled = λ has gives sound. refl;
  ends = λ has gives sound. c.deref_mut-end-items.ensures.value;
  rest = c.deref_mut-end-items.ensures.value;
}

pub ends-preserved : goal.ends-preserved
ends-preserved g c =
    let i = c.ends.end-index in
    let ends = c.args.ends.now.items in
    let end = get_or c.ends.end-items i c.end-item.result in
    let within = subst (λ l. i < length l) c.deref_mut-end-items.ensures.value c.ends-test.true in
    record {
      fills = g.met.P.Fills.further _ _ _ c.ends.invariant.fills c.recall_one.ensures.fills;
      reads = again c.ends.invariant.reads c.recall_one.ensures.reads;
      recalled = λ has gives sound.
          let was = gives.was_sound _ _ c.recall_one.ensures.reads sound in
          let before = is_as_before g.K.Store has gives _ _ c.ends.invariant.reads was in
          each_recalled g.P.Fills.recalled (has c.args.store.now) ends i end c.ends.station
          c.recall_one.new.station _
          (reads_first c.ends.end-items ends i c.end-item.result within c.ends.invariant.rest)
          (has c.ends.store end.channel) (before.1 end.channel)
          (c.in_ok-recall_one.ensures.recalled has gives sound)
          (c.ends.invariant.recalled has gives was);
      ends = λ has gives sound.
          let was = gives.was_sound _ _ c.recall_one.ensures.reads sound in
          let before = is_as_before g.K.Store has gives _ _ c.ends.invariant.reads was in
          let known =
          c.in_ok-recall_one.ensures.end has gives sound
          ∙ ap (λ (h : Contents). record end { known = h.known; in_doubt = h.in_doubt })
          (before.1 end.channel) in
          map_with_one_more (sending_from (has c.args.store.now)) ends c.ends.end-items _ i
          c.end-item.result c.recall_one.new.end c.ends-test.true
          c.deref_mut-end-items.ensures.value (c.ends.invariant.ends has gives was) c.end-item.is
          known;
      rest = rests_on c.ends.end-items ends i c.recall_one.new.end c.ends.invariant.rest;
    }

pub returns-in_err-recall_one-clause-reads : goal.returns-in_err-recall_one-clause-reads
returns-in_err-recall_one-clause-reads g c =
    again c.ends.invariant.reads c.recall_one.ensures.reads
