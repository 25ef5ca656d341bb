-- The station has what its store had at the beginning, since reading has changed nothing of that.
use Rattle.std.proofs.Common.{◌≡◌, ◌∙◌, ap, map, subst, sym}
use Rattle.bsc_spool.specs.Contents.{IsRead}
use Rattle.bsc_keeping.specs.Filled.{AddsEach, offered_each, receiving_from, recalled_each}
use Rattle.bsc_keeping.specs.Filled.{sending_from}
use Rattle.bsc_keeping.proofs.Reading.{is_as_before, then}
use Rattle.bsc_keeping.proofs.filling.fill.Goals as goal

pub returns-clause-reads : goal.returns-clause-reads
returns-clause-reads g c =
    subst (IsRead g.K.Store c.args.store) (sym c.new.ensures.store)
    (then g.K.Store _ _ _
    (then g.K.Store _ _ _ c.offer_for_all.ensures.reads c.add_for_all.ensures.reads)
    c.recall_all.ensures.reads)

pub returns-clause-filled : goal.returns-clause-filled
returns-clause-filled g c has gives sound =
    let last = subst g.K.Store.sound c.new.ensures.store sound in
    let third = is_as_before g.K.Store has gives _ _ c.recall_all.ensures.reads last in
    let second = is_as_before g.K.Store has gives _ _ c.add_for_all.ensures.reads third.0 in
    let first = is_as_before g.K.Store has gives _ _ c.offer_for_all.ensures.reads second.0 in
    let same : has c.offer_for_all.new.store ≡ has c.args.store =
    λ i channel. first.1 channel i in
    let both : has c.add_for_all.new.store ≡ has c.args.store =
    λ i channel. (second.1 channel ∙ first.1 channel) i in
    let offered =
    c.in_ok-offer_for_all.ensures.offered has gives second.0
    ∙ ap (λ ends. offered_each g.P.Fills.offered (has c.args.store) ends c.args.station.now)
    c.deref.ensures.value in
    let adds = c.in_ok-add_for_all.ensures.adds has gives third.0 in
    let recalled =
    c.in_ok-recall_all.ensures.recalled has gives last
    ∙ ap
    (λ h. recalled_each g.P.Fills.recalled h c.args.sending.items c.add_for_all.new.station)
    both in
    record {
      mid = c.add_for_all.new.station;
      adds =
          subst
          (λ x. AddsEach g.P.Fills.gains g.P.Fills.forgets c.args.forgets_printed
          (has c.args.store) c.args.receiving.items x c.add_for_all.new.station)
          offered
          (subst
          (λ h. AddsEach g.P.Fills.gains g.P.Fills.forgets c.args.forgets_printed h
          c.args.receiving.items c.offer_for_all.new.station c.add_for_all.new.station)
          same adds);
      forgot =
          subst (λ x. g.P.Fills.forgets_known x c.forget_recalled.new.self) recalled
          c.forget_recalled.ensures.forgets;
    }

pub returns-clause-keeps : goal.returns-clause-keeps
returns-clause-keeps g c has gives sound =
    let last = subst g.K.Store.sound c.new.ensures.store sound in
    let third = is_as_before g.K.Store has gives _ _ c.recall_all.ensures.reads last in
    let second = is_as_before g.K.Store has gives _ _ c.add_for_all.ensures.reads third.0 in
    let first = is_as_before g.K.Store has gives _ _ c.offer_for_all.ensures.reads second.0 in
    let same : has c.offer_for_all.new.store ≡ has c.args.store =
    λ i channel. first.1 channel i in
    let both : has c.add_for_all.new.store ≡ has c.args.store =
    λ i channel. (second.1 channel ∙ first.1 channel) i in
    record {
      sends =
          ap (λ ends. ends.items) c.new.ensures.sending
          ∙ c.in_ok-recall_all.ensures.ends has gives last
          ∙ ap (λ h. map (sending_from h) c.args.sending.items) both;
      receives =
          ap (λ ends. ends.items) c.new.ensures.receiving
          ∙ c.in_ok-add_for_all.ensures.ends has gives third.0
          ∙ ap (λ h. map (receiving_from h) c.args.receiving.items) same;
    }
