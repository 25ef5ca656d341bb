-- One more record is added.
use Rattle.std.proofs.Common.{◌≡◌, ◌+◌, ◌-◌, ◌∙◌, ℕ, List, ◌∷◌, [], ap, arith, take, drop, map, slice_get, Some}
use Rattle.std.proofs.lemmas.Option.{slice_get-get_or}
use Rattle.bsc_block.proofs.Waiting.{waiting_at, waiting_within}
use Rattle.bsc_spool.specs.declared.change.Change.{Change}
use Rattle.bsc_spool.specs.declared.change.Change.TheVariants.{Arrived}
use Rattle.bsc_keeping.proofs.Lists.{added_more, map_take_more}
use Rattle.bsc_keeping.proofs.changes.add_arrived.Goals as goal

pub records-preserved : goal.records-preserved
records-preserved g c =
    let rs : List (List ℕ) = c.args.records.now.items in
    let from : ℕ = c.args.end.now.arrived in
    let i : ℕ = c.records.place - from in
    let r : List ℕ = c.«record».result in
    let place : c.records.place ≡ from + i = omega (arith, c.records.invariant.after) in
    let next : c.records.place + 1 - from ≡ i + 1 = omega (arith, c.records.invariant.after) in
    let is : slice_get rs (from + i) ≡ Some r = rw (← place) c.«record».ensures in
    let waits : slice_get (drop from rs) i ≡ Some r =
    slice_get-get_or (drop from rs) i r (waiting_within rs from i r is)
    ∙ ap (λ x. Some x) (waiting_at rs from i r r is) in
    let f : List ℕ → Change = Arrived c.args.end.now.channel in
    record {
      after = omega (arith, c.records.invariant.after);
      added =
          rw next
          (added_more c.args.step.now.items c.records.step.items c.add_record.new.step.items
          (map f (take i (drop from rs))) (f r ∷ []) (map f (take (i + 1) (drop from rs)))
          c.records.invariant.added c.in_ok-add_record.ensures
          (map_take_more f (drop from rs) i r waits));
    }
