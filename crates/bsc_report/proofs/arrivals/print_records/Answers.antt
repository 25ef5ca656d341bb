-- One more line is printed.
use Rattle.std.proofs.Common.{◌≡◌, ◌+◌, ◌-◌, ◌∙◌, ℕ, List, ap, arith, drop, slice_get, Some}
use Rattle.std.proofs.KnownBytes.{Appends-trans}
use Rattle.std.proofs.lemmas.Option.{slice_get-get_or}
use Rattle.bsc_block.proofs.Waiting.{waiting_at, waiting_within}
use Rattle.bsc_text.specs.Channels.{channel_name}
use Rattle.bsc_report.proofs.Lines.{lines_take_more}
use Rattle.bsc_report.proofs.arrivals.print_records.Goals as goal

pub records-preserved : goal.records-preserved
records-preserved g c =
    let rs : List (List ℕ) = c.args.records.now.items in
    let from : ℕ = c.args.from in
    let i : ℕ = c.records.place - from in
    let r : List ℕ = c.chars.result.now in
    let channel = c.args.channel in
    let name = channel_name channel.addresses channel.name.terminal channel.name.way in
    let place : c.records.place ≡ from + i = omega (arith, c.records.invariant.after) in
    let next : c.records.place + 1 - from ≡ i + 1 = omega (arith, c.records.invariant.after) in
    let is : slice_get rs (from + i) ≡ Some r = rw (← place) c.chars.ensures.chars in
    let waits : slice_get (drop from rs) i ≡ Some r =
    slice_get-get_or (drop from rs) i r (waiting_within rs from i r is)
    ∙ ap (λ x. Some x) (waiting_at rs from i r r is) in
    record {
      after = omega (arith, c.records.invariant.after);
      printed =
          rw (next, lines_take_more c.args.lines name (drop from rs) from i r waits, ← place)
          (Appends-trans _ _ _ _ _ c.records.invariant.printed c.in_ok-print_record.ensures);
    }
