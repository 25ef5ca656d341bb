-- Shows that each iteration of the loop prints the new records of one more channel.
use Rattle.std.proofs.Common.{◌≡◌, ℕ, rules, arith, slice_index, subst}
use Rattle.std.specs.Io.KnownBytes.{Appends}
use Rattle.bsc_text.proofs.Appending.{each_below_more}
use Rattle.bsc_report.specs.Arrivals.{arrivals_of, channel_arrivals}
use Rattle.bsc_report.proofs.Counts.{as_many_with_channel, more_with_channel}
use Rattle.bsc_report.proofs.arrivals.print_arrivals.Goals as goal

pub channels-preserved : goal.channels-preserved
channels-preserved g c =
    let s = c.args.station.now in
    let old = c.args.printed.now in
    let mid = c.channels.printed in
    let k = c.channels.number in
    let x = c.print_channel.new.printed in
    let f = c.channels.found in
    let b = c.in_ok-found.field-0 in
    let before = g.W.Write.contents c.channels.out in
    let after = g.W.Write.contents c.print_channel.new.out in
    let left : slice_index mid k ≡ slice_index old k = c.channels.invariant.others k (omega arith) in
    let Prints : ℕ → Type 0 = λ n. Appends before after
    (channel_arrivals g.P.Party s c.args.lines k n) in
    record {
      text = each_below_more (g.W.Write.contents c.args.out.now) before after
          (arrivals_of g.P.Party s c.args.lines old) k
          c.channels.invariant.text (subst Prints left c.in_ok-found.ensures.text);
      counts = search rules;
      some = λ e. more_with_channel old mid k x (search rules) left f b e
          c.channels.invariant.some (search rules);
      none = λ e. as_many_with_channel old mid k x (search rules) left f b e
          c.channels.invariant.none (search rules);
      others = search rules;
    }
