-- Each iteration of the loop prints records of one more channel.
use Rattle.std.proofs.Common.{◌≡◌, ℕ, min, rules, arith, slice_index, subst}
use Rattle.std.specs.Io.KnownBytes.{Appends}
use Rattle.bsc_text.proofs.Appending.{each_below_more}
use Rattle.bsc_report.specs.Following.{left_after, next_lines, some_lines, unprinted_on}
use Rattle.bsc_report.proofs.following.print_some.Goals as goal

pub channels-preserved : goal.channels-preserved
channels-preserved g c =
    let s = c.args.station.now in
    let old = c.args.printed.now in
    let most = c.args.most in
    let k = c.channels.number in
    let before = g.W.Write.contents c.channels.out in
    let after = g.W.Write.contents c.print_next.new.out in
    let same : slice_index c.channels.printed k ≡ slice_index old k =
    c.channels.invariant.others k (omega arith) in
    let left : c.channels.left ≡ left_after g.P.Party s old most k = c.channels.invariant.left in
    let Prints : ℕ → ℕ → Type 0 = λ n m. Appends before after
    (next_lines g.P.Party s c.args.lines k n (min (unprinted_on g.P.Party s k n) m)) in
    let printed : Prints (slice_index old k) (left_after g.P.Party s old most k) =
    subst (λ n. Prints n (left_after g.P.Party s old most k)) same
    (subst (Prints (slice_index c.channels.printed k)) left c.in_ok-left.ensures.text) in
    record {
      text = each_below_more (g.W.Write.contents c.args.out.now) before after
          (some_lines g.P.Party s c.args.lines old most) k c.channels.invariant.text printed;
      counts = search rules;
      left = search rules;
      others = search rules;
    }
