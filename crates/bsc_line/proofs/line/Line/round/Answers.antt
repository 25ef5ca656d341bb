-- `round` returns the length of a round.
use Rattle.std.proofs.Common.{◌≡◌, ◌<◌, ◌≤◌, ◌+◌, ℕ, List, length, drop, filter, get_or, false, true, refl}
use Rattle.std.proofs.Common.{sym, ◌∙◌, ap, subst, arith}
use Rattle.std.proofs.lemmas.List.{drop_all, length-set, get_or-replicate}
use Rattle.bsc_bid.specs.declared.limits.TheConstants.{MAX_TERMINALS}
use Rattle.bsc_control.specs.CallOrder.{is_polled}
use Rattle.bsc_control.specs.Kept.{IsControl}
use Rattle.bsc_line_model.specs.Line.{LineValue}
use Rattle.bsc_line_model.specs.Rounds.{entries_length, round_length}
use Rattle.bsc_line.specs.Counts.{in_u64}
use Rattle.bsc_line.proofs.Lengths.{polled_from, seen_before, saturated_from_zero}
use Rattle.bsc_line.proofs.Lengths.{saturated_with_zero}
use Rattle.bsc_line.proofs.Lengths.{entry_added}
use Rattle.bsc_line.proofs.Lengths.{terminal_of_entry_is_marked}
use Rattle.bsc_line.proofs.line.Line.round.Goals as goal

pub loop-entry-init : goal.loop-entry-init
loop-entry-init g c =
    record {
      fits = omega arith;
      sized = refl;
      seen =
          λ t less. get_or-replicate MAX_TERMINALS t false false less;
      total =
          saturated_from_zero (round_length c.args.self.now);
    }

pub loop-entry-preserved : goal.loop-entry-preserved
loop-entry-preserved g c =
    let list : List ℕ = c.args.self.now.control.poll_list in
    let k : ℕ = c.loop-entry.entry-index in
    let items : c.poll_list-entry-items.result.now ≡ list = c.poll_list-entry-items.ensures.value
    ∙ ap (λ (l : LineValue). l.control.poll_list) c.self.view_is in
    let less : k < length list =
    subst (λ (ts : List ℕ). k < length ts) items c.loop-entry-test.true in
    let named : c.from-terminal.result ≡ get_or list k 0 = c.from-terminal.ensures
    ∙ ap (λ (ts : List ℕ). get_or ts k 0) items in
    let control : IsControl c.args.self.now.control =
    subst (λ (l : LineValue). IsControl l.control) c.self.view_is
    c.poll_list-entry-items.ensures.control in
    let inside : get_or list k 0 < length c.args.self.now.control.peers =
    control.entries.entries k 0 less in
    let there : c.from-terminal.result < MAX_TERMINALS =
    omega (arith, named, inside, control.few) in
    record {
      fits = c.with_entry-total.type_inv;
      sized = length-set c.loop-entry.seen c.from-terminal.result true
          ∙ c.loop-entry.invariant.sized;
      seen =
          terminal_of_entry_is_marked c.seen_terminals.ensures.last c.seen_terminals.ensures.earlier list
          c.loop-entry.seen k c.from-terminal.result c.loop-entry.invariant.sized there named
          c.loop-entry.invariant.seen;
      total =
          entry_added c.seen_terminals.ensures.last c.seen_terminals.ensures.earlier
          c.args.self.now list k c.loop-entry.total c.with_entry-total.result
          c.from-terminal.result (get_or c.loop-entry.seen c.from-terminal.result false) less
          named
          (c.loop-entry.invariant.seen c.from-terminal.result there ∙ refl)
          c.with_entry-total.ensures
          ∙ c.loop-entry.invariant.total;
    }

pub returns-clause-value : goal.returns-clause-value
returns-clause-value g c =
    let list : List ℕ = c.args.self.now.control.poll_list in
    let k : ℕ = c.loop-entry.entry-index in
    let items : c.poll_list-entry-items.result.now ≡ list = c.poll_list-entry-items.ensures.value
    ∙ ap (λ (l : LineValue). l.control.poll_list) c.self.view_is in
    let count : length c.poll_list-entry-items.result.now ≡ length list =
    ap (λ (ts : List ℕ). length ts) items in
    let all : length list ≤ k = omega (arith, count, c.loop-entry-test.false) in
    let none : entries_length c.args.self.now (seen_before list k)
    (polled_from c.args.self.now list k) ≡ 0 =
    ap (λ (ts : List ℕ). entries_length c.args.self.now (seen_before list k)
    (filter (is_polled c.args.self.now.control) ts))
    (drop_all k list all) in
    sym (saturated_with_zero c.loop-entry.total c.loop-entry.invariant.fits)
    ∙ ap (λ (n : ℕ). in_u64 (c.loop-entry.total + n)) (sym none) ∙ c.loop-entry.invariant.total
