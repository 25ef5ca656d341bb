-- Shows that one more text is added in turn, or is refused after those before it.
use Rattle.std.proofs.Common.{rules, ◌≡◌, get_or, string_bytes, subst, sym, ap, map, IfErr, Err}
use Rattle.bsc_attending.specs.Offering.{AddsLines, AddsNoLines, HasNoRecords}
use Rattle.bsc_attending.proofs.InTurn.{fails_in_turn, in_turn_more}
use Rattle.bsc_attending.proofs.offering.offer_all_at_terminal.Goals as goal

pub offers-preserved : goal.offers-preserved
offers-preserved g c =
    let texts = c.args.offers.now in
    let item = c.path-item.result in
    let left = g.R.Read.remaining in
    let text_is : c.as_str.result.now ≡ string_bytes (get_or texts c.offers.path-index item) =
    search rules in
    record {
      format = c.in_ok-add_lines.ensures.format;
      added =
          in_turn_more
          (λ path old new. AddsLines path old.0 new.0 old.1 new.1)
          string_bytes texts c.offers.path-index item
          (left c.args.input.now, c.args.terminal.now)
          (left c.offers.input, c.offers.terminal)
          (left c.add_lines.new.input, c.add_lines.new.terminal) c.offers-test.true
          c.offers.invariant.added
          (subst
          (λ t. AddsLines t (left c.offers.input) (left c.add_lines.new.input)
          c.offers.terminal c.add_lines.new.terminal)
          text_is c.in_ok-add_lines.ensures.adds);
    }

pub returns-in_err-add_lines-clause-refused : goal.returns-in_err-add_lines-clause-refused
returns-in_err-add_lines-clause-refused g c =
    let texts = c.args.offers.now in
    let item = c.path-item.result in
    let text_is : c.as_str.result.now ≡ string_bytes (get_or texts c.offers.path-index item) =
    search rules in
    let left = g.R.Read.remaining in
    let error = c.in_err-add_lines.field-0.0 in
    let is_error : c.from_residual.result ≡ Err error = search rules in
    let full_is : c.args.setup.format.full ≡ c.offers.terminal.tributary.queue.format.full =
    ap (λ format. format.full) (sym c.offers.invariant.format) in
    let fails : AddsNoLines (map string_bytes texts) (left c.args.input.now, c.args.terminal.now)
    error =
    fails_in_turn
    (λ path old new. AddsLines path old.0 new.0 old.1 new.1)
    string_bytes
    (λ path mid. HasNoRecords mid.1.tributary.queue.format.full path mid.0 error)
    texts c.offers.path-index item (left c.args.input.now, c.args.terminal.now)
    (left c.offers.input, c.offers.terminal) c.offers-test.true c.offers.invariant.added
    (subst (λ full. HasNoRecords full (string_bytes (get_or texts c.offers.path-index item))
    (left c.offers.input) error) full_is
    (subst (λ t. HasNoRecords c.args.setup.format.full t (left c.offers.input) error)
    text_is c.in_err-add_lines.ensures.refused)) in
    subst
    (λ r. IfErr r (AddsNoLines (map string_bytes texts)
    (left c.args.input.now, c.args.terminal.now)))
    (sym is_error) fails
