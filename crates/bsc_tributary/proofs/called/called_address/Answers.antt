-- `called_address` returns which of the terminal's addresses a call names.
use Rattle.std.proofs.Common.{◌≡◌, ◌∙◌, sym, ap, List, ℕ, [], get_or, false, arith}
use Rattle.std.proofs.lemmas.Option.{slice_get_within, get_or_from_slice_get}
use Rattle.bsc_tributary.specs.Called.{is_same}
use Rattle.bsc_tributary.proofs.Addresses.{called_as_selection, called_as_other}
use Rattle.bsc_tributary.proofs.Addresses.{position_of_first_passing}
use Rattle.bsc_tributary.proofs.Addresses.{no_position_if_none_passes}
use Rattle.bsc_tributary.proofs.called.called_address.Goals as goal

pub returns-then-eq-2 : goal.returns-then-eq-2
returns-then-eq-2 c =
    let a : List ℕ = c.args.address.now in
    let selects : List (List ℕ) = c.args.terminal.now.selects in
    let poll : is_same a c.args.terminal.now.poll ≡ false = ap (is_same a) (sym c.poll.ensures)
    ∙ sym c.eq.ensures
    ∙ c.if-eq.false in
    let here : get_or selects c.loop-select.select [] ≡
    c.select.result =
    get_or_from_slice_get selects c.loop-select.select c.select.result [] c.select.ensures in
    sym (called_as_selection c.args.terminal.now a c.loop-select.select poll
    (position_of_first_passing (is_same a) selects c.loop-select.select
    (slice_get_within selects c.loop-select.select c.select.result c.select.ensures)
    c.loop-select.invariant
    (ap (is_same a) here ∙ sym c.eq-in-loop-select.ensures ∙ c.if-eq-2.true)))

pub returns : goal.returns
returns c =
    let a : List ℕ = c.args.address.now in
    let selects : List (List ℕ) = c.args.terminal.now.selects in
    let poll : is_same a c.args.terminal.now.poll ≡ false = ap (is_same a) (sym c.poll.ensures)
    ∙ sym c.eq.ensures
    ∙ c.if-eq.false in
    sym (called_as_other c.args.terminal.now a poll
    (no_position_if_none_passes (is_same a) selects (λ k within. c.loop-select.invariant k (omega arith))))
