-- `addresses_differ` returns whether all addresses of the terminal differ.
use Rattle.std.proofs.Common.{◌≡◌, ◌∙◌, sym, refl, [], get_or, arith, below_more}
use Rattle.bsc_tributary.specs.declared.called.Called.TheVariants.{Selection}
use Rattle.bsc_tributary.specs.Called.{called_as}
use Rattle.bsc_tributary.proofs.Addresses.{is_selection_at, are_distinct}
use Rattle.bsc_tributary.proofs.called.addresses_differ.Goals as goal

pub returns-then-not-is_first : goal.returns-then-not-is_first
returns-then-not-is_first c = (
  λ yes. absurd (cc),
  λ distinct. sym c.if-not-is_first.true
      ∙ c.is_first.ensures.1 (is_selection_at c.args.terminal.now c.loop-select.select distinct
      (omega arith)),
)

pub loop-select-preserved : goal.loop-select-preserved
loop-select-preserved c =
    below_more (λ k. called_as c.args.terminal.now (get_or c.args.terminal.now.selects k []) ≡
    Selection k) c.loop-select.select c.loop-select.invariant
    (c.is_first.ensures.0 c.if-not-is_first.false)

pub returns : goal.returns
returns c = (
  λ yes. are_distinct c.args.terminal.now
      (λ k within. c.loop-select.invariant k (omega arith)),
  λ distinct. refl,
)
