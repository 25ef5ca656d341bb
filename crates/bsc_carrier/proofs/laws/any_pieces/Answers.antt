-- The pieces of a stream do not matter, from the lemmas about splitting it.
use Rattle.std.proofs.Common.{◌++◌, sym, ap, subst}
use Rattle.std.specs.List.{concat}
use Rattle.bsc_carrier.specs.Front.{IsPartial}
use Rattle.bsc_carrier.specs.Stream.{Splits}
use Rattle.bsc_carrier.proofs.Fronts.{is_partial_nil}
use Rattle.bsc_carrier.proofs.Streams.{one_splitting, splits_when_fed, splits_when_wrong}
use Rattle.bsc_carrier.proofs.Splitting.{every_stream_splits}
use Rattle.bsc_carrier.proofs.laws.any_pieces.Goals as goal

pub returns-clause-records : goal.returns-clause-records
returns-clause-records c = λ old new pieces records none fed.
    let (split, left) = splits_when_fed (subst IsPartial (sym none) is_partial_nil) fed in
    (subst (λ s. Splits s records new.begun) (ap (λ l. l ++ concat pieces) none) split, left)

pub returns-clause-no_others : goal.returns-clause-no_others
returns-clause-no_others c = one_splitting

pub returns-clause-wrong : goal.returns-clause-wrong
returns-clause-wrong c = splits_when_wrong

pub returns-clause-one : goal.returns-clause-one
returns-clause-one c = every_stream_splits
