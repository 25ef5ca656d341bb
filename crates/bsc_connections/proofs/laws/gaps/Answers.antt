-- What a gap ends, from the lemmas about pieces that arrive without a gap.
use Rattle.std.proofs.Common.{ap}
use Rattle.bsc_connections.specs.Framings.{GapsValue}
use Rattle.bsc_connections.proofs.Gathered.{gap_ends_all_pieces, count_after_pieces}
use Rattle.bsc_connections.proofs.Gathered.{count_stays_bounded}
use Rattle.bsc_connections.proofs.laws.gaps.Goals as goal

pub returns-clause-ended : goal.returns-clause-ended
returns-clause-ended c = gap_ends_all_pieces

pub returns-clause-anew : goal.returns-clause-anew
returns-clause-anew c =
    λ old new pieces a. (
      ap (λ (v : GapsValue). v.begun) a.gap.1,
      ap (λ (v : GapsValue). v.arrived) a.gap.1,
    )

pub returns-clause-counted : goal.returns-clause-counted
returns-clause-counted c = count_after_pieces

pub returns-clause-bounded : goal.returns-clause-bounded
returns-clause-bounded c = count_stays_bounded
