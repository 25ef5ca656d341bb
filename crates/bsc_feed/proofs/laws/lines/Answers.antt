-- The lines of a client, from the lemmas about dividing its octets.
use Rattle.std.proofs.Common.{◌==◌, ◌≡◌, false, []}
use Rattle.std.proofs.lemmas.List.Elements.{All-nil}
use Rattle.bsc_feed.proofs.Dividing.{every_division, lines_of_pieces, one_division}
use Rattle.bsc_feed.proofs.Kept.{line_of_kept}
use Rattle.bsc_feed.proofs.laws.lines.Goals as goal

pub returns-clause-any_pieces : goal.returns-clause-any_pieces
returns-clause-any_pieces c = λ old new pieces kept none divides.
    lines_of_pieces [] (All-nil (λ octet. (octet == 10) ≡ false)) none divides

pub returns-clause-kept : goal.returns-clause-kept
returns-clause-kept c = line_of_kept

pub returns-clause-one : goal.returns-clause-one
returns-clause-one c = every_division

pub returns-clause-no_others : goal.returns-clause-no_others
returns-clause-no_others c = one_division
