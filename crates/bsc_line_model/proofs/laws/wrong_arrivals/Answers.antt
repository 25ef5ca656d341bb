-- `wrong_arrivals`: what the definitions exclude, on values.
use Rattle.bsc_line_model.proofs.Examples.{first_lands, no_double_lands, no_gap_lands}
use Rattle.bsc_line_model.proofs.Examples.{no_other_lands, no_two_move, no_double_arrives}
use Rattle.bsc_line_model.proofs.Examples.{no_gap_arrives, no_other_arrives, none_is_known_early}
use Rattle.bsc_line_model.proofs.Examples.{none_reaches_other}
use Rattle.bsc_line_model.proofs.laws.wrong_arrivals.Goals as goal

pub returns : goal.returns
returns c = record {
  lands = first_lands;
  double_lands = no_double_lands;
  gap_lands = no_gap_lands;
  other_lands = no_other_lands;
  two_move = no_two_move;
  double_arrives = no_double_arrives;
  gap_arrives = no_gap_arrives;
  other_arrives = no_other_arrives;
  known_early = none_is_known_early;
  reaches_other = none_reaches_other;
}
