-- `wrong_restarts`: what a station must not do as it begins again, on values.
use Rattle.bsc_line_model.proofs.RestartExamples.{restart_doubts, doubt_is_right}
use Rattle.bsc_line_model.proofs.RestartExamples.{no_doubt_is_forgotten, no_block_is_sent_again}
use Rattle.bsc_line_model.proofs.RestartExamples.{no_text_is_heard_late}
use Rattle.bsc_line_model.proofs.laws.wrong_restarts.Goals as goal

pub returns : goal.returns
returns c = record {
  doubts = restart_doubts;
  right = doubt_is_right;
  forgets = no_doubt_is_forgotten;
  sends_again = no_block_is_sent_again;
  heard_late = no_text_is_heard_late;
}
