-- `seen_terminals`: which terminals were visited.
use Rattle.bsc_line_model.proofs.RoundSteps.{visited_now_is_seen, seen_unless_visited_now}
use Rattle.bsc_line_model.proofs.laws.seen_terminals.Goals as goal

pub returns : goal.returns
returns c = record { last = visited_now_is_seen; earlier = seen_unless_visited_now }
