-- `whole_list`: if every terminal in the poll list is polled, no entry is passed over.
use Rattle.bsc_line_model.proofs.RoundSteps.{whole_list_is_visited, whole_list_passes_none}
use Rattle.bsc_line_model.proofs.laws.whole_list.Goals as goal

pub returns : goal.returns
returns c = record { visited = whole_list_is_visited; passes = whole_list_passes_none }
