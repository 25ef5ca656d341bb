-- The law of texts that are printed as lines.
use Rattle.bsc_text.proofs.Plain.{are_lines}
use Rattle.bsc_text.proofs.laws.lines_form.Goals as goal

pub returns : goal.returns
returns c = are_lines
