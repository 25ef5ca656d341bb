-- The law of texts that are printed within a line.
use Rattle.bsc_text.proofs.Escapes.{has_one_reading, is_one_line}
use Rattle.bsc_text.proofs.Plain.{is_as_it_is}
use Rattle.bsc_text.proofs.laws.text_form.Goals as goal

pub returns-clause-line : goal.returns-clause-line
returns-clause-line c = is_one_line

pub returns-clause-reading : goal.returns-clause-reading
returns-clause-reading c = has_one_reading

pub returns-clause-same : goal.returns-clause-same
returns-clause-same c = is_as_it_is
