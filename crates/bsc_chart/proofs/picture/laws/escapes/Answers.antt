-- The law of texts in a document.
use Rattle.bsc_chart.proofs.Plain.{is_plain_text}
use Rattle.bsc_chart.proofs.picture.laws.escapes.Goals as goal

pub returns-clause-plain : goal.returns-clause-plain
returns-clause-plain c = is_plain_text
