-- The law of the lines that are read back.
use Rattle.bsc_trace.proofs.MarkLines.{texts_are_kept}
use Rattle.bsc_trace.proofs.ReadBack.{sentences_are_read_back, silences_are_read_back}
use Rattle.bsc_trace.proofs.ReadBack.{texts_are_read_back, transmissions_are_read_back}
use Rattle.bsc_trace.proofs.laws.read_back.Goals as goal

pub returns-clause-transmissions : goal.returns-clause-transmissions
returns-clause-transmissions c = transmissions_are_read_back

pub returns-clause-silences : goal.returns-clause-silences
returns-clause-silences c = silences_are_read_back

pub returns-clause-texts : goal.returns-clause-texts
returns-clause-texts c = texts_are_read_back

pub returns-clause-sentences : goal.returns-clause-sentences
returns-clause-sentences c = sentences_are_read_back

pub returns-clause-kept : goal.returns-clause-kept
returns-clause-kept c = texts_are_kept
