-- The units that are built for records hold these records.
use Rattle.bsc_block.proofs.HeldRecords.{records_in_units}
use Rattle.bsc_block.proofs.laws.records_back.Goals as goal

pub returns : goal.returns
returns c = records_in_units
