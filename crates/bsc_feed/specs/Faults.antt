-- Why commands are refused.
use Rattle.std.specs.Prelude.{ℕ, List, codes}
use Rattle.bsc_bid.specs.declared.sender.ReleaseError.{ReleaseError}
use Rattle.bsc_bid.specs.declared.sender.ReleaseError.TheVariants as release
use Rattle.bsc_block.specs.declared.record.RecordError.{RecordError}
use Rattle.bsc_block.specs.declared.record.RecordError.TheVariants as of_record
use Rattle.bsc_feed.specs.declared.fault.Fault.{Fault}
use Rattle.bsc_feed.specs.declared.fault.Fault.TheVariants.{NotACommand, LineTooLong}
use Rattle.bsc_feed.specs.declared.fault.Fault.TheVariants.{NotHexadecimal, NoSuchChannel}
use Rattle.bsc_feed.specs.declared.fault.Fault.TheVariants.{NotSending, NotATerminal}
use Rattle.bsc_feed.specs.declared.fault.Fault.TheVariants.{NoSuchTerminal, RecordTooLong}
use Rattle.bsc_feed.specs.declared.fault.Fault.TheVariants.{WrongCharacter}
use Rattle.bsc_feed.specs.declared.fault.Fault.TheVariants.{NotInDoubt, CountMismatch, NotKept}
use Rattle.bsc_feed.specs.declared.fault.Fault.TheVariants.{OutOfMemory}

-- The text of a fault.
abbrev pub fault_text : Fault → List ℕ
fault_text NotACommand = codes "not a command"
fault_text LineTooLong = codes "line too long"
fault_text NotHexadecimal = codes "not hexadecimal"
fault_text NoSuchChannel = codes "no such channel"
fault_text NotSending = codes "the station does not send on it"
fault_text NotATerminal = codes "the station is not a terminal"
fault_text NoSuchTerminal = codes "no such terminal"
fault_text RecordTooLong = codes "record too long"
fault_text WrongCharacter = codes "wrong character"
fault_text NotInDoubt = codes "not in doubt"
fault_text CountMismatch = codes "count mismatch"
fault_text NotKept = codes "not kept"
fault_text OutOfMemory = codes "out of memory"

-- The fault of codes that are not a record.
abbrev pub record_fault : RecordError → Fault
record_fault of_record.TooLong = RecordTooLong
record_fault (of_record.NotText place) = WrongCharacter

-- The fault of a release that is refused.
abbrev pub release_fault : ReleaseError → Fault
release_fault release.NotInDoubt = NotInDoubt
release_fault release.CountMismatch = CountMismatch
