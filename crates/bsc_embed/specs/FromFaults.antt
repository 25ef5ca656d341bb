-- The faults that the refusals of stations and of a line are to a program in C.
use Rattle.bsc_bid.specs.declared.setup.SettingError.{SettingError}
use Rattle.bsc_bid.specs.declared.setup.SettingError.TheVariants as setting_error
use Rattle.bsc_bid.specs.declared.sender.ReleaseError.{ReleaseError}
use Rattle.bsc_bid.specs.declared.sender.ReleaseError.TheVariants as release_error
use Rattle.bsc_bid.specs.declared.kept.RecallError.{RecallError}
use Rattle.bsc_bid.specs.declared.kept.RecallError.TheVariants as recall_error
use Rattle.bsc_bid.specs.declared.refusal.SetupError.{SetupError}
use Rattle.bsc_bid.specs.declared.refusal.SetupError.TheVariants as setup_error
use Rattle.bsc_block.specs.declared.record.RecordError.{RecordError}
use Rattle.bsc_block.specs.declared.record.RecordError.TheVariants as record_error
use Rattle.bsc_line_model.specs.declared.error.LineError.{LineError}
use Rattle.bsc_line_model.specs.declared.error.LineError.TheVariants as line_error
use Rattle.bsc_embed.specs.declared.interface.fault.Fault.{Fault}
use Rattle.bsc_embed.specs.declared.interface.fault.Fault.TheVariants as fault

-- Of settings.
abbrev pub setting_fault : SettingError → Fault
setting_fault setting_error.Full = fault.Full
setting_fault setting_error.BlockChars = fault.BlockChars
setting_fault setting_error.Tries = fault.Tries
setting_fault setting_error.Waits = fault.Waits

-- Of terminals and a poll list.
abbrev pub setup_fault : SetupError → Fault
setup_fault setup_error.NoTerminal = fault.NoTerminal
setup_fault setup_error.TooMany = fault.TooManyTerminals
setup_fault (setup_error.SameAddress a b) = fault.SameAddress
setup_fault setup_error.EmptyPollList = fault.EmptyPollList
setup_fault (setup_error.PollList place) = fault.PollList
setup_fault setup_error.Memory = fault.Memory

-- Of codes that are not a record_error.
abbrev pub record_fault : RecordError → Fault
record_fault record_error.TooLong = fault.TooLong
record_fault (record_error.NotText place) = fault.NotText

-- Of the release of a doubt.
abbrev pub release_fault : ReleaseError → Fault
release_fault release_error.NotInDoubt = fault.NotInDoubt
release_fault release_error.CountMismatch = fault.CountMismatch

-- Of recalling what was kept.
abbrev pub recall_fault : RecallError → Fault
recall_fault recall_error.NotNew = fault.NotNew
recall_fault recall_error.Known = fault.Known
recall_fault recall_error.Doubt = fault.Doubt

-- Of an event of a line_error.
abbrev pub line_fault : LineError → Fault
line_fault line_error.NothingSent = fault.NothingSent
line_fault line_error.NotControl = fault.NotControl
line_fault line_error.WrongCount = fault.WrongCount
line_fault line_error.Pending = fault.Pending
line_fault line_error.NoSuchTerminal = fault.NoSuchTerminal
line_fault line_error.NoSuchAddress = fault.NoSuchAddress
line_fault (line_error.BadRecord e) = record_fault e
line_fault line_error.Memory = fault.Memory
line_fault line_error.NotInDoubt = fault.NotInDoubt
line_fault line_error.CountMismatch = fault.CountMismatch
