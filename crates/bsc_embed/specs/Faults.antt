-- The faults of calls from C, by their numbers and texts in `enum bsc_error` of bsc.h.
use Rattle.std.specs.Prelude.{ℕ, ◌==◌, if◌then◌else◌, List, Option, Some, None, Result, Ok, Err}
use Rattle.std.specs.Prelude.{codes}
use Rattle.bsc_embed.specs.declared.interface.fault.Fault.{Fault}
use Rattle.bsc_embed.specs.declared.interface.fault.Fault.TheVariants.{NotMade, OtherKind}
use Rattle.bsc_embed.specs.declared.interface.fault.Fault.TheVariants.{AlreadyMade, Memory, NoRoom}
use Rattle.bsc_embed.specs.declared.interface.fault.Fault.TheVariants.{Full, BlockChars, Tries}
use Rattle.bsc_embed.specs.declared.interface.fault.Fault.TheVariants.{Waits, Address, Selects}
use Rattle.bsc_embed.specs.declared.interface.fault.Fault.TheVariants.{SameAddress, NoTerminal}
use Rattle.bsc_embed.specs.declared.interface.fault.Fault.TheVariants.{TooManyTerminals}
use Rattle.bsc_embed.specs.declared.interface.fault.Fault.TheVariants.{EmptyPollList, PollList}
use Rattle.bsc_embed.specs.declared.interface.fault.Fault.TheVariants.{NoSuchTerminal}
use Rattle.bsc_embed.specs.declared.interface.fault.Fault.TheVariants.{NoSuchAddress, NoSuchRecord}
use Rattle.bsc_embed.specs.declared.interface.fault.Fault.TheVariants.{TooLong, NotText, NotInDoubt}
use Rattle.bsc_embed.specs.declared.interface.fault.Fault.TheVariants.{CountMismatch, NothingSent}
use Rattle.bsc_embed.specs.declared.interface.fault.Fault.TheVariants.{NotControl, WrongCount}
use Rattle.bsc_embed.specs.declared.interface.fault.Fault.TheVariants.{Pending, NotNew, Known}
use Rattle.bsc_embed.specs.declared.interface.fault.Fault.TheVariants.{Doubt}

-- The number of a fault.
abbrev pub fault_number : Fault → ℕ
fault_number NotMade = 1
fault_number OtherKind = 2
fault_number AlreadyMade = 3
fault_number Memory = 4
fault_number NoRoom = 5
fault_number Full = 6
fault_number BlockChars = 7
fault_number Tries = 8
fault_number Waits = 9
fault_number Address = 10
fault_number Selects = 11
fault_number SameAddress = 12
fault_number NoTerminal = 13
fault_number TooManyTerminals = 14
fault_number EmptyPollList = 15
fault_number PollList = 16
fault_number NoSuchTerminal = 17
fault_number NoSuchAddress = 18
fault_number NoSuchRecord = 19
fault_number TooLong = 20
fault_number NotText = 21
fault_number NotInDoubt = 22
fault_number CountMismatch = 23
fault_number NothingSent = 24
fault_number NotControl = 25
fault_number WrongCount = 26
fault_number Pending = 27
fault_number NotNew = 28
fault_number Known = 29
fault_number Doubt = 30

-- The fault with this number.
abbrev pub fault_at : ℕ → Option Fault
fault_at number =
    if number == 1 then Some NotMade
    else if number == 2 then Some OtherKind
    else if number == 3 then Some AlreadyMade
    else if number == 4 then Some Memory
    else if number == 5 then Some NoRoom
    else if number == 6 then Some Full
    else if number == 7 then Some BlockChars
    else if number == 8 then Some Tries
    else if number == 9 then Some Waits
    else if number == 10 then Some Address
    else if number == 11 then Some Selects
    else if number == 12 then Some SameAddress
    else if number == 13 then Some NoTerminal
    else if number == 14 then Some TooManyTerminals
    else if number == 15 then Some EmptyPollList
    else if number == 16 then Some PollList
    else if number == 17 then Some NoSuchTerminal
    else if number == 18 then Some NoSuchAddress
    else if number == 19 then Some NoSuchRecord
    else if number == 20 then Some TooLong
    else if number == 21 then Some NotText
    else if number == 22 then Some NotInDoubt
    else if number == 23 then Some CountMismatch
    else if number == 24 then Some NothingSent
    else if number == 25 then Some NotControl
    else if number == 26 then Some WrongCount
    else if number == 27 then Some Pending
    else if number == 28 then Some NotNew
    else if number == 29 then Some Known
    else if number == 30 then Some Doubt
    else None

-- What a fault means.
abbrev pub fault_text : Fault → List ℕ
fault_text NotMade = codes "nothing was made"
fault_text OtherKind = codes "made as another kind"
fault_text AlreadyMade = codes "already made"
fault_text Memory = codes "out of memory"
fault_text NoRoom = codes "the buffer is too short"
fault_text Full = codes "the full length is not 1 to 144"
fault_text BlockChars = codes "the characters of a block are not 146 to 400"
fault_text Tries = codes "the tries are not 1 to 15"
fault_text Waits = codes "the waits are not 1 to 255"
fault_text Address = codes "wrong address"
fault_text Selects = codes "a terminal has one to four selection addresses"
fault_text SameAddress = codes "two addresses are the same"
fault_text NoTerminal = codes "no terminal"
fault_text TooManyTerminals = codes "too many terminals"
fault_text EmptyPollList = codes "poll list is empty"
fault_text PollList = codes "wrong poll list"
fault_text NoSuchTerminal = codes "no such terminal"
fault_text NoSuchAddress = codes "no such address"
fault_text NoSuchRecord = codes "no such record"
fault_text TooLong = codes "record too long"
fault_text NotText = codes "wrong character"
fault_text NotInDoubt = codes "not in doubt"
fault_text CountMismatch = codes "count mismatch"
fault_text NothingSent = codes "nothing sent"
fault_text NotControl = codes "control is not sending"
fault_text WrongCount = codes "wrong number of hearings"
fault_text Pending = codes "a transmission is pending"
fault_text NotNew = codes "the sender is not new"
fault_text Known = codes "more records are known than were offered"
fault_text Doubt = codes "the doubtful block does not fit"

-- The number of an answer: 0 if there is no fault.
abbrev pub number_of : Result (Unit {0}) Fault → ℕ
number_of (Ok done) = 0
number_of (Err fault) = fault_number fault
