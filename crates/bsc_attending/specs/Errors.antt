-- The errors of a station for those of its parts, and the errors of each part of its work.
use Rattle.std.specs.Prelude.{◌≡◌, Result, Ok, Err, Option, Some, None, is_some, if◌then◌else◌}
use Rattle.bsc_carrier.specs.declared.error.CarrierError.{CarrierError}
use Rattle.bsc_clients.specs.declared.error.ClientsError.{ClientsError}
use Rattle.bsc_clients.specs.declared.error.ClientsError.TheVariants as clients
use Rattle.bsc_config.specs.declared.error.ConfigError.{ConfigError}
use Rattle.bsc_config.specs.declared.error.ConfigError.TheVariants as config
use Rattle.bsc_text.specs.declared.texts.TextError.{TextError}
use Rattle.bsc_text.specs.declared.texts.TextError.TheVariants as text
use Rattle.bsc_connections.specs.declared.awaited.LiveError.{LiveError}
use Rattle.bsc_connections.specs.declared.awaited.LiveError.TheVariants as live
use Rattle.bsc_spool.specs.declared.fault.StoreFault.{StoreFault}
use Rattle.bsc_spool.specs.declared.fault.StoreFault.TheVariants as fault
use Rattle.bsc_options.specs.declared.error.OptionError.{OptionError}
use Rattle.bsc_options.specs.declared.error.OptionError.TheVariants as option
use Rattle.bsc_text.specs.declared.error.PrintError.{PrintError}
use Rattle.bsc_text.specs.declared.error.PrintError.TheVariants as print
use Rattle.bsc_sockets.specs.declared.error.SocketsError.{SocketsError}
use Rattle.bsc_sockets.specs.declared.error.SocketsError.TheVariants as sockets
use Rattle.bsc_trust.specs.declared.trust.Trust.{Trust}
use Rattle.bsc_station.specs.declared.standing.Standing.{Standing}
use Rattle.bsc_attending.specs.declared.cut_short.CutShort.{CutShort}
use Rattle.bsc_attending.specs.declared.cut_short.CutShort.TheVariants as cut
use Rattle.bsc_attending.specs.declared.error.AttendingError.{AttendingError}
use Rattle.bsc_attending.specs.declared.error.AttendingError.TheVariants as attending

-- The error for a text that could not be read.
abbrev pub text_error : TextError → AttendingError
text_error text.Memory = attending.Memory
text_error error = attending.Text error

-- The error for a configuration that is refused.
abbrev pub config_error : ConfigError → AttendingError
config_error config.Memory = attending.Memory
config_error error = attending.Config error

-- The error for a failure to print.
abbrev pub print_error : PrintError → AttendingError
print_error print.Output = attending.Output
print_error print.Memory = attending.Memory

-- The errors of printing.
abbrev pub IsPrintFault : AttendingError → Type 0
IsPrintFault attending.Output = Unit {0}
IsPrintFault attending.Memory = Unit {0}
IsPrintFault _ = ⊥

-- The error for a store that is refused.
abbrev pub store_error : StoreFault → AttendingError
store_error fault.OutOfMemory = attending.Memory
store_error error = attending.Store error

-- What cuts a station short whose connections cannot be made.
abbrev pub sockets_cut : SocketsError → CutShort
sockets_cut sockets.Memory = cut.Memory
sockets_cut error = cut.Connections error

-- What cuts a station short that programs cannot reach.
abbrev pub clients_cut : ClientsError → CutShort
clients_cut clients.Memory = cut.Memory
clients_cut error = cut.Programs error

-- What cuts a station short whose attending ends so.
abbrev pub live_cut : LiveError → CutShort
live_cut live.Wait = cut.Connections sockets.Sockets
live_cut live.Count = cut.Connections sockets.Sockets
live_cut live.Output = cut.Output
live_cut live.Unprinted = cut.Unprinted
live_cut live.Unkept = cut.Unkept fault.Unreachable
live_cut live.Memory = cut.Memory

-- What cuts a station short that was attended: if its records could not be kept, it has the fault
-- of its store.
abbrev pub with_fault : CutShort → Option StoreFault → CutShort
with_fault (cut.Unkept error) (Some fault) = cut.Unkept fault
with_fault why fault = why

-- The error of a station that was cut short.
abbrev pub cut_short_error : CutShort → AttendingError
cut_short_error (cut.Connections error) = attending.Connections error
cut_short_error (cut.Programs error) = attending.Programs error
cut_short_error cut.Output = attending.Output
cut_short_error cut.Unprinted = attending.Unprinted
cut_short_error (cut.Unkept error) = attending.Unkept error
cut_short_error cut.Memory = attending.Memory

-- The reasons for refusing options that are found after the configuration is read.
abbrev pub IsFoundLate : OptionError → Type 0
IsFoundLate option.NoTerminal = Unit {0}
IsFoundLate option.NoPeer = Unit {0}
IsFoundLate option.OfferForm = Unit {0}
IsFoundLate option.NoChannel = Unit {0}
IsFoundLate _ = ⊥

-- The errors of the records that a station has to send: a wrong option, a text that could not be
-- read, or a line that is not a record.
abbrev pub IsOfferError : AttendingError → Type 0
IsOfferError (attending.Options error) = IsFoundLate error
IsOfferError (attending.Offer path error) = Unit {0}
IsOfferError (attending.Text error) = Unit {0}
IsOfferError attending.Memory = Unit {0}
IsOfferError _ = ⊥

-- The errors of preparing a station: those of its configuration and of its records.
abbrev pub IsPreparingError : AttendingError → Type 0
IsPreparingError (attending.Config error) = Unit {0}
IsPreparingError error = IsOfferError error

-- The errors that come before connections are made, when nothing has been printed.
abbrev pub IsEarly : AttendingError → Type 0
IsEarly (attending.Options error) = Unit {0}
IsEarly (attending.Text error) = Unit {0}
IsEarly (attending.Config error) = Unit {0}
IsEarly (attending.Offer path error) = Unit {0}
IsEarly (attending.Store error) = Unit {0}
IsEarly _ = ⊥

-- The errors that come before a station begins: those before connections are made, and out of
-- memory.
abbrev pub IsUnbegun : AttendingError → Type 0
IsUnbegun attending.Memory = Unit {0}
IsUnbegun error = IsEarly error

-- The errors of a store that is refused.
abbrev pub IsStoreError : AttendingError → Type 0
IsStoreError (attending.Store error) = Unit {0}
IsStoreError attending.Memory = Unit {0}
IsStoreError _ = ⊥

-- The errors that come from making connections on: those of connecting, also of programs, attending
-- and printing, that of a line that is not trusted, and those of records not delivered.
abbrev pub IsLate : AttendingError → Type 0
IsLate (attending.Connections error) = Unit {0}
IsLate (attending.Programs error) = Unit {0}
IsLate (attending.Closed error) = Unit {0}
IsLate attending.NotTrusted = Unit {0}
IsLate attending.InDoubt = Unit {0}
IsLate attending.Undelivered = Unit {0}
IsLate attending.Output = Unit {0}
IsLate attending.Unprinted = Unit {0}
IsLate (attending.Unkept error) = Unit {0}
IsLate attending.Memory = Unit {0}
IsLate _ = ⊥

-- The errors that end a station before it has ended by itself: no connections could be made, also
-- none of programs, waiting for them failed, something could not be printed or kept, or memory ran
-- out.
abbrev pub IsCutShort : AttendingError → Type 0
IsCutShort error = (why : CutShort) × (error ≡ cut_short_error why)

-- The errors after which nothing is promised of a report: all but those that say in which state the
-- station ended.
abbrev pub IsUnended : AttendingError → Type 0
IsUnended (attending.Closed error) = ⊥
IsUnended attending.NotTrusted = ⊥
IsUnended attending.InDoubt = ⊥
IsUnended attending.Undelivered = ⊥
IsUnended _ = Unit {0}

-- The result of a station that ended in this state. Doubt comes before undelivered records.
abbrev pub outcome_of : Standing → Result (Unit {0}) AttendingError
outcome_of standing =
    if standing.doubt then Err attending.InDoubt
    else (if standing.waiting then Err attending.Undelivered else Ok tt)

-- The result of a control station that ended in this state, with what it can tell of its line. A
-- line that is not trusted comes before doubt.
abbrev pub control_outcome_of : Trust → Standing → Result (Unit {0}) AttendingError
control_outcome_of trust standing =
    if is_some trust.distrust then Err attending.NotTrusted else outcome_of standing

-- The result of a terminal with nothing in doubt or undelivered: the fault that closed its
-- connection, if one did.
abbrev pub closed_outcome : Option CarrierError → Result (Unit {0}) AttendingError
closed_outcome (Some error) = Err (attending.Closed error)
closed_outcome None = Ok tt

-- The result of a terminal that ended in this state, and of the fault that closed its connection,
-- if one did. Doubt and undelivered records come before it.
abbrev pub terminal_outcome_of : Option CarrierError → Standing → Result (Unit {0}) AttendingError
terminal_outcome_of closed standing =
    if standing.doubt then Err attending.InDoubt
    else (if standing.waiting then Err attending.Undelivered else closed_outcome closed)
