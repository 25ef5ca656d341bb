-- The faults of a device.
use Rattle.std.specs.Prelude.{⊤, Result, Ok, Err}
use Rattle.std.specs.declared.io.ErrorKind.{ErrorKind}
use Rattle.std.specs.declared.io.ErrorKind.TheVariants as kind
use Rattle.bsc_carrier.specs.declared.fault.DeviceFault.{DeviceFault}
use Rattle.bsc_carrier.specs.declared.fault.DeviceFault.TheVariants as fault
use Rattle.bsc_carrier.specs.declared.error.CarrierError.{CarrierError}
use Rattle.bsc_carrier.specs.declared.error.CarrierError.TheVariants.{Device}

-- The fault of a read or a write that failed with an error of this kind.
abbrev pub fault_of : ErrorKind → DeviceFault
fault_of kind.ConnectionReset = fault.Reset
fault_of kind.ConnectionAborted = fault.Aborted
fault_of kind.BrokenPipe = fault.BrokenPipe
fault_of kind.TimedOut = fault.TimedOut
fault_of kind.HostUnreachable = fault.Unreachable
fault_of kind.NetworkUnreachable = fault.Unreachable
fault_of kind.NetworkDown = fault.Unreachable
fault_of _ = fault.Other

-- The error is that of a device.
abbrev pub IsDevice : CarrierError → Type 0
IsDevice (Device why) = ⊤
IsDevice _ = ⊥

-- A read or a write failed.
abbrev pub HasFailed : {T : Type 0} → Result T CarrierError → Type 0
HasFailed (Ok value) = ⊥
HasFailed (Err error) = IsDevice error
