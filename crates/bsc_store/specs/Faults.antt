-- The fault of a store for each error of its database.
use Rattle.sqlite.specs.declared.error.ErrorCode.{ErrorCode}
use Rattle.sqlite.specs.declared.error.ErrorCode.TheVariants as code
use Rattle.sqlite.specs.declared.error.Error.{Error}
use Rattle.sqlite.specs.declared.error.Error.TheVariants.{SqliteFailure}
use Rattle.bsc_spool.specs.declared.fault.StoreFault.{StoreFault}
use Rattle.bsc_spool.specs.declared.fault.StoreFault.TheVariants as fault

-- The fault for an error code.
abbrev pub coded : ErrorCode → StoreFault
coded code.DatabaseBusy = fault.InUse
coded code.NotADatabase = fault.Damaged
coded code.DatabaseCorrupt = fault.Damaged
coded code.DiskFull = fault.Full
coded code.OutOfMemory = fault.OutOfMemory
coded code.CannotOpen = fault.Unreachable
coded code.SystemIoFailure = fault.Unreachable
coded code.Closed = fault.Unreachable
coded _ = fault.Refused

-- The fault for an error.
abbrev pub fault_for : Error → StoreFault
fault_for (SqliteFailure code) = coded code
fault_for _ = fault.Damaged

-- The fault for an error of a query: one that is refused shows that the tables are no store's.
abbrev pub unread : StoreFault → StoreFault
unread fault.Refused = fault.Damaged
unread other = other
