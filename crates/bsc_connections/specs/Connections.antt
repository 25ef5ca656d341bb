-- What a read and a transmission do to one connection.
use Rattle.std.specs.Prelude.{⊤, ◌≡◌, ◌⊎◌, ℕ, ◌<◌, Bool, true, false, List, [], length, Option}
use Rattle.std.specs.Prelude.{None, Some, Ok, Err, ◌&&◌, is_none, not, if◌then◌else◌}
use Rattle.std.specs.Io.KnownBytes.{Appends, Consumes, IsAtEnd, Keeps}
use Rattle.std.specs.declared.io.ErrorKind.{ErrorKind}
use Rattle.std.specs.declared.io.ErrorKind.TheVariants as kind
use Rattle.std.specs.declared.io.Read as read
use Rattle.bsc_carrier.specs.declared.error.CarrierError.{CarrierError}
use Rattle.bsc_carrier.specs.declared.error.CarrierError.TheVariants.{Device, Short}
use Rattle.bsc_carrier.specs.Faults.{IsDevice, fault_of}
use Rattle.bsc_carrier.specs.declared.fault.DeviceFault.{DeviceFault}
use Rattle.bsc_carrier.specs.declared.fault.DeviceFault.TheVariants.{Other}
use Rattle.bsc_connections.specs.declared.connection.Taken.{Taken}
use Rattle.bsc_connections.specs.declared.connection.Taken.TheVariants.{Nothing, Interrupted, Part}
use Rattle.bsc_connections.specs.declared.connection.Taken.TheVariants.{Whole}
use Rattle.bsc_connections.specs.declared.connection.Taken.TheVariants.{Closed}
use Rattle.bsc_connections.specs.declared.framing.Framing as framing_of
use Rattle.bsc_connections.specs.Parts.{ConnectionParts}

-- The two directions of a connection while it is open, its framing, the fault of a write that
-- failed and that is not told yet, and whether a transmission was written on it since it began.
pub record ConnectionValue (R W F : Type 0) : Type 0 where
  pub ends : Option (R × W)
  pub framing : F
  pub untold : Option DeviceFault
  pub written : Bool

-- Whether a connection is open and a transmission was written on it: its peer may answer what was
-- sent last.
abbrev pub is_reached : {R W F : Type 0} → ConnectionValue R W F → Bool
is_reached connection = not (is_none connection.ends) && connection.written

-- What a failed read means. If nothing arrived in time there is nothing to read, and if the read
-- was interrupted there may be; the connection stays open. Any other failure closes it, with the
-- fault that its kind says.
abbrev pub failure_means : ErrorKind → Taken
failure_means kind.WouldBlock = Nothing
failure_means kind.TimedOut = Nothing
failure_means kind.Interrupted = Interrupted
failure_means other = Closed (Some (Device (fault_of other)))

-- There is an error, and it is that of a device.
abbrev pub IsDeviceFault : Option CarrierError → Type 0
IsDeviceFault None = ⊥
IsDeviceFault (Some error) = IsDevice error

-- Why the end of the input closes a connection. The flag says whether it cuts a transmission short.
abbrev pub ending_error : Bool → Option CarrierError
ending_error short = if short then Some Short else None

-- The fault of a write that failed with this error. Without a fault of the device it is an unknown
-- one.
abbrev pub write_fault : CarrierError → DeviceFault
write_fault (Device why) = why
write_fault _ = Other

-- The read gave no octets. If it closes the connection, that is by a fault of the device.
abbrev pub GivesNoOctets : Taken → Type 0
GivesNoOctets Part = ⊥
GivesNoOctets Whole = ⊥
GivesNoOctets (Closed why) = IsDeviceFault why
GivesNoOctets _ = ⊤

-- What a read of a closed connection reports: the write that failed, if that is not told yet, or
-- that there is nothing to read.
abbrev pub untold_taken : Option DeviceFault → Taken
untold_taken None = Nothing
untold_taken (Some why) = Closed (Some (Device why))

-- A reader, and the framing that is fed what it gives.
pub record Input (R F : Type 0) : Type 0 where
  pub reader : R
  pub framing : F

-- The framing of a connection, by what is known of it.
module _ {F : Type 0} (framing : framing_of.Ghosts F) where
  -- The input has ended: a read that asked for octets gave none. That ends the transmission that
  -- has begun, if a gap would end it; otherwise it closes the connection.
  abbrev pub IsEndedBy : Taken → F → F → Type 0
  IsEndedBy Whole old new = framing.ends old true new
  IsEndedBy (Closed why) old new =
      (framing.awaits old ≡ false) × (why ≡ ending_error (framing.short old))
  IsEndedBy _ old new = ⊥

-- The reader of a connection and its framing, by what is known of them.
module _ {R F : Type 0} (reading : read.Ghosts R) (framing : framing_of.Ghosts F) where
  -- Nothing was read, since the input has ended.
  pub record ReadsEnd (taken : Taken) (old new : Input R F) : Type 0 where
    pub none : Consumes (reading.remaining old.reader) (reading.remaining new.reader) []
    pub at_end : 0 < framing.room old.framing → IsAtEnd (reading.remaining new.reader)
    pub ended : IsEndedBy framing taken old.framing new.framing

  -- Nothing was read.
  abbrev pub ReadsNothing : Input R F → Input R F → Type 0
  ReadsNothing old new =
      Keeps (reading.remaining old.reader) (reading.remaining new.reader)
      × (new.framing ≡ old.framing)

  -- A piece was read and fed. The flag says whether it ended a transmission.
  abbrev pub ReadsPiece : Bool → Input R F → Input R F → Type 0
  ReadsPiece whole old new =
      (piece : List ℕ)
      × Consumes (reading.remaining old.reader) (reading.remaining new.reader) piece
      × framing.feeds old.framing piece (Ok (length piece, whole)) new.framing

  -- A piece was read, and the framing refuses it with this error.
  pub record RefusesPiece (why : Option CarrierError) (old new : Input R F) : Type 0 where
    pub piece : List ℕ
    pub error : CarrierError
    pub consumed : Consumes (reading.remaining old.reader) (reading.remaining new.reader) piece
    pub refused : framing.feeds old.framing piece (Err error) new.framing
    pub why_is : why ≡ Some error

  -- Why a read closes the connection: the input has ended, which may cut a transmission short but
  -- loses none that a gap would end; the framing refuses what was read; or the device failed.
  abbrev pub ReadsNoMore : Option CarrierError → Input R F → Input R F → Type 0
  ReadsNoMore why old new =
      ReadsEnd (Closed why) old new ⊎ (RefusesPiece why old new ⊎ IsDeviceFault why)

  -- What one read does to the reader and the framing. A transmission is complete by what was read,
  -- or by the end of the input.
  abbrev pub Reads : Taken → Input R F → Input R F → Type 0
  Reads Nothing old new = ReadsNothing old new
  Reads Interrupted old new = ReadsNothing old new
  Reads Part old new = ReadsPiece false old new
  Reads Whole old new = ReadsPiece true old new ⊎ ReadsEnd Whole old new
  Reads (Closed why) old new = ReadsNoMore why old new

module _ {R W F : Type 0} (parts : ConnectionParts R W F) where
  -- A read of a connection that was open before it and is open after it.
  pub record TakesOpen (taken : Taken) (old new : ConnectionValue R W F) : Type 0 where
    pub before : R
    pub after : R
    pub writer : W
    pub was_open : old.ends ≡ Some (before, writer)
    pub stays_open : new.ends ≡ Some (after, writer)
    pub untold : new.untold ≡ old.untold
    pub written : new.written ≡ old.written
    pub reads : Reads parts.reader parts.framing taken
        (record { reader = before; framing = old.framing })
        (record { reader = after; framing = new.framing })

  -- A read that closes an open connection.
  pub record ClosesOpen (why : Option CarrierError) (old new : ConnectionValue R W F) : Type 0 where
    pub before : R
    pub after : R
    pub writer : W
    pub was_open : old.ends ≡ Some (before, writer)
    pub is_closed : new.ends ≡ None
    pub untold : new.untold ≡ old.untold
    pub reads : Reads parts.reader parts.framing (Closed why)
        (record { reader = before; framing = old.framing })
        (record { reader = after; framing = new.framing })

  -- A read of a connection that is closed: it tells of the write that failed if that is not told
  -- yet, and does nothing else.
  pub record TakesClosed (taken : Taken) (old new : ConnectionValue R W F) : Type 0 where
    pub was_closed : old.ends ≡ None
    pub tells : taken ≡ untold_taken old.untold
    pub told : new ≡ record old { untold = None }

  -- A read of a connection. One that reports that the connection is closed has closed it, or tells
  -- of a write that failed and had closed it.
  abbrev pub Takes : ConnectionValue R W F → Taken → ConnectionValue R W F → Type 0
  Takes old (Closed why) new = TakesClosed (Closed why) old new ⊎ ClosesOpen why old new
  Takes old Nothing new = TakesClosed Nothing old new ⊎ TakesOpen Nothing old new
  Takes old taken new = TakesOpen taken old new

  -- The octets that carry the transmission were written, and the connection stays open.
  pub record Writes (octets : List ℕ) (old new : ConnectionValue R W F) : Type 0 where
    pub reader : R
    pub before : W
    pub after : W
    pub was_open : old.ends ≡ Some (reader, before)
    pub stays_open : new.ends ≡ Some (reader, after)
    pub written : Appends (parts.writer.contents before) (parts.writer.contents after)
        (parts.framing.framed octets)
    pub held : new.framing ≡ old.framing
    pub untold : new.untold ≡ old.untold
    pub is_written : new.written ≡ true

  -- A write fails: the connection is closed, and that is to be told.
  abbrev pub FailsToWrite : ConnectionValue R W F → ConnectionValue R W F → Type 0
  FailsToWrite old new =
      (why : DeviceFault) × (new ≡ record old { ends = None; untold = Some why })

  -- A transmission is sent on a connection. Nothing happens if it is closed; if it is open the
  -- transmission is written, or a write fails.
  abbrev pub Sends : List ℕ → ConnectionValue R W F → ConnectionValue R W F → Type 0
  Sends octets old new =
      ((old.ends ≡ None) × (new ≡ old))
      ⊎ (Writes octets old new ⊎ FailsToWrite old new)
