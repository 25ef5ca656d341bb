-- Why a file could not be read.
use Rattle.std.specs.declared.io.ErrorKind.{ErrorKind}
use Rattle.std.specs.declared.io.ErrorKind.TheVariants as kind
use Rattle.bsc_text.specs.declared.unreadable.Unreadable.{Unreadable}
use Rattle.bsc_text.specs.declared.unreadable.Unreadable.TheVariants.{NoSuchFile}
use Rattle.bsc_text.specs.declared.unreadable.Unreadable.TheVariants.{PermissionDenied}
use Rattle.bsc_text.specs.declared.unreadable.Unreadable.TheVariants.{IsADirectory}
use Rattle.bsc_text.specs.declared.unreadable.Unreadable.TheVariants.{NotInADirectory, ReadFault}

-- The reason that the kind of an error of the system stands for.
abbrev pub why_of : ErrorKind → Unreadable
why_of kind.NotFound = NoSuchFile
why_of kind.PermissionDenied = PermissionDenied
why_of kind.IsADirectory = IsADirectory
why_of kind.NotADirectory = NotInADirectory
why_of _ = ReadFault
