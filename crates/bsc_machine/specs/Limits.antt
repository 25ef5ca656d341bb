-- The limit on the size of files.
use Rattle.std.specs.Prelude.{ℕ, ◌==◌, if◌then◌else◌, Option, Some, None}
use Rattle.bsc_machine.specs.declared.file_limit.TheConstants.{NO_LIMIT}

-- The limit that a size stands for: the greatest size of 64 bits stands for none.
abbrev pub limit_of : ℕ → Option ℕ
limit_of size = if size == NO_LIMIT then None else Some size
