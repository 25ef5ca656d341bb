-- The limits of what is sent. They apply only to sending; what is received is limited by the
-- buffers of a text.
use Rattle.std.specs.Prelude.{ℕ, ◌≤◌, Bool, ◌&&◌, nat_le, if◌then◌else◌, Result, Ok, Err}
use Rattle.bsc_block.specs.declared.format.FormatError.{FormatError}
use Rattle.bsc_block.specs.declared.format.FormatError.TheVariants.{Full, BlockChars}
use Rattle.bsc_frame.specs.declared.limits.TheConstants.{MAX_CHARS}
use Rattle.bsc_block.specs.declared.limits.TheConstants.{MIN_BLOCK_CHARS, MAX_BLOCK_CHARS}

-- The number of characters of a full record, and the number that a block may count.
pub record FormatValue : Type 0 where
  pub full : ℕ
  pub block_chars : ℕ

-- A full record has 1 to 144 characters; a block may count 146 to 400.
pub record IsFormat (f : FormatValue) : Type 0 where
  pub full_from : 1 ≤ f.full
  pub full_to : f.full ≤ MAX_CHARS
  pub block_from : MIN_BLOCK_CHARS ≤ f.block_chars
  pub block_to : f.block_chars ≤ MAX_BLOCK_CHARS

-- Whether n is from low to high.
abbrev pub is_within : ℕ → ℕ → ℕ → Bool
is_within low high n = nat_le low n && nat_le n high

-- The format of two numbers of which the first is within its range.
abbrev pub within_block : ℕ → ℕ → Result FormatValue FormatError
within_block full block_chars =
    if is_within MIN_BLOCK_CHARS MAX_BLOCK_CHARS block_chars
    then Ok (record { full = full; block_chars = block_chars })
    else Err BlockChars

-- The format of two numbers, or the error of the first that is out of its range.
abbrev pub format_of : ℕ → ℕ → Result FormatValue FormatError
format_of full block_chars =
    if is_within 1 MAX_CHARS full then within_block full block_chars else Err Full
