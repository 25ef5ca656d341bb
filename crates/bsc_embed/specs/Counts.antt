-- What C keeps of a sender.
use Rattle.std.specs.Prelude.{ℕ, nat_eq, if◌then◌else◌, Option, Some, None}
use Rattle.bsc_bid.specs.declared.kept.KeptSender.{KeptSender}
use Rattle.bsc_embed.specs.declared.interface.counts.StoredKept.{StoredKept}

-- The number of the records of a doubtful block: 0 if there is none.
abbrev pub doubt_count : Option ℕ → ℕ
doubt_count None = 0
doubt_count (Some k) = k

-- What is stored for what is kept.
abbrev pub stored_kept : KeptSender → StoredKept
stored_kept kept = record { known = kept.known; doubt = doubt_count kept.doubt }

-- What is kept, of what is stored.
abbrev pub kept_in : StoredKept → KeptSender
kept_in s = record { known = s.known; doubt = if nat_eq s.doubt 0 then None else Some s.doubt }
