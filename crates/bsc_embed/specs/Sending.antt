-- What C gets of the sending end of a channel. This is the project's own.
use Rattle.std.specs.Prelude.{Bool, length, if◌then◌else◌}
use Rattle.bsc_spool.specs.Queue.{QueueValue}
use Rattle.bsc_embed.specs.declared.interface.counts.Sending.{Sending}

-- The number of the offered records, how many are known to have arrived, and whether the last block
-- is in doubt: 1 if it is, else 0.
abbrev pub sending_in : QueueValue → Bool → Sending
sending_in q doubt =
    record { offered = length q.offered; known = q.known; in_doubt = if doubt then 1 else 0 }
