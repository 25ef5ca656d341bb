-- The loop invariant of `expect_same`.
use Rattle.std.proofs.Common.{◌≡◌, ℕ, ◌<◌, ◌≤◌, get_or}
use Rattle.std.specs.Io.KnownBytes.{Consumes}
use Rattle.bsc_carrier.specs.Record.{socket_record}
use Rattle.bsc_carrier.proofs.cable.expect_same.Given as goal

-- The record is read at the ends below the index, and the others are unchanged.
abbrev pub invariant-ends : goal.invariant-ends
invariant-ends g l =
    let remaining = g.S.Read.remaining in
    ((i : ℕ) (d : g.row.S.Denot) → i < l.end-index
    → Consumes (remaining (get_or l.fn.ends i d)) (remaining (get_or l.ends i d))
    (socket_record l.octets))
    × ((i : ℕ) (d : g.row.S.Denot) → l.end-index ≤ i → get_or l.ends i d ≡ get_or l.fn.ends i d)
