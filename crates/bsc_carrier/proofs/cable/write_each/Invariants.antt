-- The loop invariant of `write_each`.
use Rattle.std.proofs.Common.{◌≡◌, ℕ, ◌<◌, ◌≤◌, get_or}
use Rattle.std.specs.Io.KnownBytes.{Appends}
use Rattle.bsc_carrier.specs.Record.{socket_record}
use Rattle.bsc_carrier.proofs.cable.write_each.Given as goal

-- The record is written at the ends below the index, and the others are unchanged.
abbrev pub invariant-ends : goal.invariant-ends
invariant-ends g l =
    let contents = g.S.Write.contents in
    ((i : ℕ) (d : g.row.S.Denot) → i < l.end-index
    → Appends (contents (get_or l.fn.ends i d)) (contents (get_or l.ends i d))
    (socket_record l.octets))
    × ((i : ℕ) (d : g.row.S.Denot) → l.end-index ≤ i → get_or l.ends i d ≡ get_or l.fn.ends i d)
