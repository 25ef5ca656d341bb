-- No terminal so far has the channel with this name.
use Rattle.std.proofs.Common.{◌<◌, ℕ}
use Rattle.bsc_feed.specs.Places.{IsNamed, terminal_at}
use Rattle.bsc_feed.proofs.places.find.Given as goal

abbrev pub invariant-terminals : goal.invariant-terminals
invariant-terminals g l =
    (place : ℕ) → terminal_at place < l.terminal → IsNamed g.P.Party l.station l.channel place → ⊥
