-- Each entry so far is right.
use Rattle.std.proofs.Common.{ℕ, ◌<◌}
use Rattle.bsc_bid.specs.Refusals.{IsEntry}
use Rattle.bsc_bid.proofs.refusal.wrong_entry.Given as goal

abbrev pub invariant-loop-place : goal.invariant-loop-place
invariant-loop-place l = (k : ℕ) → k < l.place → IsEntry l.terminals l.poll_list k
