-- The loop invariant of `next_end`.
use Rattle.std.proofs.Common.{◌≡◌, ◌≤◌, ◌<◌, ℕ, length}
use Rattle.bsc_sockets.specs.Times.{HasBegun, IsAwaited, IsKept, Runs, gap_at}
use Rattle.bsc_sockets.proofs.times.Times.next_end.Given as goal

-- The time-out has begun; one that had begun runs on. The gaps at the places so far have begun, and
-- the others stay as they were; of the awaited ones, one may end next. The pause stays as it was,
-- and so does the last silence.
abbrev pub invariant-gaps : goal.invariant-gaps
invariant-gaps g l =
    record {
      kept : IsKept l.fn.self.time_out l.self.time_out;
      begun : HasBegun l.fn.time_out l.fn.self.time_out l.self.time_out;
      pause : l.self.pause ≡ l.fn.self.pause;
      last : l.self.last_silence ≡ l.fn.self.last_silence;
      run : (place : ℕ) → place < l.place
          → Runs l.fn.gap (gap_at l.fn.self.gaps.items place) (gap_at l.self.gaps.items place);
      others : (place : ℕ) → l.place ≤ place
          → gap_at l.self.gaps.items place ≡ gap_at l.fn.self.gaps.items place;
      awaited : IsAwaited l.next.gap l.fn.self.gaps.items;
      places : length l.self.gaps.items ≡ length l.fn.self.gaps.items;
    }
