-- How far work has come.
use Rattle.std.specs.Prelude.{ℕ, zero, suc, ◌+◌, ◌-◌, ◌^◌, min, Bool, if◌then◌else◌}
use Rattle.bsc_text.specs.declared.progress.counts.Counts.{Counts}

-- A number, saturated at the greatest that 64 bits hold.
abbrev pub saturated : ℕ → ℕ
saturated n = min n (2 ^ 64 - 1)

abbrev pub counts_of : ℕ → ℕ → ℕ → ℕ → Counts
counts_of done known arrived doubts =
    record { done = done; known = known; arrived = arrived; doubts = doubts }

-- The counts of two parts of some work.
abbrev pub both : Counts → Counts → Counts
both a b =
    counts_of (saturated (a.done + b.done)) (saturated (a.known + b.known))
    (saturated (a.arrived + b.arrived)) (saturated (a.doubts + b.doubts))

-- The counts of the first n parts, after those of something else.
abbrev pub counted : Counts → (ℕ → Counts) → ℕ → Counts
counted first at zero = first
counted first at (suc n) = both (counted first at n) (at n)

-- What a doubt counts.
abbrev pub doubts_of : Bool → ℕ
doubts_of doubt = if doubt then 1 else 0
