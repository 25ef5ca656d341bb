-- The places of programs.
use Rattle.std.specs.Prelude.{ℕ, ◌+◌, nat_lt, if◌then◌else◌}
use Rattle.bsc_serving.specs.declared.programs.TheConstants.{MAX_PROGRAMS}

-- The place that is served after this one, in turn: the next one, and after the last the first.
abbrev pub place_after : ℕ → ℕ
place_after place = if nat_lt (place + 1) MAX_PROGRAMS then place + 1 else 0
