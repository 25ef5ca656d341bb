-- Where things stand in a picture. Lengths are in pixels.
use Rattle.std.specs.Prelude.{ℕ, ◌+◌, ◌-◌, ◌*◌}
use Rattle.bsc_trace.specs.declared.ladder.row.Place.{Place}
use Rattle.bsc_trace.specs.declared.ladder.row.Place.TheVariants.{Control, Station}

-- The station of this column, counted from 0.
abbrev pub station_x : ℕ → ℕ
station_x column = 304 + 136 * column

-- The last station of this many columns.
abbrev pub last_x : ℕ → ℕ
last_x columns = station_x (columns - 1)

-- The station at a place.
abbrev pub place_x : Place → ℕ
place_x Control = 104
place_x (Station column) = station_x column
