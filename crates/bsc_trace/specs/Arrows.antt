-- The parts of an arrow: from who sent to who heard it.
use Rattle.std.specs.Prelude.{ℕ, ◌==◌, ◌&&◌, not, nat_le, nat_lt, Bool, true, false, if◌then◌else◌}
use Rattle.bsc_trace.specs.declared.ladder.glyphs.Glyph.{Glyph}
use Rattle.bsc_trace.specs.declared.ladder.glyphs.Glyph.TheVariants.{Rail, Cross, Line, Space}
use Rattle.bsc_trace.specs.declared.ladder.glyphs.Glyph.TheVariants.{TailRight, TailLeft, HeadRight}
use Rattle.bsc_trace.specs.declared.ladder.glyphs.Glyph.TheVariants.{HeadLeft}
use Rattle.bsc_trace.specs.declared.ladder.row.Course.{Course}
use Rattle.bsc_trace.specs.declared.ladder.row.Course.TheVariants.{ToAll, ToOne, From}
use Rattle.bsc_trace.specs.declared.ladder.row.Fate.{Fate}
use Rattle.bsc_trace.specs.declared.ladder.row.Fate.TheVariants.{Lost, Withheld}

-- Whether a transmission with this fate came to a station.
abbrev pub arrives : Fate → Bool
arrives Lost = false
arrives Withheld = false
arrives _ = true

abbrev pub head_glyph : Bool → Fate → Glyph
head_glyph is_head fate = if is_head then HeadRight fate else Rail

abbrev pub tail_glyph : Bool → Glyph
tail_glyph is_tail = if is_tail then TailLeft else Rail

abbrev pub line_glyph : Bool → Glyph
line_glyph is_line = if is_line then Line else Space

-- At the control station: the tail of what it sends, and the head of what comes to it.
abbrev pub control_glyph : Course → Fate → Glyph
control_glyph ToAll fate = TailRight
control_glyph (ToOne to) fate = TailRight
control_glyph (From from) fate = if arrives fate then HeadLeft fate else Rail

-- At the station of a column: a head where the transmission came, the tail where it was sent, a
-- crossing where it passed, and otherwise a rail.
abbrev pub station_glyph : Course → Fate → ℕ → Glyph
station_glyph ToAll fate column = head_glyph (arrives fate) fate
station_glyph (ToOne to) fate column =
    if nat_lt column to then Cross else head_glyph ((column == to) && arrives fate) fate
station_glyph (From from) fate column =
    if nat_lt column from then Cross else tail_glyph (column == from)

-- Between the station of a column and the one before it: a line as far as the arrow goes.
abbrev pub gap_glyph : Course → Fate → ℕ → Glyph
gap_glyph ToAll fate column = line_glyph (arrives fate)
gap_glyph (ToOne to) fate column = line_glyph (nat_le column to)
gap_glyph (From from) fate column = line_glyph (nat_le column from)

-- Whether an arrow ends before the station of a column: what is sent to one and does not arrive
-- there ends before it, and what is sent to all and does not arrive, before the first.
abbrev pub ends_before : Course → Fate → ℕ → Bool
ends_before ToAll fate column = (column == 0) && not (arrives fate)
ends_before (ToOne to) fate column = (column == to) && not (arrives fate)
ends_before (From from) fate column = false
