-- A picture: above the columns the stations and their addresses, and then for each row of the
-- ladder, in order, one group of elements, 24 pixels below the one before. Which elements a row has
-- is stated here, and what each of them is in a document in `Elements`. The style, the shapes and
-- the width of a picture are compared by tests.
use Rattle.std.specs.Prelude.{◌≡◌, ℕ, ◌+◌, ◌-◌, ◌*◌, List, [], ◌∷◌, ◌++◌, length, codes}
use Rattle.std.specs.Prelude.{if◌then◌else◌}
use Rattle.std.specs.Fmt.{decimal}
use Rattle.std.specs.List.{flat_map}
use Rattle.bsc_text.specs.Names.{chars_shown}
use Rattle.bsc_text.specs.Channels.{each_below}
use Rattle.bsc_trace.specs.Arrows.{arrives}
use Rattle.bsc_trace.specs.Rows.{RowValue, arrow, mark, silence}
use Rattle.bsc_trace.specs.declared.ladder.row.Course.{Course}
use Rattle.bsc_trace.specs.declared.ladder.row.Course.TheVariants.{ToAll, ToOne, From}
use Rattle.bsc_trace.specs.declared.ladder.row.Fate.{Fate}
use Rattle.bsc_trace.specs.declared.ladder.row.Mark.{Mark}
use Rattle.bsc_trace.specs.declared.ladder.row.Sign.{Sign}
use Rattle.bsc_trace.specs.declared.ladder.row.Sign.TheVariants as sign
use Rattle.bsc_chart.specs.Elements.{Part, fate_name, group, heads, line, note, shape, text}
use Rattle.bsc_chart.specs.Elements.{title}
use Rattle.bsc_chart.specs.Escapes.{escaped, shown}
use Rattle.bsc_chart.specs.Frames.{last_x, place_x, station_x}
use Rattle.bsc_chart.specs.declared.picture.style.TheConstants.{STYLE, SHAPES}

-- The line of an arrow: between the control station and the other one that sent or heard. If it did
-- not arrive, it ends before who would have heard.
abbrev pub arrow_line : ℕ → Course → Fate → Part
arrow_line columns ToAll f = line 104 (if arrives f then last_x columns else 256)
arrow_line columns (ToOne to) f =
    line 104 (if arrives f then station_x to else station_x to - 48)
arrow_line columns (From from) f = line (if arrives f then 104 else 152) (station_x from)

-- Its tail, at who sent.
abbrev pub arrow_tail : Course → Part
arrow_tail (From from) = shape (codes "tail") [] (station_x from)
arrow_tail course = shape (codes "tail") [] 104

-- Its heads, one at each who heard. If it did not arrive, its end.
abbrev pub arrow_heads : ℕ → Course → Fate → Part
arrow_heads columns ToAll f =
    if arrives f then heads f columns else shape (fate_name f) [] 264
arrow_heads columns (ToOne to) f =
    if arrives f then shape (fate_name f) (codes "-r") (station_x to)
    else shape (fate_name f) [] (station_x to - 40)
arrow_heads columns (From from) f =
    if arrives f then shape (fate_name f) (codes "-l") 104 else shape (fate_name f) [] 144

-- The name of a sign.
abbrev pub sign_name : Sign → List ℕ
sign_name sign.Told = codes "told"
sign_name sign.Named = codes "named"
sign_name sign.Arrived = codes "arrived"
sign_name sign.DoubtBegins = codes "doubt"
sign_name sign.DoubtEnds = codes "released"
sign_name sign.Restart = codes "restart"
sign_name sign.TrustEnds = codes "untrusted"

-- What stands for a transmission: its title, which has its octets, and its time, arrow, name and
-- records.
abbrev pub arrow_elements : ℕ → List ℕ → Course → Fate → List ℕ → List ℕ → List ℕ → List Part
arrow_elements columns time course f name chars digits =
    title name f digits ∷ text (codes "t") 72 time ∷ arrow_line columns course f
    ∷ arrow_tail course ∷ arrow_heads columns course f ∷ text (codes "n") 118 name
    ∷ note (last_x columns + 20) f (shown chars) ∷ []

-- What stands for a silence: its time, and a line across all stations.
abbrev pub silence_elements : ℕ → List ℕ → List Part
silence_elements columns time =
    text (codes "t") 72 time ∷ line 104 (last_x columns)
    ∷ text (codes "n") 118 (codes "silence") ∷ []

-- What stands for a mark: its time, its sign at its station, and what was told.
abbrev pub mark_elements : List ℕ → Mark → List ℕ → List Part
mark_elements time m told =
    text (codes "t") 72 time ∷ shape (sign_name m.sign) [] (place_x m.place)
    ∷ text (codes "d") (place_x m.place + 16) (shown told) ∷ []

-- A row at this height: its class says what became of a transmission, and what a mark is.
abbrev pub row_group : ℕ → ℕ → RowValue → List ℕ
row_group columns y (arrow time course f name chars octets) =
    group (fate_name f) y (arrow_elements columns time course f name chars (chars_shown octets))
row_group columns y (silence time) = group (codes "silence") y (silence_elements columns time)
row_group columns y (mark time m told) =
    group (sign_name m.sign) y (mark_elements time m told)

-- Rows one below the other, of which the first is at this height.
abbrev pub rows_from : ℕ → ℕ → List RowValue → List ℕ
rows_from columns y [] = []
rows_from columns y (row ∷ rows) = row_group columns y row ++ rows_from columns (y + 24) rows

-- The end of the vertical lines: below the last row.
abbrev pub bottom_of : List RowValue → ℕ
bottom_of rows = 96 + 24 * length rows

-- The label of a station, and its vertical line.
abbrev pub label_markup : List ℕ → ℕ → List ℕ
label_markup label x =
    codes "<text class=\"h\" x=\"" ++ decimal x ++ codes "\" y=\"40\">" ++ label
    ++ codes "</text>"

abbrev pub rail_markup : ℕ → ℕ → List ℕ
rail_markup x bottom =
    codes "<path class=\"r\" d=\"M" ++ decimal x ++ codes " 68V" ++ decimal bottom
    ++ codes "\"/>\n"

abbrev pub station_markup : ℕ → List ℕ → ℕ → List ℕ
station_markup bottom label x = label_markup label x ++ rail_markup x bottom

-- The stations beside the control station, each with the number of its column.
abbrev pub columns_markup : ℕ → ℕ → List ℕ
columns_markup bottom columns =
    each_below (λ column. station_markup bottom (decimal column) (station_x column)) columns

-- What a row has above the columns: the addresses of a station, and otherwise nothing.
abbrev pub addresses_markup : ℕ → List ℕ → List ℕ
addresses_markup x chars =
    codes "<text class=\"a\" x=\"" ++ decimal x ++ codes "\" y=\"58\">" ++ escaped chars
    ++ codes "</text>\n"

abbrev pub name_markup : RowValue → List ℕ
name_markup (mark time m told) = addresses_markup (place_x m.place) (shown told)
name_markup row = []

-- The beginning of a document: its size, its style and its shapes.
abbrev pub size_markup : ℕ → ℕ → List ℕ
size_markup width height =
    codes " width=\"" ++ decimal width ++ codes "\" height=\"" ++ decimal height
    ++ codes "\" role=\"img\">\n"

abbrev pub svg_start : ℕ → ℕ → List ℕ
svg_start width height =
    codes "<svg xmlns=\"http://www.w3.org/2000/svg\"" ++ size_markup width height ++ STYLE.now
    ++ SHAPES.now

-- What stands above the rows, up to the end of the vertical lines.
abbrev pub stations_markup : ℕ → ℕ → List RowValue → List ℕ
stations_markup bottom columns names =
    station_markup bottom (codes "control") 104 ++ columns_markup bottom columns
    ++ flat_map name_markup names

-- A picture of a ladder with this many columns: the marks with the addresses of stations, and the
-- rows.
pub record IsPicture (columns : ℕ) (names rows : List RowValue) (picture : List ℕ) : Type 0 where
  pub width : ℕ
  pub whole : picture ≡ svg_start width (bottom_of rows + 16)
      ++ stations_markup (bottom_of rows) columns names ++ rows_from columns 96 rows
      ++ codes "</svg>\n"
