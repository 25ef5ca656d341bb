-- The elements of a row of a picture, and what each is in an SVG document. What comes of a trace is
-- escaped in it, so that no text of a trace ends a text or begins a tag or an attribute.
use Rattle.std.specs.Prelude.{ℕ, ◌+◌, ◌==◌, List, [], ◌++◌, codes, length, if◌then◌else◌}
use Rattle.std.specs.Fmt.{decimal}
use Rattle.std.specs.List.{flat_map}
use Rattle.bsc_text.specs.Channels.{each_below}
use Rattle.bsc_trace.specs.Texts.{fate_word}
use Rattle.bsc_trace.specs.declared.ladder.row.Fate.{Fate}
use Rattle.bsc_trace.specs.declared.ladder.row.Fate.TheVariants as fate
use Rattle.bsc_chart.specs.Escapes.{escaped}
use Rattle.bsc_chart.specs.Frames.{station_x}
use Rattle.bsc_chart.specs.declared.picture.elements.Element.{Element}
use Rattle.bsc_chart.specs.declared.picture.elements.Element.TheVariants as element

-- An element at its place: the title of a transmission, which is its name, what became of it and
-- its octets; a text of a class; what became of a transmission and its records; a line from one
-- place to another; a shape, by its name and side; or the heads of an arrow at this many stations.
pub data Part : Type 0 where
  title : List ℕ → Fate → List ℕ → Part
  text : List ℕ → ℕ → List ℕ → Part
  note : ℕ → Fate → List ℕ → Part
  line : ℕ → ℕ → Part
  shape : List ℕ → List ℕ → ℕ → Part
  heads : Fate → ℕ → Part

-- The value of an element.
abbrev pub element_in : Element → Part
element_in (element.Title name f digits) = title name.now f digits.now
element_in (element.Text class x chars) = text class.now x chars.now
element_in (element.Note x f chars) = note x f chars.now
element_in (element.Line from to) = line from to
element_in (element.Shape name side x) = shape name.now side.now x
element_in (element.Heads f columns) = heads f columns

-- The name of what became of a transmission.
abbrev pub fate_name : Fate → List ℕ
fate_name fate.Sent = codes "sent"
fate_name fate.Heard = codes "heard"
fate_name fate.Failed = codes "failed"
fate_name fate.Turned = codes "turned"
fate_name fate.Ignored = codes "ignored"
fate_name fate.Lost = codes "lost"
fate_name fate.Withheld = codes "withheld"

abbrev pub shape_markup : List ℕ → List ℕ → ℕ → List ℕ
shape_markup name side x =
    codes "<use href=\"#" ++ name ++ side ++ codes "\" x=\"" ++ decimal x ++ codes "\"/>"

abbrev pub heads_markup : List ℕ → ℕ → List ℕ
heads_markup name columns =
    each_below (λ column. shape_markup name (codes "-r") (station_x column)) columns

-- A note is left out if there is nothing to say.
abbrev pub note_markup : ℕ → Fate → List ℕ → List ℕ
note_markup x f chars =
    if length (fate_word f) + length chars == 0 then []
    else codes "<text class=\"d\" x=\"" ++ decimal x ++ codes "\">" ++ escaped (fate_word f)
    ++ codes "  " ++ escaped chars ++ codes "</text>"

-- An element in a document.
abbrev pub markup : Part → List ℕ
markup (title name f digits) =
    codes "<title>" ++ escaped name ++ codes ", " ++ fate_name f ++ codes ": " ++ digits
    ++ codes "</title>"
markup (text class x chars) =
    codes "<text class=\"" ++ class ++ codes "\" x=\"" ++ decimal x ++ codes "\">"
    ++ escaped chars ++ codes "</text>"
markup (note x f chars) = note_markup x f chars
markup (line a b) = codes "<path d=\"M" ++ decimal a ++ codes " 0H" ++ decimal b ++ codes "\"/>"
markup (shape name side x) = shape_markup name side x
markup (heads f columns) = heads_markup (fate_name f) columns

abbrev pub drawn : Element → List ℕ
drawn e = markup (element_in e)

-- A group of a class at this height, with these elements.
abbrev pub group_start : List ℕ → ℕ → List ℕ
group_start class y =
    codes "<g class=\"" ++ class ++ codes "\" transform=\"translate(0 " ++ decimal y
    ++ codes ")\">"

abbrev pub group_of : List ℕ → ℕ → List ℕ → List ℕ
group_of class y elements = group_start class y ++ elements ++ codes "</g>\n"

abbrev pub group : List ℕ → ℕ → List Part → List ℕ
group class y parts = group_of class y (flat_map markup parts)
