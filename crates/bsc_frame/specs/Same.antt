-- When two texts are the same.
use Rattle.std.specs.Prelude.{Bool, ◌&&◌, ◌==◌}
use Rattle.std.specs.Bool.{beq}
use lib.Pointwise.{pointwise}
use Rattle.bsc_frame.specs.Texts.{TextUnit, TextValue}
use Rattle.bsc_frame.specs.Units.{end_code}

-- Whether two units are the same: they have the same characters, and EM follows both or neither.
abbrev pub is_same_unit : TextUnit → TextUnit → Bool
is_same_unit a b = pointwise ◌==◌ a.chars b.chars && beq a.em b.em

-- Whether two texts are the same: they have the same units in order, and the same end.
abbrev pub is_same_text : TextValue → TextValue → Bool
is_same_text a b = pointwise is_same_unit a.units b.units && (end_code a.end == end_code b.end)
