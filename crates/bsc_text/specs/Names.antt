-- The output for a transmission: its name, and a line for each unit of a text.
use Rattle.std.specs.Prelude.{ℕ, Bool, ◌==◌, List, [], ◌∷◌, ◌++◌, length, Option, codes}
use Rattle.std.specs.Prelude.{if◌then◌else◌}
use Rattle.std.specs.List.{flat_map}
use Rattle.std.specs.Fmt.{decimal}
use Rattle.std.specs.Io.KnownBytes.{Appends}
use Rattle.hex.specs.Hex.{encode_lower}
use Rattle.bsc_frame.specs.Replies.{reply_name}
use Rattle.bsc_frame.specs.Spells.{IsHeardAs}
use Rattle.bsc_frame.specs.Texts.{TextUnit}
use Rattle.bsc_frame.specs.declared.text.End.{End}
use Rattle.bsc_frame.specs.declared.text.End.TheVariants.{Etb, Etx}
use Rattle.bsc_frame.specs.declared.message.Message.{Message}
use Rattle.bsc_frame.specs.declared.message.Message.TheVariants.{Eot, Call, Enq, Reply, Text}
use Rattle.bsc_frame.specs.declared.message.Heard.{Heard}
use Rattle.bsc_frame.specs.declared.message.Heard.TheVariants.{Whole, Failed, Noise}
use Rattle.bsc_text.specs.Fronts.{AppendsFront}
use Rattle.bsc_text.specs.declared.printed.Detail.{Detail}
use Rattle.bsc_text.specs.declared.printed.Detail.TheVariants.{Name, Units}

-- The character that ends a text.
abbrev pub end_name : End → List ℕ
end_name Etb = codes "ETB"
end_name Etx = codes "ETX"

-- The name of a message: a control sequence by its name, a call with its address, a text with its
-- end and its number of units.
abbrev pub message_name : Message → List ℕ
message_name Eot = codes "EOT"
message_name (Call address) = codes "CALL " ++ address
message_name Enq = codes "ENQ"
message_name (Reply reply) = reply_name reply
message_name (Text text) =
    codes "TEXT " ++ end_name text.end ++ codes " " ++ decimal (length text.units)

-- The name of what is heard.
abbrev pub name_of : Heard → List ℕ
name_of (Whole message) = message_name message
name_of Failed = codes "FAILED"
name_of Noise = codes "NOISE"

-- The name, and a line feed.
abbrev pub name_line : Heard → List ℕ
name_line heard = name_of heard ++ 10 ∷ []

-- The codes of characters in lower case hexadecimal text, or a dash if there are no characters.
abbrev pub chars_shown : List ℕ → List ℕ
chars_shown chars = if length chars == 0 then codes "-" else encode_lower chars

-- The text that tells whether EM follows the characters.
abbrev pub em_shown : Bool → List ℕ
em_shown em = if em then codes " EM" else []

-- The line for a unit: its characters, and whether EM follows them.
abbrev pub unit_line : TextUnit → List ℕ
unit_line unit = codes "unit " ++ chars_shown unit.chars ++ em_shown unit.em ++ 10 ∷ []

-- The units of a message: none if it is not a text.
abbrev pub message_units : Message → List TextUnit
message_units (Text text) = text.units
message_units _ = []

-- The units of what is heard.
abbrev pub units_of : Heard → List TextUnit
units_of (Whole message) = message_units message
units_of _ = []

-- The line with the name, and then the lines for the units.
abbrev pub unit_lines : Heard → List ℕ
unit_lines heard = name_line heard ++ flat_map unit_line (units_of heard)

-- The output with this detail.
abbrev pub shown : Detail → Heard → List ℕ
shown Name heard = name_line heard
shown Units heard = unit_lines heard

-- The output for the octets as they are heard was appended: the contents of the writer went from
-- `old` to `new`.
pub record Prints (show : Heard → List ℕ) (octets : List ℕ) (old new : Option (List ℕ))
    : Type 0 where
  pub heard : Heard
  pub is_heard : IsHeardAs octets heard
  pub appended : Appends old new (show heard)

-- A front of the output for the octets as they are heard was appended.
pub record PrintsFront (show : Heard → List ℕ) (octets : List ℕ) (old new : Option (List ℕ))
    : Type 0 where
  pub heard : Heard
  pub is_heard : IsHeardAs octets heard
  pub appended : AppendsFront old new (show heard)
