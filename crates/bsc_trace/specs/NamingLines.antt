-- What `bscline` and `bscline show` print for the lines of their input, and `bscline name` for its
-- text.
use Rattle.std.specs.Prelude.{◌≡◌, ℕ, ◌-◌, ◌==◌, ◌&&◌, not, Bool, true, false, List, [], ◌∷◌}
use Rattle.std.specs.Prelude.{◌++◌, ◌⊎◌, length, take, Option, Some, is_none}
use Rattle.std.specs.Prelude.{if◌then◌else◌}
use Rattle.std.specs.List.{flat_map}
use Rattle.std.specs.Option.{option_to_list}
use Rattle.std.specs.Io.KnownBytes.{Appends, Keeps}
use Rattle.bsc_frame.specs.declared.message.Heard.{Heard}
use Rattle.bsc_frame.specs.Spells.{IsHeardAs}
use Rattle.bsc_text.specs.Hexadecimal.{octets_of}
use Rattle.bsc_text.specs.InputLines.{is_blank}
use Rattle.bsc_text.specs.Parts.{parts_at}
use Rattle.bsc_text.specs.Fronts.{AppendsFront}
use Rattle.bsc_text.specs.Names.{PrintsFront, name_line, shown, unit_line, units_of}
use Rattle.bsc_text.specs.declared.printed.Detail.{Detail}
use Rattle.bsc_text.specs.declared.printed.Detail.TheVariants.{Units}

-- Whether a line is a line of a trace: it begins with `+`.
abbrev pub is_traced : List ℕ → Bool
is_traced [] = false
is_traced (code ∷ rest) = code == 43

-- The last of these parts.
abbrev pub last_part : List (List ℕ) → List ℕ
last_part [] = []
last_part (part ∷ []) = part
last_part (part ∷ next ∷ parts) = last_part (next ∷ parts)

-- The hexadecimal text of a line. In a line of a trace it is the text after the last space.
abbrev pub digits : List ℕ → List ℕ
digits line = if is_traced line then last_part (parts_at 32 line) else line

-- Whether a line is wrong: it is neither a line of a trace, nor blank, nor hexadecimal text.
abbrev pub is_wrong : List ℕ → Bool
is_wrong line = not (is_traced line) && (not (is_blank line) && is_none (octets_of line))

-- The octets in hexadecimal text: none if the text is blank or not hexadecimal.
abbrev pub given : List ℕ → List (List ℕ)
given text = if is_blank text then [] else option_to_list (octets_of text)

-- The text of a line before its last word, without the space between them.
abbrev pub before_last : List ℕ → List ℕ
before_last line = take (length line - length (last_part (parts_at 32 line)) - 1) line

-- The output for a line without octets. `bscline show` keeps a line as it stands if it is one of a
-- trace, as the flag says.
abbrev pub kept_line : Detail → Bool → List ℕ → List ℕ
kept_line Units true line = line ++ 10 ∷ []
kept_line _ _ line = []

-- The output for a line whose octets are heard as this. Of a line of a trace, as the flag says,
-- `bscline show` keeps what is before the octets, the time, the speaker and the name, and adds the
-- units.
abbrev pub shown_line : Detail → Bool → List ℕ → Heard → List ℕ
shown_line Units true line heard = before_last line ++ 10 ∷ flat_map unit_line (units_of heard)
shown_line detail _ line heard = shown detail heard

-- The text is the output for a line with these octets, if it has some, as they are heard.
abbrev pub IsOutputFor : Detail → Bool → List ℕ → List (List ℕ) → List ℕ → Type 0
IsOutputFor detail traced line [] text = text ≡ kept_line detail traced line
IsOutputFor detail traced line (octets ∷ more) text =
    (heard : Heard) × IsHeardAs octets heard × (text ≡ shown_line detail traced line heard)

-- The text is the output for this line.
abbrev pub IsOutputOf : Detail → List ℕ → List ℕ → Type 0
IsOutputOf detail line text =
    IsOutputFor detail (is_traced line) line (given (digits line)) text

-- The text is the output for these lines, in order.
abbrev pub AreShown : Detail → List (List ℕ) → List ℕ → Type 0
AreShown detail [] text = text ≡ []
AreShown detail (line ∷ lines) text =
    (first rest : List ℕ) × IsOutputOf detail line first × (text ≡ first ++ rest)
    × AreShown detail lines rest

-- The output for these lines was appended: the contents of the writer went from `old` to `new`.
pub record PrintsLines (detail : Detail) (lines : List (List ℕ)) (old new : Option (List ℕ))
    : Type 0 where
  pub text : List ℕ
  pub shown : AreShown detail lines text
  pub appended : Appends old new text

-- A beginning of the output for the first lines, `place` of them, was appended, and nothing else.
pub record PrintsLinesFront (detail : Detail) (lines : List (List ℕ)) (old new : Option (List ℕ))
    : Type 0 where
  pub place : ℕ
  pub text : List ℕ
  pub shown : AreShown detail (take place lines) text
  pub appended : AppendsFront old new text

-- A front of the name of the transmission in this text was appended, or nothing.
abbrev pub PrintsNameFront : List ℕ → Option (List ℕ) → Option (List ℕ) → Type 0
PrintsNameFront text old new =
    Keeps old new
    ⊎ ((octets : List ℕ) × (octets_of text ≡ Some octets) × PrintsFront name_line octets old new)
