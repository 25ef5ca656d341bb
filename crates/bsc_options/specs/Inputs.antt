-- How often the options of a station name standard input.
use Rattle.std.specs.Prelude.{ℕ, ◌+◌, nat_lt, Bool, List, [], ◌∷◌, map, count_by, bytes_eq, codes}
use Rattle.std.specs.Prelude.{unwrap_or, if◌then◌else◌}
use Rattle.bsc_options.specs.Words.{WordsValue, is_given, text_at, texts_at}
use Rattle.bsc_text.specs.Parts.{after_octet}
use Rattle.bsc_bid.specs.declared.speaker.Speaker.{Speaker}
use Rattle.bsc_bid.specs.declared.speaker.Speaker.TheVariants.{Control, Terminal}

-- Whether a path is standard input.
abbrev pub is_input : List ℕ → Bool
is_input path = bytes_eq path (codes "-")

-- The path in a text of `--offer`: at the control station what follows the first `=`, or all of it.
abbrev pub path_in : Speaker → List ℕ → List ℕ
path_in Control text = unwrap_or (after_octet 61 text) text
path_in (Terminal number) text = text

-- One for true.
abbrev pub one_if : Bool → ℕ
one_if b = if b then 1 else 0

-- The number of times that standard input is used: as the configuration, as each text that is
-- offered, and if the station ends with it.
abbrev pub uses_of_input : WordsValue → Speaker → ℕ
uses_of_input w speaker =
    count_by is_input
    (unwrap_or (text_at (codes "CONFIG") w) [] ∷ map (path_in speaker) (texts_at (codes "offer") w))
    + one_if (is_given (codes "until-input-ends") w)

-- Whether standard input is used more than once.
abbrev pub repeats_input : WordsValue → Speaker → Bool
repeats_input w speaker = nat_lt 1 (uses_of_input w speaker)
