-- The commands that are sent to a station: those that the words ask for, and the lines of the
-- input.
use Rattle.std.specs.Prelude.{◌≡◌, ℕ, ◌==◌, ◌&&◌, ◌||◌, not, Bool, true, false, if◌then◌else◌}
use Rattle.std.specs.Prelude.{List, [], ◌∷◌, ◌++◌, map, filter, codes}
use Rattle.std.specs.List.{flat_map, list_any}
use Rattle.std.specs.Str.{bytes_eq}
use Rattle.std.specs.Str.Lines.{strip_carriage_return}
use Rattle.bsc_text.specs.InputLines.{is_skipped, parts_of}
use Rattle.bsc_text.specs.Words.{first_word, words_of}

-- The words, with one space between any two.
abbrev pub joined : List (List ℕ) → List ℕ
joined [] = []
joined (word ∷ words) = word ++ flat_map (λ next. 32 ∷ next) words

-- Whether the text has a line feed.
abbrev pub has_feed : List ℕ → Bool
has_feed text = list_any (λ octet. octet == 10) text

-- Whether a command with this word offers a record.
abbrev pub is_offer : List ℕ → Bool
is_offer word = bytes_eq word (codes "offer") || bytes_eq word (codes "offer-hex")

-- Whether a word begins the name of a channel.
abbrev pub is_way : List ℕ → Bool
is_way word = bytes_eq word (codes "to") || bytes_eq word (codes "from")

-- Whether these words of a command offer a record on a channel, and there is no text after them.
abbrev pub is_unfinished : List (List ℕ) → Bool
is_unfinished (word ∷ way ∷ place ∷ []) = is_offer word && is_way way
is_unfinished _ = false

-- Whether the command offers a record on a channel, and has no text after the channel.
abbrev pub takes_texts : List ℕ → Bool
takes_texts command = is_unfinished (words_of command)

-- Whether the lines of the input are sent, each after the text, and the text. With no words each
-- line is a command; after an offer without a text each line is one.
abbrev pub IsGiven : List (List ℕ) → List ℕ → Bool → Type 0
IsGiven [] text takes_lines = (text ≡ []) × (takes_lines ≡ true)
IsGiven (word ∷ words) text takes_lines =
    (takes_lines ≡ takes_texts (joined (word ∷ words)))
    × (text ≡ (if takes_texts (joined (word ∷ words)) then joined (word ∷ words) ++ 32 ∷ []
    else joined (word ∷ words)))

-- Whether a command is not sent: a station, which drops one carriage return at the end of a line,
-- skips the line and gives no answer.
abbrev pub is_unsent : List ℕ → Bool
is_unsent command = is_skipped (strip_carriage_return command)

-- Whether a line asks to be told what happens on a channel.
abbrev pub is_follow : List ℕ → Bool
is_follow line = bytes_eq (first_word line) (codes "follow")

-- The part, unless it is empty.
abbrev pub unless_empty : List ℕ → List (List ℕ)
unless_empty [] = []
unless_empty (octet ∷ octets) = (octet ∷ octets) ∷ []

-- These parts without the last one if it is empty.
abbrev pub without_last_empty : List (List ℕ) → List (List ℕ)
without_last_empty [] = []
without_last_empty (part ∷ []) = unless_empty part
without_last_empty (part ∷ next ∷ parts) = part ∷ without_last_empty (next ∷ parts)

-- The lines of an input, each without its line feed and one carriage return before it. What follows
-- the last line feed is a line too, unless it is empty.
abbrev pub input_lines : List ℕ → List (List ℕ)
input_lines octets = map strip_carriage_return (without_last_empty (parts_of octets))

-- The commands of these lines: this text and the line after it, for each that is sent.
abbrev pub commands_after : List ℕ → List (List ℕ) → List (List ℕ)
commands_after text lines =
    filter (λ command. not (is_unsent command)) (map (λ line. text ++ line) lines)

-- The commands of a text, which is one command or stands before each line of the input.
abbrev pub commands_of : Bool → List ℕ → List ℕ → List (List ℕ)
commands_of true text octets = commands_after text (input_lines octets)
commands_of false text octets = filter (λ command. not (is_unsent command)) (text ∷ [])
