-- What the lines that a run and a live station print in a trace are read back as.
use Rattle.std.specs.Prelude.{◌≡◌, ◌≢◌, ◌<◌, ℕ, ◌^◌, ◌⊎◌, Bool, true, List, [], ◌∷◌, ◌++◌, codes}
use Rattle.std.specs.Prelude.{Option, Some, None, IfSome}
use Rattle.std.specs.Fmt.{decimal}
use Rattle.std.specs.List.{list_any}
use Rattle.std.specs.Str.{bytes_eq}
use Rattle.bsc_bid.specs.declared.speaker.Speaker.TheVariants.{Control, Terminal}
use Rattle.bsc_frame.specs.declared.message.Heard.{Heard}
use Rattle.bsc_trace.specs.declared.ladder.row.Course.{Course}
use Rattle.bsc_trace.specs.declared.ladder.row.Course.TheVariants.{ToAll, ToOne, From}
use Rattle.bsc_trace.specs.declared.ladder.row.Fate.{Fate}
use Rattle.bsc_trace.specs.declared.ladder.row.Fate.TheVariants as fate
use Rattle.bsc_trace.specs.declared.ladder.row.Sign.TheVariants.{Named}
use Rattle.bsc_text.specs.Forms.{AreOctets}
use Rattle.bsc_text.specs.Traces.{silence_line, silence_shown, told_line, transmission_line}
use Rattle.bsc_text.specs.Traces.{who_shown}
use Rattle.bsc_text.specs.declared.trace.Fate.{Fate as Printed}
use Rattle.bsc_text.specs.declared.trace.Fate.TheVariants as printed
use Rattle.bsc_text.specs.declared.trace.Who.{Who}
use Rattle.bsc_text.specs.declared.trace.Who.TheVariants.{Station, Connection}
use Rattle.bsc_trace.specs.Lines.{TraceValue, silence, told_at, transmission, value_of}
use Rattle.bsc_trace.specs.Marks.{marked_of}
use Rattle.bsc_text.specs.Words.{first_word}
use Rattle.bsc_trace.specs.Speaking.{spoken_of}

-- The line is a text and a line feed, and the text has this value.
abbrev pub IsReadAs : List ℕ → TraceValue → Type 0
IsReadAs line value =
    (text : List ℕ) × (line ≡ text ++ codes "\n") × (value_of text ≡ Some value)

-- A time has at most 20 digits.
abbrev pub IsTime : ℕ → Type 0
IsTime time = time < 10 ^ 20

-- The number of a station has one or two digits.
abbrev pub IsColumn : ℕ → Type 0
IsColumn number = number < 100

abbrev pub IsStation : Who → Type 0
IsStation (Station Control) = Unit {0}
IsStation (Station (Terminal number)) = IsColumn number
IsStation (Connection place) = IsColumn place

-- From where to where a transmission went, by its sender and by the terminal that heard, if the
-- line is about one of them only.
abbrev pub course_of : Who → Option ℕ → Course
course_of (Station Control) None = ToAll
course_of (Station Control) (Some terminal) = ToOne terminal
course_of (Station (Terminal number)) hearer = From number
course_of (Connection place) hearer = From place

-- What became of it.
abbrev pub fate_of : Printed → Fate
fate_of printed.Sent = fate.Sent
fate_of printed.Heard = fate.Heard
fate_of printed.Turned = fate.Turned
fate_of printed.Ignored = fate.Ignored
fate_of printed.Lost = fate.Lost
fate_of printed.Withheld = fate.Withheld

-- The line for a transmission of any sender, with any fate, hearer, name and octets, is read as
-- this transmission.
abbrev pub TransmissionsAreReadBack : Type 0
TransmissionsAreReadBack =
    (time : ℕ) (who : Who) (became : Printed) (hearer : Option ℕ) (heard : Heard)
    (octets : List ℕ) → IsTime time → IsStation who → IfSome hearer IsColumn → AreOctets octets
    → IsReadAs (transmission_line time who became hearer heard octets)
    (transmission (decimal time) (course_of who hearer) (fate_of became) octets)

-- The line for a time-out in which nothing was heard is read as this.
abbrev pub SilencesAreReadBack : Type 0
SilencesAreReadBack =
    (time : ℕ) → IsTime time → IsReadAs (silence_line time) (silence (decimal time))

-- The line for a text is read as told, with the mark and the text that it has as a mark.
abbrev pub IsToldBack : List ℕ → Type 0
IsToldBack text =
    (time : ℕ) → IsTime time
    → IsReadAs (told_line time text) (told_at (decimal time) (marked_of text))

-- So is any text that does not begin as a transmission, and is not that of a silence.
abbrev pub TextsAreReadBack : Type 0
TextsAreReadBack =
    (text : List ℕ) → spoken_of text ≡ None → text ≢ silence_shown → IsToldBack text

-- The text of a mark is all of it, if it does not tell the addresses of a station.
abbrev pub TextsAreKept : Type 0
TextsAreKept =
    (text : List ℕ) → (marked_of text).mark.sign ≢ Named → (marked_of text).text ≡ text

-- Whether a word is one of these.
abbrev pub is_one_of : List (List ℕ) → List ℕ → Bool
is_one_of words word = list_any (bytes_eq word) words

-- The words with which the texts begin that are printed beside transmissions and silences, if they
-- do not begin with a station.
abbrev pub first_words : List (List ℕ)
first_words =
    codes "offered" ∷ codes "arrived" ∷ codes "the" ∷ codes "refused" ∷ codes "asked"
    ∷ codes "listening" ∷ codes "serving" ∷ codes "waiting" ∷ codes "not" ∷ []

-- The words that follow the station in those that begin with one.
abbrev pub words_after : List (List ℕ)
words_after =
    codes "is" ∷ codes "asks" ∷ codes "began" ∷ codes "has" ∷ codes "from" ∷ codes "joined"
    ∷ codes "closed" ∷ codes "closed:" ∷ []

-- The text begins with one of these words, or with a station and one of these.
abbrev pub BeginsAsTold : List ℕ → Type 0
BeginsAsTold text =
    (is_one_of first_words (first_word text) ≡ true)
    ⊎ ((who : Who) × (rest : List ℕ) × IsStation who × (text ≡ who_shown who ++ codes " " ++ rest)
    × (is_one_of words_after (first_word rest) ≡ true))

abbrev pub SentencesAreReadBack : Type 0
SentencesAreReadBack = (text : List ℕ) → BeginsAsTold text → IsToldBack text
