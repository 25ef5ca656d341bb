-- Who sent a transmission, who heard it, and what became of it, as a trace has them.
use Rattle.std.proofs.Common.{◌≡◌, ◌<◌, ℕ, List, ◌∷◌, ◌++◌, false, codes, decimal, length, Option, Some}
use Rattle.std.proofs.Common.{None, IfSome, option_and_then, option_map, refl, sym, ap, ◌∙◌}
use Rattle.std.proofs.Common.{append_assoc, arith, bytes_eq}
use Rattle.std.proofs.lemmas.Bool.{cond-false, cond-true}
use Rattle.bsc_bid.specs.declared.speaker.Speaker.TheVariants.{Control, Terminal}
use Rattle.bsc_frame.specs.Replies.{reply_name}
use Rattle.bsc_frame.specs.declared.message.Heard.{Heard}
use Rattle.bsc_frame.specs.declared.message.Heard.TheVariants.{Whole, Failed, Noise}
use Rattle.bsc_frame.specs.declared.message.Message.TheVariants.{Eot, Call, Enq, Reply, Text}
use Rattle.bsc_frame.specs.declared.reply.Reply.{Reply as ReplyName}
use Rattle.bsc_frame.specs.declared.reply.Reply.TheVariants.{Ack0, Ack1, Nak, Wack, Rvi}
use Rattle.bsc_trace.specs.declared.ladder.row.Course.{Course}
use Rattle.bsc_trace.specs.declared.ladder.row.Course.TheVariants.{ToAll, ToOne, From}
use Rattle.bsc_trace.specs.declared.ladder.row.Fate.{Fate}
use Rattle.bsc_text.specs.Names.{end_name, name_of}
use Rattle.bsc_text.specs.Traces.{fate_shown, hearer_shown, who_shown}
use Rattle.bsc_text.specs.declared.trace.Fate.{Fate as Printed}
use Rattle.bsc_text.specs.declared.trace.Fate.TheVariants as printed
use Rattle.bsc_text.specs.declared.trace.Who.{Who}
use Rattle.bsc_text.specs.declared.trace.Who.TheVariants.{Station, Connection}
use Rattle.bsc_trace.specs.ReadBack.{IsColumn, IsStation, course_of, fate_of}
use Rattle.bsc_text.specs.Words.{after_word, first_word}
use Rattle.bsc_trace.specs.Speaking.{HeadValue, SpokenValue, from_column}
use Rattle.bsc_trace.specs.Speaking.{heard_by, sender_by, sender_in, sent_from, spoken_after}
use Rattle.bsc_trace.specs.Speaking.{spoken_by, spoken_of, spoken_to, to_one}
use Rattle.bsc_trace.specs.Words.{column_in, fate_in}
use Rattle.bsc_trace.proofs.Numbers.{column_is_read, number_is_word}
use Rattle.bsc_trace.proofs.PlainWords.{IsWord, by_word, letters, rest_after, word_before}

-- the number of a station, and the text after it
module _ (number : ℕ) (rest : List ℕ) (h : number < 100) where
  number_word : IsWord (decimal number)
  number_word = number_is_word number (omega arith)

  from_is_read : from_column (decimal number ++ 32 ∷ rest) ≡ Some (sent_from rest number)
  from_is_read =
      by_word (decimal number) rest number_word
      (λ word more. option_map (sent_from more) (column_in word))
      ∙ ap (option_map (sent_from rest)) (column_is_read number h)

  hearer_is_read : (fate : Fate)
      → to_one fate (decimal number ++ 32 ∷ rest) ≡ Some (heard_by fate rest number)
  hearer_is_read fate =
      by_word (decimal number) rest number_word
      (λ word more. option_map (heard_by fate more) (column_in word))
      ∙ ap (option_map (heard_by fate rest)) (column_is_read number h)

-- the sender, and the text after it
abbrev pub course_from : Who → Course
course_from (Station Control) = ToAll
course_from (Station (Terminal number)) = From number
course_from (Connection place) = From place

abbrev pub head_as : Course → List ℕ → HeadValue
head_as course rest = record { course = course; rest = rest }

pub sender_is_read : (who : Who) (rest : List ℕ) → IsStation who
    → sender_in (who_shown who ++ 32 ∷ rest) ≡ Some (head_as (course_from who) rest)
sender_is_read (Station Control) rest h =
    by_word (codes "control") rest (letters (codes "control") refl) sender_by
sender_is_read (Station (Terminal number)) rest h =
    by_word (codes "terminal") (decimal number ++ 32 ∷ rest) (letters (codes "terminal") refl)
    sender_by ∙ from_is_read number rest h
sender_is_read (Connection place) rest h =
    by_word (codes "connection") (decimal place ++ 32 ∷ rest) (letters (codes "connection") refl)
    sender_by ∙ from_is_read place rest h

-- what became of the transmission, by the word after the sender
word_is_read : (who : Who) (word rest : List ℕ) → IsStation who → IsWord word
    → spoken_of (who_shown who ++ 32 ∷ (word ++ 32 ∷ rest))
    ≡ option_and_then (λ fate. spoken_to (course_from who) fate rest) (fate_in word)
word_is_read who word rest h w =
    ap (option_and_then spoken_by) (sender_is_read who (word ++ 32 ∷ rest) h)
    ∙ by_word word rest w
    (λ v more. option_and_then (λ fate. spoken_to (course_from who) fate more) (fate_in v))

fate_is_read : (who : Who) (became : Printed) (rest : List ℕ) → IsStation who
    → spoken_of (who_shown who ++ (fate_shown became ++ rest))
    ≡ spoken_to (course_from who) (fate_of became) rest
fate_is_read who printed.Sent rest h =
    word_is_read who (codes "sent") rest h (letters (codes "sent") refl)
fate_is_read who printed.Heard rest h =
    word_is_read who (codes "heard") rest h (letters (codes "heard") refl)
fate_is_read who printed.Turned rest h =
    word_is_read who (codes "turned") rest h (letters (codes "turned") refl)
fate_is_read who printed.Ignored rest h =
    word_is_read who (codes "ignored") rest h (letters (codes "ignored") refl)
fate_is_read who printed.Lost rest h =
    word_is_read who (codes "lost") rest h (letters (codes "lost") refl)
fate_is_read who printed.Withheld rest h =
    word_is_read who (codes "withheld") rest h (letters (codes "withheld") refl)

-- no name of a transmission begins with the word before the one that heard
other_word : (word rest : List ℕ) → IsWord word → bytes_eq word (codes "at") ≡ false
    → bytes_eq (first_word (word ++ 32 ∷ rest)) (codes "at") ≡ false
other_word word rest w e = ap (λ v. bytes_eq v (codes "at")) (word_before word rest w) ∙ e

reply_is_other : (r : ReplyName) (rest : List ℕ)
    → bytes_eq (first_word (reply_name r ++ 32 ∷ rest)) (codes "at") ≡ false
reply_is_other Ack0 rest = other_word (codes "ACK0") rest (letters (codes "ACK0") refl) refl
reply_is_other Ack1 rest = other_word (codes "ACK1") rest (letters (codes "ACK1") refl) refl
reply_is_other Nak rest = other_word (codes "NAK") rest (letters (codes "NAK") refl) refl
reply_is_other Wack rest = other_word (codes "WACK") rest (letters (codes "WACK") refl) refl
reply_is_other Rvi rest = other_word (codes "RVI") rest (letters (codes "RVI") refl) refl

name_is_other : (heard : Heard) (rest : List ℕ)
    → bytes_eq (first_word (name_of heard ++ 32 ∷ rest)) (codes "at") ≡ false
name_is_other (Whole Eot) rest =
    other_word (codes "EOT") rest (letters (codes "EOT") refl) refl
name_is_other (Whole (Call address)) rest =
    other_word (codes "CALL") (address ++ 32 ∷ rest) (letters (codes "CALL") refl) refl
name_is_other (Whole Enq) rest =
    other_word (codes "ENQ") rest (letters (codes "ENQ") refl) refl
name_is_other (Whole (Reply r)) rest = reply_is_other r rest
name_is_other (Whole (Text text)) rest =
    other_word (codes "TEXT")
    (end_name text.end ++ codes " " ++ decimal (length text.units) ++ 32 ∷ rest)
    (letters (codes "TEXT") refl) refl
name_is_other Failed rest =
    other_word (codes "FAILED") rest (letters (codes "FAILED") refl) refl
name_is_other Noise rest =
    other_word (codes "NOISE") rest (letters (codes "NOISE") refl) refl

-- who heard it, and the text after that
abbrev pub spoken_as : Course → Fate → List ℕ → SpokenValue
spoken_as course fate rest = record { course = course; fate = fate; rest = rest }

all_hear : (fate : Fate) (heard : Heard) (rest : List ℕ)
    → spoken_after fate (name_of heard ++ 32 ∷ rest)
    ≡ Some (spoken_as ToAll fate (name_of heard ++ 32 ∷ rest))
all_hear fate heard rest =
    let text = name_of heard ++ 32 ∷ rest in
    cond-false (bytes_eq (first_word text) (codes "at"))
    (option_and_then (to_one fate) (after_word text)) (Some (spoken_as ToAll fate text))
    (name_is_other heard rest)

one_hears : (fate : Fate) (terminal : ℕ) (rest : List ℕ) → IsColumn terminal
    → spoken_after fate (hearer_shown (Some terminal) ++ rest)
    ≡ Some (spoken_as (ToOne terminal) fate rest)
one_hears fate terminal rest h =
    let is_word = letters (codes "at") refl in
    let after = decimal terminal ++ codes " " ++ rest in
    let text = codes "at" ++ 32 ∷ after in
    cond-true (bytes_eq (first_word text) (codes "at"))
    (option_and_then (to_one fate) (after_word text)) (Some (spoken_as ToAll fate text))
    (ap (λ v. bytes_eq v (codes "at")) (word_before (codes "at") after is_word))
    ∙ ap (option_and_then (to_one fate)) (rest_after (codes "at") after is_word)
    ∙ ap (to_one fate) (append_assoc (decimal terminal) (codes " ") rest)
    ∙ hearer_is_read terminal rest h fate

-- what is left of the text is a front, a space, and the octets
abbrev pub IsSpoken : Option SpokenValue → Course → Fate → List ℕ → Type 0
IsSpoken spoken course fate chars =
    (front : List ℕ) × (spoken ≡ Some (spoken_as course fate (front ++ 32 ∷ chars)))

hearers_are_read : (who : Who) (hearer : Option ℕ) (fate : Fate) (heard : Heard)
    (chars : List ℕ) → IfSome hearer IsColumn
    → IsSpoken (spoken_to (course_from who) fate
    (hearer_shown hearer ++ (name_of heard ++ 32 ∷ chars))) (course_of who hearer) fate chars
hearers_are_read (Station Control) None fate heard chars h =
    (name_of heard, all_hear fate heard chars)
hearers_are_read (Station Control) (Some terminal) fate heard chars h =
    (name_of heard, one_hears fate terminal (name_of heard ++ 32 ∷ chars) h)
hearers_are_read (Station (Terminal number)) hearer fate heard chars h = (
  hearer_shown hearer ++ name_of heard,
  ap (λ rest. Some (spoken_as (From number) fate rest))
      (sym (append_assoc (hearer_shown hearer) (name_of heard) (32 ∷ chars))),
)
hearers_are_read (Connection place) hearer fate heard chars h = (
  hearer_shown hearer ++ name_of heard,
  ap (λ rest. Some (spoken_as (From place) fate rest))
      (sym (append_assoc (hearer_shown hearer) (name_of heard) (32 ∷ chars))),
)

pub spoken_is_read : (who : Who) (became : Printed) (hearer : Option ℕ) (heard : Heard)
    (chars : List ℕ) → IsStation who → IfSome hearer IsColumn
    → IsSpoken (spoken_of (who_shown who ++ (fate_shown became
    ++ (hearer_shown hearer ++ (name_of heard ++ 32 ∷ chars)))))
    (course_of who hearer) (fate_of became) chars
spoken_is_read who became hearer heard chars h k =
    let read = hearers_are_read who hearer (fate_of became) heard chars k in (
      read.0,
      fate_is_read who became (hearer_shown hearer ++ (name_of heard ++ 32 ∷ chars)) h ∙ read.1,
    )

-- a text after a sender is no transmission if its first word does not tell what became of one
abbrev none_after : List ℕ → Option SpokenValue
none_after rest = None

nothing_after : (o : Option (List ℕ)) → option_and_then none_after o ≡ None
nothing_after None = refl
nothing_after (Some rest) = refl

pub no_fate : (who : Who) (rest : List ℕ) → IsStation who → fate_in (first_word rest) ≡ None
    → spoken_of (who_shown who ++ 32 ∷ rest) ≡ None
no_fate who rest h e =
    ap (option_and_then spoken_by) (sender_is_read who rest h)
    ∙ ap (λ fate. option_and_then
    (λ more. option_and_then (λ f. spoken_to (course_from who) f more) fate) (after_word rest)) e
    ∙ nothing_after (after_word rest)

-- a text whose first word is no sender is no transmission
pub no_sender : (text : List ℕ) → ((rest : List ℕ) → sender_by (first_word text) rest ≡ None)
    → spoken_of text ≡ None
no_sender text h = by (after_word text)
  where
    by : (o : Option (List ℕ))
        → option_and_then spoken_by (option_and_then (sender_by (first_word text)) o) ≡ None
    by None = refl
    by (Some rest) = ap (option_and_then spoken_by) (h rest)
