-- The lines of a trace are read back.
use Rattle.std.proofs.Common.{◌≡◌, ◌<◌, ℕ, ◌^◌, List, ◌∷◌, ◌++◌, false, codes, decimal, Some, None, option_map}
use Rattle.std.proofs.Common.{refl, sym, ap, ◌∙◌, append_assoc, arith, bytes_eq}
use Rattle.std.proofs.lemmas.Bool.{cond-false, cond-true, false_from_ne_true}
use Rattle.std.proofs.lemmas.Slice.Eq.{bytes_eq-Decides}
use Rattle.bsc_text.specs.Names.{chars_shown, name_of}
use Rattle.bsc_text.specs.Traces.{fate_shown, hearer_shown, silence_shown, told_line, who_shown}
use Rattle.bsc_trace.specs.Lines.{TraceValue, octets_given, silence, told_at, transmission}
use Rattle.bsc_trace.specs.Lines.{value_after, value_of, value_told}
use Rattle.bsc_trace.specs.Marks.{marked_of}
use Rattle.bsc_trace.specs.ReadBack.{IsReadAs, IsTime, IsToldBack, SentencesAreReadBack}
use Rattle.bsc_trace.specs.ReadBack.{SilencesAreReadBack, TextsAreReadBack}
use Rattle.bsc_trace.specs.ReadBack.{TransmissionsAreReadBack, course_of, fate_of}
use Rattle.bsc_trace.specs.Speaking.{spoken_of}
use Rattle.bsc_trace.specs.Words.{is_time}
use Rattle.bsc_trace.proofs.Numbers.{number_is_word, time_is_read}
use Rattle.bsc_trace.proofs.OctetWords.{octets_are_read, octets_are_word}
use Rattle.bsc_trace.proofs.Speakers.{spoken_is_read}
use Rattle.bsc_trace.proofs.Told.{begins_as_told}
use Rattle.bsc_trace.proofs.PlainWords.{by_word, last_after}

-- a line, with its time, and what is told
abbrev pub timed : ℕ → List ℕ → List ℕ
timed time text = 43 ∷ (decimal time ++ 32 ∷ text)

timed_is_read : (time : ℕ) (text : List ℕ) → time < 10 ^ 20
    → value_of (timed time text) ≡ value_told (decimal time) text (spoken_of text)
timed_is_read time text h =
    by_word (decimal time) text (number_is_word time (omega arith)) value_after
    ∙ cond-true (is_time (decimal time)) (value_told (decimal time) text (spoken_of text)) None
    (time_is_read time h)

-- the text of a line that is no transmission, and its value
told_text : (time : ℕ) (text : List ℕ) → told_line time text ≡ timed time text ++ codes "\n"
told_text time text =
    ap (λ l. 43 ∷ (l ++ codes "\n")) (append_assoc (decimal time) (codes " ") text)

told_by : (time : ℕ) (text : List ℕ) (value : TraceValue) → IsTime time
    → value_told (decimal time) text (spoken_of text) ≡ Some value
    → IsReadAs (told_line time text) value
told_by time text value h e =
    (timed time text, told_text time text, timed_is_read time text h ∙ e)

pub silences_are_read_back : SilencesAreReadBack
silences_are_read_back time h = told_by time silence_shown (silence (decimal time)) h refl

other_is_read : (text : List ℕ) → spoken_of text ≡ None → bytes_eq text silence_shown ≡ false
    → IsToldBack text
other_is_read text none other time h =
    told_by time text (told_at (decimal time) (marked_of text)) h
    (ap (value_told (decimal time) text) none
    ∙ ap Some (cond-false (bytes_eq text silence_shown) (silence (decimal time))
    (told_at (decimal time) (marked_of text)) other))

pub texts_are_read_back : TextsAreReadBack
texts_are_read_back text none other =
    other_is_read text none
    (false_from_ne_true (bytes_eq text silence_shown)
    (λ same. other ((bytes_eq-Decides text silence_shown).0 same)))

pub sentences_are_read_back : SentencesAreReadBack
sentences_are_read_back text begins =
    let both = begins_as_told text begins in other_is_read text both.0 both.1

joined_left : (a b c d e f g h : List ℕ) → a ++ b ++ c ++ d ++ e ++ f ++ g ++ h
    ≡ a ++ (b ++ (c ++ (d ++ (e ++ (f ++ (g ++ h))))))
joined_left a b c d e f g h = simp append_assoc

joined_right : (a b c d e f g h k : List ℕ) → (a ++ (b ++ (c ++ (d ++ (e ++ (f ++ (g ++ h))))))) ++ k
    ≡ a ++ (b ++ (c ++ (d ++ (e ++ (f ++ (g ++ (h ++ k)))))))
joined_right a b c d e f g h k = simp append_assoc

-- the text of the line for a transmission, by its parts
parts_joined : (digits who fate hearer name chars : List ℕ)
    → (codes "+" ++ digits ++ codes " " ++ who ++ fate ++ hearer) ++ name
    ++ (codes " " ++ chars ++ codes "\n")
    ≡ (43 ∷ (digits ++ 32 ∷ (who ++ (fate ++ (hearer ++ (name ++ 32 ∷ chars)))))) ++ codes "\n"
parts_joined digits who fate hearer name chars =
    joined_left (codes "+") digits (codes " ") who fate hearer name
    (codes " " ++ chars ++ codes "\n")
    ∙ sym (joined_right (codes "+") digits (codes " ") who fate hearer name (32 ∷ chars) (codes "\n"))

pub transmissions_are_read_back : TransmissionsAreReadBack
transmissions_are_read_back time who became hearer heard octets h k l are_octets =
    let chars = chars_shown octets in
    let text =
    who_shown who ++ (fate_shown became ++ (hearer_shown hearer ++ (name_of heard ++ 32 ∷ chars))) in
    let spoken = spoken_is_read who became hearer heard chars k l in
    let value : List ℕ → TraceValue =
    transmission (decimal time) (course_of who hearer) (fate_of became) in (
      timed time text,
      parts_joined (decimal time) (who_shown who) (fate_shown became) (hearer_shown hearer)
          (name_of heard) chars,
      timed_is_read time text h ∙ ap (value_told (decimal time) text) spoken.1
          ∙ ap (λ word. option_map value (octets_given word))
          (last_after spoken.0 chars (octets_are_word octets are_octets))
          ∙ ap (option_map value) (octets_are_read octets are_octets),
    )
