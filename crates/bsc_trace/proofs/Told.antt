-- The beginnings of texts that are told.
use Rattle.std.proofs.Common.{◌≡◌, ℕ, ◌||◌, List, [], ◌∷◌, ◌++◌, Bool, true, false, codes, None, refl}
use Rattle.std.proofs.Common.{sym, ap, ◌∙◌, subst, append_assoc, inl, inr, true≢false, bytes_eq}
use Rattle.std.proofs.lemmas.Slice.Eq.{bytes_eq-Decides}
use Rattle.std.specs.List.{AllByRecursion}
use Rattle.bsc_bid.specs.declared.speaker.Speaker.TheVariants.{Control, Terminal}
use Rattle.bsc_text.specs.Traces.{silence_shown, who_shown}
use Rattle.bsc_text.specs.declared.trace.Who.{Who}
use Rattle.bsc_text.specs.declared.trace.Who.TheVariants.{Station, Connection}
use Rattle.bsc_trace.specs.ReadBack.{BeginsAsTold, IsStation, first_words, is_one_of, words_after}
use Rattle.bsc_text.specs.Words.{first_word}
use Rattle.bsc_trace.specs.Speaking.{sender_by, spoken_of}
use Rattle.bsc_trace.specs.Words.{fate_in}
use Rattle.bsc_trace.proofs.Speakers.{no_fate, no_sender}

one_or_more : (P : List ℕ → Type 0) (first : List ℕ) (words : List (List ℕ)) (word : List ℕ)
    (b : Bool) → bytes_eq word first ≡ b → P first → (is_one_of words word ≡ true → P word)
    → (b || is_one_of words word) ≡ true → P word
one_or_more P first words word true same p more e =
    subst P (sym ((bytes_eq-Decides word first).0 same)) p
one_or_more P first words word false other p more e = more e

-- what is true of each of some words is true of one of them
true_of_one : (P : List ℕ → Type 0) (words : List (List ℕ)) (word : List ℕ)
    → AllByRecursion P words → is_one_of words word ≡ true → P word
true_of_one P [] word all e = absurd (true≢false (sym e))
true_of_one P (first ∷ words) word all e =
    one_or_more P first words word (bytes_eq word first) refl all.0
    (true_of_one P words word all.1) e

-- no sender, and no word for what became of a transmission
no_sender_is_first : (word : List ℕ) → is_one_of first_words word ≡ true
    → (rest : List ℕ) → sender_by word rest ≡ None
no_sender_is_first word e =
    true_of_one (λ w. (rest : List ℕ) → sender_by w rest ≡ None) first_words word
    (λ r. refl, (λ r. refl, (λ r. refl, (λ r. refl, (λ r. refl, (λ r. refl, (λ r. refl, (λ r. refl, (λ r. refl, tt))))))))) e

no_fate_is_after : (word : List ℕ) → is_one_of words_after word ≡ true → fate_in word ≡ None
no_fate_is_after word e =
    true_of_one (λ w. fate_in w ≡ None) words_after word
    (refl, (refl, (refl, (refl, (refl, (refl, (refl, (refl, tt)))))))) e

-- the text of a silence
no_silence_by_first : (text : List ℕ) → is_one_of first_words (first_word text) ≡ true
    → bytes_eq text silence_shown ≡ false
no_silence_by_first text e = by (bytes_eq text silence_shown) refl
  where
    by : (b : Bool) → bytes_eq text silence_shown ≡ b → b ≡ false
    by true same =
        let is = (bytes_eq-Decides text silence_shown).0 same in
        absurd (true≢false
        (sym (ap (λ t. is_one_of first_words (first_word t)) (sym is) ∙ e)))
    by false other = refl

no_silence_by_station : (who : Who) (rest : List ℕ)
    → bytes_eq (who_shown who ++ rest) silence_shown ≡ false
no_silence_by_station (Station Control) rest = refl
no_silence_by_station (Station (Terminal number)) rest = refl
no_silence_by_station (Connection place) rest = refl

by_first : (text : List ℕ) → is_one_of first_words (first_word text) ≡ true
    → (spoken_of text ≡ None) × (bytes_eq text silence_shown ≡ false)
by_first text e = (
  no_sender text (no_sender_is_first (first_word text) e),
  no_silence_by_first text e,
)

by_station : (who : Who) (rest : List ℕ) → IsStation who
    → is_one_of words_after (first_word rest) ≡ true
    → (spoken_of (who_shown who ++ 32 ∷ rest) ≡ None)
    × (bytes_eq (who_shown who ++ 32 ∷ rest) silence_shown ≡ false)
by_station who rest h e = (
  no_fate who rest h (no_fate_is_after (first_word rest) e),
  no_silence_by_station who (32 ∷ rest),
)

-- a text that begins as one that is told is neither a transmission nor a silence
pub begins_as_told : (text : List ℕ) → BeginsAsTold text
    → (spoken_of text ≡ None) × (bytes_eq text silence_shown ≡ false)
begins_as_told text (inl e) = by_first text e
begins_as_told text (inr (who, rest, station, is, e)) =
    subst (λ (t : List ℕ). (spoken_of t ≡ None) × (bytes_eq t silence_shown ≡ false))
    (sym (is ∙ append_assoc (who_shown who) (codes " ") rest)) (by_station who rest station e)
