-- Octets in hexadecimal text, as a trace has them.
use Rattle.std.proofs.Common.{◌≡◌, ◌<◌, ℕ, zero, suc, ◌*◌, ◌==◌, not, filter, List, [], ◌∷◌, true, false}
use Rattle.std.proofs.Common.{if◌then◌else◌, codes, length, Some, None, Ok, refl, sym, ap, subst, ◌∙◌}
use Rattle.std.proofs.Common.{arith, bytes_eq, ne_eqb}
use Rattle.std.proofs.lemmas.Bool.{and_left, and_parts, cond-false, cond-true, not_from_false}
use Rattle.std.proofs.lemmas.List.Elements.{All-head, All-tail}
use Rattle.std.proofs.lemmas.List.Sums.{list_all-from_AllPass}
use Rattle.std.specs.List.{list_all}
use Rattle.std.specs.Result.{result_ok}
use Rattle.hex.specs.Hex.{IsBytes, decode_of, encode_lower, is_hex_digit}
use Rattle.hex.proofs.HexLemmas.{decode_of-encode_lower, decode_of-ok}
use Rattle.bsc_text.specs.Hexadecimal.{is_space, octets_of}
use Rattle.bsc_text.specs.InputLines.{is_blank}
use Rattle.bsc_text.specs.Forms.{AreOctets}
use Rattle.bsc_text.specs.Names.{chars_shown}
use Rattle.bsc_trace.specs.Lines.{octets_given}
use Rattle.bsc_trace.proofs.PlainWords.{IsWord, not_that, word_by}

all_kept : (word : List ℕ) → IsWord word → filter (λ octet. not (is_space octet)) word ≡ word
all_kept [] h = refl
all_kept (x ∷ word) h =
    let rest = filter (λ octet. not (is_space octet)) word in
    cond-true (not (x == 32)) (x ∷ rest) rest (not_from_false (x == 32) h.0)
    ∙ ap (λ l. x ∷ l) (all_kept word h.1)

-- hexadecimal digits are neither a dash nor blank
given_by : (text octets : List ℕ) → 0 < length text → list_all is_hex_digit text ≡ true
    → octets_of text ≡ Some octets → octets_given text ≡ Some octets
given_by [] octets some all e = absurd (omega arith)
given_by (x ∷ text) octets some all e =
    let first = (and_parts (is_hex_digit x) (list_all is_hex_digit text) all).0 in
    let no_dash : bytes_eq (x ∷ text) (codes "-") ≡ false =
    and_left (x == 45) (bytes_eq text []) (not_that is_hex_digit 45 x refl first) in
    let not_blank : is_blank (x ∷ text) ≡ false =
    and_left (x == 32) (is_blank text) (not_that is_hex_digit 32 x refl first) in
    cond-false (bytes_eq (x ∷ text) (codes "-")) (Some [])
    (if is_blank (x ∷ text) then None else octets_of (x ∷ text)) no_dash
    ∙ cond-false (is_blank (x ∷ text)) None (octets_of (x ∷ text)) not_blank ∙ e

are_bytes : (octets : List ℕ) → AreOctets octets → IsBytes octets
are_bytes [] h i = omega arith
are_bytes (x ∷ octets) h zero = All-head (λ octet. octet < 256) x octets h
are_bytes (x ∷ octets) h (suc i) =
    are_bytes octets (All-tail (λ octet. octet < 256) x octets h) i

module _ (x : ℕ) (xs : List ℕ) (h : AreOctets (x ∷ xs)) where
  are_read : decode_of (encode_lower (x ∷ xs)) ≡ Ok (x ∷ xs)
  are_read = decode_of-encode_lower (x ∷ xs) (are_bytes (x ∷ xs) h)

  are_digits : list_all is_hex_digit (encode_lower (x ∷ xs)) ≡ true
  are_digits =
      list_all-from_AllPass is_hex_digit (encode_lower (x ∷ xs))
      (decode_of-ok (encode_lower (x ∷ xs)) (x ∷ xs) are_read).1

  digits_are_word : IsWord (encode_lower (x ∷ xs))
  digits_are_word = word_by is_hex_digit (encode_lower (x ∷ xs)) refl are_digits

  digits_are_read : octets_given (encode_lower (x ∷ xs)) ≡ Some (x ∷ xs)
  digits_are_read =
      let text = encode_lower (x ∷ xs) in
      let twice : length text ≡ 2 * length (x ∷ xs) = (decode_of-ok text (x ∷ xs) are_read).2 in
      given_by text (x ∷ xs) (omega arith) are_digits
      (ap (λ l. result_ok (decode_of l)) (all_kept text digits_are_word) ∙ ap result_ok are_read)

shown_digits : (x : ℕ) (xs : List ℕ) → chars_shown (x ∷ xs) ≡ encode_lower (x ∷ xs)
shown_digits x xs =
    cond-false (length (x ∷ xs) == 0) (codes "-") (encode_lower (x ∷ xs))
    (ne_eqb (length (x ∷ xs)) 0 (λ e. omega arith))

-- octets in print are one word
pub octets_are_word : (octets : List ℕ) → AreOctets octets → IsWord (chars_shown octets)
octets_are_word [] h = (refl, tt)
octets_are_word (x ∷ xs) h = subst IsWord (sym (shown_digits x xs)) (digits_are_word x xs h)

-- and are read back
pub octets_are_read : (octets : List ℕ) → AreOctets octets
    → octets_given (chars_shown octets) ≡ Some octets
octets_are_read [] h = refl
octets_are_read (x ∷ xs) h = ap octets_given (shown_digits x xs) ∙ digits_are_read x xs h
