-- What is printed of a text from elsewhere is printable, and what is printable is as it was.
use Rattle.std.proofs.Common.{◌≡◌, ◌<◌, ◌==◌, ◌&&◌, ◌||◌, ℕ, Bool, true, List, [], ◌∷◌}
use Rattle.std.proofs.Common.{◌++◌, zero, suc, refl, ap, arith, get_or}
use Rattle.std.specs.Prelude.{not, if◌then◌else◌, nat_le}
use Rattle.std.specs.List.{AllPass, flat_map}
use Rattle.std.proofs.lemmas.Bool.Decides.{nat_tests}
use Rattle.std.proofs.lemmas.List.Elements.{All-append}
use Rattle.bsc_text.specs.Forms.{AreOctets, escape_of, escaped, is_printable}
use Rattle.bsc_text.proofs.Escapes.{escape_printable, split, tail_octets}
use Rattle.bsc_text.specs.Lines.{AreLines, IsAsItIs, in_lines, is_of_lines, is_plain, line_code}

one_passes : (p : ℕ → Bool) (x : ℕ) → p x ≡ true → AllPass p (x ∷ [])
one_passes p x e zero d below = e
one_passes p x e (suc k) d below = absurd (omega arith)

tail_passes : (p : ℕ → Bool) (x : ℕ) (xs : List ℕ) → AllPass p (x ∷ xs) → AllPass p xs
tail_passes p x xs h = λ k d below. h (suc k) d (omega arith)

-- a character that is printed as it is
plain_escape : (x : ℕ) → is_plain x ≡ true → escape_of x ≡ x ∷ []
plain_escape x e = grind (arith, nat_tests)

pub is_as_it_is : IsAsItIs
is_as_it_is [] h = refl
is_as_it_is (x ∷ xs) h =
    rw (plain_escape x (h 0 x (omega arith)))
    (ap (λ l. x ∷ l) (is_as_it_is xs (tail_passes is_plain x xs h)))

-- the text of a code of lines is of lines
printable_of_lines : (x : ℕ) → is_printable x ≡ true → is_of_lines x ≡ true
printable_of_lines x e = grind (arith, nat_tests)

all_of_lines : (xs : List ℕ) → AllPass is_printable xs → AllPass is_of_lines xs
all_of_lines xs h = λ k d below. printable_of_lines (get_or xs k d) (h k d below)

line_code_of_lines : (x : ℕ) → x < 256 → AllPass is_of_lines (line_code x)
line_code_of_lines x h =
    split (is_of_lines x) (λ e. rw e (one_passes is_of_lines x e))
    (λ e. rw e (all_of_lines (escape_of x) (escape_printable x h)))

of_lines : (text : List ℕ) → AreOctets text → AllPass is_of_lines (in_lines text)
of_lines [] h = λ k d below. absurd (omega arith)
of_lines (x ∷ xs) h =
    All-append (λ c. is_of_lines c ≡ true) (line_code x) (in_lines xs)
    (line_code_of_lines x (h 0 x (omega arith))) (of_lines xs (tail_octets x xs h))

kept : (text : List ℕ) → AllPass is_of_lines text → in_lines text ≡ text
kept [] h = refl
kept (x ∷ xs) h =
    let same : is_of_lines x ≡ true = h 0 x (omega arith) in
    rw same (ap (λ l. x ∷ l) (kept xs (tail_passes is_of_lines x xs h)))

pub are_lines : AreLines
are_lines = record { of_lines = of_lines; kept = kept }
