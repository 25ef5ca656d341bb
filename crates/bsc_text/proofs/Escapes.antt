-- The text of a record is one line, and can be read back.
use Rattle.std.proofs.Common.{◌≡◌, ◌<◌, ◌+◌, ◌*◌, ◌/◌, ◌%◌, ◌==◌, ◌&&◌, ℕ, Bool, true, false, List}
use Rattle.std.proofs.Common.{[], ◌∷◌, ◌++◌, zero, suc, refl, sym, ap, ◌∙◌, append_assoc, arith}
use Rattle.std.specs.Prelude.{All, if◌then◌else◌, nat_le}
use Rattle.std.specs.List.{AllPass, flat_map}
use Rattle.std.specs.Char.{digit_char, digit_value}
use Rattle.std.proofs.lemmas.Bool.{eqb-true}
use Rattle.std.proofs.lemmas.Bool.Decides.{nat_tests}
use Rattle.std.proofs.lemmas.List.Elements.{All-append}
use Rattle.std.proofs.lemmas.Str.{digit_value-digit_char}
use Rattle.bsc_text.specs.Forms.{AreOctets, HasOneReading, IsOneLine, escape_of, escaped}
use Rattle.bsc_text.specs.Forms.{hex_escape, is_printable}

pub split : {P : Type 0} (b : Bool) → (b ≡ true → P) → (b ≡ false → P) → P
split true passes fails = passes refl
split false passes fails = fails refl

-- the code after a backslash
letter : ℕ → ℕ
letter c =
    if c == 116 then 9 else (if c == 110 then 10 else (if c == 114 then 13 else 92))

abbrev hex_read : List ℕ → ℕ × List ℕ
hex_read (a ∷ b ∷ rest) = (digit_value a * 16 + digit_value b, rest)
hex_read _ = (256, [])

abbrev after_backslash : List ℕ → ℕ × List ℕ
after_backslash [] = (256, [])
after_backslash (c ∷ rest) = if c == 120 then hex_read rest else (letter c, rest)

-- the first code of a text, and the text after it
abbrev head : List ℕ → ℕ × List ℕ
head [] = (256, [])
head (c ∷ rest) = if c == 92 then after_backslash rest else (c, rest)

head_hex : (x : ℕ) (rest : List ℕ) → x < 256 → head (hex_escape x ++ rest) ≡ (x, rest)
head_hex x rest h =
    let high = digit_value-digit_char (x / 16) (omega arith) in
    let low = digit_value-digit_char (x % 16) (omega arith) in
    let whole : digit_value (digit_char (x / 16)) * 16 + digit_value (digit_char (x % 16)) ≡ x =
    omega arith in
    ap (λ n. (n, rest)) whole

-- the first code of a text is read back
head_escape : (x : ℕ) (rest : List ℕ) → x < 256 → head (escape_of x ++ rest) ≡ (x, rest)
unfolding letter
head_escape x rest h =
    split (x == 92)
    (λ e. rw e (ap (λ n. (n, rest)) (sym (eqb-true x 92 e))))
    (λ not_slash. rw not_slash (split (x == 9)
    (λ e. rw e (ap (λ n. (n, rest)) (sym (eqb-true x 9 e))))
    (λ not_tab. rw not_tab (split (x == 10)
    (λ e. rw e (ap (λ n. (n, rest)) (sym (eqb-true x 10 e))))
    (λ not_feed. rw not_feed (split (x == 13)
    (λ e. rw e (ap (λ n. (n, rest)) (sym (eqb-true x 13 e))))
    (λ not_return. rw not_return (split (is_printable x)
    (λ e. rw e (rw not_slash refl))
    (λ e. rw e (head_hex x rest h))))))))))

pub tail_octets : (x : ℕ) (xs : List ℕ) → AreOctets (x ∷ xs) → AreOctets xs
tail_octets x xs h = λ k d below. h (suc k) d (omega arith)

pub has_one_reading : HasOneReading
has_one_reading [] [] h k e = refl
has_one_reading [] (y ∷ ys) h k e =
    let small : y < 256 = k 0 y (omega arith) in
    let read : head [] ≡ (y, escaped ys) = ap head e ∙ head_escape y (escaped ys) small in
    let same : 256 ≡ y = ap (λ (p : ℕ × List ℕ). p.0) read in
    absurd (omega arith)
has_one_reading (x ∷ xs) [] h k e =
    let small : x < 256 = h 0 x (omega arith) in
    let read : head [] ≡ (x, escaped xs) = ap head (sym e) ∙ head_escape x (escaped xs) small in
    let same : 256 ≡ x = ap (λ (p : ℕ × List ℕ). p.0) read in
    absurd (omega arith)
has_one_reading (x ∷ xs) (y ∷ ys) h k e =
    let read : (x, escaped xs) ≡ (y, escaped ys) = sym (head_escape x (escaped xs)
    (h 0 x (omega arith))) ∙ ap head e ∙ head_escape y (escaped ys) (k 0 y (omega arith)) in
    let first : x ≡ y = ap (λ (p : ℕ × List ℕ). p.0) read in
    let more : xs ≡ ys =
    has_one_reading xs ys (tail_octets x xs h) (tail_octets y ys k)
    (ap (λ (p : ℕ × List ℕ). p.1) read) in
    cc

-- each digit is printable
digit_printable : (d : ℕ) → d < 16 → is_printable (digit_char d) ≡ true
digit_printable d h = grind (arith, nat_tests)

-- the text of a code is printable
all_one : (x : ℕ) → is_printable x ≡ true → AllPass is_printable (x ∷ [])
all_one x e zero d below = e
all_one x e (suc k) d below = absurd (omega arith)

all_cons : (x : ℕ) (xs : List ℕ) → is_printable x ≡ true → AllPass is_printable xs
    → AllPass is_printable (x ∷ xs)
all_cons x xs e h zero d below = e
all_cons x xs e h (suc k) d below = h k d (omega arith)

all_two : (x y : ℕ) → is_printable x ≡ true → is_printable y ≡ true
    → AllPass is_printable (x ∷ y ∷ [])
all_two x y e f = all_cons x (y ∷ []) e (all_one y f)

hex_printable : (x : ℕ) → x < 256 → AllPass is_printable (hex_escape x)
hex_printable x h =
    let high = digit_printable (x / 16) (omega arith) in
    let low = digit_printable (x % 16) (omega arith) in
    let digits = all_two (digit_char (x / 16)) (digit_char (x % 16)) high low in
    all_cons 92 (120 ∷ digit_char (x / 16) ∷ digit_char (x % 16) ∷ []) refl
    (all_cons 120 (digit_char (x / 16) ∷ digit_char (x % 16) ∷ []) refl digits)

pub escape_printable : (x : ℕ) → x < 256 → AllPass is_printable (escape_of x)
escape_printable x h =
    split (x == 92) (λ e. rw e (all_two 92 92 refl refl))
    (λ e. rw e (split (x == 9) (λ e. rw e (all_two 92 116 refl refl))
    (λ e. rw e (split (x == 10) (λ e. rw e (all_two 92 110 refl refl))
    (λ e. rw e (split (x == 13) (λ e. rw e (all_two 92 114 refl refl))
    (λ e. rw e (split (is_printable x) (λ e. rw e (all_one x e))
    (λ e. rw e (hex_printable x h))))))))))

pub is_one_line : IsOneLine
is_one_line [] h = λ k d below. absurd (omega arith)
is_one_line (x ∷ xs) h =
    All-append (λ c. is_printable c ≡ true) (escape_of x) (escaped xs)
    (escape_printable x (h 0 x (omega arith))) (is_one_line xs (tail_octets x xs h))
