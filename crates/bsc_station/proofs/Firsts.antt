-- The first line of a text.
use Rattle.std.proofs.Common.{◌≡◌, ◌<◌, ◌==◌, ℕ, List, [], ◌∷◌, Bool, true, false, cond, length, ap}
use Rattle.std.proofs.Common.{◌∙◌, refl, arith}
use Rattle.std.specs.List.{slice_split, onto_first}
use Rattle.std.specs.Str.Lines.{lines, lines_of_parts, strip_carriage_return}
use Rattle.std.proofs.lemmas.List.Splits.{length-slice_split}
use borrow.Author.Tests.{ne_eqb}
use Rattle.bsc_text.specs.InputLines.{parts_of}

lines_of_one_more_part : (x : List ℕ) (parts : List (List ℕ)) → 0 < length parts → lines_of_parts (x ∷ parts)
    ≡ strip_carriage_return x ∷ lines_of_parts parts
lines_of_one_more_part x [] l = absurd (omega arith)
lines_of_one_more_part x (y ∷ more) l = refl

-- a line followed by others
pub lines_with_line_first : (text line rest : List ℕ) → parts_of text ≡ line ∷ parts_of rest → lines text
    ≡ strip_carriage_return line ∷ lines rest
lines_with_line_first text line rest e =
    ap lines_of_parts e ∙ lines_of_one_more_part line (parts_of rest)
    (omega (arith, length-slice_split (λ octet. octet == 10) rest))

lines_of_one_part : (line : List ℕ) → 0 < length line → lines_of_parts (line ∷ []) ≡ line ∷ []
lines_of_one_part line h = ap (λ t. cond t [] (line ∷ [])) (ne_eqb (length line) 0 (λ z. omega arith))

has_octet : (b : Bool) (x : ℕ) (parts : List (List ℕ)) (line : List ℕ) → 0 < length parts
    → cond b ([] ∷ parts) (onto_first x parts) ≡ line ∷ [] → 0 < length line
has_octet true x parts line some e = let k = ap length e in absurd (omega arith)
has_octet false x [] line some e = absurd (omega arith)
has_octet false x (part ∷ parts) line some e = let same : line ≡ x ∷ part = cc in
    rw same (omega arith)

-- the only line of a non-empty text
pub lines_of_one_line : (text line : List ℕ) → 0 < length text → parts_of text ≡ line ∷ [] → lines text
    ≡ line ∷ []
lines_of_one_line [] line some e = absurd (omega arith)
lines_of_one_line (x ∷ xs) line some e =
    ap lines_of_parts e
    ∙ lines_of_one_part line (has_octet (x == 10) x (slice_split (λ octet. octet == 10) xs) line
    (omega (arith, length-slice_split (λ octet. octet == 10) xs)) e)
