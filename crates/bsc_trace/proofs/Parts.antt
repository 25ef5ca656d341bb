-- The last of the parts of a text.
use Rattle.std.proofs.Common.{◌≡◌, ◌<◌, ◌==◌, ℕ, List, [], ◌∷◌, length, refl, arith}
use Rattle.std.proofs.lemmas.List.Splits.{length-slice_split}
use Rattle.bsc_text.specs.Parts.{parts_at}
use Rattle.bsc_trace.specs.NamingLines.{last_part}

last_part_cons : (part : List ℕ) (parts : List (List ℕ)) → 0 < length parts
    → last_part (part ∷ parts) ≡ last_part parts
last_part_cons part [] h = absurd (omega arith)
last_part_cons part (next ∷ parts) h = refl

-- a text has at least one part, so a part before those of the text is not the last
pub last_part_more : (value : ℕ) (part text : List ℕ) → last_part (part ∷ parts_at value text)
    ≡ last_part (parts_at value text)
last_part_more value part text =
    last_part_cons part (parts_at value text)
    (omega (arith, length-slice_split (λ octet. octet == value) text))
