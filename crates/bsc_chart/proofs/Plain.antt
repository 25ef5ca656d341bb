-- The text of characters in a document has nothing that has a meaning there.
use Rattle.std.proofs.Common.{◌≡◌, ℕ, true, [], ◌∷◌, refl}
use Rattle.std.proofs.Common.{arith}
use Rattle.std.proofs.lemmas.Grind.{common_steps}
use Rattle.std.specs.List.{list_all}
use Rattle.std.proofs.lemmas.List.Folds.{list_all-append}
use Rattle.bsc_chart.specs.Escapes.{IsPlain, escaped, escaped_code, is_plain}

plain_code : (x : ℕ) → list_all is_plain (escaped_code x) ≡ true
plain_code x = grind (arith, common_steps)

pub is_plain_text : IsPlain
is_plain_text [] = refl
is_plain_text (x ∷ xs) =
    rw (list_all-append is_plain (escaped_code x) (escaped xs))
    (rw (plain_code x) (is_plain_text xs))
