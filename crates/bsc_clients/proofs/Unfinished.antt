-- A command with more than three words.
use Rattle.std.proofs.Common.{◌≡◌, ◌<◌, ◌==◌, ℕ, List, [], ◌∷◌, false, length, refl, arith}
use Rattle.std.proofs.lemmas.List.Splits.{length-slice_split}
use Rattle.bsc_text.specs.Words.{words_of}
use Rattle.bsc_clients.specs.Commands.{is_unfinished}

unfinished_four : (a b c : List ℕ) (parts : List (List ℕ)) → 0 < length parts
    → is_unfinished (a ∷ b ∷ c ∷ parts) ≡ false
unfinished_four a b c [] h = absurd (omega arith)
unfinished_four a b c (d ∷ parts) h = refl

-- A text has at least one word, so that three words before it are not all.
pub unfinished_more : (a b c text : List ℕ)
    → is_unfinished (a ∷ b ∷ c ∷ words_of text) ≡ false
unfinished_more a b c text =
    unfinished_four a b c (words_of text)
    (omega (arith, length-slice_split (λ octet. octet == 32) text))
