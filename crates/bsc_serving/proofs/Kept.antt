-- The record that was offered last has the number of those before it.
use Rattle.std.proofs.Common.{◌≡◌, ℕ, List, [], ◌∷◌, ◌++◌, length, Some, ap, ap₂, refl, ◌∙◌}
use Rattle.std.specs.Prelude.{slice_get}

last_at : (before : List (List ℕ)) (chars : List ℕ)
    → slice_get (before ++ chars ∷ []) (length before) ≡ Some chars
last_at [] chars = refl
last_at (first ∷ more) chars = last_at more chars

pub last_of_offered : (before after : List (List ℕ)) (chars : List ℕ) (number : ℕ)
    → number ≡ length before → after ≡ before ++ chars ∷ []
    → slice_get after number ≡ Some chars
last_of_offered before after chars number last added =
    ap₂ (λ (l : List (List ℕ)) (n : ℕ). slice_get l n) added last ∙ last_at before chars
