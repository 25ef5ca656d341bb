-- Records of a queue or of a spool, and their expected characters.
use Rattle.std.specs.Prelude.{◌≡◌, ℕ, List, length, take, map}
use Rattle.std.specs.Borrow.{Bor}

-- the lists to which the references refer
abbrev pub values : List (Bor (List ℕ)) → List (List ℕ)
values xs = map (λ (x : Bor (List ℕ)). x.now) xs

-- the first list is the beginning of the second
abbrev pub Begins : List (List ℕ) → List (List ℕ) → Type 0
Begins xs ys = take (length xs) ys ≡ xs
