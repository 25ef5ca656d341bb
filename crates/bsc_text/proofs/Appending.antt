-- Texts that are written one after another.
use Rattle.std.proofs.Common.{ℕ, ◌+◌, List, Option, add-one}
use Rattle.std.specs.Io.KnownBytes.{Appends}
use Rattle.std.proofs.KnownBytes.{Appends-trans}
use Rattle.bsc_text.specs.Channels.{each_below}

-- the text for one more number
pub each_below_more : (a b c : Option (List ℕ)) (text : ℕ → List ℕ) (n : ℕ)
    → Appends a b (each_below text n)
    → Appends b c (text n) → Appends a c (each_below text (n + 1))
each_below_more a b c text n p q = rw add-one (Appends-trans a b c (each_below text n) (text n) p q)
