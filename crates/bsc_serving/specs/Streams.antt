-- What goes over the connection of a program.
use Rattle.std.specs.Prelude.{◌≡◌, ℕ, List, [], length, take, drop, Result, MatchResult}
use Rattle.std.specs.Io.KnownBytes.{Appends, Consumes, Keeps}
use Rattle.std.specs.declared.io.Read as read_of
use Rattle.std.specs.declared.io.Write as write_of

-- The octets that a read gave are those that are there then, as many as it says; after an error
-- there are none.
abbrev pub Fills : {R E : Type 0} → read_of.Ghosts R → R → Result ℕ E → List ℕ → R → Type 0
Fills reader old result octets new =
    MatchResult result
    (λ n. (length octets ≡ n) × Consumes (reader.remaining old) (reader.remaining new) octets)
    (λ error. (octets ≡ []) × Keeps (reader.remaining old) (reader.remaining new))

-- As many octets as it says were written from the front of these, and the others are left; after an
-- error all are.
abbrev pub Empties : {W E : Type 0} → write_of.Ghosts W → W → List ℕ → Result ℕ E → List ℕ → W
    → Type 0
Empties writer old octets result left new =
    MatchResult result
    (λ n. Appends (writer.contents old) (writer.contents new) (take n octets)
    × (left ≡ drop n octets))
    (λ error. Keeps (writer.contents old) (writer.contents new) × (left ≡ octets))
