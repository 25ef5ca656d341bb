-- Reads that ask for no more octets than are wanted.
use Rattle.std.proofs.Common.{◌≡◌, ℕ, ◌<◌, ◌≤◌, false, List, [], ◌∷◌, length, take, inl, inr, Option}
use Rattle.std.proofs.Common.{refl, subst, arith}
use Rattle.std.proofs.lemmas.Bool.{cases_lt, false≢true}
use Rattle.std.specs.Prelude.{IsTrue}
use Rattle.std.specs.Io.KnownBytes.{Consumes}
use Rattle.bsc_carrier.specs.Front.{IsPartial}
use Rattle.bsc_carrier.specs.Assembler.{wanted_after}
use Rattle.bsc_carrier.proofs.Wanted.{wanted_after_short, wanted_after_right}

-- At least one octet is wanted until the record is complete.
pub wanted_some : (begun : List ℕ) → IsPartial begun → 1 ≤ wanted_after begun
wanted_some begun partial =
    elim (cases_lt (length begun) 2) [
      | inl short ↦ omega (arith, wanted_after_short begun short)
      | inr two ↦
          let right = partial two in
          omega (arith, wanted_after_right begun two right.0, right.1)
    ]

-- If the assembler is not between records, it holds at least one octet.
pub begun_some : (begun : List ℕ) → (begun ≡ [] → IsTrue false) → 1 ≤ length begun
begun_some [] none = absurd (false≢true (none refl))
begun_some (octet ∷ begun) none = omega arith

-- A read of no octets.
pub none_read : (mid b : Option (List ℕ)) (buffer : List ℕ) (count : ℕ) → count ≡ 0
    → Consumes mid b (take count buffer) → Consumes mid b []
none_read mid b buffer count none read = subst (λ n. Consumes mid b (take n buffer)) none read
