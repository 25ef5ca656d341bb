-- How many octets are wanted, by what has begun.
use Rattle.std.proofs.Common.{◌≡◌, ℕ, ◌+◌, ◌-◌, ◌<◌, ◌≤◌, List, ◌++◌, length, ap, arith}
use Rattle.std.proofs.lemmas.List.{take-append-le}
use Rattle.std.proofs.lemmas.Grind.{common_steps}
use Rattle.std.specs.Int.{w16, from_be_bytes}
use Rattle.bsc_carrier.specs.Record.{IsLength}
use Rattle.bsc_carrier.specs.Front.{stated_length, HasWrongLength}
use Rattle.bsc_carrier.specs.Assembler.{wanted_after}

-- Octets after the first two do not change the length that these state.
pub stated_length_append : (begun more : List ℕ) → 2 ≤ length begun → stated_length (begun ++ more)
    ≡ stated_length begun
stated_length_append begun more two = ap (from_be_bytes w16) (take-append-le 2 begun more two)

pub wanted_after_short : (begun : List ℕ) → length begun < 2 → wanted_after begun ≡ 2 - length begun
wanted_after_short begun short = grind (arith, common_steps)

pub wanted_after_right : (begun : List ℕ) → 2 ≤ length begun → IsLength (stated_length begun)
    → wanted_after begun ≡ 2 + stated_length begun - length begun
wanted_after_right begun two right = grind (arith, common_steps)

pub wanted_after_wrong : (begun : List ℕ) → HasWrongLength begun → wanted_after begun ≡ 0
wanted_after_wrong begun wrong = grind (arith, common_steps)
