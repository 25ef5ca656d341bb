-- `carried` computes the octet of each of the 128 codes.
use Rattle.std.proofs.Common.{◌≡◌, ℕ, ◌-◌, ◌*◌, ◌/◌, ◌%◌, ◌==◌, true, refl, bit_and, bit_or}
use Rattle.std.proofs.Common.{bit_xor}
use Rattle.std.specs.Int.Count.{ones}
use Rattle.std.proofs.lemmas.Bool.{agree_below, agree_below_at, eqb-true}
use Rattle.bsc_octet.specs.Octet.{odd_octet}
use Rattle.bsc_octet.proofs.parity.carried.Goals as goal

-- the exclusive or of the two halves of an octet, in its low half
fours : ℕ → ℕ
fours x = bit_xor x (x / 16)

-- the exclusive or of the two halves of that, in its lowest two bits
twos : ℕ → ℕ
unfolding fours
twos x = bit_xor (fours x) (fours x / 4)

-- the octet with its parity bit, as the code computes it
folded : ℕ → ℕ
unfolding fours twos
folded x = bit_or x (bit_and (255 - bit_xor (twos x) (twos x / 2)) 1 * 128 % 256)

-- the computed octet is right for all 128 codes
folds : agree_below (λ x. folded x == odd_octet x) (λ _. true) 128 ≡ true
unfolding fours twos folded odd_octet ones
folds = refl

pub returns : goal.returns
unfolding fours twos folded
returns c =
    eqb-true (folded c.args.code) (odd_octet c.args.code)
    (agree_below_at (λ x. folded x == odd_octet x) (λ _. true) 128 c.args.code folds c.requires)
