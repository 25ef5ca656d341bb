-- Hexadecimal text.
use Rattle.std.specs.Prelude.{ℕ, ◌==◌, Bool, not, List, filter, Option}
use Rattle.std.specs.Result.{result_ok}
use Rattle.hex.specs.Hex.{decode_of}

-- Whether an octet is a space.
abbrev pub is_space : ℕ → Bool
is_space octet = octet == 32

-- The text without its spaces.
abbrev pub without_spaces : List ℕ → List ℕ
without_spaces text = filter (λ octet. not (is_space octet)) text

-- The octets of hexadecimal text: two digits for each octet, letters in either case, without the
-- spaces at any position. There are none if an odd number of digits or another character remains.
abbrev pub octets_of : List ℕ → Option (List ℕ)
octets_of text = result_ok (decode_of (without_spaces text))
