-- Messages within their limits, and the reading of codes as an address.
use Rattle.std.specs.Prelude.{ℕ, ◌==◌, nat_lt, not, if◌then◌else◌, List, length, position, Option}
use Rattle.std.specs.Prelude.{Some, None, Result, Ok, Err}
use Rattle.bsc_frame.specs.Addresses.{IsAddress}
use Rattle.bsc_octet.specs.Octet.{is_address_code}
use Rattle.bsc_frame.specs.Texts.{IsText}
use Rattle.bsc_frame.specs.declared.limits.TheConstants.{MAX_ADDRESS}
use Rattle.bsc_frame.specs.declared.address.AddressError.{AddressError}
use Rattle.bsc_frame.specs.declared.address.AddressError.TheVariants.{Empty, TooLong, BadChar}
use Rattle.bsc_frame.specs.declared.message.Message.{Message}
use Rattle.bsc_frame.specs.declared.message.Message.TheVariants.{Eot, Call, Enq, Reply, Text}

-- The codes, or the error that names the first wrong place.
abbrev pub first_wrong : Option ℕ → List ℕ → Result (List ℕ) AddressError
first_wrong None codes = Ok codes
first_wrong (Some place) codes = Err (BadChar place)

-- The address that the codes are, or why they are none: there is no code, there are more than
-- seven, or one is wrong.
abbrev pub read_address : List ℕ → Result (List ℕ) AddressError
read_address codes =
    if length codes == 0 then Err Empty
    else if nat_lt MAX_ADDRESS (length codes) then Err TooLong
    else first_wrong (position (λ c. not (is_address_code c)) codes) codes

-- A message within its limits: a call has an address, and a text has 1 to 7 units.
abbrev pub IsMessage : Message → Type 0
IsMessage Eot = Unit {0}
IsMessage (Call a) = IsAddress a
IsMessage Enq = Unit {0}
IsMessage (Reply r) = Unit {0}
IsMessage (Text t) = IsText t
