-- What a station sends, and when it stays quiet.
use Rattle.std.specs.Prelude.{◌≡◌, ℕ, Bool, true, false, List, [], Option, None, Some}
use Rattle.bsc_frame.specs.declared.message.Message.{Message}
use Rattle.bsc_frame.specs.Message.{IsMessage}
use Rattle.bsc_frame.specs.Wire.{wire}

-- The flag tells whether there is a message to send. The octets are those of the message, which is
-- within its limits; or there are none.
abbrev pub IsSent : Option Message → Bool → List ℕ → Type 0
IsSent None sent octets = (sent ≡ false) × (octets ≡ [])
IsSent (Some m) sent octets = (sent ≡ true) × (octets ≡ wire m) × IsMessage m

-- A station of either kind stays as it is and sends nothing.
abbrev pub StaysQuiet : {S : Type 0} → S → S → Option Message → Type 0
StaysQuiet old new sent = (new ≡ old) × (sent ≡ None)
