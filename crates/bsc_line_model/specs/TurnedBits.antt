-- A transmission with one bit inverted on the line is heard fairly (GA27-3004: VRC checking),
-- unless it is a call that only some terminals hear whole.
use Rattle.std.specs.Prelude.{◌≡◌, ◌⊎◌, ◌<◌, ℕ, true, false, List, length, Option, None, Some}
use Rattle.bsc_frame.specs.Message.{IsMessage}
use Rattle.bsc_frame.specs.Wire.{wire}
use Rattle.bsc_frame.specs.TurnedBits.{with_turned_bit}
use Rattle.bsc_frame.specs.declared.message.Message.{Message}
use Rattle.bsc_bid.specs.Fair.{IsFairlyHeard}
use Rattle.bsc_line_model.specs.Hearing.{heard_in, all_hear}
use Rattle.bsc_line_model.specs.Trust.{EachOf, IsHeardFairly, is_call}

-- the octets are those of the message with one bit of one octet inverted
pub record IsTurned (sent : Message) (octets : List ℕ) : Type 0 where
  pub place : ℕ
  pub bit : ℕ
  pub within : place < length (wire sent)
  pub is_bit : bit < 8
  pub whole : octets ≡ with_turned_bit place bit (wire sent)

-- nothing arrives, or the message with one bit inverted
abbrev pub IsSpoiled : Message → Option (List ℕ) → Type 0
IsSpoiled sent None = Unit {0}
IsSpoiled sent (Some octets) = IsTurned sent octets

-- the control station hears fairly a message with one bit inverted, or nothing of it
abbrev pub TurnedIsFair : Type 0
TurnedIsFair =
    (sent : Message) (item : Option (List ℕ)) → IsMessage sent → IsSpoiled sent item
    → IsFairlyHeard sent (heard_in item)

-- n terminals that all hear the same hear fairly a message with one bit inverted, or nothing of it
abbrev pub TurnedAlikeIsFair : Type 0
TurnedAlikeIsFair =
    (sent : Message) (n : ℕ) (item : Option (List ℕ)) → IsMessage sent → IsSpoiled sent item
    → IsHeardFairly sent n (all_hear (heard_in item))

-- n terminals each of which hears an item of its own, with one bit inverted or nothing, hear fairly
abbrev pub TurnedEachIsFair : Type 0
TurnedEachIsFair =
    (sent : Message) (n : ℕ) (items : ℕ → Option (List ℕ)) → IsMessage sent
    → EachOf n (λ t. IsSpoiled sent (items t))
    → IsHeardFairly sent n (λ t. heard_in (items t))

-- of a message that is not a call, some terminals may also hear the whole
abbrev pub TurnedForSomeIsFair : Type 0
TurnedForSomeIsFair =
    (sent : Message) (n : ℕ) (items : ℕ → Option (List ℕ)) → IsMessage sent
    → is_call sent ≡ false
    → EachOf n (λ t. (items t ≡ Some (wire sent)) ⊎ IsSpoiled sent (items t))
    → IsHeardFairly sent n (λ t. heard_in (items t))

-- a call is not heard fairly if one terminal hears the whole and another one an item with one bit
-- inverted, or nothing
abbrev pub SplitCallIsUnfair : Type 0
SplitCallIsUnfair =
    (sent : Message) (n t u : ℕ) (items : ℕ → Option (List ℕ)) → IsMessage sent
    → is_call sent ≡ true → t < n → u < n → items t ≡ Some (wire sent) → IsSpoiled sent (items u)
    → ¬ IsHeardFairly sent n (λ k. heard_in (items k))
