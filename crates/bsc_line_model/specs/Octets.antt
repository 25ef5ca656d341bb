-- Fair hearing in terms of octets (GA27-3004: VRC and LRC checking).
use Rattle.std.specs.Prelude.{◌⊎◌, ◌↔◌, ℕ, List, IsTrue, Option, None, Some}
use Rattle.bsc_frame.specs.declared.message.Message.{Message}
use Rattle.bsc_frame.specs.declared.message.Message.TheVariants as m
use Rattle.bsc_frame.specs.Spells.{Spells, IsFailed, IsNoise}
use Rattle.bsc_bid.specs.Fair.{IsTextMessage, IsFairlyHeard}
use Rattle.bsc_line_model.specs.Hearing.{heard_in}
use Rattle.bsc_line_model.specs.Trust.{EachOf, IsHeardFairly, is_call}

-- the octets that may be heard of a message while the line is trusted: none; or octets that spell
-- it, or, of a call, that spell EOT; or octets that spell no message, which may be a failed text if
-- the message is a text
abbrev pub IsFairIn : Message → Option (List ℕ) → Type 0
IsFairIn sent None = Unit {0}
IsFairIn sent (Some octets) =
    Spells octets sent ⊎ (IsTrue (is_call sent) × Spells octets m.Eot) ⊎ IsNoise octets
    ⊎ (IsTextMessage sent × IsFailed octets)

-- these octets are heard fairly exactly if they are such octets
abbrev pub FairInOctets : Type 0
FairInOctets =
    (sent : Message) (octets : Option (List ℕ)) →
    IsFairlyHeard sent (heard_in octets) ↔ IsFairIn sent octets

-- the octets spell this message
abbrev pub IsSpelledIn : Message → Option (List ℕ) → Type 0
IsSpelledIn sent None = ⊥
IsSpelledIn sent (Some octets) = Spells octets sent

-- the octets of a call that is missed: none; or octets that spell EOT, or that are noise
abbrev pub IsMissedIn : Option (List ℕ) → Type 0
IsMissedIn None = Unit {0}
IsMissedIn (Some octets) = Spells octets m.Eot ⊎ IsNoise octets

-- the octets that n terminals may hear of the control station's message while the line is trusted:
-- of a call, all of them octets that spell it, or all of them octets of a missed call; of any other
-- message, each of them octets that may be heard of it
abbrev pub AreFairIn : Message → ℕ → (ℕ → Option (List ℕ)) → Type 0
AreFairIn (m.Call a) n items =
    EachOf n (λ t. IsSpelledIn (m.Call a) (items t)) ⊎ EachOf n (λ t. IsMissedIn (items t))
AreFairIn sent n items = EachOf n (λ t. IsFairIn sent (items t))

-- n terminals hear fairly exactly if they hear such octets
abbrev pub AllFairInOctets : Type 0
AllFairInOctets =
    (sent : Message) (n : ℕ) (items : ℕ → Option (List ℕ)) →
    IsHeardFairly sent n (λ t. heard_in (items t)) ↔ AreFairIn sent n items
