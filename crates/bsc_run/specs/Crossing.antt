-- Octets cross a cable from their speaker to the stations that hear it. The octets that are read
-- may differ from those that were written.
use Rattle.std.specs.Prelude.{◌≡◌, ◌<◌, ℕ, List, [], ◌∷◌, ◌++◌, length, Option, None, Some}
use Rattle.std.specs.List.{AllZip}
use Rattle.bsc_carrier.specs.Record.{IsCarried}
use Rattle.bsc_carrier.specs.Cable.{CableValue, Takes, Gives, ChangesAt}
use Rattle.bsc_bid.specs.declared.speaker.Speaker.{Speaker}
use Rattle.bsc_bid.specs.declared.speaker.Speaker.TheVariants.{Control, Terminal}

-- The number of connections of a cable.
abbrev pub connection_count : {S : Type 0} → CableValue S → ℕ
connection_count c = length c.terminal_ends

-- The cable has a connection for the speaker.
abbrev pub HasConnection : {S : Type 0} → Speaker → CableValue S → Type 0
HasConnection Control c = Unit {0}
HasConnection (Terminal t) c = t < connection_count c

-- What was written to a stream of a cable, and what is left to read from it.
pub record Streams (S : Type 0) : Type 0 where
  pub contents : S → Option (List ℕ)
  pub remaining : S → Option (List ℕ)

abbrev pub streams_of : {S : Type 0} → (S → Option (List ℕ)) → (S → Option (List ℕ)) → Streams S
streams_of contents remaining = record { contents = contents; remaining = remaining }

module _ {S : Type 0} (streams : Streams S) where
  -- Every connection took these octets at the control station's end, as one record, and gave the
  -- heard octets at the terminal's end, as one record.
  pub record CrossesDown (sent heard : List ℕ) (old new : CableValue S) : Type 0 where
    pub written : AllZip (Takes streams.contents sent) old.control_ends new.control_ends
    pub read : AllZip (Gives streams.remaining heard) old.terminal_ends new.terminal_ends

  -- Only the connection of terminal t carried octets, from the terminal to the control station.
  pub record CrossesUp (t : ℕ) (sent heard : List ℕ) (old new : CableValue S) : Type 0 where
    pub written : ChangesAt t (Takes streams.contents sent) old.terminal_ends new.terminal_ends
    pub read : ChangesAt t (Gives streams.remaining heard) old.control_ends new.control_ends

  -- Only the connection of terminal t carried octets, from the control station to the terminal.
  pub record CrossesTo (t : ℕ) (sent heard : List ℕ) (old new : CableValue S) : Type 0 where
    pub written : ChangesAt t (Takes streams.contents sent) old.control_ends new.control_ends
    pub read : ChangesAt t (Gives streams.remaining heard) old.terminal_ends new.terminal_ends

  -- Octets cross from the speaker to the stations that hear it.
  abbrev pub CrossesFrom : Speaker → List ℕ → List ℕ → CableValue S → CableValue S → Type 0
  CrossesFrom Control sent heard old new = CrossesDown sent heard old new
  CrossesFrom (Terminal t) sent heard old new = CrossesUp t sent heard old new

  -- Octets cross, and 1 to 2,048 octets are heard.
  pub record Crosses (speaker : Speaker) (sent heard : List ℕ) (old new : CableValue S)
      : Type 0 where
    pub carried : IsCarried heard
    pub crossed : CrossesFrom speaker sent heard old new

  -- The item of terminal t crosses. For an empty item nothing crosses.
  abbrev pub ItemCrosses :
      ℕ → Option (List ℕ) → Option (List ℕ) → CableValue S → CableValue S → Type 0
  ItemCrosses t None None old new = new ≡ old
  ItemCrosses t (Some sent) (Some heard) old new = IsCarried heard × CrossesTo t sent heard old new
  ItemCrosses t _ _ old new = ⊥

  -- The items cross one after another, each over the connection with its number.
  pub data ItemsCross : List (Option (List ℕ)) → List (Option (List ℕ)) → CableValue S →
      CableValue S → Type 0 where
    none : {c : CableValue S} → ItemsCross [] [] c c
    one_more : {items heard : List (Option (List ℕ))} {old mid new : CableValue S}
        (item word : Option (List ℕ)) → ItemsCross items heard old mid
        → ItemCrosses (length items) item word mid new
        → ItemsCross (items ++ item ∷ []) (heard ++ word ∷ []) old new
