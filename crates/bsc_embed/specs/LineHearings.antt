-- What each terminal hears of the control station's transmission, as a program in C says it.
use Rattle.std.specs.Prelude.{◌≡◌, ◌⊎◌, ◌≤◌, ℕ, nat_eq, if◌then◌else◌, List, [], ◌∷◌, length, map}
use Rattle.std.specs.Prelude.{take, drop, sum_by, Option, None, Some, Result, Err}
use Rattle.std.specs.Borrow.{Bor}
use Rattle.bsc_bid.specs.declared.limits.TheConstants.{MAX_TERMINALS}
use Rattle.bsc_line_model.specs.declared.event.Event.TheVariants.{CarryEach}
use Rattle.bsc_line_model.specs.Hearing.{octets_in}
use Rattle.bsc_line_model.specs.Line.{LineValue}
use Rattle.bsc_embed.specs.declared.interface.fault.Fault.{Fault}
use Rattle.bsc_embed.specs.declared.interface.fault.Fault.TheVariants.{WrongCount}
use Rattle.bsc_embed.specs.declared.line_calls.hearings.TheConstants.{LOST}
use Rattle.bsc_embed.specs.LineEvents.{AsEvent}

-- How many octets a terminal with this length hears: none if the transmission is lost there (own).
abbrev pub taken : ℕ → ℕ
taken len = if nat_eq len LOST then 0 else len

-- What a terminal with this length hears: the first of the octets, or nothing.
abbrev pub piece : List ℕ → ℕ → Option (List ℕ)
piece octets len = if nat_eq len LOST then None else Some (take len octets)

-- What each terminal hears: the octets are cut one after the other, a length for each terminal.
abbrev pub pieces : List ℕ → List ℕ → List (Option (List ℕ))
pieces octets [] = []
pieces octets (len ∷ rest) = piece octets len ∷ pieces (drop (taken len) octets) rest

-- There are at most 64 lengths, and they use up the octets (own).
pub record AreLengths (octets lengths : List ℕ) : Type 0 where
  pub few : length lengths ≤ MAX_TERMINALS
  pub all : sum_by taken lengths ≡ length octets

-- Each terminal hears its piece: the event of items that lend the pieces (GA27-3004: centralised
-- multipoint operation; that each may hear another thing is own).
pub record HearsPieces (octets lengths : List ℕ) (old new : LineValue)
    (answer : Result (Unit {0}) Fault) : Type 0 where
  pub right : AreLengths octets lengths
  pub items : Bor (List (Option (Bor (List ℕ))))
  pub cut : map octets_in items.now ≡ pieces octets lengths
  pub done : AsEvent (CarryEach items) old new answer

-- The octets cannot be cut so; nothing changes.
pub record IsMiscounted (octets lengths : List ℕ) (old new : LineValue)
    (answer : Result (Unit {0}) Fault) : Type 0 where
  pub wrong : AreLengths octets lengths → ⊥
  pub told : answer ≡ Err WrongCount
  pub unchanged : new ≡ old

-- Each terminal hears its piece of the octets, or they cannot be cut so.
abbrev pub CarriesEach :
    List ℕ → List ℕ → LineValue → LineValue → Result (Unit {0}) Fault → Type 0
CarriesEach octets lengths old new answer =
    HearsPieces octets lengths old new answer ⊎ IsMiscounted octets lengths old new answer
