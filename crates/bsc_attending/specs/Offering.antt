-- The records that a station has to send.
use Rattle.std.specs.Prelude.{◌≡◌, ◌≢◌, ◌<◌, ℕ, List, [], ◌∷◌, ◌++◌, length, take}
use Rattle.std.specs.Prelude.{slice_index_or, Option, Some, None, codes, string_bytes}
use Rattle.std.specs.Str.Lines.{lines}
use Rattle.bsc_control.specs.Control.{ControlValue, peer_at}
use Rattle.bsc_control.specs.Kept.{outbound_of}
use Rattle.bsc_text.specs.InputTexts.{IsReadError, IsTextAt}
use Rattle.bsc_station.specs.LineTerminal.{LineTerminalValue}
use Rattle.bsc_station.specs.Offers.{IsFirstRefused, KeepsAllElse, KeepsOtherQueues}
use Rattle.bsc_station.specs.declared.offers.OfferError.{OfferError}
use Rattle.bsc_station.specs.declared.offers.OfferError.TheVariants as offer
use Rattle.bsc_options.specs.Offers.{OfferValue, offer_in}
use Rattle.bsc_options.specs.declared.error.OptionError.TheVariants as option
use Rattle.bsc_attending.specs.declared.error.AttendingError.{AttendingError}
use Rattle.bsc_attending.specs.declared.error.AttendingError.TheVariants as attending

-- The records are the lines of the text at a path.
abbrev pub AreLinesAt : List ℕ → Option (List ℕ) → List (List ℕ) → Type 0
AreLinesAt path input records =
    (text : List ℕ) × IsTextAt path input text × (records ≡ lines text)

-- One line of the text at a path is the first that is not a record of at most this full length.
abbrev pub HasWrongLine : ℕ → List ℕ → Option (List ℕ) → OfferError → Type 0
HasWrongLine full path input (offer.Refused n why) =
    (text : List ℕ) × IsTextAt path input text × IsFirstRefused full n why (lines text)
HasWrongLine full path input offer.Memory = ⊥

-- What an error says of the records at a path: their text could not be read, or has a line that is
-- not a record; then the error names the path.
abbrev pub HasNoRecords : ℕ → List ℕ → Option (List ℕ) → AttendingError → Type 0
HasNoRecords full path input (attending.Text error) = IsReadError path input error
HasNoRecords full path input (attending.Offer named error) =
    (string_bytes named ≡ path) × HasWrongLine full path input error
HasNoRecords full path input attending.Memory = Unit {0}
HasNoRecords full path input _ = ⊥

-- ---- offers of the control station

-- The text of an offer names a channel and a path. The lines of the text at that path were added to
-- the queue of that channel, and nothing else of the control station has changed. Of standard
-- input, of which `before` was left, nothing is read unless the path is `-`.
pub record OffersLines (text : List ℕ) (before after : Option (List ℕ))
    (old new : ControlValue) : Type 0 where
  pub offer : OfferValue
  pub named : offer_in text ≡ Some offer
  pub records : List (List ℕ)
  pub are_lines : AreLinesAt offer.path before records
  pub unasked : offer.path ≢ codes "-" → after ≡ before
  pub offered : (outbound_of new offer.terminal offer.select).queue.offered
      ≡ (outbound_of old offer.terminal offer.select).queue.offered ++ records
  pub others : KeepsOtherQueues old offer.terminal offer.select new

-- The control station has the channel of an offer.
pub record HasChannel (control : ControlValue) (offer : OfferValue) : Type 0 where
  pub terminal : offer.terminal < length control.peers
  pub select : offer.select < length (peer_at control offer.terminal).outbounds

-- The text of an offer names a channel that the control station does not have.
pub record HasNoChannel (text : List ℕ) (control : ControlValue) : Type 0 where
  pub offer : OfferValue
  pub named : offer_in text ≡ Some offer
  pub missing : ¬ (HasChannel control offer)

-- The text of an offer names a channel of the control station, and a path at which there are no
-- records, as an error says.
pub record LacksRecords (text : List ℕ) (input : Option (List ℕ)) (control : ControlValue)
    (error : AttendingError) : Type 0 where
  pub offer : OfferValue
  pub named : offer_in text ≡ Some offer
  pub there : HasChannel control offer
  pub why : HasNoRecords control.setup.format.full offer.path input error

-- What an error says of the text of an offer: it names no channel, or none of the control station,
-- or no records.
abbrev pub IsOfferRefused : List ℕ → Option (List ℕ) → ControlValue → AttendingError → Type 0
IsOfferRefused text input control (attending.Options option.OfferForm) = offer_in text ≡ None
IsOfferRefused text input control (attending.Options option.NoChannel) = HasNoChannel text control
IsOfferRefused text input control error = LacksRecords text input control error

-- ---- offers of a terminal

-- The lines of the text at a path were added to what a terminal offers, and nothing else of it has
-- changed.
pub record AddsLines (path : List ℕ) (before after : Option (List ℕ))
    (old new : LineTerminalValue) : Type 0 where
  pub records : List (List ℕ)
  pub are_lines : AreLinesAt path before records
  pub unasked : path ≢ codes "-" → after ≡ before
  pub offered : new.tributary.queue.offered ≡ old.tributary.queue.offered ++ records
  pub known : new.tributary.queue.known ≡ old.tributary.queue.known
  pub others : KeepsAllElse old new

-- ---- all offers

-- The texts in order, each of which changes a state as `Changes` says.
abbrev pub InTurn : {S : Type 0} → (List ℕ → S → S → Type 0) → List (List ℕ) → S → S → Type 0
InTurn Changes [] old new = new ≡ old
InTurn {S} Changes (text ∷ texts) old new =
    (mid : S) × Changes text old mid × InTurn Changes texts mid new

-- A text fails in the state that those before it leave.
pub record FailsInTurn {S : Type 0} (Changes : List ℕ → S → S → Type 0)
    (Fails : List ℕ → S → Type 0) (texts : List (List ℕ)) (old : S) : Type 0 where
  pub place : ℕ
  pub within : place < length texts
  pub mid : S
  pub before : InTurn Changes (take place texts) old mid
  pub fails : Fails (slice_index_or texts place []) mid

-- What is left of standard input, and a terminal.
abbrev pub TerminalState : Type 0
TerminalState = Option (List ℕ) × LineTerminalValue

-- The texts of all offers of a terminal were added in turn to what it offers.
abbrev pub AddsAllLines : List (List ℕ) → TerminalState → TerminalState → Type 0
AddsAllLines = InTurn (λ path old new. AddsLines path old.0 new.0 old.1 new.1)

-- One of the texts is refused, with this error.
abbrev pub AddsNoLines : List (List ℕ) → TerminalState → AttendingError → Type 0
AddsNoLines paths old error =
    FailsInTurn (λ path old new. AddsLines path old.0 new.0 old.1 new.1)
    (λ path mid. HasNoRecords mid.1.tributary.queue.format.full path mid.0 error) paths old

-- What is left of standard input, and the control station.
abbrev pub ControlState : Type 0
ControlState = Option (List ℕ) × ControlValue

-- The texts of all offers of the control station were offered in turn.
abbrev pub OffersAllLines : List (List ℕ) → ControlState → ControlState → Type 0
OffersAllLines = InTurn (λ text old new. OffersLines text old.0 new.0 old.1 new.1)

-- One of the texts is refused, with this error.
abbrev pub OffersNoLines : List (List ℕ) → ControlState → AttendingError → Type 0
OffersNoLines texts old error =
    FailsInTurn (λ text old new. OffersLines text old.0 new.0 old.1 new.1)
    (λ text mid. IsOfferRefused text mid.0 mid.1 error) texts old
