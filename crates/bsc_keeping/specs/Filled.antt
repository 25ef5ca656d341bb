-- What a station has that is filled with what its store has.
use Rattle.std.specs.Prelude.{◌≡◌, ℕ, zero, suc, Bool, List, [], ◌∷◌, ◌++◌, length, map, replicate}
use Rattle.std.specs.Prelude.{Option, Some, None, if◌then◌else◌}
use Rattle.bsc_bid.specs.declared.kept.KeptSender.{KeptSender}
use Rattle.bsc_spool.specs.Contents.{Contents, records_from}
use Rattle.bsc_spool.specs.declared.channel.Channel.{Channel}
use Rattle.bsc_spool.specs.declared.ends.Receiving.{Receiving}
use Rattle.bsc_spool.specs.declared.ends.Sending.{Sending}
use Rattle.bsc_control.specs.Control.{ControlValue}
use Rattle.bsc_station.specs.Forgetting.{ForgetsArrivedFor, ForgetsArrivedFrom, ForgetsOwn}
use Rattle.bsc_station.specs.Forgetting.{ForgetsSent}
use Rattle.bsc_station.specs.LineTerminal.{LineTerminalValue}
use Rattle.bsc_keeping.specs.Filling.{GainsFor, GainsFrom, offered_at, own_offered, own_recalled}
use Rattle.bsc_keeping.specs.Filling.{recalled_at}
use Rattle.bsc_keeping.specs.declared.keeper.Keeper.{Keeper}

-- The records that are offered again on a channel, of which the store has this: those that are
-- known to have arrived are empty, since only their places are needed.
abbrev pub sent_again : Contents → List (List ℕ)
sent_again it = replicate it.known [] ++ records_from it.known it.offered

-- What is recalled of the channel.
abbrev pub doubt_of : ℕ → Option ℕ
doubt_of zero = None
doubt_of (suc count) = Some (suc count)

abbrev pub recalled_of : Contents → KeptSender
recalled_of it = record { known = it.known; doubt = doubt_of it.in_doubt }

-- How many of the first records that arrived are forgotten from the beginning.
abbrev pub forgotten_of : Bool → Contents → ℕ
forgotten_of forgets_printed it = if forgets_printed then it.printed else 0

-- The ends of the channels of a station, once all of this is known of them.
abbrev pub sending_from : (Channel → Contents) → Sending → Sending
sending_from has end =
    record end { known = (has end.channel).known; in_doubt = (has end.channel).in_doubt }

abbrev pub receiving_from : (Channel → Contents) → Receiving → Receiving
receiving_from has end =
    record end {
      arrived = length (has end.channel).arrived;
      printed = (has end.channel).printed;
    }

-- What an offer makes of a station: the terminal, the selection address, the record.
module _ {P : Type 0} (offered : P → ℕ → ℕ → List ℕ → P) where
  -- These records are offered for one selection address, in order.
  abbrev pub offered_all : ℕ → ℕ → List (List ℕ) → P → P
  offered_all t s [] station = station
  offered_all t s (r ∷ rs) station = offered_all t s rs (offered station t s r)

  -- On each channel on which the station sends its records are offered, in order.
  abbrev pub offered_each : (Channel → Contents) → List Sending → P → P
  offered_each has [] station = station
  offered_each has (end ∷ ends) station =
      offered_each has ends
      (offered_all end.terminal end.select (sent_again (has end.channel)) station)

-- What a station is that recalls what was kept of a channel.
module _ {P : Type 0} (recalled : P → ℕ → ℕ → KeptSender → P) where
  -- It recalls what was kept of each channel on which it sends.
  abbrev pub recalled_each : (Channel → Contents) → List Sending → P → P
  recalled_each has [] station = station
  recalled_each has (end ∷ ends) station =
      recalled_each has ends
      (recalled station end.terminal end.select (recalled_of (has end.channel)))

-- How a station gains a record that had arrived, and how it forgets the first of these: the number
-- of the channel, and the record or how many.
module _ {P : Type 0} (gains : P → ℕ → List ℕ → P → Type 0)
    (forgets : P → ℕ → ℕ → P → Type 0) where
  -- This many records are forgotten from the beginning: for each an empty one is added, and those
  -- so far may be forgotten.
  abbrev pub AddsForgotten : ℕ → ℕ → P → P → Type 0
  AddsForgotten number zero old new = new ≡ old
  AddsForgotten number (suc count) old new =
      (mid last : P) × AddsForgotten number count old mid × gains mid number [] last
      × forgets last number (suc count) new

  -- These records are added, in order.
  abbrev pub AddsAll : ℕ → List (List ℕ) → P → P → Type 0
  AddsAll number [] old new = new ≡ old
  AddsAll number (r ∷ rs) old new =
      (mid : P) × gains old number r mid × AddsAll number rs mid new

  -- The records that arrived on a channel are added: of the forgotten ones the places, then the
  -- others.
  abbrev pub AddsChannel : Bool → Contents → ℕ → P → P → Type 0
  AddsChannel forgets_printed it number old new =
      (mid : P) × AddsForgotten number (forgotten_of forgets_printed it) old mid
      × AddsAll number (records_from (forgotten_of forgets_printed it) it.arrived) mid new

  -- So are those of each channel on which the station receives.
  abbrev pub AddsEach : Bool → (Channel → Contents) → List Receiving → P → P → Type 0
  AddsEach forgets_printed has [] old new = new ≡ old
  AddsEach forgets_printed has (end ∷ ends) old new =
      (mid : P) × AddsChannel forgets_printed (has end.channel) end.number old mid
      × AddsEach forgets_printed has ends mid new

-- The station has what the store has: it was offered all records that were offered, it gained all
-- that had arrived, it recalled what was kept of each channel, and then it may have forgotten
-- records that are known to have arrived.
module _ {P : Type 0} (offered : P → ℕ → ℕ → List ℕ → P)
    (gains : P → ℕ → List ℕ → P → Type 0) (forgets : P → ℕ → ℕ → P → Type 0)
    (recalled : P → ℕ → ℕ → KeptSender → P) (forgets_known : P → P → Type 0) where
  pub record IsFilledFrom (has : Channel → Contents) (forgets_printed : Bool)
      (sending : List Sending) (receiving : List Receiving) (old new : P) : Type 0 where
    pub mid : P
    pub adds : AddsEach gains forgets forgets_printed has receiving
        (offered_each offered has sending old) mid
    pub forgot : forgets_known (recalled_each recalled has sending mid) new

-- So it is of a control station, and of a terminal.
abbrev pub IsControlFilledFrom : (Channel → Contents) → Bool → List Sending → List Receiving
    → ControlValue → ControlValue → Type 0
IsControlFilledFrom =
    IsFilledFrom offered_at GainsFrom ForgetsArrivedFrom recalled_at ForgetsSent

abbrev pub IsTerminalFilledFrom : (Channel → Contents) → Bool → List Sending → List Receiving
    → LineTerminalValue → LineTerminalValue → Type 0
IsTerminalFilledFrom =
    IsFilledFrom own_offered GainsFor ForgetsArrivedFor own_recalled ForgetsOwn

-- What keeps the records of the station knows how much of each channel the store has.
pub record KeepsFrom {K : Type 0} (has : Channel → Contents) (sending : List Sending)
    (receiving : List Receiving) (keeper : Keeper K) : Type 0 where
  pub sends : keeper.sending.items ≡ map (sending_from has) sending
  pub receives : keeper.receiving.items ≡ map (receiving_from has) receiving
