-- What is printed of the records that arrive at a station without a store.
use Rattle.std.specs.Prelude.{◌≡◌, ℕ, ◌<◌, ◌≤◌, true, Bool, List, length, Option, Result, OnOk}
use Rattle.std.specs.Prelude.{IfErr, Ok, slice_index}
use Rattle.std.specs.Io.KnownBytes.{Appends, Keeps}
use Rattle.bsc_bid.specs.declared.way.Way.{Way}
use Rattle.bsc_connections.specs.declared.awaited.LiveError.{LiveError}
use Rattle.bsc_connections.specs.declared.awaited.LiveError.TheVariants as live
use Rattle.bsc_report.specs.Arrivals.{AreCounted, MoreArePrinted, arrivals_of, arrived_on}
use Rattle.bsc_report.specs.declared.record_lines.RecordLines.{RecordLines}
use Rattle.bsc_spool.specs.declared.fault.StoreFault.{StoreFault}
use Rattle.bsc_station.specs.declared.party.Party as party_of
use Rattle.bsc_text.specs.Channels.{each_below}
use Rattle.bsc_keeping.specs.declared.printed.Printed.{Printed}

-- How records are printed, the number of records printed for each channel, what the writer holds,
-- as far as that is known, and whether that is flushed.
pub record Output : Type 0 where
  pub lines : RecordLines
  pub counts : List ℕ
  pub contents : Option (List ℕ)
  pub is_flushed : Bool

abbrev pub output_of : {W : Type 0} → (W → Option (List ℕ)) → Printed W → Output
output_of contents p =
    record {
      lines = p.lines;
      counts = p.printed.items;
      contents = contents p.out.out.now;
      is_flushed = p.out.is_flushed;
    }

-- What was written is flushed, and nothing else changes.
pub record IsFlushed (old new : Output) : Type 0 where
  pub lines : new.lines ≡ old.lines
  pub counts : new.counts ≡ old.counts
  pub contents : Keeps old.contents new.contents
  pub is_flushed : new.is_flushed ≡ true

-- The errors of printing the records.
abbrev pub IsUnprinted : LiveError → Type 0
IsUnprinted live.Unprinted = Unit {0}
IsUnprinted live.Memory = Unit {0}
IsUnprinted _ = ⊥

-- What is known of a station with memory of type M, and the station.
module _ {P M : Type 0} (party : party_of.Ghosts P M) (station : P) where
  -- The lines of the records that had not been printed are written, each once and in order, channel
  -- by channel, and counted; there is a count for each channel on which the station receives. If
  -- there was one, the writer is flushed.
  pub record PrintsArrivals (old new : Output) : Type 0 where
    pub channels : length old.counts ≡ party.receives station
    pub text : Appends old.contents new.contents
        (each_below (arrivals_of party station old.lines old.counts) (party.receives station))
    pub counted : AreCounted party station old.counts new.counts (party.receives station)
    pub lines : new.lines ≡ old.lines
    pub flushed : MoreArePrinted old.counts new.counts (party.receives station)
        → new.is_flushed ≡ true

  -- Every record that arrived at the station has been printed.
  abbrev pub ArePrinted : Output → Type 0
  ArePrinted output =
      (channel : ℕ) → channel < party.receives station
      → length (arrived_on party station channel) ≤ slice_index output.counts channel

-- That is what it is to keep what a station has changed that has no store. If it fails, the error
-- says that it is not printed.
abbrev pub KeepsPrinted : {S M W : Type 0} → party_of.Ghosts S M → (W → Option (List ℕ))
    → Printed W → S → Result (Unit {0}) LiveError → Printed W → Type 0
KeepsPrinted party contents old station result new =
    OnOk result (PrintsArrivals party station (output_of contents old) (output_of contents new))
    × IfErr result IsUnprinted

-- A record that is going to be offered is kept nowhere, and given back.
abbrev pub OffersUnkept : {Q : Type 0} → Q → ℕ → Way → List ℕ → Result (List ℕ) StoreFault → Q
    → Type 0
OffersUnkept old terminal way chars result new = (result ≡ Ok chars) × (new ≡ old)

-- All that has arrived is printed already.
abbrev pub PrintsNoMore : {S Q : Type 0} → Q → S → Q → Type 0
PrintsNoMore old station new = new ≡ old
