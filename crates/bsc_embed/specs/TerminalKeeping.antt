-- What is kept of a terminal for the case that its process ends, and how a new one recalls it. This
-- is the project's own.
use Rattle.std.specs.Prelude.{◌≡◌, ◌⊎◌, ℕ, List, slice_set, Result, Ok, Err, OnErr}
use Rattle.bsc_frame.specs.declared.limits.TheConstants.{MAX_CHARS}
use Rattle.bsc_spool.specs.Spool.{GainsRecord}
use Rattle.bsc_bid.specs.Stored.{kept_of, recall_step}
use Rattle.bsc_tributary.specs.Tributary.{TributaryValue, spool_at}
use Rattle.bsc_tributary.specs.Stored.{after_recall}
use Rattle.bsc_embed.specs.Records.{record_in}
use Rattle.bsc_embed.specs.Refusals.{as_recalled}
use Rattle.bsc_embed.specs.Counts.{stored_kept, kept_in}
use Rattle.bsc_embed.specs.declared.interface.counts.StoredKept.{StoredKept}
use Rattle.bsc_embed.specs.declared.interface.fault.Fault.{Fault}
use Rattle.bsc_embed.specs.declared.interface.fault.Fault.TheVariants.{Memory, NoSuchAddress}
use Rattle.bsc_embed.specs.TerminalArrivals.{HasAddress, HasNoAddress}

-- What is to be kept of the terminal: what C gets, the terminal, and the answer.
abbrev pub GetsKept : StoredKept → TributaryValue → Result (Unit {0}) Fault → Type 0
GetsKept kept t answer = (answer ≡ Ok tt) × (kept ≡ stored_kept (kept_of t.sender t.queue))

-- The record is the last that arrived for this selection address, and nothing else is changed.
pub record HasKept (select : ℕ) (r : List ℕ) (t u : TributaryValue) : Type 0 where
  pub gains : GainsRecord (spool_at t.spools select) r (spool_at u.spools select)
  pub others : u ≡ record t { spools = slice_set t.spools select (spool_at u.spools select) }

-- What was read is kept: a record, unless there is no memory for it; a fault is the answer. On a
-- fault the terminal is as it was.
abbrev pub KeepsRead : Result (List ℕ) Fault → ℕ → TributaryValue → TributaryValue
    → Result (Unit {0}) Fault → Type 0
KeepsRead (Err fault) select t u answer = (answer ≡ Err fault) × (u ≡ t)
KeepsRead (Ok r) select t u (Ok done) = HasKept select r t u
KeepsRead (Ok r) select t u (Err f) = (f ≡ Memory) × (u ≡ t)

-- There is such an address, and what was read is kept.
pub record Keeps (select : ℕ) (codes : List ℕ) (t u : TributaryValue)
    (answer : Result (Unit {0}) Fault) : Type 0 where
  pub address : HasAddress t select
  pub keeps : KeepsRead (record_in MAX_CHARS codes) select t u answer

-- There is no such address, and the terminal is as it was.
pub record KeepsNothing (select : ℕ) (t u : TributaryValue) (answer : Result (Unit {0}) Fault)
    : Type 0 where
  pub address : HasNoAddress t select
  pub fault : answer ≡ Err NoSuchAddress
  pub terminal : u ≡ t

-- A record that had arrived for a selection address: the number of the address, the codes, the
-- terminal before and after, and the answer.
abbrev pub KeepsArrived : ℕ → List ℕ → TributaryValue → TributaryValue
    → Result (Unit {0}) Fault → Type 0
KeepsArrived select codes t u answer =
    Keeps select codes t u answer ⊎ KeepsNothing select t u answer

-- What was kept is recalled, or the recall is refused and the terminal is as it was: what was kept,
-- the terminal before and after, and the answer.
pub record Recalls (kept : StoredKept) (t u : TributaryValue) (answer : Result (Unit {0}) Fault)
    : Type 0 where
  pub answered : answer ≡ as_recalled (recall_step t.sender t.queue (kept_in kept)).answer
  pub state : u ≡ after_recall t (kept_in kept)
  pub refused : OnErr answer (u ≡ t)
