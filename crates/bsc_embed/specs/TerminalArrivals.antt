-- The records that arrived at a terminal. This is the project's own.
use Rattle.std.specs.Prelude.{◌≡◌, ◌⊎◌, ◌<◌, ◌≤◌, ℕ, List, length, slice_get, Result, Ok, Err}
use Rattle.bsc_tributary.specs.Tributary.{TributaryValue, spool_at}
use Rattle.bsc_embed.specs.Records.{PutsRecord}
use Rattle.bsc_embed.specs.declared.interface.fault.Fault.{Fault}
use Rattle.bsc_embed.specs.declared.interface.fault.Fault.TheVariants.{NoSuchAddress}

-- The terminal has a selection address of this number, counted from 0, or it has none.
abbrev pub HasAddress : TributaryValue → ℕ → Type 0
HasAddress t select = select < length t.terminal.selects

abbrev pub HasNoAddress : TributaryValue → ℕ → Type 0
HasNoAddress t select = length t.terminal.selects ≤ select

-- The number of the records that arrived for a selection address.
pub record Counts (select new : ℕ) (t : TributaryValue) (answer : Result (Unit {0}) Fault)
    : Type 0 where
  pub address : HasAddress t select
  pub done : answer ≡ Ok tt
  pub count : new ≡ length (spool_at t.spools select).records

-- There is no such address, and the count is as it was.
pub record CountsNothing (select old new : ℕ) (t : TributaryValue)
    (answer : Result (Unit {0}) Fault) : Type 0 where
  pub address : HasNoAddress t select
  pub fault : answer ≡ Err NoSuchAddress
  pub count : new ≡ old

-- How many records arrived for a selection address: its number, the count as it was and as it is,
-- the terminal, and the answer.
abbrev pub GetsArrivals : ℕ → ℕ → ℕ → TributaryValue → Result (Unit {0}) Fault → Type 0
GetsArrivals select old new t answer =
    Counts select new t answer ⊎ CountsNothing select old new t answer

-- The record of this number that arrived for a selection address is put into the buffer.
pub record Gives (select index : ℕ) (old : List ℕ) (old_len : ℕ) (new : List ℕ) (len : ℕ)
    (t : TributaryValue) (answer : Result (Unit {0}) Fault) : Type 0 where
  pub address : HasAddress t select
  pub puts : PutsRecord (slice_get (spool_at t.spools select).records index) old old_len new len
      answer

-- There is no such address, and the buffer and the length are as they were.
pub record GivesNothing (select : ℕ) (old : List ℕ) (old_len : ℕ) (new : List ℕ) (len : ℕ)
    (t : TributaryValue) (answer : Result (Unit {0}) Fault) : Type 0 where
  pub address : HasNoAddress t select
  pub fault : answer ≡ Err NoSuchAddress
  pub buffer : new ≡ old
  pub length : len ≡ old_len

-- A record that arrived for a selection address: the numbers of the address and of the record, the
-- buffer and the length as they were and as they are, the terminal, and the answer.
abbrev pub GetsArrived : ℕ → ℕ → List ℕ → ℕ → List ℕ → ℕ → TributaryValue
    → Result (Unit {0}) Fault → Type 0
GetsArrived select index old old_len new len t answer =
    Gives select index old old_len new len t answer
    ⊎ GivesNothing select old old_len new len t answer
