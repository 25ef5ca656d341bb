-- The records that arrived at a control station. This is the project's own.
use Rattle.std.specs.Prelude.{◌≡◌, ◌⊎◌, ℕ, List, length, slice_get, Result, Ok}
use Rattle.bsc_control.specs.Control.{ControlValue, peer_at}
use Rattle.bsc_embed.specs.Records.{PutsRecord}
use Rattle.bsc_embed.specs.declared.interface.fault.Fault.{Fault}
use Rattle.bsc_embed.specs.ControlAddressing.{HasTerminal, LacksTerminal}

-- The number of the records that arrived from this terminal.
pub record Counts (t new : ℕ) (c : ControlValue) (answer : Result (Unit {0}) Fault) : Type 0 where
  pub terminal : HasTerminal c t
  pub done : answer ≡ Ok tt
  pub count : new ≡ length (peer_at c t).spool.records

-- How many records arrived from a terminal, if there is such a terminal: its number, the count as
-- it was and as it is, the station, and the answer.
abbrev pub GetsArrivals : ℕ → ℕ → ℕ → ControlValue → Result (Unit {0}) Fault → Type 0
GetsArrivals t old new c answer =
    Counts t new c answer ⊎ (LacksTerminal c t answer × (new ≡ old))

-- The record of this number that arrived from this terminal is put into the buffer.
pub record Gives (t index : ℕ) (old : List ℕ) (old_len : ℕ) (new : List ℕ) (len : ℕ)
    (c : ControlValue) (answer : Result (Unit {0}) Fault) : Type 0 where
  pub terminal : HasTerminal c t
  pub puts : PutsRecord (slice_get (peer_at c t).spool.records index) old old_len new len answer

-- There is no such terminal, and the buffer and the length are as they were.
pub record GivesNothing (t : ℕ) (old : List ℕ) (old_len : ℕ) (new : List ℕ) (len : ℕ)
    (c : ControlValue) (answer : Result (Unit {0}) Fault) : Type 0 where
  pub terminal : LacksTerminal c t answer
  pub buffer : new ≡ old
  pub length : len ≡ old_len

-- A record that arrived from a terminal: the numbers of the terminal and of the record, the buffer
-- and the length as they were and as they are, the station, and the answer.
abbrev pub GetsArrived : ℕ → ℕ → List ℕ → ℕ → List ℕ → ℕ → ControlValue
    → Result (Unit {0}) Fault → Type 0
GetsArrived t index old old_len new len c answer =
    Gives t index old old_len new len c answer ⊎ GivesNothing t old old_len new len c answer
