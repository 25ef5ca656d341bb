-- What is kept of a control station for the case that its process ends, and how a new one recalls
-- it. This is the project's own.
use Rattle.std.specs.Prelude.{◌≡◌, ◌⊎◌, ℕ, List, Result, Ok, Err, OnErr}
use Rattle.bsc_frame.specs.declared.limits.TheConstants.{MAX_CHARS}
use Rattle.bsc_spool.specs.Spool.{GainsRecord}
use Rattle.bsc_control.specs.Control.{ControlValue, peer_at, with_peer}
use Rattle.bsc_control.specs.Kept.{outbound_of}
use Rattle.bsc_control.specs.Stored.{answer_during, kept_of_side, recalled_during}
use Rattle.bsc_embed.specs.Records.{record_in}
use Rattle.bsc_embed.specs.Refusals.{as_recalled}
use Rattle.bsc_embed.specs.Counts.{stored_kept, kept_in}
use Rattle.bsc_embed.specs.declared.interface.counts.StoredKept.{StoredKept}
use Rattle.bsc_embed.specs.declared.interface.fault.Fault.{Fault}
use Rattle.bsc_embed.specs.declared.interface.fault.Fault.TheVariants.{Memory}
use Rattle.bsc_embed.specs.ControlAddressing.{HasTerminal, HasAddress}
use Rattle.bsc_embed.specs.ControlAddressing.{LacksTerminal, LacksAddress}

-- What is to be kept of the sending side of this address.
pub record IsKept (t s : ℕ) (kept : StoredKept) (c : ControlValue)
    (answer : Result (Unit {0}) Fault) : Type 0 where
  pub address : HasAddress c t s
  pub done : answer ≡ Ok tt
  pub value : kept ≡ stored_kept (kept_of_side (outbound_of c t s))

-- What is to be kept of the sending side of a selection address, if there is such an address: the
-- numbers of the terminal and of the address, what C had and gets, the station, and the answer.
abbrev pub GetsKept : ℕ → ℕ → StoredKept → StoredKept → ControlValue → Result (Unit {0}) Fault
    → Type 0
GetsKept t s old new c answer =
    IsKept t s new c answer ⊎ (LacksAddress c t s answer × (new ≡ old))

-- The record is the last that arrived from this terminal, and nothing else is changed.
pub record HasKept (t : ℕ) (r : List ℕ) (c d : ControlValue) : Type 0 where
  pub gains : GainsRecord (peer_at c t).spool r (peer_at d t).spool
  pub others : d ≡ with_peer c t (record (peer_at c t) { spool = (peer_at d t).spool })

-- What was read is kept: a record, unless there is no memory for it; a fault is the answer. On a
-- fault the station is as it was.
abbrev pub KeepsRead : Result (List ℕ) Fault → ℕ → ControlValue → ControlValue
    → Result (Unit {0}) Fault → Type 0
KeepsRead (Err fault) t c d answer = (answer ≡ Err fault) × (d ≡ c)
KeepsRead (Ok r) t c d (Ok done) = HasKept t r c d
KeepsRead (Ok r) t c d (Err f) = (f ≡ Memory) × (d ≡ c)

-- A record that had arrived from a terminal, if there is such a terminal: its number, the codes,
-- the station before and after, and the answer.
abbrev pub KeepsArrived : ℕ → List ℕ → ControlValue → ControlValue → Result (Unit {0}) Fault
    → Type 0
KeepsArrived t codes c d answer =
    (HasTerminal c t × KeepsRead (record_in MAX_CHARS codes) t c d answer)
    ⊎ (LacksTerminal c t answer × (d ≡ c))

-- What was kept of the sending side of this address is recalled, or the recall is refused and the
-- station is as it was.
pub record RecallsThere (t s : ℕ) (kept : StoredKept) (c d : ControlValue)
    (answer : Result (Unit {0}) Fault) : Type 0 where
  pub address : HasAddress c t s
  pub answered : answer ≡ as_recalled (answer_during c c.task t s (kept_in kept))
  pub state : d ≡ recalled_during c c.task t s (kept_in kept)
  pub refused : OnErr answer (d ≡ c)

-- What was kept of the sending side of a selection address is recalled, if there is such an
-- address: the numbers of the terminal and of the address, what was kept, the station before and
-- after, and the answer.
abbrev pub Recalls : ℕ → ℕ → StoredKept → ControlValue → ControlValue → Result (Unit {0}) Fault
    → Type 0
Recalls t s kept c d answer =
    RecallsThere t s kept c d answer ⊎ (LacksAddress c t s answer × (d ≡ c))
