-- Whether a control station asks a terminal for the line (by the reverse interrupt of GA27-3004)
-- and whether it polls it, and its restart. Both flags and the restart are this project's own.
use Rattle.std.specs.Prelude.{◌≡◌, ◌⊎◌, ℕ, Bool, true, Result, Ok}
use Rattle.bsc_control.specs.Control.{ControlValue, peer_at, restarted, with_peer}
use Rattle.bsc_embed.specs.declared.interface.fault.Fault.{Fault}
use Rattle.bsc_embed.specs.ControlAddressing.{HasTerminal, LacksTerminal}

-- This terminal is asked for the line.
pub record IsAsked (t : ℕ) (c d : ControlValue) (answer : Result (Unit {0}) Fault) : Type 0 where
  pub terminal : HasTerminal c t
  pub done : answer ≡ Ok tt
  pub state : d ≡ with_peer c t (record (peer_at c t) { urgent = true })

-- A terminal is asked for the line, if there is such a terminal: its number, the station before and
-- after, and the answer.
abbrev pub SetsUrgent : ℕ → ControlValue → ControlValue → Result (Unit {0}) Fault → Type 0
SetsUrgent t c d answer = IsAsked t c d answer ⊎ (LacksTerminal c t answer × (d ≡ c))

-- This terminal is polled from now on, or passed over.
pub record IsSetPolled (t : ℕ) (polled : Bool) (c d : ControlValue)
    (answer : Result (Unit {0}) Fault) : Type 0 where
  pub terminal : HasTerminal c t
  pub done : answer ≡ Ok tt
  pub state : d ≡ with_peer c t (record (peer_at c t) { polled = polled })

-- A terminal is polled from now on or passed over, if there is such a terminal: its number, whether
-- it is polled, the station before and after, and the answer.
abbrev pub SetsPolled : ℕ → Bool → ControlValue → ControlValue → Result (Unit {0}) Fault → Type 0
SetsPolled t polled c d answer =
    IsSetPolled t polled c d answer ⊎ (LacksTerminal c t answer × (d ≡ c))

-- The station begins again: the station before and after, and the answer.
abbrev pub Restarts : ControlValue → ControlValue → Result (Unit {0}) Fault → Type 0
Restarts c d answer = (answer ≡ Ok tt) × (d ≡ restarted c)
