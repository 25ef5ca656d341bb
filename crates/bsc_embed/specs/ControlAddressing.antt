-- Which terminals and selection addresses a control station has (GA27-3004: selection addresses).
-- Their numbers, counted from 0, and the faults are this project's own.
use Rattle.std.specs.Prelude.{◌≡◌, ◌⊎◌, ◌<◌, ◌≤◌, ℕ, length, Result, Err}
use Rattle.bsc_control.specs.Control.{ControlValue, peer_at}
use Rattle.bsc_embed.specs.declared.interface.fault.Fault.{Fault}
use Rattle.bsc_embed.specs.declared.interface.fault.Fault.TheVariants.{NoSuchTerminal}
use Rattle.bsc_embed.specs.declared.interface.fault.Fault.TheVariants.{NoSuchAddress}

-- The station has a terminal of this number.
abbrev pub HasTerminal : ControlValue → ℕ → Type 0
HasTerminal c t = t < length c.peers

-- It has none, and this is the answer.
pub record LacksTerminal (c : ControlValue) (t : ℕ) (answer : Result (Unit {0}) Fault)
    : Type 0 where
  pub number : length c.peers ≤ t
  pub fault : answer ≡ Err NoSuchTerminal

-- The station has a terminal of this number, with a selection address of that number.
pub record HasAddress (c : ControlValue) (t s : ℕ) : Type 0 where
  pub terminal : HasTerminal c t
  pub select : s < length (peer_at c t).outbounds

-- The terminal has no such selection address, and this is the answer.
pub record LacksSelect (c : ControlValue) (t s : ℕ) (answer : Result (Unit {0}) Fault)
    : Type 0 where
  pub terminal : HasTerminal c t
  pub number : length (peer_at c t).outbounds ≤ s
  pub fault : answer ≡ Err NoSuchAddress

-- There is no such terminal, or it has no such selection address.
abbrev pub LacksAddress : ControlValue → ℕ → ℕ → Result (Unit {0}) Fault → Type 0
LacksAddress c t s answer = LacksTerminal c t answer ⊎ LacksSelect c t s answer
