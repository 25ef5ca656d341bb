-- The flags of a terminal (GA27-3004: NAK to a selection, and reverse interrupt), and its restart,
-- which is this project's own.
use Rattle.std.specs.Prelude.{◌≡◌, ℕ, nat_eq, not, true, Result, Ok}
use Rattle.bsc_tributary.specs.Tributary.{TributaryValue, restarted}
use Rattle.bsc_embed.specs.declared.interface.fault.Fault.{Fault}

-- The terminal accepts selections exactly if the number is not 0: the number, the terminal before
-- and after, and the answer.
abbrev pub SetsReady : ℕ → TributaryValue → TributaryValue → Result (Unit {0}) Fault → Type 0
SetsReady ready t u answer =
    (answer ≡ Ok tt) × (u ≡ record t { ready = not (nat_eq ready 0) })

-- The terminal asks for the line: the terminal before and after, and the answer.
abbrev pub SetsUrgent : TributaryValue → TributaryValue → Result (Unit {0}) Fault → Type 0
SetsUrgent t u answer = (answer ≡ Ok tt) × (u ≡ record t { urgent = true })

-- The terminal begins again: the terminal before and after, and the answer.
abbrev pub Restarts : TributaryValue → TributaryValue → Result (Unit {0}) Fault → Type 0
Restarts t u answer = (answer ≡ Ok tt) × (u ≡ restarted t)
