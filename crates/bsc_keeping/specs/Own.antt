-- The channels of a station, of which nothing is kept yet.
use Rattle.std.specs.Prelude.{ℕ, zero, suc, List, [], ◌∷◌, ◌++◌, length, slice_index_or, slice_get}
use Rattle.std.specs.Prelude.{Option, Some, None}
use Rattle.bsc_bid.specs.Terminal.{TerminalValue}
use Rattle.bsc_spool.specs.declared.channel.Channel.{Channel}
use Rattle.bsc_spool.specs.declared.channel.Channel.TheVariants.{From, To}
use Rattle.bsc_spool.specs.declared.ends.Sending.{Sending}
use Rattle.bsc_spool.specs.declared.ends.Receiving.{Receiving}
use Rattle.bsc_bid.specs.declared.speaker.Speaker.{Speaker}
use Rattle.bsc_bid.specs.declared.speaker.Speaker.TheVariants.{Control, Terminal}

-- The end of a channel on which a station sends, and of one on which it receives.
abbrev pub sending_end : Channel → ℕ → ℕ → Sending
sending_end its t s =
    record { channel = its; terminal = t; select = s; known = 0; in_doubt = 0 }

abbrev pub receiving_end : Channel → ℕ → Receiving
receiving_end its n = record { channel = its; number = n; arrived = 0; printed = 0 }

-- The channel to a terminal at the selection address with this number.
abbrev pub channel_to : TerminalValue → ℕ → Channel
channel_to t s = To (slice_index_or t.selects s [])

-- What each of the first numbers gives, this many, in order.
abbrev pub each_of : {A : Type 0} → (ℕ → List A) → ℕ → List A
each_of f zero = []
each_of f (suc n) = each_of f n ++ f n

-- The channels to the selection addresses of a terminal: at the control station, which knows the
-- terminal by a number, and at the terminal.
abbrev pub selection_of : TerminalValue → ℕ → ℕ → List Sending
selection_of t number s = sending_end (channel_to t s) number s ∷ []

abbrev pub selections_of : TerminalValue → ℕ → List Sending
selections_of t number = each_of (selection_of t number) (length t.selects)

abbrev pub spool_of : TerminalValue → ℕ → List Receiving
spool_of t s = receiving_end (channel_to t s) s ∷ []

abbrev pub spools_of : TerminalValue → List Receiving
spools_of t = each_of (spool_of t) (length t.selects)

-- The terminal with this number.
abbrev pub terminal_at : List TerminalValue → ℕ → TerminalValue
terminal_at ts number = slice_index_or ts number (record { poll = []; selects = [] })

-- The channels on which the control station sends to a terminal, and on which it receives from it.
abbrev pub selections_at : List TerminalValue → ℕ → List Sending
selections_at ts number = selections_of (terminal_at ts number) number

abbrev pub polled_at : List TerminalValue → ℕ → List Receiving
polled_at ts number = receiving_end (From (terminal_at ts number).poll) number ∷ []

-- The channels on which a terminal sends and receives, if there is such a terminal.
abbrev pub sends_from : Option TerminalValue → List Sending
sends_from None = []
sends_from (Some t) = sending_end (From t.poll) 0 0 ∷ []

abbrev pub receives_at : Option TerminalValue → List Receiving
receives_at None = []
receives_at (Some t) = spools_of t

-- The channels on which a station sends, in order: the control station to each selection address of
-- each terminal, a terminal on its one channel.
abbrev pub sending_of : List TerminalValue → Speaker → List Sending
sending_of ts Control = each_of (selections_at ts) (length ts)
sending_of ts (Terminal number) = sends_from (slice_get ts number)

-- The channels on which it receives: the control station from each terminal, a terminal at each of
-- its selection addresses.
abbrev pub receiving_of : List TerminalValue → Speaker → List Receiving
receiving_of ts Control = each_of (polled_at ts) (length ts)
receiving_of ts (Terminal number) = receives_at (slice_get ts number)
