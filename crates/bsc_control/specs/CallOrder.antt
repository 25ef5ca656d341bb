-- The call order of the control station: which call comes next (GA27-3004: polling and selection by
-- a poll list).
use Rattle.std.specs.Prelude.{ℕ, zero, suc, ◌+◌, ◌-◌, ◌<◌, Bool, true, false, nat_eq, nat_lt}
use Rattle.std.specs.Prelude.{List, ◌++◌, length, take, drop, position, Option, None, Some}
use Rattle.std.specs.Prelude.{if◌then◌else◌}
use Rattle.bsc_bid.specs.declared.way.Way.{Way}
use Rattle.bsc_bid.specs.declared.way.Way.TheVariants.{FromTerminal, ToTerminal}
use Rattle.bsc_control.specs.Peer.{PeerValue, is_selectable}
use Rattle.bsc_control.specs.Control.{ControlValue, peer_at, terminal_of_entry, current}

-- a way to the terminal is by one of this many selection addresses
abbrev pub IsWithin : Way → ℕ → Type 0
IsWithin FromTerminal count = Unit {0}
IsWithin (ToTerminal s) count = s < count

-- a call: an entry of the poll list, and the address of its terminal
pub record Call : Type 0 where
  pub place : ℕ
  pub way : Way

-- what a next call comes after: the start of the station; a selection of this address, or the bid
-- that it led to; a bid that was interrupted; a poll that was interrupted or not
pub data After : Type 0 where
  Start : After
  Selection : (select : ℕ) → After
  Interruption : After
  Poll : (interrupted : Bool) → After

-- the selection address this many numbers after `from`, or the polling address
abbrev pub way_at : ℕ → Option ℕ → Way
way_at from None = FromTerminal
way_at from (Some i) = ToTerminal (from + i)

-- the first selection address, from this number on, for which records wait without doubt; else the
-- polling address
abbrev pub way_from : PeerValue → ℕ → Way
way_from p from = way_at from (position is_selectable (drop from p.outbounds))

-- the first call of an entry
abbrev pub first_call : ControlValue → ℕ → Call
first_call c place =
    record { place = place; way = way_from (peer_at c (terminal_of_entry c place)) 0 }

-- a place in a list of this length that is read cyclically: the end is the first place again
abbrev pub wrapped : ℕ → ℕ → ℕ
wrapped count place = if nat_eq place count then 0 else place

-- the place of the entry after this one in the poll list; after the last entry comes the first
abbrev pub place_after : List ℕ → ℕ → ℕ
place_after list place = wrapped (length list) (place + 1)

-- the entry after the present one
abbrev pub next_place : ControlValue → ℕ
next_place c = place_after c.poll_list c.place

-- the call that is due if its terminal is polled
abbrev pub due_call : ControlValue → After → Call
due_call c Start = first_call c c.place
due_call c (Selection s) =
    record { place = c.place; way = way_from (peer_at c (current c)) (s + 1) }
due_call c Interruption = record { place = c.place; way = FromTerminal }
due_call c (Poll true) = first_call c c.place
due_call c (Poll false) = first_call c (next_place c)

-- this terminal is polled
abbrev pub is_polled : ControlValue → ℕ → Bool
is_polled c t = (peer_at c t).polled

-- the entries of a poll list in the order in which they come from this place on: those up to the
-- last one, and then those before the place
abbrev pub entries_from : List ℕ → ℕ → List ℕ
entries_from list place = drop place list ++ take place list

-- how many entries are passed over, from the one at this place on, up to the first whose terminal
-- is polled; None if no terminal in the poll list is polled
abbrev pub passed_over : ControlValue → ℕ → Option ℕ
passed_over c place = position (is_polled c) (entries_from c.poll_list place)

-- the place this many entries further on in a list of this length that is read cyclically
abbrev pub place_further : ℕ → ℕ → ℕ → ℕ
place_further count place more =
    if nat_lt (place + more) count then place + more else place + more - count

-- the place of the first entry from this one on whose terminal is polled; this one if no terminal
-- in the poll list is polled
abbrev pub place_past : ℕ → ℕ → Option ℕ → ℕ
place_past count place None = place
place_past count place (Some more) = place_further count place more

abbrev pub polled_place : ControlValue → ℕ → ℕ
polled_place c place = place_past (length c.poll_list) place (passed_over c place)

-- the call that is made in place of a due one if this many entries are passed over: the first call
-- of the entry after them
abbrev pub call_past : ControlValue → Call → Option ℕ → Call
call_past c call None = call
call_past c call (Some zero) = call
call_past c call (Some (suc more)) =
    first_call c (place_further (length c.poll_list) call.place (suc more))

-- the next call, if a terminal in the poll list is polled
abbrev pub next_call : ControlValue → After → Call
next_call c after = call_past c (due_call c after) (passed_over c (due_call c after).place)
