-- What holds of every control station, and what a transmission or a silence may change of it.
use Rattle.std.specs.Prelude.{◌≡◌, ◌⊎◌, ◌≤◌, ◌<◌, ℕ, ◌+◌, true, false, List, ◌++◌, length, Option}
use Rattle.std.specs.Prelude.{Some, All}
use Rattle.bsc_frame.specs.declared.message.Message.{Message}
use Rattle.bsc_frame.specs.declared.message.Message.TheVariants as m
use Rattle.bsc_frame.specs.declared.message.Heard.{Heard}
use Rattle.bsc_frame.specs.declared.message.Heard.TheVariants.{Whole, Noise}
use Rattle.bsc_frame.specs.Texts.{TextValue}
use Rattle.bsc_block.specs.Blocks.{records_in}
use Rattle.bsc_spool.specs.Queue.{waiting}
use Rattle.bsc_bid.specs.declared.phase.Phase.{Phase}
use Rattle.bsc_bid.specs.declared.phase.Phase.TheVariants.{Idle}
use Rattle.bsc_bid.specs.Ready.{IsGoing, IsAtRest}
use Rattle.bsc_bid.specs.Receiver.{new_receiver}
use Rattle.bsc_frame.specs.Replies.{reply_in}
use Rattle.bsc_bid.specs.Setup.{SetupValue}
use Rattle.bsc_bid.specs.Terminal.{TerminalValue}
use Rattle.bsc_bid.specs.declared.limits.TheConstants.{MAX_TERMINALS, MAX_ENTRIES}
use Rattle.bsc_control.specs.declared.task.Replied.{Replied}
use Rattle.bsc_control.specs.declared.task.Replied.TheVariants.{Nothing, Uninterrupted, Interrupted}
use Rattle.bsc_control.specs.declared.task.Task.{Task}
use Rattle.bsc_control.specs.declared.task.Task.TheVariants.{AtRest, Selecting, Sending, Polling}
use Rattle.bsc_bid.specs.declared.way.Way.{Way}
use Rattle.bsc_bid.specs.declared.way.Way.TheVariants.{FromTerminal, ToTerminal}
use Rattle.bsc_bid.specs.Addresses.{IsAddressOf, AreDistinct}
use Rattle.bsc_control.specs.CallOrder.{Call, After, Start, Selection, Poll, next_call}
use Rattle.bsc_control.specs.Peer.{OutboundValue, PeerValue, IsNewPeer, outbound_at}
use Rattle.bsc_control.specs.Control.{ControlValue, HasEntries, terminals, peer_at, peer, current}
use Rattle.bsc_control.specs.Table.{Hears, ActsOnSilence, after_bid, is_interrupted}
use Rattle.bsc_bid.specs.Station.{StaysQuiet}

-- a selection address was called: records wait for it, and there is neither a doubt nor a bid
pub record IsSelected (p : PeerValue) (s : ℕ) : Type 0 where
  pub there : s < length p.outbounds
  pub idle : (outbound_at p s).sender.phase ≡ Idle
  pub some : 1 ≤ length (waiting (outbound_at p s).queue)

-- a bid to this selection address is in progress
pub record IsInBid (p : PeerValue) (s : ℕ) : Type 0 where
  pub there : s < length p.outbounds
  pub going : IsGoing (outbound_at p s).sender.phase

-- what the task requires of the present terminal; while nothing was replied in a poll, the receiver
-- is as new
abbrev pub SuitsTask : Task → PeerValue → Type 0
SuitsTask AtRest p = Unit {0}
SuitsTask (Selecting s enquired) p = IsSelected p s
SuitsTask (Sending s) p = IsInBid p s
SuitsTask (Polling Nothing) p = p.receiver ≡ new_receiver true
SuitsTask (Polling Uninterrupted) p = Unit {0}
SuitsTask (Polling Interrupted) p = Unit {0}

-- the sending side of this selection address of this terminal
abbrev pub outbound_of : ControlValue → ℕ → ℕ → OutboundValue
outbound_of c t s = outbound_at (peer_at c t) s

abbrev pub phase_of : ControlValue → ℕ → ℕ → Phase
phase_of c t s = (outbound_of c t s).sender.phase

-- the bid in progress is to this selection address of this terminal
abbrev pub IsInUse : ControlValue → ℕ → ℕ → Type 0
IsInUse c t s = (t ≡ current c) × (c.task ≡ Sending s)

-- the settings of a sender and the format of its queue are the station's
pub record HasSettings (c : ControlValue) (o : OutboundValue) : Type 0 where
  pub setup : o.sender.setup ≡ c.setup
  pub format : o.queue.format ≡ c.setup.format

-- the present terminal meets what the task requires, and no other bid is in progress
pub record IsOrderly (c : ControlValue) : Type 0 where
  pub suits : SuitsTask c.task (peer c)
  pub rests : (t s : ℕ) → (IsInUse c t s → ⊥) → IsAtRest (phase_of c t s)
  pub settings : (t s : ℕ) → s < length (peer_at c t).outbounds → HasSettings c (outbound_of c t s)

-- a control station: it has 1 to 64 terminals, whose addresses all differ, and at most 255 entries
-- in its poll list; each entry names a terminal; each queue has the records that its sender counts
-- on; and at most one bid is in progress
pub record IsControl (c : ControlValue) : Type 0 where
  pub some : 1 ≤ length c.peers
  pub few : length c.peers ≤ MAX_TERMINALS
  pub list : length c.poll_list ≤ MAX_ENTRIES
  pub distinct : AreDistinct (terminals c)
  pub entries : HasEntries c
  pub orderly : IsOrderly c

-- a new control station is at rest at the first entry, with nothing to send and nothing received
pub record IsNewControl (setup : SetupValue) (ts : List TerminalValue) (poll_list : List ℕ)
    (c : ControlValue) : Type 0 where
  pub setup_given : c.setup ≡ setup
  pub poll_list_given : c.poll_list ≡ poll_list
  pub terminals_given : terminals c ≡ ts
  pub place : c.place ≡ 0
  pub task : c.task ≡ AtRest
  pub failures : c.failures ≡ 0
  pub wacks : c.wacks ≡ 0
  pub peers : All (λ (p : PeerValue). IsNewPeer setup p.terminal p) c.peers

-- what stays: the settings, the poll list, the addresses, which terminals are polled, and the
-- records that were offered
pub record Keeps (old new : ControlValue) : Type 0 where
  pub setup : new.setup ≡ old.setup
  pub poll_list : new.poll_list ≡ old.poll_list
  pub terminals : terminals new ≡ terminals old
  pub peers : length new.peers ≡ length old.peers
  pub polled : (t : ℕ) → (peer_at new t).polled ≡ (peer_at old t).polled
  pub outbounds : (t : ℕ) → length (peer_at new t).outbounds ≡ length (peer_at old t).outbounds
  pub offered : (t s : ℕ)
      → (outbound_of new t s).queue.offered ≡ (outbound_of old t s).queue.offered

-- the task that begins with a call
abbrev pub IsTaskOf : Way → Task → Type 0
IsTaskOf FromTerminal task = task ≡ Polling Nothing
IsTaskOf (ToTerminal s) task = task ≡ Selecting s false

-- the address of this call is called, with the counters at 0; its terminal is polled
pub record IsCalled (c : ControlValue) (call : Call) (address : List ℕ) : Type 0 where
  pub place : c.place ≡ call.place
  pub called : IsAddressOf (terminals c) (current c) call.way address
  pub polled : (peer c).polled ≡ true
  pub task : IsTaskOf call.way c.task
  pub failures : c.failures ≡ 0
  pub wacks : c.wacks ≡ 0

-- what a next call comes after, if this is heard during this task
abbrev pub after_hearing : Task → Heard → After
after_hearing AtRest h = Start
after_hearing (Selecting s enquired) h = Selection s
after_hearing (Sending s) h = after_bid s (reply_in h)
after_hearing (Polling replied) h = Poll (is_interrupted replied)

-- what a next call comes after, if a silence passes during this task
abbrev pub after_silence : Task → After
after_silence AtRest = Start
after_silence (Selecting s enquired) = Selection s
after_silence (Sending s) = Selection s
after_silence (Polling replied) = Poll (is_interrupted replied)

-- a whole text was heard in a poll of terminal t, and its records were added to the old ones
pub record Stores (c : ControlValue) (h : Heard) (t : ℕ) (old new : List (List ℕ)) : Type 0 where
  pub text : TextValue
  pub heard : h ≡ Whole (m.Text text)
  pub replied : Replied
  pub polling : c.task ≡ Polling replied
  pub polled : t ≡ current c
  pub becomes : new ≡ old ++ records_in text.units

-- a spool is unchanged, or stores the records of a text
abbrev pub GrowsByText : ControlValue → Heard → ℕ → List (List ℕ) → List (List ℕ) → Type 0
GrowsByText c h t old new = (new ≡ old) ⊎ Stores c h t old new

-- the way that a task uses
abbrev pub way_of : Task → Way
way_of AtRest = FromTerminal
way_of (Selecting s enquired) = ToTerminal s
way_of (Sending s) = ToTerminal s
way_of (Polling replied) = FromTerminal

-- a call is repeated: the address is that of the unchanged task, and one more failure is counted
pub record IsRepeated (old new : ControlValue) (address : List ℕ) : Type 0 where
  pub place : new.place ≡ old.place
  pub task : new.task ≡ old.task
  pub called : IsAddressOf (terminals new) (current new) (way_of new.task) address
  pub failures : new.failures ≡ old.failures + 1

-- a control station after it heard a transmission: each call that it makes is the next one
pub record AfterHearing (old : ControlValue) (h : Heard) (new : ControlValue)
    (sent : Option Message) : Type 0 where
  pub control : IsControl new
  pub keeps : Keeps old new
  pub calls : (address : List ℕ) → sent ≡ Some (m.Call address)
      → IsCalled new (next_call old (after_hearing old.task h)) address
  pub spools : (t : ℕ)
      → GrowsByText old h t (peer_at old t).spool.records (peer_at new t).spool.records
  pub noise : h ≡ Noise → StaysQuiet old new sent

-- a control station after a silence: each call that it makes is the next one, or the same one again
pub record AfterSilence (old new : ControlValue) (sent : Option Message) : Type 0 where
  pub control : IsControl new
  pub keeps : Keeps old new
  pub calls : (address : List ℕ) → sent ≡ Some (m.Call address)
      → IsCalled new (next_call old (after_silence old.task)) address ⊎ IsRepeated old new address
  pub spools : (t : ℕ) → (peer_at new t).spool ≡ (peer_at old t).spool

-- a control station hears a transmission: the row of its table, and what the row keeps
pub record IsHearing (old : ControlValue) (h : Heard) (new : ControlValue) (sent : Option Message)
    : Type 0 where
  pub row : Hears old h new sent
  pub after : AfterHearing old h new sent

-- a silence passes at a control station: the row of its table, and what the row keeps
pub record IsSilence (old new : ControlValue) (sent : Option Message) : Type 0 where
  pub row : ActsOnSilence old new sent
  pub after : AfterSilence old new sent
