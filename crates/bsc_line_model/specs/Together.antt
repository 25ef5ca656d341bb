-- How the stations of a trusted line fit together, by the task of the control station. Every event
-- keeps it, and it implies that each channel is sound.
use Rattle.std.specs.Prelude.{◌≡◌, ◌≢◌, ◌⊎◌, ◌<◌, ℕ, Bool, true, false, List, length, Option, None}
use Rattle.std.specs.Prelude.{Some}
use Rattle.bsc_frame.specs.declared.message.Message.{Message}
use Rattle.bsc_frame.specs.declared.message.Message.TheVariants as m
use Rattle.bsc_bid.specs.declared.alternation.Alternation.TheVariants.{Even}
use Rattle.bsc_frame.specs.declared.reply.Reply.{Reply}
use Rattle.bsc_frame.specs.declared.reply.Reply.TheVariants.{Ack0, Nak, Wack}
use Rattle.bsc_bid.specs.Agreement.{Flight, Still, Outward, Back, InBid, IsResting}
use Rattle.bsc_bid.specs.Channel.{IsSound}
use Rattle.bsc_bid.specs.Fair.{IsTextMessage}
use Rattle.bsc_tributary.specs.declared.mode.Mode.TheVariants as mode
use Rattle.bsc_tributary.specs.Tributary.{TributaryValue, spool_at}
use Rattle.bsc_control.specs.declared.task.Task.{Task}
use Rattle.bsc_control.specs.declared.task.Task.TheVariants.{AtRest, Selecting, Sending, Polling}
use Rattle.bsc_control.specs.declared.task.Replied.{Replied}
use Rattle.bsc_control.specs.declared.task.Replied.TheVariants.{Nothing}
use Rattle.bsc_bid.specs.declared.way.Way.{Way}
use Rattle.bsc_control.specs.Peer.{PeerValue, outbound_at}
use Rattle.bsc_control.specs.Control.{ControlValue, peer_at, peer, current}
use Rattle.bsc_control.specs.Table.{select_address}
use Rattle.bsc_bid.specs.declared.speaker.Speaker.{Speaker}
use Rattle.bsc_bid.specs.declared.speaker.Speaker.TheVariants.{Control, Terminal}
use Rattle.bsc_line_model.specs.declared.transmission.Transmission.{Transmission}
use Rattle.bsc_line_model.specs.Transmission.{speaker_of}
use Rattle.bsc_line_model.specs.Line.{LineValue, terminal_in, IsChannel, channel_of, phase_of}

-- the channel from the terminal is sound, whether or not its sender still asks
abbrev pub RestsUp : PeerValue → TributaryValue → Type 0
RestsUp p x = IsResting x.sender.phase x.queue p.spool.records

-- the channel to the terminal's selection address s is sound, whether or not its sender still asks
abbrev pub RestsDown : PeerValue → TributaryValue → ℕ → Type 0
RestsDown p x s =
    IsResting (outbound_at p s).sender.phase (outbound_at p s).queue (spool_at x.spools s).records

-- the channels from and to this terminal are sound; its other end takes no part in a bid
pub record Rests (p : PeerValue) (x : TributaryValue) : Type 0 where
  pub up : RestsUp p x
  pub down : (s : ℕ) → s < length p.outbounds → RestsDown p x s

-- no bid with this terminal is in progress, and its channels are sound
pub record HasNoBid (p : PeerValue) (x : TributaryValue) : Type 0 where
  pub mode : x.mode ≢ mode.Sending
  pub up : RestsUp p x
  pub down : (s : ℕ) → s < length p.outbounds → RestsDown p x s

-- no bid with any terminal but this one is in progress, and the channels of the others are sound
abbrev pub NoOtherBids : ControlValue → List TributaryValue → ℕ → Type 0
NoOtherBids c ts e = (t : ℕ) → t < length ts → t ≢ e → HasNoBid (peer_at c t) (terminal_in ts t)

-- no bid is in progress, and all channels are sound
abbrev pub NoBids : ControlValue → List TributaryValue → Type 0
NoBids c ts = (t : ℕ) → t < length ts → HasNoBid (peer_at c t) (terminal_in ts t)

-- all terminals are in control mode
abbrev pub AllInControlMode : List TributaryValue → Type 0
AllInControlMode ts = (t : ℕ) → t < length ts → (terminal_in ts t).mode ≡ mode.Control

-- a terminal that was selected, and has taken no text since
pub record IsFresh (x : TributaryValue) (s : ℕ) : Type 0 where
  pub mode : x.mode ≡ mode.Receiving s
  pub even : x.receiver.alternation ≡ Even
  pub last : (x.receiver.last ≡ Ack0) ⊎ (x.receiver.last ≡ Wack)

-- the answer of a selected terminal: NAK if all are in control mode, else its last reply while it
-- is fresh
abbrev pub IsAnswer : Message → TributaryValue → ℕ → List TributaryValue → Type 0
IsAnswer (m.Reply Nak) x s ts = AllInControlMode ts
IsAnswer (m.Reply Ack0) x s ts = IsFresh x s × (x.receiver.last ≡ Ack0)
IsAnswer (m.Reply Wack) x s ts = IsFresh x s × (x.receiver.last ≡ Wack)
IsAnswer _ x s ts = ⊥

-- a terminal whose selection address is called: what the control station has of it, its number, the
-- address, the terminal, and all terminals of the line
pub record Selected : Type 0 where
  pub peer : PeerValue
  pub number : ℕ
  pub select : ℕ
  pub terminal : TributaryValue
  pub terminals : List TributaryValue

abbrev pub selected : PeerValue → ℕ → ℕ → TributaryValue → List TributaryValue → Selected
selected p e s x ts =
    record { peer = p; number = e; select = s; terminal = x; terminals = ts }

-- the message that is pending while a selection address is called: the call, or ENQ if ENQ was sent
-- last; or the answer
abbrev pub IsSelectedBy : Speaker → Message → Bool → Selected → Type 0
IsSelectedBy Control w true called = w ≡ m.Enq
IsSelectedBy Control w false called = w ≡ m.Call (select_address called.peer.terminal called.select)
IsSelectedBy (Terminal t) w enquired called =
    (t ≡ called.number) × IsAnswer w called.terminal called.select called.terminals

abbrev pub IsSelectedWith : Option Transmission → Bool → Selected → Type 0
IsSelectedWith None enquired called = Unit {0}
IsSelectedWith (Some sent) enquired called =
    IsSelectedBy sent.speaker sent.message enquired called

-- if ENQ was sent last, the terminal is fresh, or it began again since, and all terminals are in
-- control mode
abbrev pub IsFreshAfter : Bool → TributaryValue → ℕ → List TributaryValue → Type 0
IsFreshAfter true x s ts = IsFresh x s ⊎ AllInControlMode ts
IsFreshAfter false x s ts = Unit {0}

-- the message under way in a bid to terminal e
abbrev pub FliesDownBy : Speaker → Message → ℕ → Flight → Type 0
FliesDownBy Control w e f = f ≡ Outward w
FliesDownBy (Terminal t) w e f = (t ≡ e) × ((r : Reply) × (w ≡ m.Reply r) × (f ≡ Back r))

abbrev pub FliesDown : Option Transmission → ℕ → Flight → Type 0
FliesDown None e f = f ≡ Still
FliesDown (Some sent) e f = FliesDownBy sent.speaker sent.message e f

-- the message under way in a bid of terminal e
abbrev pub FliesUpBy : Speaker → Message → ℕ → Flight → Type 0
FliesUpBy Control w e f = (r : Reply) × (w ≡ m.Reply r) × (f ≡ Back r)
FliesUpBy (Terminal t) w e f = (t ≡ e) × (f ≡ Outward w)

abbrev pub FliesUp : Option Transmission → ℕ → Flight → Type 0
FliesUp None e f = f ≡ Still
FliesUp (Some sent) e f = FliesUpBy sent.speaker sent.message e f

-- a bid to selection address s of terminal e is in progress
pub record IsInBidDown (pending : Option Transmission) (p : PeerValue) (e s : ℕ)
    (x : TributaryValue) : Type 0 where
  pub mode : x.mode ≡ mode.Receiving s
  pub up : RestsUp p x
  pub down : (k : ℕ) → k < length p.outbounds → k ≢ s → RestsDown p x k
  pub flight : Flight
  pub flies : FliesDown pending e flight
  pub bid : InBid (outbound_at p s).sender.phase (outbound_at p s).queue x.receiver.alternation
      x.receiver.last (spool_at x.spools s).records flight

-- what a sender sends in a bid: a text or ENQ
abbrev pub IsBidMessage : Message → Type 0
IsBidMessage w = IsTextMessage w ⊎ (w ≡ m.Enq)

-- what may be pending after the other end of a bid of the control station began again: nothing, or
-- a transmission of the control station, which nobody answers
abbrev pub IsUnheard : Option Transmission → Type 0
IsUnheard None = Unit {0}
IsUnheard (Some sent) = (sent.speaker ≡ Control) × IsBidMessage sent.message

-- the terminal to which the control station sends began again: it is in control mode, as all others
-- are, and takes no part in the bid any more
pub record IsLeftByReceiver (pending : Option Transmission) (p : PeerValue) (x : TributaryValue)
    (ts : List TributaryValue) : Type 0 where
  pub modes : AllInControlMode ts
  pub rests : Rests p x
  pub unheard : IsUnheard pending

-- a bid of terminal e is in progress
pub record IsInBidUp (pending : Option Transmission) (p : PeerValue) (e : ℕ) (x : TributaryValue)
    : Type 0 where
  pub mode : x.mode ≡ mode.Sending
  pub down : (k : ℕ) → k < length p.outbounds → RestsDown p x k
  pub flight : Flight
  pub flies : FliesUp pending e flight
  pub bid : InBid x.sender.phase x.queue p.receiver.alternation p.receiver.last
      p.spool.records flight

-- the message that is pending in a poll in which no bid is in progress: the call, if no reply was
-- sent; a reply to a terminal that began again since, if all are in control mode; or EOT, if all
-- are in control mode
abbrev pub IsPolledBy : Speaker → Message → Replied → PeerValue → ℕ → List TributaryValue → Type 0
IsPolledBy Control w replied p e ts =
    ((w ≡ m.Call p.terminal.poll) × (replied ≡ Nothing))
    ⊎ ((r : Reply) × (w ≡ m.Reply r) × AllInControlMode ts)
IsPolledBy (Terminal t) w replied p e ts = (t ≡ e) × (w ≡ m.Eot) × AllInControlMode ts

abbrev pub IsPolledWith :
    Option Transmission → Replied → PeerValue → ℕ → List TributaryValue → Type 0
IsPolledWith None replied p e ts = Unit {0}
IsPolledWith (Some sent) replied p e ts = IsPolledBy sent.speaker sent.message replied p e ts

-- the stations fit together during this task
pub record IsSelecting (pending : Option Transmission) (c : ControlValue)
    (ts : List TributaryValue) (s : ℕ) (enquired : Bool) : Type 0 where
  pub no_bids : NoBids c ts
  pub with_pending : IsSelectedWith pending enquired
      (selected (peer c) (current c) s (terminal_in ts (current c)) ts)
  pub fresh : IsFreshAfter enquired (terminal_in ts (current c)) s ts

pub record IsSending (pending : Option Transmission) (c : ControlValue)
    (ts : List TributaryValue) (s : ℕ) : Type 0 where
  pub others : NoOtherBids c ts (current c)
  pub present :
      IsInBidDown pending (peer c) (current c) s (terminal_in ts (current c))
      ⊎ IsLeftByReceiver pending (peer c) (terminal_in ts (current c)) ts

pub record IsPolling (pending : Option Transmission) (c : ControlValue)
    (ts : List TributaryValue) (replied : Replied) : Type 0 where
  pub others : NoOtherBids c ts (current c)
  pub present :
      (HasNoBid (peer c) (terminal_in ts (current c))
      × IsPolledWith pending replied (peer c) (current c) ts)
      ⊎ IsInBidUp pending (peer c) (current c) (terminal_in ts (current c))

-- the control station is at rest, from its start, since it began again, or since no terminal is
-- polled: it sent nothing; after it began again a terminal may still send, and all channels are
-- sound
pub record IsAtStart (pending : Option Transmission) (c : ControlValue)
    (ts : List TributaryValue) : Type 0 where
  pub silent : speaker_of pending ≢ Some Control
  pub rests : (t : ℕ) → t < length ts → Rests (peer_at c t) (terminal_in ts t)

abbrev pub InTask : Task → Option Transmission → ControlValue → List TributaryValue → Type 0
InTask AtRest pending c ts = IsAtStart pending c ts
InTask (Selecting s enquired) pending c ts = IsSelecting pending c ts s enquired
InTask (Sending s) pending c ts = IsSending pending c ts s
InTask (Polling replied) pending c ts = IsPolling pending c ts replied

-- the stations of a line fit together
abbrev pub AreTogether : LineValue → Type 0
AreTogether l = InTask l.control.task l.pending l.control l.terminals

-- each channel of the line is sound
abbrev pub AreSound : LineValue → Type 0
AreSound l =
    (t : ℕ) (way : Way) → IsChannel l t way → IsSound (phase_of l t way) (channel_of l t way)
