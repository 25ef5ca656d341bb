-- If the stations fit together, each channel is sound.
use Rattle.std.proofs.Common.{ℕ, ◌<◌, List, length, sym, subst, arith}
use Rattle.bsc_bid.specs.Channel.{channel, IsSound}
use Rattle.bsc_bid.specs.Terminal.{TerminalValue}
use Rattle.bsc_tributary.specs.Tributary.{TributaryValue, spool_at}
use Rattle.bsc_bid.specs.declared.way.Way.{Way}
use Rattle.bsc_bid.specs.declared.way.Way.TheVariants.{FromTerminal, ToTerminal}
use Rattle.bsc_control.specs.Peer.{PeerValue, IsPeer, no_peer, outbound_at}
use Rattle.bsc_control.specs.Control.{ControlValue, peer_at}
use Rattle.bsc_line_model.specs.Line.{LineValue, terminal_in, terminal_at, IsWay, channel_of}
use Rattle.bsc_line_model.specs.Line.{phase_of}
use Rattle.bsc_line_model.specs.Kept.{AreStations}
use Rattle.bsc_line_model.specs.Together.{Rests, AreTogether, AreSound}
use Rattle.bsc_line_model.proofs.Resting.{rests_in_task}
use Rattle.bsc_line_model.specs.BidLaws.{BidLaws}

-- soundness of a channel between a terminal and what the control station keeps for it
abbrev IsSoundWith : PeerValue → TributaryValue → Way → Type 0
IsSoundWith p x FromTerminal = IsSound x.sender.phase (channel x.queue p.spool.records)
IsSoundWith p x (ToTerminal s) =
    IsSound (outbound_at p s).sender.phase
    (channel (outbound_at p s).queue (spool_at x.spools s).records)

-- a way to the terminal that the control station has
abbrev HasWay : PeerValue → Way → Type 0
HasWay p FromTerminal = Unit {0}
HasWay p (ToTerminal s) = s < length p.outbounds

rests_sound : (p : PeerValue) (x : TributaryValue) (way : Way) → HasWay p way → Rests p x
    → IsSoundWith p x way
rests_sound p x FromTerminal w q = q.up.sound
rests_sound p x (ToTerminal s) w q = (q.down s w).sound

-- a selection address of a terminal is one that the control station has
pub peer_has_way : (c : ControlValue) (ts : List TributaryValue) (t : ℕ) (way : Way) → AreStations c ts
    → t < length ts → IsWay (terminal_in ts t) way → HasWay (peer_at c t) way
peer_has_way c ts t FromTerminal stations less w = tt
peer_has_way c ts t (ToTerminal s) stations less w =
    let before : t < length c.peers = omega (arith, stations.count) in
    let of_peer : IsPeer (peer_at c t) = stations.control.entries.peers t no_peer before in
    let here : s < length (peer_at c t).terminal.selects =
    subst (λ (y : TerminalValue). s < length y.selects) (stations.members t less).addresses w in
    subst (λ (n : ℕ). s < n) (sym of_peer.outbounds) here

channel_sound_of_ends : (l : LineValue) (t : ℕ) (way : Way)
    → IsSoundWith (peer_at l.control t) (terminal_at l t) way
    → IsSound (phase_of l t way) (channel_of l t way)
channel_sound_of_ends l t FromTerminal h = h
channel_sound_of_ends l t (ToTerminal s) h = h

pub sound_of_together : (laws : BidLaws) (l : LineValue) → AreStations l.control l.terminals → AreTogether l
    → AreSound l
sound_of_together laws l stations together t way is =
    channel_sound_of_ends l t way (rests_sound (peer_at l.control t) (terminal_at l t) way
    (peer_has_way l.control l.terminals t way stations is.there is.its_way)
    (rests_in_task laws l.control.task l.pending l.control l.terminals t is.there together))
