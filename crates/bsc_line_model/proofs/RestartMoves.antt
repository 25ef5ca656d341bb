-- No channel moves when a station begins again.
use Rattle.std.proofs.Common.{◌<◌, ap, ◌∙◌, subst, sym, refl, length, Ok}
use Rattle.bsc_bid.specs.Channel.{channel}
use Rattle.bsc_tributary.specs.Tributary.{spool_at, restarted as restarted_tributary}
use Rattle.bsc_bid.specs.declared.way.Way.TheVariants.{FromTerminal, ToTerminal}
use Rattle.bsc_control.specs.Peer.{PeerValue, OutboundValue, outbound_at}
use Rattle.bsc_control.specs.Control.{peer_at}
use Rattle.bsc_bid.specs.declared.speaker.Speaker.{Speaker}
use Rattle.bsc_bid.specs.declared.speaker.Speaker.TheVariants.{Control, Terminal}
use Rattle.bsc_line_model.specs.Line.{LineValue, terminal_at}
use Rattle.bsc_line_model.specs.Restarts.{restarted, with_restarted, Restarts, IsParty}
use Rattle.bsc_line_model.specs.Kept.{IsLine}
use Rattle.bsc_line_model.specs.ChannelSteps.{MovesNothing}
use Rattle.bsc_line_model.proofs.Soundness.{peer_has_way}
use Rattle.bsc_line_model.proofs.ChannelMoves.{no_move_of_same_terminal}
use Rattle.bsc_line_model.proofs.ChannelMoves.{same_channels_of_same_stations}
use Rattle.bsc_line_model.proofs.EachEvent.{peer_of_terminal}
use Rattle.bsc_line_model.proofs.Restarting.{restarted_outbound_at, restarted_peer_at}

control_moves_nothing : (l : LineValue) → IsLine l → MovesNothing l (restarted l Control)
control_moves_nothing l line t FromTerminal is =
    ap (λ (p : PeerValue). channel (terminal_at l t).queue p.spool.records)
    (restarted_peer_at l.control t (peer_of_terminal l t line is.there))
control_moves_nothing l line t (ToTerminal s) is =
    let within : s < length (peer_at l.control t).outbounds =
    peer_has_way l.control l.terminals t (ToTerminal s) line.stations is.there is.its_way in
    ap (λ (p : PeerValue). channel (outbound_at p s).queue (spool_at (terminal_at l t).spools s).records)
    (restarted_peer_at l.control t (peer_of_terminal l t line is.there))
    ∙ ap (λ (o : OutboundValue). channel o.queue (spool_at (terminal_at l t).spools s).records)
    (restarted_outbound_at (peer_at l.control t) s within)

restarted_moves_nothing : (l : LineValue) (party : Speaker) → IsLine l → IsParty l party
    → MovesNothing l (restarted l party)
restarted_moves_nothing l Control line there u way is = control_moves_nothing l line u way is
restarted_moves_nothing l (Terminal t) line there u way is =
    same_channels_of_same_stations (with_restarted l (Terminal t)) (restarted l (Terminal t)) u way
    (refl, refl)
    ∙ no_move_of_same_terminal l t (restarted_tributary (terminal_at l t)) there refl refl u way is

pub restart_moves : (old new : LineValue) (party : Speaker) → IsLine old
    → Restarts old party (Ok tt) new → MovesNothing old new
restart_moves old new party line d =
    subst (λ (l : LineValue). MovesNothing old l) (sym d.1)
    (restarted_moves_nothing old party line d.0)
