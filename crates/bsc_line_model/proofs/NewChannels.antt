-- On a new line, no record is offered, known or spooled.
use Rattle.std.proofs.Common.{◌≡◌, ℕ, ◌<◌, List, [], length, get_or, sym, ◌∙◌, ap, subst, arith}
use Rattle.std.proofs.lemmas.List.{get_or-replicate}
use Rattle.bsc_spool.specs.Queue.{QueueValue, queue_of}
use Rattle.bsc_bid.specs.Channel.{channel}
use Rattle.bsc_bid.specs.Setup.{SetupValue}
use Rattle.bsc_bid.specs.Terminal.{TerminalValue}
use Rattle.bsc_tributary.specs.Tributary.{spool_at, empty_spool}
use Rattle.bsc_bid.specs.declared.way.Way.{Way}
use Rattle.bsc_bid.specs.declared.way.Way.TheVariants.{FromTerminal, ToTerminal}
use Rattle.bsc_control.specs.Peer.{OutboundValue, IsPeer, IsNewPeer, no_peer, no_outbound}
use Rattle.bsc_control.specs.Peer.{new_outbound}
use Rattle.bsc_control.specs.Control.{peer_at}
use Rattle.bsc_control.specs.Kept.{outbound_of}
use Rattle.bsc_line_model.specs.Line.{LineValue, terminal_at, IsChannel, channel_of}
use Rattle.bsc_line_model.specs.Kept.{IsLine, IsNewLine}
use Rattle.bsc_tributary.specs.Kept.{IsNewTerminal}
use Rattle.bsc_line_model.specs.StepLaws.{no_records}
use Rattle.bsc_line_model.proofs.Soundness.{peer_has_way}

-- what the control station keeps for a terminal is new
new_peer : (setup : SetupValue) (given : List TerminalValue) (poll_list : List ℕ) (l : LineValue)
    (t : ℕ) → IsLine l → IsNewLine setup given poll_list l → t < length l.terminals
    → IsNewPeer setup (peer_at l.control t).terminal (peer_at l.control t)
new_peer setup given poll_list l t line new less = let there : t < length l.control.peers =
    omega (arith, line.stations.count) in new.control.peers t no_peer there

-- and so is the terminal
new_terminal : (setup : SetupValue) (given : List TerminalValue) (poll_list : List ℕ)
    (l : LineValue) (t : ℕ) → IsNewLine setup given poll_list l → t < length l.terminals
    → IsNewTerminal setup (get_or given t no_peer.terminal) (terminal_at l t)
new_terminal setup given poll_list l t new less = let before : t < length given =
    omega (arith, new.terminals.count) in new.terminals.each t before

pub new_channels : (setup : SetupValue) (given : List TerminalValue) (poll_list : List ℕ)
    (l : LineValue) (t : ℕ) (way : Way) → IsLine l → IsNewLine setup given poll_list l
    → IsChannel l t way → channel_of l t way ≡ no_records
new_channels setup given poll_list l t FromTerminal line new is =
    let x : IsNewTerminal setup (get_or given t no_peer.terminal) (terminal_at l t) =
    new_terminal setup given poll_list l t new is.there in
    let p : IsNewPeer setup (peer_at l.control t).terminal (peer_at l.control t) =
    new_peer setup given poll_list l t line new is.there in
    ap (λ (q : QueueValue). channel q (peer_at l.control t).spool.records) x.queue
    ∙ ap (λ (rs : List (List ℕ)). channel (queue_of setup.format [] 0) rs) p.nothing_spooled
new_channels setup given poll_list l t (ToTerminal s) line new is =
    let x : IsNewTerminal setup (get_or given t no_peer.terminal) (terminal_at l t) =
    new_terminal setup given poll_list l t new is.there in
    let p : IsNewPeer setup (peer_at l.control t).terminal (peer_at l.control t) =
    new_peer setup given poll_list l t line new is.there in
    let before : t < length l.control.peers = omega (arith, line.stations.count, is.there) in
    let of_peer : IsPeer (peer_at l.control t) =
    line.stations.control.entries.peers t no_peer before in
    let within : s < length (peer_at l.control t).outbounds =
    peer_has_way l.control l.terminals t (ToTerminal s) line.stations is.there is.its_way in
    let select : s < length (peer_at l.control t).terminal.selects =
    subst (λ (n : ℕ). s < n) of_peer.outbounds within in
    let into : s < length (terminal_at l t).spools =
    subst (λ (n : ℕ). s < n) (sym x.tributary.spools) is.its_way in
    let o : outbound_of l.control t s ≡ new_outbound setup =
    ap (λ (os : List OutboundValue). get_or os s no_outbound) p.outbounds
    ∙ get_or-replicate (length (peer_at l.control t).terminal.selects) s (new_outbound setup)
    no_outbound select in
    ap (λ (z : OutboundValue). channel z.queue (spool_at (terminal_at l t).spools s).records) o
    ∙ ap (λ (rs : List (List ℕ)). channel (new_outbound setup).queue rs)
    (x.spools s empty_spool into).0
