-- A new line keeps the invariant.
use Rattle.std.proofs.Common.{◌≡◌, ℕ, ◌<◌, Bool, List, [], length, None, get_or, refl, sym, ◌∙◌, ap}
use Rattle.std.proofs.Common.{subst, arith}
use Rattle.std.proofs.lemmas.List.{length-map}
use Rattle.bsc_bid.specs.Setup.{SetupValue}
use Rattle.bsc_bid.specs.Sender.{SenderValue}
use Rattle.bsc_bid.specs.Terminal.{TerminalValue}
use Rattle.bsc_tributary.specs.declared.mode.Mode.{Mode}
use Rattle.bsc_tributary.specs.declared.mode.Mode.TheVariants.{Control, Sending}
use Rattle.bsc_tributary.specs.Tributary.{TributaryValue, spool_at, empty_spool}
use Rattle.bsc_spool.specs.Queue.{QueueValue, IsQueue}
use Rattle.bsc_bid.specs.declared.phase.Phase.{Phase}
use Rattle.bsc_bid.specs.declared.phase.Phase.TheVariants.{Idle}
use Rattle.bsc_bid.specs.Agreement.{IsResting}
use Rattle.bsc_line_model.specs.Together.{NoBids, InTask}
use Rattle.std.proofs.lemmas.List.{get_or-replicate}
use Rattle.bsc_control.specs.Peer.{PeerValue, OutboundValue, IsPeer, IsNewPeer, no_peer}
use Rattle.bsc_control.specs.Peer.{no_outbound, new_outbound, outbound_at}
use Rattle.bsc_control.specs.Control.{ControlValue, peer_at}
use Rattle.bsc_control.specs.declared.task.Task.{Task}
use Rattle.bsc_control.specs.Kept.{IsControl, IsNewControl}
use Rattle.bsc_line_model.specs.Line.{terminal_in, line_of}
use Rattle.bsc_line_model.specs.Kept.{AreStations, IsTuned, IsLine, AreNewTerminals}
use Rattle.bsc_tributary.specs.Kept.{IsNewTerminal}
use Rattle.bsc_line_model.proofs.Stations.{peer_terminal}
use Rattle.bsc_line_model.proofs.Resting.{rests_of_no_bid}

-- a channel with nothing to send and nothing received
empty_rests : (phase : Phase) (q : QueueValue) (spooled : List (List ℕ)) → IsQueue q → phase ≡ Idle
    → q.known ≡ 0 → spooled ≡ [] → IsResting phase q spooled
empty_rests phase q spooled h idle none empty =
    subst (λ (k : Phase). IsResting k q spooled) (sym idle)
    (subst (λ (xs : List (List ℕ)). IsResting Idle q xs) (sym empty)
    (record {
      queue = h;
      counts = tt;
      sound =
          record { front = refl; known = omega (arith, none); spooled = sym none };
    }))

-- the stations of a new line
new_stations : (setup : SetupValue) (given : List TerminalValue) (poll_list : List ℕ)
    (c : ControlValue) (ts : List TributaryValue) → IsNewControl setup given poll_list c
    → IsControl c → AreNewTerminals setup given ts → AreStations c ts
new_stations setup given poll_list c ts new is made =
    let peers : length c.peers ≡ length given =
    sym (length-map c.peers (λ (p : PeerValue). p.terminal)) ∙ ap length new.terminals_given in
    record {
      control = is;
      count = peers ∙ sym made.count;
      members = λ t less.
          let before : t < length given = omega (arith, made.count) in
          let there : t < length c.peers = omega (arith, peers) in
          let x : IsNewTerminal setup (get_or given t no_peer.terminal) (terminal_in ts t) =
          made.each t before in
          record {
            tributary = x.tributary;
            addresses =
                x.terminal_given ∙ ap (λ (xs : List TerminalValue). get_or xs t no_peer.terminal)
                (sym new.terminals_given) ∙ peer_terminal c t there;
            setup = ap (λ (s : SenderValue). s.setup) x.sender ∙ sym new.setup_given;
          };
    }

-- no bid is in progress on a new line
no_bids_on_new_line : (setup : SetupValue) (given : List TerminalValue) (poll_list : List ℕ)
    (c : ControlValue) (ts : List TributaryValue) → IsNewControl setup given poll_list c
    → IsControl c → AreNewTerminals setup given ts → NoBids c ts
no_bids_on_new_line setup given poll_list c ts new is made t less =
    let stations : AreStations c ts = new_stations setup given poll_list c ts new is made in
    let before : t < length given = omega (arith, made.count) in
    let there : t < length c.peers = omega (arith, stations.count) in
    let x : IsNewTerminal setup (get_or given t no_peer.terminal) (terminal_in ts t) =
    made.each t before in
    let p : IsNewPeer setup (peer_at c t).terminal (peer_at c t) = new.peers t no_peer there in
    let of_peer : IsPeer (peer_at c t) = is.entries.peers t no_peer there in
    record {
      mode = λ sends. let both : Control ≡ Sending = sym x.mode ∙ sends in cc;
      up = empty_rests (terminal_in ts t).sender.phase (terminal_in ts t).queue
          (peer_at c t).spool.records x.tributary.ready.queue
          (ap (λ (s : SenderValue). s.phase) x.sender) (ap (λ (q : QueueValue). q.known) x.queue)
          p.nothing_spooled;
      down = λ s within.
          let select : s < length (peer_at c t).terminal.selects =
          subst (λ (n : ℕ). s < n) of_peer.outbounds within in
          let into : s < length (terminal_in ts t).spools =
          subst (λ (n : ℕ). s < n) (sym x.tributary.spools)
          (subst (λ (y : TerminalValue). s < length y.selects)
          (sym (stations.members t less).addresses) select) in
          let o : outbound_at (peer_at c t) s ≡ new_outbound setup =
          ap (λ (os : List OutboundValue). get_or os s no_outbound) p.outbounds
          ∙ get_or-replicate (length (peer_at c t).terminal.selects) s (new_outbound setup)
          no_outbound select in
          empty_rests (outbound_at (peer_at c t) s).sender.phase (outbound_at (peer_at c t) s).queue
          (spool_at (terminal_in ts t).spools s).records
          (of_peer.ready s no_outbound within).queue
          (ap (λ (z : OutboundValue). z.sender.phase) o)
          (ap (λ (z : OutboundValue). z.queue.known) o) (x.spools s empty_spool into).0;
    }

pub new_line : (setup : SetupValue) (given : List TerminalValue) (poll_list : List ℕ)
    (c : ControlValue) (ts : List TributaryValue) (trusted : Bool)
    → IsNewControl setup given poll_list c → IsControl c → AreNewTerminals setup given ts
    → IsLine (line_of c ts None trusted None)
new_line setup given poll_list c ts trusted new is made =
    record {
      stations = new_stations setup given poll_list c ts new is made;
      tuned = λ now t less.
          let before : t < length given = omega (arith, made.count) in
          subst (λ (n : Mode). IsTuned None t n) (sym (made.each t before).mode) tt;
      together = λ now.
          subst (λ (k : Task). InTask k None c ts) (sym new.task)
          (record {
            silent = λ none. cc;
            rests = λ t less.
                rests_of_no_bid (peer_at c t) (terminal_in ts t)
                (no_bids_on_new_line setup given poll_list c ts new is made t less);
          });
    }
