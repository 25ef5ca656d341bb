-- Noise changes no control station, and no control station answers it (GA27-3004: what is not
-- understood is not answered).
use Rattle.std.proofs.Common.{◌≡◌, ℕ, List, Option, refl, ap, sym, ◌∙◌}
use Rattle.std.proofs.lemmas.List.{set-get_or}
use Rattle.bsc_frame.specs.declared.message.Message.{Message}
use Rattle.bsc_frame.specs.declared.message.Heard.TheVariants.{Noise}
use Rattle.bsc_bid.specs.Receiver.{Rooms}
use Rattle.bsc_control.specs.declared.task.Task.{Task}
use Rattle.bsc_control.specs.declared.task.Task.TheVariants.{AtRest, Selecting, Sending, Polling}
use Rattle.bsc_control.specs.Peer.{OutboundValue, PeerValue, no_outbound, no_peer, outbound_at}
use Rattle.bsc_control.specs.Peer.{with_outbound}
use Rattle.bsc_control.specs.Control.{ControlValue, ControlStep, peer, current, with_current}
use Rattle.bsc_control.specs.Control.{quiet_step}
use Rattle.bsc_control.specs.Table.{Hears, task_step, rooms_after}
use Rattle.bsc_bid.specs.Station.{StaysQuiet}

-- writing back what was read changes nothing
present_peer_written_back : (c : ControlValue) → with_current c (peer c) ≡ c
present_peer_written_back c =
    ap (λ (ps : List PeerValue). record c { peers = ps }) (set-get_or c.peers (current c) no_peer)

outbound_written_back : (p : PeerValue) (s : ℕ) → with_outbound p s (outbound_at p s) ≡ p
outbound_written_back p s =
    ap (λ (os : List OutboundValue). record p { outbounds = os })
    (set-get_or p.outbounds s no_outbound)

quiet_on_noise_in_task : (c : ControlValue) (task : Task) (rooms : Rooms) → c.task ≡ task
    → task_step c task Noise rooms ≡ quiet_step c
quiet_on_noise_in_task c AtRest rooms is = refl
quiet_on_noise_in_task c (Selecting s enquired) rooms is = refl
quiet_on_noise_in_task c (Sending s) rooms is =
    ap (λ (p : PeerValue). quiet_step (with_current c p)) (outbound_written_back (peer c) s)
    ∙ ap quiet_step (present_peer_written_back c)
quiet_on_noise_in_task c (Polling replied) rooms is =
    ap (λ (d : ControlValue). quiet_step (record d { task = Polling replied })) (present_peer_written_back c)
    ∙ ap (λ (task : Task). quiet_step (record c { task = task })) (sym is)

pub noise_changes_nothing : (old new : ControlValue) (sent : Option Message)
    → Hears old Noise new sent → StaysQuiet old new sent
noise_changes_nothing old new sent h =
    let same : record { control = new; sent = sent } ≡ quiet_step old =
    h.row ∙ quiet_on_noise_in_task old old.task (rooms_after old Noise new) refl in
    (ap (λ (o : ControlStep). o.control) same, ap (λ (o : ControlStep). o.sent) same)
