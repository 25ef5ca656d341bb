-- Noise changes no terminal, and no terminal answers it (GA27-3004: what is not understood is not
-- answered).
use Rattle.std.proofs.Common.{◌≡◌, List, refl, ap}
use Rattle.std.proofs.lemmas.List.{set-get_or}
use Rattle.bsc_frame.specs.declared.message.Heard.TheVariants.{Noise}
use Rattle.bsc_spool.specs.Spool.{SpoolValue}
use Rattle.bsc_bid.specs.Receiver.{Rooms}
use Rattle.bsc_tributary.specs.declared.mode.Mode.{Mode}
use Rattle.bsc_tributary.specs.declared.mode.Mode.TheVariants.{Control, Receiving, Sending}
use Rattle.bsc_tributary.specs.Tributary.{TributaryValue, mode_step, quiet_step, empty_spool}

pub quiet_on_noise_in_mode : (t : TributaryValue) (mode : Mode) (rooms : Rooms)
    → mode_step t mode Noise rooms ≡ quiet_step t
quiet_on_noise_in_mode t Control rooms = refl
quiet_on_noise_in_mode t (Receiving s) rooms =
    ap (λ (spools : List SpoolValue). quiet_step (record t { spools = spools }))
    (set-get_or t.spools s empty_spool)
quiet_on_noise_in_mode t Sending rooms = refl
