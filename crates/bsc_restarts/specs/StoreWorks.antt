-- What the works of an operator on a store, between two runs of a station, leave of the station.
use Rattle.std.specs.Prelude.{◌≡◌, ℕ, List, Option, Some, Ok}
use Rattle.bsc_bid.specs.Sender.{release_step}
use Rattle.bsc_bid.specs.declared.kept.KeptSender.{KeptSender}
use Rattle.bsc_tributary.specs.Tributary.{after_release, restarted}
use Rattle.bsc_control.specs.Control.{ControlValue, peer_at, with_peer}
use Rattle.bsc_control.specs.Kept.{outbound_of}
use Rattle.bsc_control.specs.Peer.{outbound_released, with_outbound}
use Rattle.bsc_spool.specs.Contents.{Contents}
use Rattle.bsc_spool.specs.declared.change.Change.TheVariants.{Known, Offered}
use Rattle.bsc_spool.specs.declared.channel.Channel.{Channel}
use Rattle.bsc_spool.specs.declared.ends.Receiving.{Receiving}
use Rattle.bsc_spool.specs.declared.ends.Sending.{Sending}
use Rattle.bsc_station.specs.LineTerminal.{LineTerminalValue, line_terminal_of}
use Rattle.bsc_keeping.specs.Offers.{channel_to}
use Rattle.bsc_restarts.specs.Crashes.{KeepsOne}
use Rattle.bsc_restarts.specs.Kept.{HasStation}

-- A terminal after a restart, one that released its doubt, and whether it accepts that count.
abbrev pub terminal_restarted : LineTerminalValue → LineTerminalValue
terminal_restarted l = line_terminal_of l.number (restarted l.tributary)

abbrev pub terminal_released : LineTerminalValue → ℕ → ℕ → ℕ → LineTerminalValue
terminal_released l t s count = line_terminal_of l.number (after_release l.tributary count)

abbrev pub TerminalReleases : LineTerminalValue → ℕ → ℕ → ℕ → Type 0
TerminalReleases l t s count =
    (release_step l.tributary.sender l.tributary.queue count).answer ≡ Ok tt

-- The same of a control station. Each of its doubts is about the records for one selection address.
abbrev pub control_released : ControlValue → ℕ → ℕ → ℕ → ControlValue
control_released c t s count =
    with_peer c t (with_outbound (peer_at c t) s (outbound_released (outbound_of c t s) count))

abbrev pub ControlReleases : ControlValue → ℕ → ℕ → ℕ → Type 0
ControlReleases c t s count =
    (release_step (outbound_of c t s).sender (outbound_of c t s).queue count).answer ≡ Ok tt

-- What a station says is to be kept of the channels on which it sends, which records of these it
-- does not know to have arrived, which records arrived on the others, the ends of its channels, and
-- what is said of a station of which that is asked.
module _ {S : Type 0} (kept_at : S → ℕ → ℕ → Option KeptSender)
    (waits : S → ℕ → ℕ → List (List ℕ)) (records : S → ℕ → List (List ℕ))
    (sending : List Sending) (receiving : List Receiving) (is_station : S → Type 0) where
  abbrev pub HasIt : (Channel → Contents) → S → Type 0
  HasIt has station = HasStation kept_at waits records has sending receiving station

  -- If a store has all that is to be kept of a station, it has all of the station after a restart,
  -- whose unanswered blocks are in doubt. Once it keeps the release of a doubt, it has all of the
  -- station that releases it with the same count, and once it keeps a record as offered, all of the
  -- station with that record.
  pub record FollowsWorks (begun : S → S) (releases : S → ℕ → ℕ → ℕ → Type 0)
      (released : S → ℕ → ℕ → ℕ → S) (offered : S → ℕ → ℕ → List ℕ → S) : Type 0 where
    pub begins : (has : Channel → Contents) (station : S) → HasIt has station
        → HasIt has (begun station)
    pub release : (has left : Channel → Contents) (terminal select count : ℕ) (its : Channel)
        (station : S) → is_station station → channel_to terminal select sending ≡ Some its
        → releases station terminal select count → HasIt has station
        → KeepsOne (Known its count 0) has left
        → HasIt left (released station terminal select count)
    pub offer : (has left : Channel → Contents) (terminal select : ℕ) (chars : List ℕ)
        (its : Channel) (station : S) → is_station station
        → channel_to terminal select sending ≡ Some its → HasIt has station
        → KeepsOne (Offered its chars) has left → HasIt left (offered station terminal select chars)
