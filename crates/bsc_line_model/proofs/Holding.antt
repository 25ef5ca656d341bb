-- The terminal that sends on a trusted line is the polled one, and no count mismatches there.
use Rattle.std.proofs.Common.{◌≡◌, ◌⊎◌, inl, inr, ℕ, ◌+◌, ◌<◌, Bool, true, false, ◌==◌, ◌||◌, List}
use Rattle.std.proofs.Common.{length, IsTrue, Option, Err, refl, sym, ◌∙◌, ap, if◌then◌else◌}
use Rattle.std.proofs.lemmas.Bool.{eqb-false}
use Rattle.bsc_spool.specs.Queue.{QueueValue}
use Rattle.bsc_bid.specs.declared.phase.Phase.{Phase}
use Rattle.bsc_bid.specs.declared.phase.Phase.TheVariants.{Idle, Unanswered, Held, InDoubt}
use Rattle.bsc_bid.specs.declared.sender.ReleaseError.TheVariants as r
use Rattle.bsc_bid.specs.Sender.{SenderValue, release_in, released, not_released}
use Rattle.bsc_bid.specs.Channel.{IsSpooled, IsSound}
use Rattle.bsc_tributary.specs.declared.mode.Mode.{Mode}
use Rattle.bsc_tributary.specs.declared.mode.Mode.TheVariants.{Control, Receiving, Sending as Sends}
use Rattle.bsc_tributary.specs.Tributary.{TributaryValue, spool_at, holds}
use Rattle.bsc_control.specs.declared.task.Replied.{Replied}
use Rattle.bsc_control.specs.declared.task.Task.{Task}
use Rattle.bsc_control.specs.declared.task.Task.TheVariants.{AtRest, Selecting, Sending, Polling}
use Rattle.bsc_bid.specs.declared.way.Way.{Way}
use Rattle.bsc_bid.specs.declared.way.Way.TheVariants.{FromTerminal, ToTerminal}
use Rattle.bsc_control.specs.Peer.{OutboundValue}
use Rattle.bsc_control.specs.Control.{ControlValue, peer_at, peer, current}
use Rattle.bsc_control.specs.Kept.{outbound_of}
use Rattle.bsc_line_model.specs.declared.error.LineError.TheVariants as e
use Rattle.bsc_line_model.specs.declared.transmission.Transmission.{Transmission}
use Rattle.bsc_line_model.specs.Line.{LineValue, terminal_in, terminal_at, terminal_count}
use Rattle.bsc_line_model.specs.Line.{channel_of}
use Rattle.bsc_line_model.specs.Offers.{told, ReleasesFrom, ReleasesTo, ReleasesWay}
use Rattle.bsc_line_model.specs.Kept.{IsLine}
use Rattle.bsc_line_model.specs.Together.{IsInBidUp, InTask}
use Rattle.bsc_line_model.specs.StepLaws.{IsPolled}
use Rattle.bsc_line_model.specs.BidLaws.{BidLaws}
use Rattle.bsc_line_model.proofs.Soundness.{sound_of_together}
use Rattle.bsc_line_model.proofs.Stations.{same_or_not, current_terminal_there}
use Rattle.bsc_line_model.proofs.UnheardBids.{never_sends_in_bid_down}

-- terminal t sends: it is the polled one, and its bid is in progress with the control station
pub record IsBidOf (task : Task) (pending : Option Transmission) (c : ControlValue)
    (ts : List TributaryValue) (t : ℕ) : Type 0 where
  pub terminal : t ≡ current c
  pub replied : Replied
  pub polling : task ≡ Polling replied
  pub bid : IsInBidUp pending (peer c) (current c) (terminal_in ts (current c))

pub bid_of_sending_terminal : (task : Task) (pending : Option Transmission) (c : ControlValue)
    (ts : List TributaryValue) (t : ℕ) → t < length ts → current c < length ts
    → (terminal_in ts t).mode ≡ Sends → InTask task pending c ts
    → IsBidOf task pending c ts t ⊎ (task ≡ AtRest)
bid_of_sending_terminal AtRest pending c ts t less there sends k = inr refl
bid_of_sending_terminal (Selecting s enquired) pending c ts t less there sends k =
    absurd ((k.no_bids t less).mode sends)
bid_of_sending_terminal (Sending s) pending c ts t less there sends k =
    elim (same_or_not t (current c)) [
      | inl same ↦ absurd (never_sends_in_bid_down pending c ts s k.present
          (ap (λ (n : ℕ). (terminal_in ts n).mode) (sym same) ∙ sends) there)
      | inr differ ↦ absurd ((k.others t less differ).mode sends)
    ]
bid_of_sending_terminal (Polling replied) pending c ts t less there sends k =
    elim (same_or_not t (current c)) [
      | inl same ↦
          elim k.present [
            | inl q ↦ absurd (q.0.mode (ap (λ (n : ℕ). (terminal_in ts n).mode) (sym same) ∙ sends))
            | inr b ↦
                inl (record { terminal = same; replied = replied; polling = refl; bid = b })
          ]
      | inr differ ↦ absurd ((k.others t less differ).mode sends)
    ]

-- a terminal that holds the line sends
pub holder_sends : (mode : Mode) → IsTrue (holds mode) → mode ≡ Sends
holder_sends Sends h = refl
holder_sends Control h = absurd (cc)
holder_sends (Receiving s) h = absurd (cc)

pub holds_polled : (l : LineValue) (t : ℕ) → IsLine l → IsTrue l.trusted → t < terminal_count l
    → IsTrue (holds (terminal_at l t).mode) → IsPolled l t ⊎ (l.control.task ≡ AtRest)
holds_polled l t is now less holder =
    elim (bid_of_sending_terminal l.control.task l.pending l.control l.terminals t less
    (current_terminal_there l.control l.terminals is.stations)
    (holder_sends (terminal_at l t).mode holder) (is.together now)) [
      | inl bid ↦ inl (record { present = bid.terminal; replied = bid.replied; task = bid.polling })
      | inr rest ↦ inr rest
    ]

-- if the channel is sound, its sender's doubt is released by the spooled count
counts_match : (s : SenderValue) (q : QueueValue) (n : ℕ) (phase : Phase)
    → IsSpooled phase q.known n → Err e.CountMismatch ≡ told (release_in s q phase n).answer → ⊥
counts_match s q n Idle is f = cc
counts_match s q n (Unanswered b) is f = cc
counts_match s q n (Held end x) is f = cc
counts_match s q n (InDoubt k) is f = by_test (n == q.known) (n == (q.known + k)) refl refl f
  where
    by_test : (a b : Bool) → (n == q.known) ≡ a → (n == (q.known + k)) ≡ b → Err e.CountMismatch
        ≡ told (if a || b then released s q n else not_released s q r.CountMismatch).answer → ⊥
    by_test true b x y h = cc
    by_test false true x y h = cc
    by_test false false x y h =
        elim is [
          | inl same ↦ absurd (eqb-false n q.known x same)
          | inr same ↦ absurd (eqb-false n (q.known + k) y same)
        ]

never_from : (laws : BidLaws) (old new : LineValue) (t : ℕ) → IsLine old → IsTrue old.trusted
    → ReleasesFrom old t (Err e.CountMismatch) new → ⊥
never_from laws old new t is now d =
    let sounds : IsSound (terminal_at old t).sender.phase (channel_of old t FromTerminal) =
    sound_of_together laws old is.stations (is.together now) t FromTerminal
    (record { there = d.there; its_way = tt }) in
    counts_match (terminal_at old t).sender (terminal_at old t).queue
    (length (peer_at old.control t).spool.records) (terminal_at old t).sender.phase
    sounds.spooled d.answer

no_mismatch_to_terminal : (laws : BidLaws) (old new : LineValue) (t s : ℕ) → IsLine old → IsTrue old.trusted
    → ReleasesTo old t s (Err e.CountMismatch) new → ⊥
no_mismatch_to_terminal laws old new t s is now d =
    let o : OutboundValue = outbound_of old.control t s in
    let sounds : IsSound o.sender.phase (channel_of old t (ToTerminal s)) =
    sound_of_together laws old is.stations (is.together now) t (ToTerminal s)
    (record { there = d.there; its_way = d.select }) in
    counts_match o.sender o.queue (length (spool_at (terminal_at old t).spools s).records)
    o.sender.phase sounds.spooled d.answer

pub never_mismatches : (laws : BidLaws) (old new : LineValue) (t : ℕ) (way : Way) → IsLine old
    → IsTrue old.trusted → ReleasesWay old t way (Err e.CountMismatch) new → ⊥
never_mismatches laws old new t FromTerminal is now d = never_from laws old new t is now d
never_mismatches laws old new t (ToTerminal s) is now d = no_mismatch_to_terminal laws old new t s is now d
