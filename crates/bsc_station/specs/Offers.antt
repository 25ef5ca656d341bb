-- The records in the lines of a text.
use Rattle.std.specs.Prelude.{◌≡◌, ℕ, ◌+◌, ◌<◌, List, [], ◌∷◌, ◌++◌, length, take, slice_index_or}
use Rattle.std.specs.Prelude.{Ok, Err}
use Rattle.bsc_spool.specs.Queue.{QueueValue}
use Rattle.bsc_control.specs.Control.{ControlValue, peer_at, with_peer}
use Rattle.bsc_control.specs.Kept.{outbound_of}
use Rattle.bsc_control.specs.Peer.{with_outbound}
use Rattle.std.specs.List.{AllByRecursion}
use Rattle.bsc_station.specs.LineTerminal.{LineTerminalValue, with_own_queue}
use Rattle.bsc_block.specs.Records.{record_of}
use Rattle.bsc_block.specs.declared.record.RecordError.{RecordError}

-- Records of at most this full length.
abbrev pub AreRecords : ℕ → List (List ℕ) → Type 0
AreRecords full = AllByRecursion (λ codes. record_of full codes ≡ Ok codes)

-- The line with this number, counted from 1, is not a record, for this reason, and the lines before
-- it are records.
pub record IsFirstRefused (full number : ℕ) (why : RecordError)
    (lines : List (List ℕ)) : Type 0 where
  pub place : ℕ
  pub counted : number ≡ place + 1
  pub within : place < length lines
  pub refused : record_of full (slice_index_or lines place []) ≡ Err why
  pub before : AreRecords full (take place lines)

-- The control station with this queue for a selection address of a terminal, and otherwise the
-- same.
abbrev pub with_queue : ControlValue → ℕ → ℕ → QueueValue → ControlValue
with_queue c t s queue =
    with_peer c t (with_outbound (peer_at c t) s (record (outbound_of c t s) { queue = queue }))

-- Nothing but the queue for this selection address has changed: with the queue of before, the
-- control station is as it was before.
abbrev pub KeepsOtherQueues : ControlValue → ℕ → ℕ → ControlValue → Type 0
KeepsOtherQueues old t s new = with_queue new t s (outbound_of old t s).queue ≡ old

-- The same of a terminal and its own queue.
abbrev pub KeepsAllElse : LineTerminalValue → LineTerminalValue → Type 0
KeepsAllElse old new = with_own_queue new old.tributary.queue ≡ old

-- A record was offered for this selection address.
pub record IsOffered (old : ControlValue) (t s : ℕ) (codes : List ℕ)
    (new : ControlValue) : Type 0 where
  pub setup : new.setup ≡ old.setup
  pub peers : length new.peers ≡ length old.peers
  pub selects : length (peer_at new t).outbounds ≡ length (peer_at old t).outbounds
  pub offered : (outbound_of new t s).queue.offered ≡ (outbound_of old t s).queue.offered ++ codes
      ∷ []
  pub known : (outbound_of new t s).queue.known ≡ (outbound_of old t s).queue.known
  pub others : (queue : QueueValue) → with_queue new t s queue ≡ with_queue old t s queue
