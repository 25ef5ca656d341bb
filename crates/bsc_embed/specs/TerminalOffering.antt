-- The records that a terminal has to send, and its doubt about them. This is the project's own.
use Rattle.std.specs.Prelude.{◌≡◌, ℕ, List, Result, Ok, Err, OnErr}
use Rattle.bsc_spool.specs.Queue.{with_offered}
use Rattle.bsc_bid.specs.Sender.{is_in_doubt, release_step}
use Rattle.bsc_tributary.specs.Tributary.{TributaryValue, after_release}
use Rattle.bsc_embed.specs.Records.{record_in}
use Rattle.bsc_embed.specs.Refusals.{as_released}
use Rattle.bsc_embed.specs.Sending.{sending_in}
use Rattle.bsc_embed.specs.declared.interface.counts.Sending.{Sending}
use Rattle.bsc_embed.specs.declared.interface.fault.Fault.{Fault}
use Rattle.bsc_embed.specs.declared.interface.fault.Fault.TheVariants.{Memory}

-- What was read is offered: a record is the last of the queue, unless there is no memory for it;
-- a fault is the answer. On a fault the terminal is as it was.
abbrev pub OffersRead : Result (List ℕ) Fault → TributaryValue → TributaryValue
    → Result (Unit {0}) Fault → Type 0
OffersRead (Err fault) t u answer = (answer ≡ Err fault) × (u ≡ t)
OffersRead (Ok r) t u (Ok done) = u ≡ record t { queue = with_offered t.queue r }
OffersRead (Ok r) t u (Err f) = (f ≡ Memory) × (u ≡ t)

-- The record of these codes is offered to the terminal: the codes, the terminal before and after,
-- and the answer.
abbrev pub Offers : List ℕ → TributaryValue → TributaryValue → Result (Unit {0}) Fault → Type 0
Offers codes t u answer = OffersRead (record_in t.queue.format.full codes) t u answer

-- What the terminal has to send: what C gets, the terminal, and the answer.
abbrev pub GetsSending : Sending → TributaryValue → Result (Unit {0}) Fault → Type 0
GetsSending sending t answer =
    (answer ≡ Ok tt) × (sending ≡ sending_in t.queue (is_in_doubt t.sender.phase))

-- The doubt is released with this count, or the release is refused and the terminal is as it was:
-- the count, the terminal before and after, and the answer.
pub record Releases (count : ℕ) (t u : TributaryValue) (answer : Result (Unit {0}) Fault)
    : Type 0 where
  pub answered : answer ≡ as_released (release_step t.sender t.queue count).answer
  pub state : u ≡ after_release t count
  pub refused : OnErr answer (u ≡ t)
