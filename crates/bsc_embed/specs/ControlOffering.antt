-- The records that a control station has to send, and its doubts about them. This is the project's
-- own.
use Rattle.std.specs.Prelude.{◌≡◌, ◌⊎◌, ℕ, List, Result, Ok, Err, OnErr}
use Rattle.bsc_bid.specs.Sender.{is_in_doubt, release_step}
use Rattle.bsc_control.specs.Control.{ControlValue, peer_at, with_peer}
use Rattle.bsc_control.specs.Kept.{outbound_of}
use Rattle.bsc_control.specs.Peer.{offered_to, outbound_released, with_outbound}
use Rattle.bsc_embed.specs.Records.{record_in}
use Rattle.bsc_embed.specs.Refusals.{as_released}
use Rattle.bsc_embed.specs.Sending.{sending_in}
use Rattle.bsc_embed.specs.declared.interface.counts.Sending.{Sending}
use Rattle.bsc_embed.specs.declared.interface.fault.Fault.{Fault}
use Rattle.bsc_embed.specs.declared.interface.fault.Fault.TheVariants.{Memory}
use Rattle.bsc_embed.specs.ControlAddressing.{HasAddress, LacksAddress}

-- What was read is offered for a selection address: a record is the last of its queue, unless there
-- is no memory for it; a fault is the answer. On a fault the station is as it was.
abbrev pub OffersRead : Result (List ℕ) Fault → ℕ → ℕ → ControlValue → ControlValue
    → Result (Unit {0}) Fault → Type 0
OffersRead (Err fault) t s c d answer = (answer ≡ Err fault) × (d ≡ c)
OffersRead (Ok r) t s c d (Ok done) = d ≡ with_peer c t (offered_to (peer_at c t) s r)
OffersRead (Ok r) t s c d (Err f) = (f ≡ Memory) × (d ≡ c)

-- The record of these codes is offered for a selection address, if there is such an address: the
-- numbers of the terminal and of the address, the codes, the station before and after, and the
-- answer.
abbrev pub Offers : ℕ → ℕ → List ℕ → ControlValue → ControlValue → Result (Unit {0}) Fault
    → Type 0
Offers t s codes c d answer =
    (HasAddress c t s × OffersRead (record_in c.setup.format.full codes) t s c d answer)
    ⊎ (LacksAddress c t s answer × (d ≡ c))

-- What the station has to send to this address.
pub record IsSending (t s : ℕ) (sending : Sending) (c : ControlValue)
    (answer : Result (Unit {0}) Fault) : Type 0 where
  pub address : HasAddress c t s
  pub done : answer ≡ Ok tt
  pub value : sending
      ≡ sending_in (outbound_of c t s).queue (is_in_doubt (outbound_of c t s).sender.phase)

-- What the station has to send to a selection address, if there is such an address: the numbers of
-- the terminal and of the address, what C had and gets, the station, and the answer.
abbrev pub GetsSending : ℕ → ℕ → Sending → Sending → ControlValue → Result (Unit {0}) Fault
    → Type 0
GetsSending t s old new c answer =
    IsSending t s new c answer ⊎ (LacksAddress c t s answer × (new ≡ old))

-- The doubt about this address is released with this count, or the release is refused and the
-- station is as it was.
pub record ReleasesThere (t s count : ℕ) (c d : ControlValue) (answer : Result (Unit {0}) Fault)
    : Type 0 where
  pub address : HasAddress c t s
  pub answered : answer
      ≡ as_released (release_step (outbound_of c t s).sender (outbound_of c t s).queue count).answer
  pub state : d
      ≡ with_peer c t
      (with_outbound (peer_at c t) s (outbound_released (outbound_of c t s) count))
  pub refused : OnErr answer (d ≡ c)

-- The doubt about a selection address is released, if there is such an address: the numbers of the
-- terminal and of the address, the count, the station before and after, and the answer.
abbrev pub Releases : ℕ → ℕ → ℕ → ControlValue → ControlValue → Result (Unit {0}) Fault → Type 0
Releases t s count c d answer =
    ReleasesThere t s count c d answer ⊎ (LacksAddress c t s answer × (d ≡ c))
