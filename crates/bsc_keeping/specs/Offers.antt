-- A record that is offered while the station runs, and is kept at once.
use Rattle.std.specs.Prelude.{◌≡◌, ◌⊎◌, ℕ, nat_eq, ◌&&◌, Bool, List, [], ◌∷◌, find}
use Rattle.std.specs.Prelude.{Option, None, Some, Result, Err, IfOk, OnOk, OnErr, IfErr}
use Rattle.bsc_spool.specs.declared.change.Change.TheVariants.{Offered}
use Rattle.bsc_spool.specs.declared.channel.Channel.{Channel}
use Rattle.bsc_spool.specs.declared.ends.Sending.{Sending}
use Rattle.bsc_spool.specs.declared.fault.StoreFault.{StoreFault}
use Rattle.bsc_spool.specs.declared.fault.StoreFault.TheVariants.{Refused}
use Rattle.bsc_spool.specs.declared.store.Store as store_of
use Rattle.bsc_keeping.specs.Keeping.{SurvivesAll}
use Rattle.bsc_keeping.specs.declared.keeper.Keeper.{Keeper}

-- Whether an end is that of the channel to this selection address of this terminal.
abbrev pub is_end_to : ℕ → ℕ → Sending → Bool
is_end_to terminal select end = nat_eq end.terminal terminal && nat_eq end.select select

abbrev pub channel_of : Option Sending → Option Channel
channel_of None = None
channel_of (Some end) = Some end.channel

-- The channel on which a station sends to this selection address of this terminal, if there is one:
-- the first of its ends that is.
abbrev pub channel_to : ℕ → ℕ → List Sending → Option Channel
channel_to terminal select ends = channel_of (find (is_end_to terminal select) ends)

-- What is known of a store.
module _ {K : Type 0} (store : store_of.Ghosts K) where
  -- The record is kept as offered on this channel and given back, or nothing is kept. A crash at
  -- any moment leaves what it could leave before, or what was kept with the record.
  pub record OffersOn (channel : Channel) (chars : List ℕ) (result : Result (List ℕ) StoreFault)
      (old new : K) : Type 0 where
    pub given_back : IfOk result (λ it. it ≡ chars)
    pub kept : OnOk result (store.keeps (Offered channel chars ∷ []) old new)
    pub unchanged : OnErr result ((new ≡ old) ⊎ store.stays old new)
    pub crash : SurvivesAll store (Offered channel chars ∷ []) old new

  -- It is so if there is such a channel; if there is none, the record is refused.
  abbrev pub OffersIf : Option Channel → List ℕ → Result (List ℕ) StoreFault → K → K → Type 0
  OffersIf None chars result old new = (result ≡ Err Refused) × (new ≡ old)
  OffersIf (Some channel) chars result old new = OffersOn channel chars result old new

  -- A record is offered to this selection address of this terminal; the channels and what else is
  -- kept of them stay.
  pub record KeepsOffer (terminal select : ℕ) (chars : List ℕ)
      (result : Result (List ℕ) StoreFault) (old new : Keeper K) : Type 0 where
    pub offers : OffersIf (channel_to terminal select old.sending.items) chars result
        old.store new.store
    pub sending : new.sending ≡ old.sending
    pub receiving : new.receiving ≡ old.receiving
    pub named : IfErr result (λ fault. new.fault ≡ Some fault)
