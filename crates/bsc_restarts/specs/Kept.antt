-- The store of a station has all that is to be kept of it.
use Rattle.std.specs.Prelude.{◌≡◌, ◌≤◌, ⊤, ℕ, List, ◌++◌, length, map, Option, Some, None}
use Rattle.std.specs.List.{AllByRecursion}
use Rattle.bsc_block.specs.Records.{forgotten}
use Rattle.bsc_bid.specs.declared.kept.KeptSender.{KeptSender}
use Rattle.bsc_spool.specs.Contents.{Contents, records_from}
use Rattle.bsc_spool.specs.declared.channel.Channel.{Channel}
use Rattle.bsc_spool.specs.declared.ends.Receiving.{Receiving}
use Rattle.bsc_spool.specs.declared.ends.Sending.{Sending}
use Rattle.bsc_keeping.specs.Changes.{in_doubt_of}
use Rattle.bsc_keeping.specs.declared.keeper.Keeper.{Keeper}
use Rattle.bsc_restarts.specs.Crashes.{AllDiffer}

-- The end of a channel, whatever is kept of it.
abbrev pub bare_sending : Sending → Sending
bare_sending end = record end { known = 0; in_doubt = 0 }

abbrev pub bare_receiving : Receiving → Receiving
bare_receiving end = record end { arrived = 0; printed = 0 }

-- The channels of these ends.
abbrev pub sending_channels : List Sending → List Channel
sending_channels ends = map (λ (end : Sending). end.channel) ends

abbrev pub receiving_channels : List Receiving → List Channel
receiving_channels ends = map (λ (end : Receiving). end.channel) ends

-- The channels of all these ends differ.
abbrev pub ChannelsDiffer : List Sending → List Receiving → Type 0
ChannelsDiffer sending receiving =
    AllDiffer (sending_channels sending ++ receiving_channels receiving)

-- The store has of a channel on which a station sends what the station says is to be kept: how many
-- records are known to have arrived, how many are unanswered or in doubt, and those that are not
-- known.
pub record HasAllSent (it : Contents) (kept : KeptSender) (unknown : List (List ℕ)) : Type 0 where
  pub few : it.known ≤ length it.offered
  pub known : it.known ≡ kept.known
  pub in_doubt : it.in_doubt ≡ in_doubt_of kept.doubt
  pub rest : records_from it.known it.offered ≡ unknown

-- So it is if there is such a channel.
abbrev pub HasSentIf : Contents → Option KeptSender → List (List ℕ) → Type 0
HasSentIf it None unknown = ⊤
HasSentIf it (Some kept) unknown = HasAllSent it kept unknown

-- The store has all records that arrived on a channel. The station has the same ones, but for the
-- first of them, which it may have forgotten.
pub record HasAllReceived (it : Contents) (records : List (List ℕ)) : Type 0 where
  pub places : ℕ
  pub few : places ≤ length it.arrived
  pub same : records ≡ forgotten places (records_from 0 it.arrived)

-- What a station says is to be kept of the channels on which it sends, which records of these it
-- does not know to have arrived, and which records arrived on the others, by their numbers.
module _ {S : Type 0} (kept_at : S → ℕ → ℕ → Option KeptSender)
    (waits : S → ℕ → ℕ → List (List ℕ)) (records : S → ℕ → List (List ℕ)) where
  abbrev pub HasSentOn : (Channel → Contents) → S → Sending → Type 0
  HasSentOn has station end =
      HasSentIf (has end.channel) (kept_at station end.terminal end.select)
      (waits station end.terminal end.select)

  abbrev pub HasReceivedOn : (Channel → Contents) → S → Receiving → Type 0
  HasReceivedOn has station end =
      HasAllReceived (has end.channel) (records station end.number)

  -- The store has all that is to be kept of the station, of all channels with these ends.
  pub record HasStation (has : Channel → Contents) (sending : List Sending)
      (receiving : List Receiving) (station : S) : Type 0 where
    pub sent : AllByRecursion (HasSentOn has station) sending
    pub received : AllByRecursion (HasReceivedOn has station) receiving

-- What keeps the records of a station knows how much of a channel the store has.
abbrev pub KnowsSent : (Channel → Contents) → Sending → Type 0
KnowsSent has end =
    ((has end.channel).known ≡ end.known) × ((has end.channel).in_doubt ≡ end.in_doubt)

abbrev pub KnowsReceived : (Channel → Contents) → Receiving → Type 0
KnowsReceived has end = length (has end.channel).arrived ≡ end.arrived

-- It keeps the records of the channels with these ends, and knows how much of each the store has.
pub record Knows {K : Type 0} (has : Channel → Contents) (sending : List Sending)
    (receiving : List Receiving) (keeper : Keeper K) : Type 0 where
  pub sends : map bare_sending keeper.sending.items ≡ sending
  pub receives : map bare_receiving keeper.receiving.items ≡ receiving
  pub sent : AllByRecursion (KnowsSent has) keeper.sending.items
  pub received : AllByRecursion (KnowsReceived has) keeper.receiving.items
