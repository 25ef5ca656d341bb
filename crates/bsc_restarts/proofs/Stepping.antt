-- What a store has once all is kept that a station has changed in a step.
use Rattle.std.proofs.Common.{◌≡◌, ◌∙◌, ℕ, nat_eq, ◌&&◌, Bool, true, false, List, [], ◌∷◌, ◌++◌}
use Rattle.std.proofs.Common.{map, Option, Some, None, refl, sym, ap, subst, append_assoc}
use Rattle.std.proofs.Common.{if◌then◌else◌}
use Rattle.std.specs.List.{AllByRecursion, flat_map}
use Rattle.bsc_bid.specs.declared.kept.KeptSender.{KeptSender}
use Rattle.bsc_spool.specs.Contents.{Contents}
use Rattle.bsc_spool.specs.declared.change.Change.TheVariants.{Arrived, Known, Printed}
use Rattle.bsc_spool.specs.declared.channel.Channel.{Channel}
use Rattle.bsc_spool.specs.declared.ends.Receiving.{Receiving}
use Rattle.bsc_spool.specs.declared.ends.Sending.{Sending}
use Rattle.bsc_station.specs.declared.party.Party as party_of
use Rattle.bsc_keeping.specs.Changes.{changes_of, in_doubt_of, known_changes, known_now}
use Rattle.bsc_keeping.specs.Changes.{printed_changes, receiving_changes, receiving_now, records_of}
use Rattle.bsc_keeping.specs.Changes.{sending_changes, sending_now}
use Rattle.bsc_restarts.specs.Crashes.{AllDiffer, IsSame, KeepsEach}
use Rattle.bsc_restarts.specs.Kept.{HasReceivedOn, HasSentIf, HasSentOn, HasStation, KnowsReceived}
use Rattle.bsc_restarts.specs.Kept.{KnowsSent, HasAllReceived, receiving_channels, sending_channels}
use Rattle.bsc_restarts.proofs.Ends.{ReceivedGrows, SentGrowsIf, received_after, sent_after}
use Rattle.bsc_restarts.proofs.Parts.{AreOf, AreParts, ChangesTo, Part, changes_in, channel_at}
use Rattle.bsc_restarts.proofs.Parts.{each_part}

-- all changes of one end are of its channel
known_are_of : (b : Bool) (end : Sending) (known in_doubt : ℕ)
    → AreOf end.channel (if b then [] else Known end.channel known in_doubt ∷ [])
known_are_of true end known in_doubt = tt
known_are_of false end known in_doubt = (refl, tt)

sending_are_of : (end : Sending) (k : Option KeptSender)
    → AreOf end.channel (known_changes end k)
sending_are_of end None = tt
sending_are_of end (Some k) =
    known_are_of (nat_eq k.known end.known && nat_eq (in_doubt_of k.doubt) end.in_doubt) end k.known
    (in_doubt_of k.doubt)

arrived_are_of : (its : Channel) (rs : List (List ℕ)) → AreOf its (map (Arrived its) rs)
arrived_are_of its [] = tt
arrived_are_of its (r ∷ rs) = (refl, arrived_are_of its rs)

printed_are_of : (b : Bool) (its : Channel) (count : ℕ) (rs : List (List ℕ))
    → AreOf its ((if b then [] else Printed its count ∷ []) ++ map (Arrived its) rs)
printed_are_of true its count rs = arrived_are_of its rs
printed_are_of false its count rs = (refl, arrived_are_of its rs)

receiving_are_of : (end : Receiving) (count : Option ℕ) (rs : List (List ℕ))
    → AreOf end.channel (printed_changes end count ++ map (Arrived end.channel) rs)
receiving_are_of end None rs = arrived_are_of end.channel rs
receiving_are_of end (Some count) rs =
    printed_are_of (nat_eq count end.printed) end.channel count rs

-- what is kept of an end is of the same channel
same_channel : (end : Sending) (k : Option KeptSender) → (known_now end k).channel ≡ end.channel
same_channel end None = refl
same_channel end (Some k) = refl

-- the records that arrived on a channel
abbrev pub arrived_of : {S Z : Type 0} → party_of.Ghosts S Z → S → ℕ → List (List ℕ)
arrived_of party station number = records_of party station (λ _. None) number

-- what a store has is the same
module _ {S : Type 0} (kept_at : S → ℕ → ℕ → Option KeptSender)
    (waits : S → ℕ → ℕ → List (List ℕ)) (records : S → ℕ → List (List ℕ)) where
  sent_same : (ends : List Sending) (station : S) (has left : Channel → Contents)
      → IsSame has left → AllByRecursion (HasSentOn kept_at waits records has station) ends
      → AllByRecursion (HasSentOn kept_at waits records left station) ends
  sent_same [] station has left same all = tt
  sent_same (end ∷ ends) station has left same (one, all) = (
    subst (λ it. HasSentIf it (kept_at station end.terminal end.select)
        (waits station end.terminal end.select)) (sym (same end.channel)) one,
    sent_same ends station has left same all,
  )

  received_same : (ends : List Receiving) (station : S) (has left : Channel → Contents)
      → IsSame has left → AllByRecursion (HasReceivedOn kept_at waits records has station) ends
      → AllByRecursion (HasReceivedOn kept_at waits records left station) ends
  received_same [] station has left same all = tt
  received_same (end ∷ ends) station has left same (one, all) = (
    subst (λ it. HasAllReceived it (records station end.number))
        (sym (same end.channel)) one,
    received_same ends station has left same all,
  )

  pub has_same : (sending : List Sending) (receiving : List Receiving) (station : S)
      (has left : Channel → Contents) → IsSame has left
      → HasStation kept_at waits records has sending receiving station
      → HasStation kept_at waits records left sending receiving station
  has_same sending receiving station has left same all =
      record {
        sent = sent_same sending station has left same all.sent;
        received = received_same receiving station has left same all.received;
      }

module _ {S Z : Type 0} (party : party_of.Ghosts S Z) (kept_at : S → ℕ → ℕ → Option KeptSender)
    (waits : S → ℕ → ℕ → List (List ℕ)) where
  -- a station never knows less than before, and loses no record
  pub record StationGrows (old new : S) : Type 0 where
    pub sent : (t s : ℕ) → SentGrowsIf (kept_at old t s) (waits old t s) (kept_at new t s)
        (waits new t s)
    pub received : (n : ℕ) → ReceivedGrows (records_of party old (λ _. None) n)
        (records_of party new (λ _. None) n)

  -- the store has all of the station, and how much it has is known
  module _ (printed : ℕ → Option ℕ) (new : S) where
    pub record HasAfter (left : Channel → Contents) (sending : List Sending)
        (receiving : List Receiving) : Type 0 where
      pub has_all : HasStation kept_at waits (arrived_of party) left sending receiving new
      pub sent : AllByRecursion (KnowsSent left) (sending_now kept_at new sending)
      pub received :
          AllByRecursion (KnowsReceived left) (receiving_now party new printed receiving)

  module _ (printed : ℕ → Option ℕ) (old new : S) (grows : StationGrows old new) where
    abbrev sending_part : Sending → Part
    sending_part end =
        record { channel = end.channel; changes = sending_changes kept_at new end }

    abbrev receiving_part : Receiving → Part
    receiving_part end =
        record { channel = end.channel; changes = receiving_changes party new printed end }

    abbrev sending_parts : List Sending → List Part
    sending_parts ends = map sending_part ends

    abbrev receiving_parts : List Receiving → List Part
    receiving_parts ends = map receiving_part ends

    abbrev parts_of : List Sending → List Receiving → List Part
    parts_of sending receiving = sending_parts sending ++ receiving_parts receiving

    changes_received : (receiving : List Receiving)
        → flat_map (receiving_changes party new printed) receiving
        ≡ flat_map changes_in (receiving_parts receiving)
    changes_received [] = refl
    changes_received (end ∷ ends) =
        ap (λ cs. receiving_changes party new printed end ++ cs) (changes_received ends)

    changes_are : (sending : List Sending) (receiving : List Receiving)
        → changes_of party new printed kept_at sending receiving
        ≡ flat_map changes_in (parts_of sending receiving)
    changes_are [] receiving = changes_received receiving
    changes_are (end ∷ ends) receiving =
        append_assoc (sending_changes kept_at new end) (flat_map (sending_changes kept_at new) ends)
        (flat_map (receiving_changes party new printed) receiving)
        ∙ ap (λ cs. sending_changes kept_at new end ++ cs) (changes_are ends receiving)

    channels_received : (receiving : List Receiving)
        → receiving_channels receiving ≡ map channel_at (receiving_parts receiving)
    channels_received [] = refl
    channels_received (end ∷ ends) = ap (λ cs. end.channel ∷ cs) (channels_received ends)

    channels_are : (sending : List Sending) (receiving : List Receiving)
        → sending_channels sending ++ receiving_channels receiving
        ≡ map channel_at (parts_of sending receiving)
    channels_are [] receiving = channels_received receiving
    channels_are (end ∷ ends) receiving =
        ap (λ cs. end.channel ∷ cs) (channels_are ends receiving)

    are_received : (receiving : List Receiving) → AreParts (receiving_parts receiving)
    are_received [] = tt
    are_received (end ∷ ends) = (
      receiving_are_of end (printed end.number) _,
      are_received ends,
    )

    are_parts : (sending : List Sending) (receiving : List Receiving)
        → AreParts (parts_of sending receiving)
    are_parts [] receiving = are_received receiving
    are_parts (end ∷ ends) receiving = (
      sending_are_of end (kept_at new end.terminal end.select),
      are_parts ends receiving,
    )

    -- what was had of a channel before, and what is had of it then
    abbrev Changed : (Channel → Contents) → (Channel → Contents) → Part → Type 0
    Changed has left part = ChangesTo part.changes (has part.channel) (left part.channel)

    received_each : (receiving : List Receiving) (has left : Channel → Contents)
        → AllByRecursion (Changed has left) (receiving_parts receiving)
        → AllByRecursion (HasReceivedOn kept_at waits (arrived_of party) has old) receiving
        → AllByRecursion (KnowsReceived has) receiving
        → AllByRecursion (HasReceivedOn kept_at waits (arrived_of party) left new) receiving
        × AllByRecursion (KnowsReceived left) (receiving_now party new printed receiving)
    received_each [] has left changed all knows = (tt, tt)
    received_each (end ∷ ends) has left (first, changed) (one, all) (known, knows) =
        let after = received_after end (printed end.number) _ _ (has end.channel)
        (left end.channel) one (grows.received end.number) known first in
        let rest = received_each ends has left changed all knows in
        ((after.0, rest.0), (after.1, rest.1))

    knows_now : (end : Sending) (k : Option KeptSender) (left : Channel → Contents)
        → (left end.channel).known ≡ (known_now end k).known
        → (left end.channel).in_doubt ≡ (known_now end k).in_doubt
        → KnowsSent left (known_now end k)
    knows_now end None left known in_doubt = (known, in_doubt)
    knows_now end (Some k) left known in_doubt = (known, in_doubt)

    sent_each : (sending : List Sending) (receiving : List Receiving)
        (has left : Channel → Contents)
        → AllByRecursion (Changed has left) (parts_of sending receiving)
        → HasStation kept_at waits (arrived_of party) has sending receiving old
        → AllByRecursion (KnowsSent has) sending → AllByRecursion (KnowsReceived has) receiving
        → HasAfter printed new left sending receiving
    sent_each [] receiving has left changed all sent received =
        let each = received_each receiving has left changed all.received received in
        record {
          has_all = record { sent = tt; received = each.0 };
          sent = tt;
          received = each.1;
        }
    sent_each (end ∷ ends) receiving has left (first, changed) all (known, sent) received =
        let k = kept_at new end.terminal end.select in
        let after = sent_after end (kept_at old end.terminal end.select) k
        (waits old end.terminal end.select) (waits new end.terminal end.select)
        (has end.channel) (left end.channel) all.sent.0 (grows.sent end.terminal end.select)
        known.0 known.1 first in
        let rest = sent_each ends receiving has left changed
        (record { sent = all.sent.1; received = all.received }) sent received in
        record {
          has_all = record {
            sent = (after.0, rest.has_all.sent);
            received = rest.has_all.received;
          };
          sent = (knows_now end k left after.1 after.2, rest.sent);
          received = rest.received;
        }

    -- the store has all of the station after the step
    pub has_after : (sending : List Sending) (receiving : List Receiving)
        (has left : Channel → Contents)
        → AllDiffer (sending_channels sending ++ receiving_channels receiving)
        → KeepsEach (changes_of party new printed kept_at sending receiving) has left
        → HasStation kept_at waits (arrived_of party) has sending receiving old
        → AllByRecursion (KnowsSent has) sending → AllByRecursion (KnowsReceived has) receiving
        → HasAfter printed new left sending receiving
    has_after sending receiving has left differ keeps =
        sent_each sending receiving has left
        (each_part (parts_of sending receiving) has left (are_parts sending receiving)
        (subst AllDiffer (channels_are sending receiving) differ)
        (subst (λ cs. KeepsEach cs has left) (changes_are sending receiving) keeps))
