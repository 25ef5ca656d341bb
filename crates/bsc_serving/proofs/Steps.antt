-- A step of a session is one of the client that it serves.
use Rattle.std.proofs.Common.{◌≡◌, ◌⊎◌, ℕ, Bool, true, false, List, [], ◌∷◌, ◌++◌, take, drop}
use Rattle.std.proofs.Common.{Option, Some, None, ap, ap₂, refl, sym, subst, ◌∙◌, inl, inr}
use Rattle.std.proofs.lemmas.List.{append-nil, take-append-drop}
use Rattle.std.specs.declared.io.Read as read_of
use Rattle.std.specs.declared.io.Write as write_of
use Rattle.bsc_feed.specs.Answering.{Serving}
use Rattle.bsc_feed.specs.Clients.{Nexts, NextsIn}
use Rattle.bsc_feed.specs.Sessions.{Event, Took, octets_in, octets_of_event, step_by, step_of}
use Rattle.bsc_feed.specs.Sessions.{Session as SessionOf, ended, takes, tells}
use Rattle.bsc_feed.specs.declared.client.Client.{Client}
use Rattle.bsc_feed.specs.Texts.{Telling}
use Rattle.bsc_station.specs.declared.party.Party as party_of
use Rattle.bsc_serving.specs.declared.session.Session.{Session}
use Rattle.bsc_serving.specs.declared.session.Step.{Step}
use Rattle.bsc_serving.specs.Sessions.{AreStepsOfClients, GoesOn, IsStepOfClient, StepsBy}
use Rattle.bsc_serving.specs.Sessions.{Takes, Reads, Writes}

module _ {S M : Type 0} (party : party_of.Ghosts S M) (serves : Serving S) where
  -- nothing happens
  stays : (old new : Client) (before after : S) → new ≡ old → after ≡ before
      → SessionOf party serves old before [] new after
  stays old new before after client station =
      subst (λ (c : Client). SessionOf party serves old before [] c after) (sym client)
      (subst (λ (s : S). SessionOf party serves old before [] old s) (sym station) ended)

  -- no octets are taken where something is told
  no_octets_by : (telling : Option ℕ) (waits : Bool) (line : List ℕ) (before : S)
      (told : Option Telling) (after : S)
      → octets_of_event (step_by telling waits line before told after) ≡ []
  no_octets_by (Some place) waits line before told after = refl
  no_octets_by None true line before told after = refl
  no_octets_by None false line before told after = refl

  no_octets : (old : Client) (before : S) (told : Option Telling) (after : S)
      → octets_of_event (step_of old before told after) ≡ []
  no_octets old before told after =
      no_octets_by old.telling old.waits old.lines.ended before told after

  -- the station is as it was where no line waits
  quiet_by : (telling : Option ℕ) (waits : Bool) (old : Client) (before : S) (told : Option Telling)
      (new : Client) (after : S) → waits ≡ false
      → NextsIn party serves telling waits old before told new after → after ≡ before
  quiet_by (Some place) waits old before told new after e nexts = nexts.3
  quiet_by None false old before told new after e nexts = nexts.2
  quiet_by None true old before told new after e nexts = absurd (cc)

  module _ {T : Type 0} (read : read_of.Ghosts T) (write : write_of.Ghosts T) where
    -- octets are written
    of_writing : (old : Session T) (before : S) (new : Session T) (after : S)
        → Writes read write old new → after ≡ before
        → IsStepOfClient party serves read write old before new after
    of_writing old before new after writes same = record {
      events = [];
      goes = stays old.client new.client before after writes.client same;
      given = [];
      octets = append-nil old.inbox ∙ sym writes.inbox;
      read_next = λ some. absurd (some refl);
      quiet = λ none. same;
    }

    -- something is told
    of_telling : (told : Telling) (old : Session T) (before : S) (client : Client) (result : Step)
        (new : Session T) (after : S)
        → Nexts party serves old.client before (Some told) client after
        → GoesOn party serves read write (Some told) (record old { client = client }) after result
        new
        → IsStepOfClient party serves read write old before new after
    of_telling told old before client result new after nexts (written, same, inbox) = record {
      events = step_of old.client before (Some told) after ∷ [];
      goes =
          tells (Some told) nexts
          (stays client new.client after after same refl);
      given = [];
      octets =
          append-nil old.inbox
          ∙ sym (ap (λ (o : List ℕ). (o ++ []) ++ new.inbox)
          (no_octets old.client before (Some told) after) ∙ inbox);
      read_next = λ some. absurd (some refl);
      quiet = λ none.
          quiet_by old.client.telling old.client.waits old.client before (Some told) client after none
          nexts;
    }

    -- octets are taken
    of_taking : (old : Session T) (before : S) (client : Client) (new : Session T) (after : S)
        → Nexts party serves old.client before None client after
        → Takes read write (record old { client = client }) new
        → IsStepOfClient party serves read write old before new after
    of_taking old before client new after nexts takes_front = record {
      events = step_of old.client before None after ∷ Took (take takes_front.taken old.inbox) ∷ [];
      goes =
          tells None nexts
          (takes old.inbox takes_front.taken takes_front.takes
          (stays new.client new.client after after refl refl));
      given = [];
      octets =
          append-nil old.inbox
          ∙ sym (take-append-drop takes_front.taken old.inbox)
          ∙ ap₂ (λ (xs ys : List ℕ). xs ++ ys)
          (sym (append-nil (take takes_front.taken old.inbox))) (sym takes_front.inbox)
          ∙ sym (ap
          (λ (o : List ℕ). (o ++ (take takes_front.taken old.inbox ++ [])) ++ new.inbox)
          (no_octets old.client before None after));
      read_next = λ some. absurd (some refl);
      quiet = λ none.
          quiet_by old.client.telling old.client.waits old.client before None client after none nexts;
    }

    -- octets are read
    of_reading : (old : Session T) (before : S) (client : Client) (new : Session T) (after : S)
        → Nexts party serves old.client before None client after
        → Reads read write (record old { client = client }) new
        → IsStepOfClient party serves read write old before new after
    of_reading old before client new after nexts reads = record {
      events = step_of old.client before None after ∷ [];
      goes = tells None nexts (stays client new.client after after reads.client refl);
      given = new.inbox;
      octets =
          ap (λ (i : List ℕ). i ++ new.inbox) reads.all_taken
          ∙ sym (ap (λ (o : List ℕ). (o ++ []) ++ new.inbox)
          (no_octets old.client before None after));
      read_next = reads.given;
      quiet = λ none.
          quiet_by old.client.telling old.client.waits old.client before None client after none nexts;
    }

    of_step_by : (left : List ℕ) (old : Session T) (before : S) (result : Step) (new : Session T)
        (after : S) → StepsBy party serves read write left old before result new after
        → IsStepOfClient party serves read write old before new after
    of_step_by (octet ∷ more) old before result new after (writes, same) =
        of_writing old before new after writes same
    of_step_by [] old before result new after t =
        by t.told t.nexts t.goes_on
      where
        by : (told : Option Telling) → Nexts party serves old.client before told t.client after
            → GoesOn party serves read write told (record old { client = t.client }) after result
            new
            → IsStepOfClient party serves read write old before new after
        by (Some told) nexts goes_on =
            of_telling told old before t.client result new after nexts goes_on
        by None nexts (inl front) = of_taking old before t.client new after nexts front
        by None nexts (inr more) = of_reading old before t.client new after nexts more

    pub steps_of_clients : AreStepsOfClients party serves read write
    steps_of_clients old new before after result steps =
        of_step_by old.outbox old before result new after steps
