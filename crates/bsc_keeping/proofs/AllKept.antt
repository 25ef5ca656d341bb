-- What is kept has all that is to be kept of a station, throughout a session.
use Rattle.std.proofs.Common.{◌≡◌, ℕ, true, List, [], ◌∷◌, Option, None, Some}
use Rattle.std.proofs.Common.{Ok, Err, refl, sym, ◌∙◌, ap, subst, inl, inr, length}
use Rattle.std.proofs.Math.Nat.{le-max_right}
use Rattle.std.specs.List.{AllByRecursion}
use Rattle.bsc_bid.specs.declared.kept.KeptSender.{KeptSender}
use Rattle.bsc_spool.specs.declared.ends.Sending.{Sending}
use Rattle.bsc_spool.specs.declared.ends.Receiving.{Receiving}
use Rattle.bsc_spool.specs.declared.store.Store as store_of
use Rattle.bsc_connections.specs.Parts.{SessionParts}
use Rattle.bsc_connections.specs.Connections.{ConnectionValue}
use Rattle.bsc_connections.specs.Attending.{Session, GoesOn, not_begun, one_more}
use Rattle.bsc_station.specs.declared.party.Party as party_of
use Rattle.bsc_keeping.specs.Changes.{known_now, records_of, receiving_now}
use Rattle.bsc_keeping.specs.Changes.{sending_now}
use Rattle.bsc_keeping.specs.AllKept.{HasAll, HasArrived, IsKeptOrSame, KeepsEachChange}
use Rattle.bsc_keeping.specs.Sessions.{IsKept}
use Rattle.bsc_keeping.specs.declared.keeper.Keeper.{Keeper}
use Rattle.bsc_keeping.specs.declared.keeping.Keeping.{Keeping}
use Rattle.bsc_keeping.specs.declared.stored.Stored.{Stored}

-- What is known twice is known once.
known_again : (end : Sending) (k : Option KeptSender)
    → known_now (known_now end k) k ≡ known_now end k
known_again end None = refl
known_again end (Some k) = refl

same_terminal : (end : Sending) (k : Option KeptSender)
    → (known_now end k).terminal ≡ end.terminal
same_terminal end None = refl
same_terminal end (Some k) = refl

same_select : (end : Sending) (k : Option KeptSender) → (known_now end k).select ≡ end.select
same_select end None = refl
same_select end (Some k) = refl

module _ {S : Type 0} (kept_at : S → ℕ → ℕ → Option KeptSender) (station : S) where
  abbrev kept_for : Sending → Option KeptSender
  kept_for end = kept_at station end.terminal end.select

  same_kept : (end : Sending) → kept_for (known_now end (kept_for end)) ≡ kept_for end
  same_kept end =
      rw (same_terminal end (kept_for end)) (rw (same_select end (kept_for end)) refl)

  sending_again : (end : Sending)
      → known_now (known_now end (kept_for end)) (kept_for (known_now end (kept_for end)))
      ≡ known_now end (kept_for end)
  sending_again end = rw (same_kept end) (known_again end (kept_for end))

  pub all_sending_again : (ends : List Sending)
      → sending_now kept_at station (sending_now kept_at station ends)
      ≡ sending_now kept_at station ends
  all_sending_again [] = refl
  all_sending_again (end ∷ ends) =
      ap (λ (e : Sending). e ∷ sending_now kept_at station (sending_now kept_at station ends))
      (sending_again end)
      ∙ ap (λ (l : List Sending). known_now end (kept_for end) ∷ l) (all_sending_again ends)

module _ {S K V Z : Type 0} (party : party_of.Ghosts S Z)
    (kept_at : S → ℕ → ℕ → Option KeptSender) (store : store_of.Ghosts K)
    (printed : V → ℕ → Option ℕ) where
  arrived_after : (station : S) (told : ℕ → Option ℕ) (ends : List Receiving)
      → AllByRecursion (HasArrived party kept_at store printed station)
      (receiving_now party station told ends)
  arrived_after station told [] = tt
  arrived_after station told (end ∷ ends) = (
    le-max_right end.arrived (length (records_of party station told end.number)),
    arrived_after station told ends,
  )

  all_if_kept : {M : Type 0} (station : S) (old new : Keeping M (Stored K V))
      → IsKept party kept_at store printed station old new
      → HasAll party kept_at store printed station new.kept.now.keeper
  all_if_kept station old new kept =
      record {
        sending =
            ap (sending_now kept_at station) kept.sending
            ∙ all_sending_again kept_at station old.kept.now.keeper.sending.items ∙ sym kept.sending;
        receiving =
            subst
            (λ ends. AllByRecursion (HasArrived party kept_at store printed station) ends)
            (sym kept.receiving)
            (arrived_after station (printed old.kept.now.printer) old.kept.now.keeper.receiving.items);
      }

  module _ {R W F M T : Type 0} (parts : SessionParts S R W F (Keeping M (Stored K V)) T)
      (changes : KeepsEachChange party kept_at store printed parts) where
    abbrev Now : Type 0
    Now = Session S (ConnectionValue R W F) (Keeping M (Stored K V)) T

    all_after : (old new : Now) → HasAll party kept_at store printed old.station old.monitor.kept.now.keeper
        → IsKeptOrSame party kept_at store printed old new
        → HasAll party kept_at store printed new.station new.monitor.kept.now.keeper
    all_after old new has (inl kept) = all_if_kept new.station old.monitor new.monitor kept
    all_after old new has (inr (station, keeper)) =
        subst (λ (s : S). HasAll party kept_at store printed s new.monitor.kept.now.keeper) (sym station)
        (subst (λ (k : Keeper K). HasAll party kept_at store printed old.station k) (sym keeper) has)

    pub all_throughout : (steps : ℕ) (old new : Now)
        → HasAll party kept_at store printed old.station old.monitor.kept.now.keeper
        → GoesOn parts steps old new
        → HasAll party kept_at store printed new.station new.monitor.kept.now.keeper
    all_throughout steps old new has (not_begun same) =
        subst (λ (s : Now). HasAll party kept_at store printed s.station s.monitor.kept.now.keeper)
        (sym same) has
    all_throughout steps old new has (one_more {mid = mid} before (inl (happened, step))) =
        all_after mid new (all_throughout _ old mid has before) (changes mid new happened true step)
    all_throughout steps old new has (one_more {mid = mid} before (inr failed)) =
        let clash : Ok true ≡ Err failed.error = failed.result_is in absurd cc
