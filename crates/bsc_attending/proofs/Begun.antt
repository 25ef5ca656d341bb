-- A station that begins with what its store has.
use Rattle.std.proofs.Common.{◌≡◌, ℕ, Bool, true, false, List, Option, Some, None, is_some, refl}
use Rattle.std.proofs.Common.{subst, sym, ap, IsSome}
use Rattle.std.specs.Prelude.{IsSomeAnd}
use Rattle.bsc_keeping.specs.declared.keeper.Keeper.{Keeper}
use Rattle.bsc_keeping.specs.declared.own.Own.{Own}
use Rattle.bsc_options.specs.Words.{WordsValue}
use Rattle.bsc_bid.specs.declared.speaker.Speaker.{Speaker}
use Rattle.bsc_spool.specs.declared.ends.Receiving.{Receiving}
use Rattle.bsc_spool.specs.declared.ends.Sending.{Sending}
use Rattle.bsc_spool.specs.declared.store.Store as store_of
use Rattle.bsc_attending.specs.Ending.{IsSameKind}
use Rattle.bsc_attending.specs.Preparing.{IsReady}
use Rattle.bsc_attending.specs.Runs.{BeginsFrom, BeginsIf, HasBegun}
use Rattle.bsc_attending.specs.declared.preparing.Prepared.{Prepared}
use Rattle.bsc_attending.specs.declared.preparing.Prepared.TheVariants as prepared

-- a station is of its own kind
pub own_kind : (station : Prepared) → IsSameKind station station
own_kind (prepared.Control c) = tt
own_kind (prepared.Terminal l) = tt

module _ {K : Type 0} (store : store_of.Ghosts K) (forgets : Bool) (begun now : Prepared)
    (keeper : Option (Keeper K)) where
  over : (sending sent : List Sending) (receiving received : List Receiving) → sending ≡ sent
      → receiving ≡ received
      → IsSomeAnd keeper (BeginsFrom store forgets sending receiving begun now)
      → IsSomeAnd keeper (BeginsFrom store forgets sent received begun now)
  over sending sent receiving received same_sent same_received begins =
      subst (λ r. IsSomeAnd keeper (BeginsFrom store forgets sent r begun now)) same_received
      (subst (λ s. IsSomeAnd keeper (BeginsFrom store forgets s receiving begun now)) same_sent
      begins)

  -- it was prepared, and then filled if it is to be kept
  pub has_begun : (w : WordsValue) (speaker : Speaker) (input after : Option (List ℕ)) (is_kept : Bool)
      (own : Option Own) → IsReady w speaker input after begun own → (is_kept ≡ true → IsSome own)
      → IsSameKind begun now → BeginsIf store forgets is_kept own begun now keeper
      → HasBegun store w speaker forgets is_kept input now keeper
  has_begun w speaker input after true (Some own) ready has kind begins =
      record {
        after = after;
        begun = begun;
        prepared = ready.prepared;
        kind = kind;
        kept = λ is. over own.sending.items _ own.receiving.items _ ready.sending ready.receiving
            begins;
        unkept = λ is. let clash : true ≡ false = is in absurd cc;
      }
  has_begun w speaker input after true None ready has kind begins =
      let clash : false ≡ true = has refl in absurd cc
  has_begun w speaker input after false own ready has kind begins =
      record {
        after = after;
        begun = begun;
        prepared = ready.prepared;
        kind = kind;
        kept = λ is. let clash : false ≡ true = is in absurd cc;
        unkept = λ is. begins;
      }
