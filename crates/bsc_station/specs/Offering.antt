-- Records that are offered at a station while it runs.
use Rattle.std.specs.Prelude.{◌≡◌, ℕ, List, [], ◌∷◌, ◌++◌, length, Bool, true, false, Result, OnOk}
use Rattle.std.specs.Prelude.{OnErr, IfOk, Option, Some}
use Rattle.bsc_bid.specs.declared.way.Way.{Way}
use Rattle.bsc_station.specs.Ends.{End, sending, receiving}

-- Whether there is a channel with this end, and the station sends on it.
abbrev pub is_sending : Option End → Bool
is_sending (Some (sending offered known doubt)) = true
is_sending _ = false

-- The station sends on the channel.
abbrev pub IsSending : End → Type 0
IsSending (sending offered known doubt) = Unit {0}
IsSending (receiving records) = ⊥

-- A record was offered on a channel: it is the last of those that were offered there, its number is
-- that of the records before it, and it is kept. Where it was refused, nothing was offered. Nothing
-- is offered on any other channel.
pub record OffersRecord {S E : Type 0} (offered : S → ℕ → Way → List (List ℕ))
    (is_kept : S → ℕ → Way → ℕ → Type 0) (old : S) (t : ℕ) (way : Way) (chars : List ℕ)
    (result : Result ℕ E) (new : S) : Type 0 where
  pub number : IfOk result (λ n. n ≡ length (offered old t way))
  pub added : OnOk result (offered new t way ≡ offered old t way ++ chars ∷ [])
  pub kept : IfOk result (λ n. is_kept new t way n)
  pub refused : OnErr result (offered new t way ≡ offered old t way)
  pub others : (u : ℕ) (other : Way) → (u ≡ t → other ≡ way → ⊥)
      → offered new u other ≡ offered old u other

-- A record is offered so, and the station does what is given.
abbrev pub OffersBy : {S E : Type 0} → (S → ℕ → Way → List (List ℕ)) → (S → ℕ → Way → ℕ → Type 0)
    → (S → ℕ → Way → List ℕ → Result ℕ E → S → Type 0) → S → ℕ → Way → List ℕ
    → Result ℕ E → S → Type 0
OffersBy offered is_kept offers old t way chars result new =
    OffersRecord offered is_kept old t way chars result new × offers old t way chars result new
