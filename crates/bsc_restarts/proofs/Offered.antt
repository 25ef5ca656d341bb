-- A record that is kept as offered is the next one that the station has to send.
use Rattle.std.proofs.Common.{◌≡◌, ◌∙◌, ◌≤◌, ◌+◌, ℕ, nat_eq, ◌&&◌, false, List, [], ◌∷◌, ◌++◌, map}
use Rattle.std.proofs.Common.{length, drop, Option, None, Some, sym, ap, subst, arith}
use Rattle.std.proofs.lemmas.List.{drop-append-le, length-append, map-append}
use Rattle.std.specs.Prelude.{ℤ}
use Rattle.bsc_bid.specs.declared.kept.KeptSender.{KeptSender}
use Rattle.bsc_spool.specs.Contents.{Contents, records_from}
use Rattle.bsc_spool.specs.declared.change.Change.TheVariants.{Offered}
use Rattle.bsc_spool.specs.declared.channel.Channel.{Channel}
use Rattle.bsc_spool.specs.declared.store.Found.{Found}
use Rattle.bsc_restarts.specs.Crashes.{KeepsOne, found_at}
use Rattle.bsc_restarts.specs.Kept.{HasAllSent, HasSentIf}
use Rattle.bsc_restarts.proofs.OneSide.{OnlySide}

-- the records from a place on, with one more at the end
one_more_from : (n : ℕ) (offered : List Found) (f : Found) → n ≤ length offered
    → records_from n (offered ++ f ∷ []) ≡ records_from n offered ++ f.«record» ∷ []
one_more_from n offered f few =
    ap (map (λ (x : Found). x.«record»)) (drop-append-le n offered (f ∷ []) few)
    ∙ map-append (λ (x : Found). x.«record») (drop n offered) (f ∷ [])

-- what the store has of the channel
sent_offered : (k : Option KeptSender) (rest : List (List ℕ)) (chars : List ℕ) (old new : Contents)
    (mark : ℤ) → new ≡ record old { offered = old.offered ++ found_at mark chars ∷ [] }
    → HasSentIf old k rest → HasSentIf new k (rest ++ chars ∷ [])
sent_offered None rest chars old new mark is has = tt
sent_offered (Some k) rest chars old new mark is has =
    let f = found_at mark chars in
    let more : length (old.offered ++ f ∷ []) ≡ length old.offered + 1 =
    length-append old.offered (f ∷ []) in
    subst (λ it. HasAllSent it k (rest ++ chars ∷ [])) (sym is)
    (record {
      few = omega (arith, more, has.few);
      known = has.known;
      in_doubt = has.in_doubt;
      rest = one_more_from old.known old.offered f has.few ∙ ap (λ rs. rs ++ chars ∷ []) has.rest;
    })

-- a record is offered to a station: it waits on its channel, and nothing else changes
module _ {S : Type 0} (kept_at : S → ℕ → ℕ → Option KeptSender)
    (waits : S → ℕ → ℕ → List (List ℕ)) (records : S → ℕ → List (List ℕ)) (t s : ℕ)
    (chars : List ℕ) (old new : S) (IsSide : ℕ → ℕ → Type 0) where
  pub record Gains : Type 0 where
    pub kept : (i j : ℕ) → kept_at new i j ≡ kept_at old i j
    pub waits_here : waits new t s ≡ waits old t s ++ chars ∷ []
    pub waits_there : (i j : ℕ) → IsSide i j → (nat_eq i t && nat_eq j s) ≡ false
        → waits new i j ≡ waits old i j
    pub arrived : (n : ℕ) → records new n ≡ records old n

  pub only_gains : Gains → OnlySide kept_at waits records t s old new IsSide
  only_gains gains =
      record {
        kept = λ i j side elsewhere. gains.kept i j;
        waiting = gains.waits_there;
        arrived = gains.arrived;
      }

  pub gains_here : Gains → (its : Channel) (has left : Channel → Contents)
      → KeepsOne (Offered its chars) has left
      → HasSentIf (has its) (kept_at old t s) (waits old t s)
      → HasSentIf (left its) (kept_at new t s) (waits new t s)
  gains_here gains its has left keeps had =
      subst (λ k. HasSentIf (left its) k (waits new t s)) (sym (gains.kept t s))
      (subst (HasSentIf (left its) (kept_at old t s)) (sym gains.waits_here)
      (sent_offered (kept_at old t s) (waits old t s) chars (has its) (left its) keeps.changed.0
      keeps.changed.1 had))
