-- Texts in turn: one more text, all of them, and one that fails.
use Rattle.std.proofs.Common.{◌<◌, ◌≤◌, ◌+◌, ◌++◌, ℕ, List, [], ◌∷◌, take, map, length}
use Rattle.std.proofs.Common.{get_or, sym, subst, ap, refl, ◌∙◌}
use Rattle.std.proofs.lemmas.List.{take_more, take_all, take-map, map-append, length-map, get_or-map}
use Rattle.bsc_attending.specs.Offering.{InTurn, FailsInTurn}

-- texts in turn, and then one more
pub in_turn_last : {S : Type 0} (Changes : List ℕ → S → S → Type 0) (texts : List (List ℕ))
    (text : List ℕ) (old mid new : S) → InTurn Changes texts old mid → Changes text mid new
    → InTurn Changes (texts ++ text ∷ []) old new
in_turn_last Changes [] text old mid new done changes =
    (new, subst (λ s. Changes text s new) done changes, refl)
in_turn_last Changes (first ∷ texts) text old mid new done changes =
    (done.0, done.1, in_turn_last Changes texts text done.0 mid new done.2 changes)

module _ {S T : Type 0} (Changes : List ℕ → S → S → Type 0) (f : T → List ℕ) where
  -- one more of the texts
  pub in_turn_more : (texts : List T) (i : ℕ) (d : T) (old mid new : S) → i < length texts
      → InTurn Changes (map f (take i texts)) old mid → Changes (f (get_or texts i d)) mid new
      → InTurn Changes (map f (take (i + 1) texts)) old new
  in_turn_more texts i d old mid new below done changes =
      subst (λ first. InTurn Changes first old new)
      (sym (ap (map f) (take_more texts i d below)
      ∙ map-append f (take i texts) (get_or texts i d ∷ [])))
      (in_turn_last Changes (map f (take i texts)) (f (get_or texts i d)) old mid new done changes)

  -- all the texts
  pub in_turn_all : (texts : List T) (i : ℕ) (old new : S) → length texts ≤ i
      → InTurn Changes (map f (take i texts)) old new → InTurn Changes (map f texts) old new
  in_turn_all texts i old new past done =
      subst (λ first. InTurn Changes (map f first) old new) (take_all i texts past) done

  -- a text fails after those before it
  pub fails_in_turn : (Fails : List ℕ → S → Type 0) (texts : List T) (i : ℕ) (d : T) (old mid : S)
      → i < length texts → InTurn Changes (map f (take i texts)) old mid
      → Fails (f (get_or texts i d)) mid → FailsInTurn Changes Fails (map f texts) old
  fails_in_turn Fails texts i d old mid below done fails = record {
    place = i;
    within = subst (λ n. i < n) (sym (length-map texts f)) below;
    mid = mid;
    before = subst (λ first. InTurn Changes first old mid) (sym (take-map f i texts)) done;
    fails = subst (λ text. Fails text mid) (sym (get_or-map f texts i d [] below)) fails;
  }
