-- Reading the texts of an option one after another.
use Rattle.std.proofs.Common.{◌≡◌, ◌<◌, ◌≤◌, ◌+◌, ℕ, List, drop, map, length, get_or, sym, subst}
use Rattle.std.proofs.Common.{refl, Result, Ok, Err}
use Rattle.std.specs.Prelude.{MatchResult}
use Rattle.std.proofs.lemmas.List.{drop_all, drop_more}
use Rattle.bsc_options.specs.Admission.{ReadsEach}
use Rattle.bsc_options.specs.declared.error.OptionError.{OptionError}

module _ {V T : Type 0} (Changes : List ℕ → V → Result V OptionError → Type 0) (f : T → List ℕ) where
  -- one text of those that are left, and then the rest
  pub reads_one : (texts : List T) (i : ℕ) (d : T) (value : V) (next result : Result V OptionError)
      → i < length texts → Changes (f (get_or texts i d)) value next
      → MatchResult next
      (λ changed. ReadsEach Changes (map f (drop (i + 1) texts)) changed result)
      (λ why. result ≡ Err why)
      → ReadsEach Changes (map f (drop i texts)) value result
  reads_one texts i d value next result below changes rest =
      subst (λ left. ReadsEach Changes (map f left) value result)
      (sym (drop_more texts i d below)) (next, changes, rest)

  -- no text is left
  pub reads_none : (texts : List T) (i : ℕ) (value : V) → length texts ≤ i
      → ReadsEach Changes (map f (drop i texts)) value (Ok value)
  reads_none texts i value past =
      subst (λ left. ReadsEach Changes (map f left) value (Ok value))
      (sym (drop_all i texts past)) refl
