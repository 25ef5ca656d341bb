-- The table that holds selection addresses.
use Rattle.std.proofs.Common.{◌≡◌, ℕ, ◌-◌, ◌<◌, ◌≤◌, refl, sym, ap, List, ◌++◌, length, take, drop}
use Rattle.std.proofs.Common.{replicate}
use Rattle.std.proofs.Math.Seq.{take-append_seam}
use Rattle.std.proofs.lemmas.List.{drop-replicate}
use Rattle.bsc_bid.specs.declared.limits.TheConstants.{MAX_SELECTS}
use Rattle.bsc_bid.specs.Terminal.{HoldsSelects}

rest_of : (poll : List ℕ) (n : ℕ)
    → drop n (replicate MAX_SELECTS poll) ≡ replicate (MAX_SELECTS - n) poll
rest_of poll n = drop-replicate n MAX_SELECTS poll

pub holds_selects : (poll : List ℕ) (selects : List (List ℕ)) → 0 < length selects
    → length selects ≤ MAX_SELECTS
    → HoldsSelects poll (selects ++ drop (length selects) (replicate MAX_SELECTS poll))
    (length selects)
holds_selects poll selects some most =
    let front : take (length selects)
    (selects ++ drop (length selects) (replicate MAX_SELECTS poll))
    ≡ selects = take-append_seam selects _ in
    record {
      terminal = rw front (record { some = some; most = most });
      long = rw front refl;
      rest = rw front (ap (λ z. selects ++ z) (sym (rest_of poll (length selects))));
    }
