-- What holds of all addresses of a line holds of those of each terminal.
use Rattle.std.proofs.Common.{◌≢◌, ℕ, zero, suc, ◌+◌, ◌<◌, List, [], ◌∷◌, ◌++◌, length, arith}
use Rattle.std.proofs.Common.{length-append}
use Rattle.std.proofs.Math.ListN.{get_or-append}
use Rattle.std.proofs.lemmas.List.{get_or-append-add}
use Rattle.std.specs.List.{All, AllPairs}
use Rattle.bsc_bid.specs.Terminal.{TerminalValue, own_addresses, HasDistinctAddresses}
use Rattle.bsc_bid.specs.Addresses.{addresses, AreDistinct}

-- if no two elements of a list are the same, none of its front are, and none of its rest
front_pairs : (xs ys : List (List ℕ)) → AllPairs (λ a b. a ≢ b) (xs ++ ys)
    → AllPairs (λ a b. a ≢ b) xs
front_pairs xs ys h i j d less within =
    let first : i < length xs = omega arith in
    rw (← get_or-append xs ys d i first, ← get_or-append xs ys d j within)
    (h i j d less (omega (arith, length-append xs ys)))

rest_pairs : (xs ys : List (List ℕ)) → AllPairs (λ a b. a ≢ b) (xs ++ ys)
    → AllPairs (λ a b. a ≢ b) ys
rest_pairs xs ys h i j d less within =
    rw (← get_or-append-add xs ys i d, ← get_or-append-add xs ys j d)
    (h (length xs + i) (length xs + j) d (omega arith) (omega (arith, length-append xs ys)))

-- so the addresses of each terminal differ
pub each_distinct : (ts : List TerminalValue) → AreDistinct ts → All HasDistinctAddresses ts
each_distinct [] h t d less = absurd (omega arith)
each_distinct (x ∷ xs) h zero d less = front_pairs (own_addresses x) (addresses xs) h
each_distinct (x ∷ xs) h (suc t) d less =
    each_distinct xs (rest_pairs (own_addresses x) (addresses xs) h) t d (omega arith)
