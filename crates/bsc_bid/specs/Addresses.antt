-- The addresses of a line, and their numbers (GA27-3004: polling and selection addresses).
use Rattle.std.specs.Prelude.{◌≡◌, ◌≢◌, ◌+◌, ℕ, List, [], ◌∷◌, ◌++◌, Option, Some, slice_get}
use Rattle.std.specs.List.{AllPairs}
use Rattle.bsc_bid.specs.Terminal.{TerminalValue, own_addresses}
use Rattle.bsc_bid.specs.declared.way.Way.{Way}
use Rattle.bsc_bid.specs.declared.way.Way.TheVariants.{FromTerminal, ToTerminal}

-- the addresses in the order of their numbers: terminal 0's polling address, its selection
-- addresses in order, terminal 1's polling address, and so on
abbrev pub addresses : List TerminalValue → List (List ℕ)
addresses [] = []
addresses (t ∷ ts) = own_addresses t ++ addresses ts

-- no two addresses are the same
abbrev pub AreDistinct : List TerminalValue → Type 0
AreDistinct ts = AllPairs (λ a b. a ≢ b) (addresses ts)

-- the address of a terminal for a way
abbrev pub address_for : TerminalValue → Way → Option (List ℕ)
address_for t FromTerminal = Some t.poll
address_for t (ToTerminal s) = slice_get t.selects s

-- terminal t has this address for this way
pub record IsAddressOf (ts : List TerminalValue) (t : ℕ) (way : Way) (address : List ℕ)
    : Type 0 where
  pub terminal : TerminalValue
  pub there : slice_get ts t ≡ Some terminal
  pub its_own : address_for terminal way ≡ Some address

-- each address with the number and the way of its terminal, in the order of the addresses' numbers;
-- the first address is the polling address of terminal t, or its selection address s
abbrev pub numbered_selects : ℕ → ℕ → List (List ℕ) → List (List ℕ × (ℕ × Way))
numbered_selects t s [] = []
numbered_selects t s (x ∷ xs) = (x, (t, ToTerminal s)) ∷ numbered_selects t (s + 1) xs

abbrev pub owned : ℕ → TerminalValue → List (List ℕ × (ℕ × Way))
owned t x = (x.poll, (t, FromTerminal)) ∷ numbered_selects t 0 x.selects

abbrev pub numbered : ℕ → List TerminalValue → List (List ℕ × (ℕ × Way))
numbered t [] = []
numbered t (x ∷ xs) = owned t x ++ numbered (t + 1) xs
