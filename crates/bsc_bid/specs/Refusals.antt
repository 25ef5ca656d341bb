-- The reasons to refuse the terminals and the poll list of a line.
use Rattle.std.specs.Prelude.{◌≡◌, ◌≢◌, ◌<◌, ◌≤◌, ℕ, List, ◌++◌, length, take, slice_get}
use Rattle.std.specs.Prelude.{slice_index}
use Rattle.std.specs.List.{AllPairs}
use Rattle.bsc_bid.specs.Terminal.{TerminalValue}
use Rattle.bsc_bid.specs.declared.limits.TheConstants.{MAX_TERMINALS, MAX_ENTRIES}
use Rattle.bsc_bid.specs.declared.refusal.SetupError.{SetupError}
use Rattle.bsc_bid.specs.declared.refusal.SetupError.TheVariants.{NoTerminal, TooMany}
use Rattle.bsc_bid.specs.declared.refusal.SetupError.TheVariants.{SameAddress, EmptyPollList}
use Rattle.bsc_bid.specs.declared.refusal.SetupError.TheVariants.{PollList, Memory}
use Rattle.bsc_bid.specs.Addresses.{addresses, AreDistinct}

-- j is the least place whose address came before, at place i
pub record IsFirstRepeat (xs : List (List ℕ)) (i j : ℕ) : Type 0 where
  pub before : i < j
  pub within : j < length xs
  pub same : slice_get xs i ≡ slice_get xs j
  pub first : AllPairs (λ a b. a ≢ b) (take j xs)

-- memory ran out, or the address at place j of `old` and then `more` is the first that came before,
-- at place i
abbrev pub RefusesAddresses : List (List ℕ) → List (List ℕ) → SetupError → Type 0
RefusesAddresses old more Memory = Unit {0}
RefusesAddresses old more (SameAddress i j) = IsFirstRepeat (old ++ more) i j
RefusesAddresses old more _ = ⊥

-- an entry of a poll list for this many terminals is right: its place is below 255, and it is the
-- number of a terminal
abbrev pub IsEntry : ℕ → List ℕ → ℕ → Type 0
IsEntry count poll_list place = (place < MAX_ENTRIES) × (slice_index poll_list place < count)

-- each entry of a poll list is right
abbrev pub AreEntries : ℕ → List ℕ → Type 0
AreEntries count poll_list = (k : ℕ) → k < length poll_list → IsEntry count poll_list k

-- 1 to 64 terminals
pub record IsTerminalCount (count : ℕ) : Type 0 where
  pub some : 1 ≤ count
  pub few : count ≤ MAX_TERMINALS

-- the least place of the poll list that is 255 or more, or whose entry is not the number of a
-- terminal
pub record IsFirstWrong (count : ℕ) (poll_list : List ℕ) (place : ℕ) : Type 0 where
  pub within : place < length poll_list
  pub wrong : IsEntry count poll_list place → ⊥
  pub first : (k : ℕ) → k < place → IsEntry count poll_list k

-- what each refusal means: its reason holds, and those before it, except out of memory, do not
abbrev pub IsRefused : List TerminalValue → List ℕ → SetupError → Type 0
IsRefused terminals poll_list NoTerminal = length terminals ≡ 0
IsRefused terminals poll_list TooMany = MAX_TERMINALS < length terminals
IsRefused terminals poll_list (SameAddress i j) =
    IsTerminalCount (length terminals) × IsFirstRepeat (addresses terminals) i j
IsRefused terminals poll_list EmptyPollList =
    IsTerminalCount (length terminals) × AreDistinct terminals × (length poll_list ≡ 0)
IsRefused terminals poll_list (PollList place) =
    IsTerminalCount (length terminals) × AreDistinct terminals
    × IsFirstWrong (length terminals) poll_list place
IsRefused terminals poll_list Memory = IsTerminalCount (length terminals)

-- there is no reason to refuse
pub record IsAccepted (terminals : List TerminalValue) (poll_list : List ℕ) : Type 0 where
  pub number : IsTerminalCount (length terminals)
  pub distinct : AreDistinct terminals
  pub some : 1 ≤ length poll_list
  pub right : AreEntries (length terminals) poll_list
