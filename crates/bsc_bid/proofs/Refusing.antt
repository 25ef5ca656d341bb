-- The reasons to refuse the terminals and the poll list of a line.
use Rattle.std.proofs.Common.{◌≡◌, ℕ, ◌<◌, ◌≤◌, Bool, true, false, List, [], length, subst, arith}
use Rattle.std.proofs.lemmas.Bool.Decides.{nat_tests}
use Rattle.std.proofs.lemmas.List.{get_or_default}
use Rattle.std.specs.List.{All}
use Rattle.std.specs.Bool.{◌==◌}
use Rattle.bsc_bid.specs.Terminal.{TerminalValue}
use Rattle.bsc_bid.specs.declared.refusal.SetupError.{SetupError}
use Rattle.bsc_bid.specs.declared.refusal.SetupError.TheVariants.{NoTerminal, TooMany}
use Rattle.bsc_bid.specs.declared.refusal.SetupError.TheVariants.{SameAddress, EmptyPollList}
use Rattle.bsc_bid.specs.declared.refusal.SetupError.TheVariants.{PollList, Memory}
use Rattle.bsc_bid.specs.Addresses.{addresses}
use Rattle.bsc_bid.specs.Refusals.{IsTerminalCount, RefusesAddresses, IsRefused, AreEntries}

-- what the test for an empty list means
pub none_there : (n : ℕ) (empty : Bool) → empty ≡ (n == 0) → empty ≡ true → n ≡ 0
none_there n empty is holds = grind (arith, nat_tests)

pub some_there : (n : ℕ) (empty : Bool) → empty ≡ (n == 0) → empty ≡ false → 1 ≤ n
some_there n empty is fails = grind (arith, nat_tests)

-- a reason to refuse the addresses is one to refuse the terminals and the poll list
pub refused_addresses : (terminals : List TerminalValue) (poll_list : List ℕ) (e : SetupError)
    → IsTerminalCount (length terminals) → RefusesAddresses [] (addresses terminals) e
    → IsRefused terminals poll_list e
refused_addresses terminals poll_list NoTerminal number refused = absurd refused
refused_addresses terminals poll_list TooMany number refused = absurd refused
refused_addresses terminals poll_list (SameAddress i j) number refused = (number, refused)
refused_addresses terminals poll_list EmptyPollList number refused = absurd refused
refused_addresses terminals poll_list (PollList place) number refused = absurd refused
refused_addresses terminals poll_list Memory number refused = number

-- each entry of a right poll list is the number of a terminal
pub right_entries : (count : ℕ) (poll_list : List ℕ) → AreEntries count poll_list
    → All (λ t. t < count) poll_list
right_entries count poll_list right k d within =
    subst (λ t. t < count) (get_or_default poll_list k 0 d within) (right k within).1
