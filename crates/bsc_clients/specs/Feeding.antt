-- What is sent to a station, and what is printed of it.
use Rattle.std.specs.Prelude.{◌≡◌, ℕ, Bool, true, false, List, [], ◌++◌, length, Option, Some}
use Rattle.std.specs.Prelude.{IfSome, option_map}
use Rattle.std.specs.List.{flat_map, list_any}
use Rattle.std.specs.Io.KnownBytes.{Appends}
use Rattle.bsc_clients.specs.Answers.{HasNoFault, HearsTo, Prints, count_done, with_feed}
use Rattle.bsc_clients.specs.Commands.{IsGiven, commands_of, is_follow}

-- The contents of what is said to the station and of the output, before and after.
pub record Turned : Type 0 where
  pub said_old : Option (List ℕ)
  pub said_new : Option (List ℕ)
  pub out_old : Option (List ℕ)
  pub out_new : Option (List ℕ)

abbrev pub turned : Option (List ℕ) → Option (List ℕ) → Option (List ℕ) → Option (List ℕ) → Turned
turned said_old said_new out_old out_new = record {
  said_old = said_old;
  said_new = said_new;
  out_old = out_old;
  out_new = out_new;
}

-- These commands were sent, in order, and each was answered that it was done before the next one
-- was sent. All lines up to the last answer were printed.
pub record SendsEach (sent : List (List ℕ)) (turned : Turned) : Type 0 where
  pub told : List (List ℕ)
  pub said : Appends turned.said_old turned.said_new (flat_map with_feed sent)
  pub faultless : HasNoFault told
  pub each : count_done told ≡ length sent
  pub printed : Prints turned.out_old turned.out_new told

-- Commands were sent and answered, and one of them follows a channel, or not.
pub record SendsSome (commands : Option (List (List ℕ))) (follows : Bool) (turned : Turned)
    : Type 0 where
  pub sent : List (List ℕ)
  pub asked : IfSome commands (λ all. sent ≡ all)
  pub follow : follows ≡ list_any is_follow sent
  pub sends : SendsEach sent turned

-- The commands were sent and answered. If one of them follows a channel, what the station told
-- until it closed the connection was printed after that; else nothing.
pub record Feeds (commands : Option (List (List ℕ))) (turned : Turned) : Type 0 where
  pub sent : List (List ℕ)
  pub answered : List (List ℕ)
  pub followed : List (List ℕ)
  pub asked : IfSome commands (λ all. sent ≡ all)
  pub said : Appends turned.said_old turned.said_new (flat_map with_feed sent)
  pub faultless : HasNoFault (answered ++ followed)
  pub each : count_done answered ≡ length sent
  pub ends : list_any is_follow sent ≡ false → followed ≡ []
  pub printed : Prints turned.out_old turned.out_new (answered ++ followed)

-- The commands of a text, where it is known what is left of the input, or no line of it is sent.
abbrev pub commands_known : Bool → List ℕ → Option (List ℕ) → Option (List (List ℕ))
commands_known true text input = option_map (commands_of true text) input
commands_known false text input = Some (commands_of false text [])

-- A station was fed with what these words ask for.
pub record FeedsWords (words : List (List ℕ)) (input : Option (List ℕ)) (turned : Turned)
    : Type 0 where
  pub text : List ℕ
  pub takes_lines : Bool
  pub given : IsGiven words text takes_lines
  pub feeds : Feeds (commands_known takes_lines text input) turned

-- What was printed of a station that was fed with what these words ask for is what was heard of it:
-- if one of the commands follows a channel, all its lines up to the end; else the first of them.
pub record HearsWords (words : List (List ℕ)) (input heard old new : Option (List ℕ))
    : Type 0 where
  pub text : List ℕ
  pub takes_lines : Bool
  pub given : IsGiven words text takes_lines
  pub sent : List (List ℕ)
  pub asked : IfSome (commands_known takes_lines text input) (λ all. sent ≡ all)
  pub hears : HearsTo (list_any is_follow sent) heard old new

-- A station was reached and fed with what these words ask for; what was said to it is known to it
-- only.
pub record HasFed (words : List (List ℕ)) (input old new : Option (List ℕ)) : Type 0 where
  pub said_old : Option (List ℕ)
  pub said_new : Option (List ℕ)
  pub fed : FeedsWords words input (turned said_old said_new old new)
