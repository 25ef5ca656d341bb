-- The events of a script, and the line that describes each.
use Rattle.std.specs.Prelude.{ℕ, Bool, true, false, List, [], codes, Option, Some, None, option_map}
use Rattle.std.specs.Prelude.{unwrap_or, if◌then◌else◌}
use Rattle.std.specs.Option.{option_and_then}
use Rattle.std.specs.Str.{bytes_eq}
use Rattle.bsc_bid.specs.declared.way.Way.{Way}
use Rattle.bsc_bid.specs.declared.way.Way.TheVariants.{FromTerminal, ToTerminal}
use Rattle.bsc_text.specs.Numbers.{terminal_of, select_of}
use Rattle.bsc_text.specs.Words.{first_word, after_word, words_of}
use Rattle.bsc_config.specs.declared.script.keyword.Keyword.{Keyword}
use Rattle.bsc_config.specs.declared.script.keyword.Keyword.TheVariants.{OfferAt, OfferFor, OfferTo}
use Rattle.bsc_config.specs.declared.script.keyword.Keyword.TheVariants.{Carry, Lose, Heard}
use Rattle.bsc_config.specs.declared.script.keyword.Keyword.TheVariants.{HeardEach, Silence, Ready}
use Rattle.bsc_config.specs.declared.script.keyword.Keyword.TheVariants.{Unready, PollOn, PollOff}
use Rattle.bsc_config.specs.declared.script.keyword.Keyword.TheVariants.{UrgentAt, UrgentFor}
use Rattle.bsc_config.specs.declared.script.keyword.Keyword.TheVariants.{Release}
use Rattle.bsc_config.specs.Transmissions.{transmission_of, items_of}

-- What happens on a line. Terminals and selection addresses are numbers, whether or not the line
-- has them.
pub data Event : Type 0 where
  -- a record with these codes is offered at a terminal
  offer_at : ℕ → List ℕ → Event
  -- a record with these codes is offered for a selection address of a terminal
  offer_for : ℕ → ℕ → List ℕ → Event
  -- the pending transmission is heard as it was sent
  carry : Event
  -- the pending transmission is lost
  lose : Event
  -- the pending transmission is heard as these octets
  heard : List ℕ → Event
  -- each terminal hears its item in place of what the control station sent
  heard_each : List (Option (List ℕ)) → Event
  -- a time-out passes in which nothing is heard
  silence : Event
  -- a terminal starts or stops accepting selections
  ready : ℕ → Bool → Event
  -- the control station starts or stops polling a terminal
  polled : ℕ → Bool → Event
  -- a terminal asks the control station for the line
  urgent_at : ℕ → Event
  -- the control station asks a terminal for the line
  urgent_for : ℕ → Event
  -- a doubt about the records sent in this direction is released
  release : ℕ → Way → Event

-- The keyword of an event that a word spells.
abbrev pub event_keyword : List ℕ → Option Keyword
event_keyword word =
    if bytes_eq word (codes "offer-at") then Some OfferAt else
    if bytes_eq word (codes "offer-for") then Some OfferFor else
    if bytes_eq word (codes "offer-to") then Some OfferTo else
    if bytes_eq word (codes "carry") then Some Carry else
    if bytes_eq word (codes "lose") then Some Lose else
    if bytes_eq word (codes "heard") then Some Heard else
    if bytes_eq word (codes "heard-each") then Some HeardEach else
    if bytes_eq word (codes "silence") then Some Silence else
    if bytes_eq word (codes "ready") then Some Ready else
    if bytes_eq word (codes "unready") then Some Unready else
    if bytes_eq word (codes "poll-on") then Some PollOn else
    if bytes_eq word (codes "poll-off") then Some PollOff else
    if bytes_eq word (codes "urgent-at") then Some UrgentAt else
    if bytes_eq word (codes "urgent-for") then Some UrgentFor else
    if bytes_eq word (codes "release") then Some Release else None

-- The terminal with the number in the first word.
abbrev pub first_terminal : List ℕ → Option ℕ
first_terminal rest = terminal_of (first_word rest)

-- The selection address with the number in the first word.
abbrev pub first_select : List ℕ → Option ℕ
first_select rest = select_of (first_word rest)

-- The codes of a record at the end of the line: those after the space, or none if there is no
-- space.
abbrev pub codes_after : List ℕ → List ℕ
codes_after rest = unwrap_or (after_word rest) []

-- `T RECORD`, a record offered at a terminal.
abbrev pub offer_at_of : List ℕ → Option Event
offer_at_of rest = option_map (λ t. offer_at t (codes_after rest)) (first_terminal rest)

-- `T RECORD`, a record for the first selection address of a terminal.
abbrev pub offer_for_of : List ℕ → Option Event
offer_for_of rest = option_map (λ t. offer_for t 0 (codes_after rest)) (first_terminal rest)

-- `S RECORD`, a record for a selection address of this terminal.
abbrev pub offer_select_of : ℕ → List ℕ → Option Event
offer_select_of t rest = option_map (λ s. offer_for t s (codes_after rest)) (first_select rest)

-- `T S RECORD`, a record for a selection address of a terminal.
abbrev pub offer_to_of : List ℕ → Option Event
offer_to_of rest =
    option_and_then (λ t. option_and_then (offer_select_of t) (after_word rest))
    (first_terminal rest)

-- `to S`: the direction to this selection address.
abbrev pub way_to : List ℕ → Option Way
way_to words = option_map (λ s. ToTerminal s) (option_and_then select_of (after_word words))

-- The directions: `from`, `to` for address 0, and `to S`.
abbrev pub way_of : List ℕ → Option Way
way_of words =
    if bytes_eq words (codes "from") then Some FromTerminal else
    if bytes_eq words (codes "to") then Some (ToTerminal 0) else
    if bytes_eq (first_word words) (codes "to") then way_to words else None

-- A direction after a word.
abbrev pub way_after : List ℕ → Option Way
way_after rest = option_and_then way_of (after_word rest)

-- `T` and a direction.
abbrev pub release_of : List ℕ → Option Event
release_of rest =
    option_and_then (λ t. option_map (release t) (way_after rest)) (first_terminal rest)

-- The event of a keyword with nothing after it.
abbrev pub event_alone : Keyword → Option Event
event_alone Carry = Some carry
event_alone Lose = Some lose
event_alone Silence = Some silence
event_alone _ = None

-- The event of a keyword with the rest of the line, which follows the space.
abbrev pub event_with : Keyword → List ℕ → Option Event
event_with OfferAt rest = offer_at_of rest
event_with OfferFor rest = offer_for_of rest
event_with OfferTo rest = offer_to_of rest
event_with Heard rest = option_map heard (transmission_of rest)
event_with HeardEach rest = option_map heard_each (items_of (words_of rest))
event_with Ready rest = option_map (λ t. ready t true) (terminal_of rest)
event_with Unready rest = option_map (λ t. ready t false) (terminal_of rest)
event_with PollOn rest = option_map (λ t. polled t true) (terminal_of rest)
event_with PollOff rest = option_map (λ t. polled t false) (terminal_of rest)
event_with UrgentAt rest = option_map urgent_at (terminal_of rest)
event_with UrgentFor rest = option_map urgent_for (terminal_of rest)
event_with Release rest = release_of rest
event_with _ rest = None

-- The event of a keyword, with or without the rest of the line.
abbrev pub event_by : Option (List ℕ) → Keyword → Option Event
event_by None keyword = event_alone keyword
event_by (Some rest) keyword = event_with keyword rest

-- The event of a line, or none if the line is not an event.
abbrev pub event_of : List ℕ → Option Event
event_of line = option_and_then (event_by (after_word line)) (event_keyword (first_word line))
