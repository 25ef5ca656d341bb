-- The commands of a client, and the lines that are read as each.
use Rattle.std.specs.Prelude.{◌≡◌, ℕ, Bool, true, false, List, [], codes, Option, Some}
use Rattle.std.specs.Prelude.{None, option_map, unwrap_or, if◌then◌else◌, Result, Ok, Err}
use Rattle.std.specs.Option.{option_and_then}
use Rattle.std.specs.Str.{bytes_eq}
use Rattle.bsc_text.specs.Hexadecimal.{octets_of}
use Rattle.bsc_text.specs.Words.{after_word, first_word}
use Rattle.bsc_bid.specs.declared.channel.ChannelName.{ChannelName}
use Rattle.bsc_feed.specs.declared.command.Command.{Command}
use Rattle.bsc_feed.specs.declared.command.Command.TheVariants as asks
use Rattle.bsc_feed.specs.declared.fault.Fault.{Fault}
use Rattle.bsc_feed.specs.declared.fault.Fault.TheVariants.{NotACommand}
use Rattle.bsc_feed.specs.declared.fault.Fault.TheVariants.{NotHexadecimal, OutOfMemory}
use Rattle.bsc_feed.specs.declared.keyword.Keyword.{Keyword}
use Rattle.bsc_feed.specs.declared.keyword.Keyword.TheVariants.{Offer, OfferHex, Status, Release}
use Rattle.bsc_feed.specs.declared.keyword.Keyword.TheVariants.{Ready, Urgent, Poll, Follow}
use Rattle.bsc_feed.specs.declared.keyword.Keyword.TheVariants.{Stop}
use Rattle.bsc_feed.specs.Channels.{ChannelAndRest, channel_at}
use Rattle.bsc_feed.specs.Numbers.{count_of}

-- What a client asks for.
pub data Asked : Type 0 where
  -- a record with these codes is offered on a channel
  offer : ChannelName → List ℕ → Asked
  -- the state of each channel is told
  status : Asked
  -- the doubt of a channel is ended, of which the other end has this many records
  release : ChannelName → ℕ → Asked
  -- the station starts or stops accepting selections
  ready : Bool → Asked
  -- the station asks for the line
  urgent : Asked
  -- the terminal with this number is called again, or no more
  poll : ℕ → Bool → Asked
  -- what happens on a channel is told from now on, from this number on if there is one
  follow : ChannelName → Option ℕ → Asked
  -- the station ends
  stop : Asked

-- What a command asks for.
abbrev pub asked_by : {A : Type 0} → Command A → Asked
asked_by (asks.Offer channel given) = offer channel given.now
asked_by (asks.OfferHex channel given) = offer channel given.items
asked_by asks.Status = status
asked_by (asks.Release channel count) = release channel count
asked_by (asks.Ready takes) = ready takes
asked_by asks.Urgent = urgent
asked_by (asks.Poll terminal polled) = poll terminal polled
asked_by (asks.Follow channel from) = follow channel from
asked_by asks.Stop = stop

-- The keyword of a command that a word spells.
abbrev pub command_keyword : List ℕ → Option Keyword
command_keyword word =
    if bytes_eq word (codes "offer") then Some Offer else
    if bytes_eq word (codes "offer-hex") then Some OfferHex else
    if bytes_eq word (codes "status") then Some Status else
    if bytes_eq word (codes "release") then Some Release else
    if bytes_eq word (codes "ready") then Some Ready else
    if bytes_eq word (codes "urgent") then Some Urgent else
    if bytes_eq word (codes "poll") then Some Poll else
    if bytes_eq word (codes "follow") then Some Follow else
    if bytes_eq word (codes "stop") then Some Stop else None

-- What is asked for, or that the line is not a command.
abbrev pub or_not_a_command : Option Asked → Result Asked Fault
or_not_a_command None = Err NotACommand
or_not_a_command (Some asked) = Ok asked

-- `CHANNEL TEXT`: the codes of the record are the text after the space, or none without a space.
abbrev pub offer_in : List ℕ → Option Asked
offer_in text = option_map (λ c. offer c.channel (unwrap_or c.rest [])) (channel_at text)

-- The record of these codes is offered, if the text was hexadecimal.
abbrev pub offer_octets : ChannelName → Option (List ℕ) → Result Asked Fault
offer_octets channel None = Err NotHexadecimal
offer_octets channel (Some octets) = Ok (offer channel octets)

-- `CHANNEL HEX`: the codes of the record in hexadecimal text, with or without spaces.
abbrev pub offer_hex_in : Option ChannelAndRest → Result Asked Fault
offer_hex_in None = Err NotACommand
offer_hex_in (Some c) = offer_octets c.channel (octets_of (unwrap_or c.rest []))

-- `CHANNEL COUNT`.
abbrev pub release_in : List ℕ → Option Asked
release_in text =
    option_and_then
    (λ c. option_map (release c.channel) (option_and_then count_of c.rest)) (channel_at text)

-- `on` or `off`.
abbrev pub ready_in : List ℕ → Option Asked
ready_in text =
    if bytes_eq text (codes "on") then Some (ready true) else
    if bytes_eq text (codes "off") then Some (ready false) else None

-- `on T` or `off T`, by the first word and the rest.
abbrev pub poll_by : List ℕ → Option ℕ → Option Asked
poll_by word None = None
poll_by word (Some terminal) =
    if bytes_eq word (codes "on") then Some (poll terminal true) else
    if bytes_eq word (codes "off") then Some (poll terminal false) else None

abbrev pub poll_in : List ℕ → Option Asked
poll_in text = poll_by (first_word text) (option_and_then count_of (after_word text))

-- A channel that is followed, from a number on if there is a further word.
abbrev pub follow_from : ChannelAndRest → Option (List ℕ) → Option Asked
follow_from c None = Some (follow c.channel None)
follow_from c (Some word) = option_map (λ n. follow c.channel (Some n)) (count_of word)

-- `CHANNEL` or `CHANNEL FROM`.
abbrev pub follow_in : List ℕ → Option Asked
follow_in text = option_and_then (λ c. follow_from c c.rest) (channel_at text)

-- What a keyword with nothing after it asks for.
abbrev pub asked_alone : Keyword → Option Asked
asked_alone Status = Some status
asked_alone Urgent = Some urgent
asked_alone Stop = Some stop
asked_alone _ = None

-- What a keyword with the rest of the line asks for, which follows the space.
abbrev pub asked_with : Keyword → List ℕ → Result Asked Fault
asked_with Offer rest = or_not_a_command (offer_in rest)
asked_with OfferHex rest = offer_hex_in (channel_at rest)
asked_with Release rest = or_not_a_command (release_in rest)
asked_with Ready rest = or_not_a_command (ready_in rest)
asked_with Poll rest = or_not_a_command (poll_in rest)
asked_with Follow rest = or_not_a_command (follow_in rest)
asked_with _ rest = Err NotACommand

-- What a keyword asks for, with or without the rest of the line.
abbrev pub asked_after : Option (List ℕ) → Keyword → Result Asked Fault
asked_after None keyword = or_not_a_command (asked_alone keyword)
asked_after (Some rest) keyword = asked_with keyword rest

-- What a first word asks for, if it is a keyword.
abbrev pub asked_if : Option (List ℕ) → Option Keyword → Result Asked Fault
asked_if rest None = Err NotACommand
asked_if rest (Some keyword) = asked_after rest keyword

-- What a line asks for, or why it asks for nothing.
abbrev pub asked_in : List ℕ → Result Asked Fault
asked_in line = asked_if (after_word line) (command_keyword (first_word line))

-- Whether what was read takes memory: a record in hexadecimal text may be long.
abbrev pub takes_memory : Result Asked Fault → Bool
takes_memory (Ok (offer channel given)) = true
takes_memory (Err NotHexadecimal) = true
takes_memory _ = false

-- A line was read as it says, or memory ran out.
abbrev pub IsRead : {A : Type 0} → Result Asked Fault → Result (Command A) Fault → Type 0
IsRead asked (Ok command) = asked ≡ Ok (asked_by command)
IsRead asked (Err OutOfMemory) = takes_memory asked ≡ true
IsRead asked (Err fault) = asked ≡ Err fault
