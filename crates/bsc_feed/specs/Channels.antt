-- The names of channels.
use Rattle.std.specs.Prelude.{ℕ, List, Option, Some, None, codes, option_map, if◌then◌else◌}
use Rattle.std.specs.Option.{option_and_then}
use Rattle.std.specs.Str.{bytes_eq}
use Rattle.bsc_bid.specs.declared.way.Way.{Way}
use Rattle.bsc_bid.specs.declared.way.Way.TheVariants.{FromTerminal, ToTerminal}
use Rattle.bsc_text.specs.Numbers.{select_of, terminal_of}
use Rattle.bsc_text.specs.Parts.{after_octet, before_octet}
use Rattle.bsc_text.specs.Words.{after_word, first_word}
use Rattle.bsc_bid.specs.declared.channel.ChannelName.{ChannelName}
use Rattle.bsc_feed.specs.declared.channel.Split.{Split}

-- The channel of this terminal in this direction.
abbrev pub channel_to : Way → ℕ → ChannelName
channel_to way t = record { terminal = t; way = way }

-- The selection address that the digit after the point spells; address 0 if there is no point.
abbrev pub select_in : Option (List ℕ) → Option ℕ
select_in None = Some 0
select_in (Some digit) = select_of digit

-- `T` or `T.S`: a channel to a terminal.
abbrev pub to_in : List ℕ → Option ChannelName
to_in place =
    option_and_then
    (λ t. option_map (λ s. channel_to (ToTerminal s) t) (select_in (after_octet 46 place)))
    (terminal_of (before_octet 46 place))

-- `from T`, `to T` or `to T.S`, whose two words are given.
abbrev pub channel_in : List ℕ → List ℕ → Option ChannelName
channel_in direction place =
    if bytes_eq direction (codes "from")
    then option_map (channel_to FromTerminal) (terminal_of place)
    else (if bytes_eq direction (codes "to") then to_in place else None)

-- A channel, and the text after the space that follows its name, if there is a space.
pub record ChannelAndRest : Type 0 where
  pub channel : ChannelName
  pub rest : Option (List ℕ)

-- The value of a channel and of the text that follows.
abbrev pub split_value : Split → ChannelAndRest
split_value split =
    record { channel = split.channel; rest = option_map (λ r. r.now) split.rest }

-- The channel that is named by a word and the first word of the text after it, and what follows.
abbrev pub channel_before : List ℕ → List ℕ → Option ChannelAndRest
channel_before direction text =
    option_map (λ c. record { channel = c; rest = after_word text })
    (channel_in direction (first_word text))

-- The channel that is named at the front of a text, and what follows.
abbrev pub channel_at : List ℕ → Option ChannelAndRest
channel_at text = option_and_then (channel_before (first_word text)) (after_word text)
