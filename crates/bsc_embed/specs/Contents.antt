-- The message that a number and a content from C stand for, if they stand for one.
use Rattle.std.specs.Prelude.{ℕ, ◌==◌, ◌&&◌, nat_le, nat_lt, if◌then◌else◌, List, [], ◌∷◌, take}
use Rattle.std.specs.Prelude.{Option, Some, None, option_map, option_and_then}
use Rattle.std.specs.List.{list_all}
use Rattle.std.specs.Result.{result_ok}
use Rattle.bsc_frame.specs.Octet.{is_record_char}
use Rattle.bsc_frame.specs.Texts.{TextUnit, TextValue}
use Rattle.bsc_frame.specs.Message.{read_address}
use Rattle.bsc_frame.specs.declared.text.End.{End}
use Rattle.bsc_frame.specs.declared.text.End.TheVariants.{Etb, Etx}
use Rattle.bsc_frame.specs.declared.message.Message.{Message}
use Rattle.bsc_frame.specs.declared.message.Message.TheVariants.{Eot, Call, Enq, Reply, Text}
use Rattle.bsc_embed.specs.declared.kind.Kind.{Kind}
use Rattle.bsc_embed.specs.declared.kind.Kind.TheVariants as kind
use Rattle.bsc_embed.specs.declared.content.Content.{Content}
use Rattle.bsc_embed.specs.declared.content.StoredUnit.{StoredUnit}
use Rattle.bsc_embed.specs.Kinds.{kind_at}
use Rattle.bsc_frame.specs.declared.limits.TheConstants.{MAX_UNITS, MAX_CHARS, MAX_ADDRESS}

-- A unit: its first len characters, at most 144 record characters. EM follows if em is not 0.
unfoldable pub unit_in : StoredUnit → Option TextUnit
unit_in s =
    if nat_le s.len MAX_CHARS && list_all is_record_char (take s.len s.chars)
    then Some (record { chars = take s.len s.chars; em = nat_lt 0 s.em })
    else None

-- The list of units, if each of them is one.
abbrev pub before_unit : Option TextUnit → Option (List TextUnit) → Option (List TextUnit)
before_unit None us = None
before_unit (Some u) None = None
before_unit (Some u) (Some us) = Some (u ∷ us)

abbrev pub units_in : List StoredUnit → Option (List TextUnit)
units_in [] = Some []
units_in (s ∷ ss) = before_unit (unit_in s) (units_in ss)

-- The end of a text, by the code of its character (GA27-3004: ETB and ETX).
abbrev pub end_at : ℕ → Option End
end_at code = if code == 0x17 then Some Etb else if code == 0x03 then Some Etx else None

abbrev pub with_end : Option End → Option (List TextUnit) → Option TextValue
with_end None us = None
with_end (Some e) None = None
with_end (Some e) (Some us) = Some (record { units = us; end = e })

-- A text: its first count units, 1 to 7, and its end.
unfoldable pub text_in : Content → Option TextValue
text_in c =
    if nat_le 1 c.count && nat_le c.count MAX_UNITS
    then with_end (end_at c.end) (units_in (take c.count c.units))
    else None

-- An address: its first address_len codes, at most 7.
unfoldable pub address_in : Content → Option (List ℕ)
address_in c =
    if nat_le c.address_len MAX_ADDRESS then result_ok (read_address (take c.address_len c.address))
    else None

-- The message of a kind. Noise and Failed are only heard, and are no messages.
abbrev pub message_as : Kind → Content → Option Message
message_as kind.Noise c = None
message_as kind.Failed c = None
message_as kind.Eot c = Some Eot
message_as kind.Call c = option_map Call (address_in c)
message_as kind.Enq c = Some Enq
message_as (kind.Reply r) c = Some (Reply r)
message_as kind.Text c = option_map Text (text_in c)

-- The message of the kind with this number.
unfoldable pub message_in : ℕ → Content → Option Message
message_in number c = option_and_then (λ k. message_as k c) (kind_at number)
