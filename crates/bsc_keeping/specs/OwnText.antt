-- The text by which a store belongs to a station of a line.
use Rattle.std.specs.Prelude.{ℕ, List, ◌++◌, codes}
use Rattle.std.specs.List.{flat_map}
use Rattle.std.specs.Fmt.{decimal}
use Rattle.bsc_bid.specs.Terminal.{TerminalValue}
use Rattle.bsc_config.specs.Settings.{ConfigValue}
use Rattle.bsc_text.specs.Names.{chars_shown}
use Rattle.bsc_bid.specs.declared.speaker.Speaker.{Speaker}
use Rattle.bsc_bid.specs.declared.speaker.Speaker.TheVariants.{Control, Terminal}

abbrev pub owner_line : Speaker → List ℕ
owner_line Control = codes "control station\n"
owner_line (Terminal number) = codes "terminal " ++ decimal number ++ codes "\n"

abbrev pub full_line : ℕ → List ℕ
full_line full = codes "full length " ++ decimal full ++ codes "\n"

abbrev pub select_shown : List ℕ → List ℕ
select_shown address = codes " " ++ chars_shown address

abbrev pub terminal_line : TerminalValue → List ℕ
terminal_line t =
    codes "polled " ++ chars_shown t.poll ++ codes " selected"
    ++ flat_map select_shown t.selects ++ codes "\n"

-- Which station it is, the full length of a record, and the addresses of all terminals.
abbrev pub own_text_of : ConfigValue → Speaker → List ℕ
own_text_of line owner =
    owner_line owner ++ full_line line.setup.format.full ++ flat_map terminal_line line.terminals
