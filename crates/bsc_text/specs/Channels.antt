-- The output for a channel, and texts that follow one another.
use Rattle.std.specs.Prelude.{ℕ, zero, suc, Bool, nat_eq, if◌then◌else◌, List, [], ◌++◌, codes}
use Rattle.std.specs.Fmt.{decimal}
use Rattle.bsc_text.specs.Forms.{in_form}
use Rattle.bsc_text.specs.declared.form.Form.{Form}
use Rattle.bsc_bid.specs.declared.way.Way.{Way}
use Rattle.bsc_bid.specs.declared.way.Way.TheVariants.{FromTerminal, ToTerminal}

-- The part of a channel's name for a selection address: empty if it is the only one of the
-- terminal.
abbrev pub address_name : ℕ → ℕ → List ℕ
address_name count s = if nat_eq count 1 then [] else codes "." ++ decimal s

-- The name of a channel: its direction and its terminal, which has this number of selection
-- addresses.
abbrev pub channel_name : ℕ → ℕ → Way → List ℕ
channel_name count t FromTerminal = codes "from " ++ decimal t
channel_name count t (ToTerminal s) = codes "to " ++ decimal t ++ address_name count s

-- The end of the line for a channel: whether its sending end is in doubt.
abbrev pub doubt_shown : Bool → List ℕ
doubt_shown doubt = if doubt then codes ", in doubt\n" else codes "\n"

-- The line for a record in a form.
abbrev pub record_line : Form → List ℕ → List ℕ
record_line form r = codes "  " ++ in_form form r ++ codes "\n"

-- The texts for the numbers below n, in order.
abbrev pub each_below : (ℕ → List ℕ) → ℕ → List ℕ
each_below text zero = []
each_below text (suc n) = each_below text n ++ text n
