-- What a transmission of the control station names (GA27-3004: polling and selection addresses).
use Rattle.bsc_frame.specs.declared.message.Message.TheVariants as m
use Rattle.bsc_frame.specs.declared.message.Heard.{Heard}
use Rattle.bsc_frame.specs.declared.message.Heard.TheVariants.{Whole}
use Rattle.bsc_line.specs.declared.addressing.Named.{Named}
use Rattle.bsc_line.specs.declared.addressing.Named.TheVariants.{Address, Nobody, Nothing}

-- what a transmission that is heard names
abbrev pub named_in : Heard → Named
named_in (Whole (m.Call a)) = Address a
named_in (Whole m.Eot) = Nobody
named_in _ = Nothing
