-- The value of a channel end in the code.
use Rattle.bsc_station.specs.Ends.{End, sending, receiving}
use Rattle.bsc_station.specs.declared.channel_end.ChannelEnd.{ChannelEnd}
use Rattle.bsc_station.specs.declared.channel_end.ChannelEnd.TheVariants.{Sending, Receiving}

abbrev pub end_of : {Z : Type 0} → ChannelEnd Z → End
end_of (Sending offered known doubt) = sending offered known doubt
end_of (Receiving records) = receiving records.now.items
