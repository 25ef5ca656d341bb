-- The pending transmission.
use Rattle.std.specs.Prelude.{Option, None, Some}
use Rattle.bsc_frame.specs.declared.message.Message.{Message}
use Rattle.bsc_bid.specs.declared.speaker.Speaker.{Speaker}
use Rattle.bsc_line_model.specs.declared.transmission.Transmission.{Transmission}

-- the transmission by this station of the message, if there is one
abbrev pub sent_by : Speaker → Option Message → Option Transmission
sent_by speaker None = None
sent_by speaker (Some message) = Some (record { speaker = speaker; message = message })

-- the sender of the pending transmission
abbrev pub speaker_of : Option Transmission → Option Speaker
speaker_of None = None
speaker_of (Some sent) = Some sent.speaker
