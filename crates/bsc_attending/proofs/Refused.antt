-- A text that names a channel with no records is refused.
use Rattle.std.proofs.Common.{ℕ, List, Option}
use Rattle.bsc_control.specs.Control.{ControlValue}
use Rattle.bsc_attending.specs.Offering.{IsOfferRefused, LacksRecords}
use Rattle.bsc_attending.specs.declared.error.AttendingError.{AttendingError}
use Rattle.bsc_attending.specs.declared.error.AttendingError.TheVariants as attending

pub lacks_records_is_refused : (text : List ℕ) (input : Option (List ℕ)) (control : ControlValue)
    (error : AttendingError) → LacksRecords text input control error
    → IsOfferRefused text input control error
lacks_records_is_refused text input control (attending.Options error) lacks = absurd lacks.why
lacks_records_is_refused text input control (attending.Text error) lacks = lacks
lacks_records_is_refused text input control (attending.Config error) lacks = lacks
lacks_records_is_refused text input control (attending.Offer path error) lacks = lacks
lacks_records_is_refused text input control (attending.Connections error) lacks = lacks
lacks_records_is_refused text input control (attending.Programs error) lacks = lacks
lacks_records_is_refused text input control (attending.Closed error) lacks = lacks
lacks_records_is_refused text input control attending.NotTrusted lacks = lacks
lacks_records_is_refused text input control attending.InDoubt lacks = lacks
lacks_records_is_refused text input control attending.Undelivered lacks = lacks
lacks_records_is_refused text input control attending.Output lacks = lacks
lacks_records_is_refused text input control attending.Unprinted lacks = lacks
lacks_records_is_refused text input control (attending.Store error) lacks = lacks
lacks_records_is_refused text input control (attending.Unkept error) lacks = lacks
lacks_records_is_refused text input control attending.Memory lacks = lacks
