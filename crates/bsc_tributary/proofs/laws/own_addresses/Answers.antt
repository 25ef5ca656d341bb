-- `own_addresses`: which of a terminal's addresses a call names.
use Rattle.bsc_tributary.proofs.Addresses.{selection_is, is_selection, other_address_is_not_own}
use Rattle.bsc_tributary.proofs.Addresses.{not_own_is_other}
use Rattle.bsc_tributary.proofs.laws.own_addresses.Goals as goal

pub returns-clause-selection : goal.returns-clause-selection
returns-clause-selection c =
    λ t address s distinct. (selection_is t address s, is_selection t address s distinct)

pub returns-clause-other : goal.returns-clause-other
returns-clause-other c = λ t address. (other_address_is_not_own t address, not_own_is_other t address)
