-- `offers_and_refusals`: the offered records, refused events and trust.
use Rattle.bsc_line_model.proofs.OfferedGrows.{grows_by_offers}
use Rattle.bsc_line_model.proofs.Refusals.{nothing_changed, was_trusted}
use Rattle.bsc_line_model.proofs.laws.offers_and_refusals.Goals as goal

pub returns : goal.returns
returns c = record { offers = grows_by_offers; refusals = nothing_changed; trust = was_trusted }
