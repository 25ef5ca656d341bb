-- The texts so far were offered in turn.
use Rattle.std.proofs.Common.{map, take, string_bytes}
use Rattle.bsc_attending.specs.Offering.{OffersAllLines}
use Rattle.bsc_attending.proofs.offering.offer_all_for_terminals.Given as goal

abbrev pub invariant-offers : goal.invariant-offers
invariant-offers g l =
    OffersAllLines (map string_bytes (take l.text-index l.offers))
    (g.R.Read.remaining l.initial.input, l.initial.control)
    (g.R.Read.remaining l.input, l.control)
