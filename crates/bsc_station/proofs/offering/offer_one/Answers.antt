-- Shows that an accepted offer adds the record, and keeps the addresses.
use Rattle.bsc_station.proofs.Offered.{offer_of_one_record}
use Rattle.bsc_station.proofs.offering.offer_one.Goals as goal

pub returns-in-Ok-clause-ok : goal.returns-in-Ok-clause-ok
returns-in-Ok-clause-ok g c =
    offer_of_one_record c.args.control.now c.args.terminal c.args.select c.args.«record» c.offer.new.self
    c.requires.terminal c.requires.select c.in-Ok.ensures.ok
