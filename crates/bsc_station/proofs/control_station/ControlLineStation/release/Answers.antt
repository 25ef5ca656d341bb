-- Shows that a release that is refused changes nothing.
use Rattle.bsc_bid.specs.Ways.{select_of}
use Rattle.bsc_station.proofs.Refused.{control_unless_released}
use Rattle.bsc_station.proofs.control_station.ControlLineStation.release.Goals as goal

pub returns-clause-refused : goal.returns-clause-refused
returns-clause-refused g c =
    control_unless_released c.args.self.now c.release.new.self c.args.terminal
    (select_of c.args.way) c.args.count c.release.result c.release.ensures.answer
    c.release.ensures.state
