-- `fair_in_octets`: fair hearing in terms of octets.
use Rattle.bsc_line_model.proofs.OctetsHeard.{all_fair_in_octets, fair_in_octets}
use Rattle.bsc_line_model.proofs.laws.fair_in_octets.Goals as goal

pub returns-clause-one : goal.returns-clause-one
returns-clause-one c =
    fair_in_octets (record {
      whole = c.reading.ensures.whole;
      failed = c.reading.ensures.failed;
      noise = c.reading.ensures.noise;
    })

pub returns-clause-all : goal.returns-clause-all
returns-clause-all c =
    all_fair_in_octets (record {
      whole = c.reading.ensures.whole;
      failed = c.reading.ensures.failed;
      noise = c.reading.ensures.noise;
    })
