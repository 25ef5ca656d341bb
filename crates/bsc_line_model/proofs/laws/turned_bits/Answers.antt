-- `turned_bits`: when a transmission with one turned bit is heard fairly.
use Rattle.bsc_line_model.proofs.OctetsHeard.{Reads}
use Rattle.bsc_line_model.proofs.TurnedBits.{Turns, turned_is_fair, turned_alike_is_fair}
use Rattle.bsc_line_model.proofs.TurnedBits.{turned_each_is_fair, turned_for_some_is_fair}
use Rattle.bsc_line_model.proofs.TurnedBits.{split_call_is_unfair}
use Rattle.bsc_line_model.proofs.laws.turned_bits.Goals as goal

pub returns : goal.returns
returns c =
    let reads : Reads =
    record {
      whole = c.reading.ensures.whole;
      failed = c.reading.ensures.failed;
      noise =
          c.reading.ensures.noise;
    } in
    let turns : Turns =
    record {
      sent = c.one_reading.ensures.sent;
      failed = c.one_bit.ensures.failed;
      noise =
          c.one_bit.ensures.noise;
    } in
    record {
      heard = turned_is_fair reads turns;
      alike = turned_alike_is_fair reads turns;
      each = turned_each_is_fair reads turns;
      some = turned_for_some_is_fair reads turns;
      split = split_call_is_unfair reads turns;
    }
