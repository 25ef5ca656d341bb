-- `visit`: the transmissions of a visit deliver all records that wait.
use Rattle.bsc_line_model.proofs.Numbers.{delivers_visit}
use Rattle.bsc_line_model.proofs.laws.visit.Goals as goal

pub returns : goal.returns
returns c = delivers_visit (record {
  cuts = record {
    taken_is = c.cut_into_blocks.ensures.taken;
    none = c.cut_into_blocks.ensures.none;
    next = c.cut_into_blocks.ensures.next;
    rest = c.cut_into_blocks.ensures.rest;
  };
  names =
      record {
        polling = c.own_addresses.ensures.polling;
        selection =
            c.own_addresses.ensures.selection;
      };
})
