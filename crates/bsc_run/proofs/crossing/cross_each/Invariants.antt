-- The items so far have crossed the cable, and it has as many connections as before.
use Rattle.std.proofs.Common.{◌≡◌, map, option_map, take}
use Rattle.bsc_run.specs.Crossing.{connection_count, ItemsCross, streams_of}
use Rattle.bsc_run.proofs.crossing.cross_each.Given as goal

abbrev pub invariant-items : goal.invariant-items
invariant-items g l = record {
  crossed : ItemsCross (streams_of g.S.Write.contents g.S.Read.remaining) (take l.terminal l.items)
      (map (option_map (λ w. w.items)) l.heard.items) l.initial.cable l.cable;
  count : connection_count l.cable ≡ connection_count l.initial.cable;
}
