-- The slices have the octets of the words so far.
use Rattle.std.proofs.Common.{◌≡◌, map, option_map, take}
use Rattle.bsc_line_model.specs.Hearing.{octets_in}
use Rattle.bsc_run.proofs.crossing.slices.Given as goal

abbrev pub invariant-words : goal.invariant-words
invariant-words g l = map octets_in l.slices.items
    ≡ map (option_map (λ w. w.items)) (take l.word-index l.words)
