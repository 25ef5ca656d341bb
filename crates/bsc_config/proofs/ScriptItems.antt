-- The items read so far, followed by those of the remaining words.
use Rattle.std.proofs.Common.{List, ◌++◌, Option, option_map}
use Rattle.bsc_config.specs.Transmissions.{Item}

abbrev pub after_items : List Item → Option (List Item) → Option (List Item)
after_items done rest = option_map (λ more. done ++ more) rest
