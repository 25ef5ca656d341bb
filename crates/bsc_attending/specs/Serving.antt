-- Where programs reach a station.
use Rattle.std.specs.Prelude.{◌≡◌}
use Rattle.bsc_clients.specs.declared.served_at.ServedAt.{ServedAt}
use Rattle.bsc_clients.specs.declared.served_at.ServedAt.TheVariants as served
use Rattle.bsc_options.specs.Serves.{ServesValue, at_address, at_path}

-- The place is the one that is asked for.
abbrev pub IsPlace : ServesValue → ServedAt → Type 0
IsPlace (at_address address anyone) (served.Address text from_anyone) =
    (text.now ≡ address) × (from_anyone ≡ anyone)
IsPlace (at_path path) (served.Path text) = text.now ≡ path
IsPlace asked place = ⊥
