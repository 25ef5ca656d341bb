-- The keys of a table as a list of names.
use Rattle.std.proofs.Common.{◌≡◌, ℕ, List, [], ◌∷◌, Option, Some, None, String, string_bytes, cond}
use Rattle.std.proofs.Common.{refl, ap}
use Rattle.std.specs.declared.alloc.Global.{Global}
use Rattle.std.specs.Map.{keys_of}
use Rattle.toml.specs.declared.value.Value.{Value}
use Rattle.toml.specs.View.{members_view}
use Rattle.bsc_config.specs.declared.key.Owner.{Owner}
use Rattle.bsc_config.specs.Keys.{is_known}
use Rattle.bsc_config.specs.Checks.{first_unknown}

-- the first of these names that such a table may not have
abbrev pub first_in : Owner → List (String Global) → Option (List ℕ)
first_in owner [] = None
first_in owner (k ∷ ks) =
    cond (is_known owner (string_bytes k)) (first_in owner ks) (Some (string_bytes k))

-- it is the first unknown key of the table with these entries
pub first_in_keys : (owner : Owner) (es : List (String Global × Value))
    → first_unknown owner (members_view es) ≡ first_in owner (keys_of es)
first_in_keys owner [] = refl
first_in_keys owner (e ∷ es) =
    ap (λ o. cond (is_known owner (string_bytes e.0)) o (Some (string_bytes e.0)))
    (first_in_keys owner es)
