-- The keys of a configuration.
use Rattle.std.specs.Prelude.{ℕ, List, [], ◌∷◌, ◌++◌, Bool, false, ◌||◌, bytes_eq, codes, decimal}
use Rattle.bsc_config.specs.declared.key.Key.{Key}
use Rattle.bsc_config.specs.declared.key.Key.TheVariants.{Version, Full, BlockChars, Tries, Waits}
use Rattle.bsc_config.specs.declared.key.Key.TheVariants.{PollList, Terminals, Poll, Select}
use Rattle.bsc_config.specs.declared.key.Owner.{Owner}
use Rattle.bsc_config.specs.declared.key.Owner.TheVariants.{Document, Terminal}

-- The name of a key in its table.
abbrev pub name_of : Key → List ℕ
name_of Version = codes "version"
name_of Full = codes "full"
name_of BlockChars = codes "block_chars"
name_of Tries = codes "tries"
name_of Waits = codes "waits"
name_of PollList = codes "poll_list"
name_of Terminals = codes "terminals"
name_of (Poll terminal) = codes "poll"
name_of (Select terminal) = codes "select"

-- The table to which a key belongs.
abbrev pub owner_of : Key → Owner
owner_of (Poll terminal) = Terminal terminal
owner_of (Select terminal) = Terminal terminal
owner_of _ = Document

-- The text printed before the name of a key in such a table.
abbrev pub prefix_of : Owner → List ℕ
prefix_of Document = []
prefix_of (Terminal number) = codes "terminals[" ++ decimal number ++ codes "]."

-- The keys that such a table may have.
abbrev pub keys_of : Owner → List Key
keys_of Document = Version ∷ Full ∷ BlockChars ∷ Tries ∷ Waits ∷ PollList ∷ Terminals ∷ []
keys_of (Terminal number) = Poll number ∷ Select number ∷ []

-- Whether the name is that of one of these keys.
abbrev pub names_one_of : List Key → List ℕ → Bool
names_one_of [] name = false
names_one_of (key ∷ keys) name = bytes_eq name (name_of key) || names_one_of keys name

-- Whether the name is that of a key that such a table may have.
abbrev pub is_known : Owner → List ℕ → Bool
is_known owner name = names_one_of (keys_of owner) name
