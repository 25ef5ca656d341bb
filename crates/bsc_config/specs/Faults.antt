-- The faults of a table, and readings that end at the first fault.
use Rattle.std.specs.Prelude.{◌≡◌, ℕ, List, Result, Ok, Err, string_bytes}
use Rattle.bsc_config.specs.declared.error.ConfigError.{ConfigError}
use Rattle.bsc_config.specs.declared.error.ConfigError.TheVariants.{UnknownKey, MissingKey}
use Rattle.bsc_config.specs.declared.error.ConfigError.TheVariants.{WrongValue}
use Rattle.bsc_config.specs.declared.error.ConfigError.TheVariants.{Memory}
use Rattle.bsc_config.specs.declared.key.Key.{Key}
use Rattle.bsc_config.specs.declared.key.Owner.{Owner}

-- A fault: an unknown key, by the owner of its table and its name; a required key that is absent; a
-- key with a value that is not allowed.
pub data Fault : Type 0 where
  unknown_key : Owner → List ℕ → Fault
  missing_key : Key → Fault
  wrong_value : Key → Fault

-- A reading followed by another that may use its value. The first fault is the fault of both.
infixl 10 ◌>>=◌
abbrev pub ◌>>=◌ : {V W : Type 0} → Result V Fault → (V → Result W Fault) → Result W Fault
(Ok value) >>= next = next value
(Err fault) >>= next = Err fault

-- The error reports the fault of a reading. Out of memory may come in place of any answer.
abbrev pub Reports : {V : Type 0} → ConfigError → Result V Fault → Type 0
Reports (UnknownKey key) reading = reading ≡ Err (unknown_key key.owner (string_bytes key.name))
Reports (MissingKey key) reading = reading ≡ Err (missing_key key)
Reports (WrongValue key) reading = reading ≡ Err (wrong_value key)
Reports Memory reading = Unit {0}
Reports _ reading = ⊥

-- The result of the code is that of the reading, where `value_of` is the value that an answer of
-- the code stands for.
abbrev pub Gives : {X V : Type 0} → (X → V) → Result X ConfigError → Result V Fault → Type 0
Gives value_of (Ok x) reading = reading ≡ Ok (value_of x)
Gives value_of (Err error) reading = Reports error reading
