-- Readings of options, which end at the first error.
use Rattle.std.specs.Prelude.{◌≡◌, Result, Ok, Err}
use Rattle.bsc_options.specs.Errors.{Refusal, refusal}
use Rattle.bsc_options.specs.declared.error.OptionError.{OptionError}

-- A reading followed by another that may use its value. The first error is the error of both.
infixl 10 ◌>>=◌
abbrev pub ◌>>=◌ :
    {V W : Type 0} → Result V Refusal → (V → Result W Refusal) → Result W Refusal
(Ok value) >>= next = next value
(Err why) >>= next = Err why

-- The result of the code is that of the reading, where `value_of` is the value that an answer of
-- the code stands for.
abbrev pub Gives :
    {X V : Type 0} → (X → V) → Result X OptionError → Result V Refusal → Type 0
Gives value_of (Ok x) reading = reading ≡ Ok (value_of x)
Gives value_of (Err error) reading = reading ≡ Err (refusal error)

-- The same, where the answer is the value.
abbrev pub GivesIt : {X : Type 0} → Result X OptionError → Result X Refusal → Type 0
GivesIt = Gives (λ x. x)
