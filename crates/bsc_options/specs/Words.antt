-- What was given of the arguments and options of a command, as texts.
use Rattle.std.specs.Prelude.{ℕ, Bool, false, true, nat_lt, ◌||◌, List, [], ◌∷◌, map, Option, Some}
use Rattle.std.specs.Prelude.{None, is_some, bytes_eq, string_bytes, unwrap_or, if◌then◌else◌}
use Rattle.bsc_options.specs.declared.words.Given.{Given}
use Rattle.bsc_options.specs.declared.words.Words.{Words}

-- What was given under a name: how often, if it has no value, and its values in order.
pub record GivenValue : Type 0 where
  pub id : List ℕ
  pub times : ℕ
  pub texts : List (List ℕ)

abbrev pub given_value : Given → GivenValue
given_value f = record { id = f.id.now; times = f.times; texts = map string_bytes f.texts.items }

-- What was given of a command.
abbrev pub WordsValue : Type 0
WordsValue = List GivenValue

abbrev pub words_value : Words → WordsValue
words_value w = map given_value w.given.items

-- Nothing was given under a name.
abbrev pub nothing : List ℕ → GivenValue
nothing id = record { id = id; times = 0; texts = [] }

abbrev pub given_or : List ℕ → Option GivenValue → GivenValue
given_or id None = nothing id
given_or id (Some given) = given

-- What was given under a name: nothing, if there is no such name.
abbrev pub given_at : List ℕ → WordsValue → GivenValue
given_at id [] = nothing id
given_at id (given ∷ rest) = if bytes_eq given.id id then given else given_at id rest

-- The first value.
abbrev pub first_of : List (List ℕ) → Option (List ℕ)
first_of [] = None
first_of (text ∷ texts) = Some text

abbrev pub text_at : List ℕ → WordsValue → Option (List ℕ)
text_at id w = first_of ((given_at id w).texts)

-- The value of an argument that has to be given.
abbrev pub required : List ℕ → WordsValue → List ℕ
required id w = unwrap_or (text_at id w) []

abbrev pub texts_at : List ℕ → WordsValue → List (List ℕ)
texts_at id w = (given_at id w).texts

abbrev pub times_at : List ℕ → WordsValue → ℕ
times_at id w = (given_at id w).times

-- Whether anything was given under a name.
abbrev pub has_anything : GivenValue → Bool
has_anything given = nat_lt 0 given.times || is_some (first_of given.texts)

abbrev pub is_given : List ℕ → WordsValue → Bool
is_given id w = has_anything (given_at id w)
