-- The arguments of `store` as texts.
use Rattle.std.specs.Prelude.{ℕ, List, [], Bool, Option, codes, unwrap_or}
use Rattle.bsc_options.specs.Words.{WordsValue, is_given, text_at, words_value}
use Rattle.bsc_options.specs.declared.words.Words.{Words}

-- The arguments as texts.
pub record AskedStore : Type 0 where
  pub file : List ℕ
  pub work : List ℕ
  pub first : Option (List ℕ)
  pub second : Option (List ℕ)
  pub control : Bool
  pub terminal : Option (List ℕ)
  pub from : Option (List ℕ)
  pub text : Bool

-- Those that were given.
abbrev pub store_words : WordsValue → AskedStore
store_words w = record {
  file = unwrap_or (text_at (codes "FILE") w) [];
  work = unwrap_or (text_at (codes "WORK") w) [];
  first = text_at (codes "FIRST") w;
  second = text_at (codes "SECOND") w;
  control = is_given (codes "control") w;
  terminal = text_at (codes "terminal") w;
  from = text_at (codes "from") w;
  text = is_given (codes "text") w;
}

-- Those in the words of the code.
abbrev pub store_given : Words → AskedStore
store_given words = store_words (words_value words)
