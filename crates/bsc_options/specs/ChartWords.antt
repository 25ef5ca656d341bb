-- The arguments of `chart` as texts.
use Rattle.std.specs.Prelude.{ℕ, List, Bool, Option, codes}
use Rattle.bsc_options.specs.Words.{WordsValue, is_given, text_at, words_value}
use Rattle.bsc_options.specs.declared.words.Words.{Words}

-- The arguments as texts.
pub record AskedChart : Type 0 where
  pub file : Option (List ℕ)
  pub text : Bool
  pub svg : Bool
  pub html : Bool
  pub ascii : Bool
  pub width : Option (List ℕ)
  pub from : Option (List ℕ)
  pub to : Option (List ℕ)

-- Those that were given.
abbrev pub chart_words : WordsValue → AskedChart
chart_words w = record {
  file = text_at (codes "FILE") w;
  text = is_given (codes "text") w;
  svg = is_given (codes "svg") w;
  html = is_given (codes "html") w;
  ascii = is_given (codes "ascii") w;
  width = text_at (codes "width") w;
  from = text_at (codes "from") w;
  to = text_at (codes "to") w;
}

-- Those in the words of the code.
abbrev pub chart_given : Words → AskedChart
chart_given words = chart_words (words_value words)
