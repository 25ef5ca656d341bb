-- The work that is asked of the command, with its arguments as texts.
use Rattle.std.specs.Prelude.{ℕ, List, Bool, codes}
use Rattle.bsc_options.specs.declared.asked.Asked.{Asked}
use Rattle.bsc_options.specs.declared.asked.Asked.TheVariants.{Names, Name, Show, Chart, Run}
use Rattle.bsc_options.specs.declared.asked.Asked.TheVariants.{Station, Feed, Store}
use Rattle.bsc_options.specs.ChartWords.{AskedChart, chart_words}
use Rattle.bsc_options.specs.StoreWords.{AskedStore, store_words}
use Rattle.bsc_options.specs.Words.{WordsValue, is_given, required, texts_at, words_value}

-- The work that is asked for.
pub data AskedValue : Type 0 where
  names : AskedValue
  name : List ℕ → AskedValue
  show : AskedValue
  chart : AskedChart → AskedValue
  run : List ℕ → List ℕ → Bool → Bool → Bool → AskedValue
  station : WordsValue → AskedValue
  feed : List ℕ → List (List ℕ) → AskedValue
  store : AskedStore → AskedValue

-- The name of a transmission, in hexadecimal text.
abbrev pub name_in : WordsValue → AskedValue
name_in w = name (required (codes "HEX") w)

-- A ladder.
abbrev pub chart_in : WordsValue → AskedValue
chart_in w = chart (chart_words w)

-- A run: the paths of the configuration and the script, whether they are only checked, whether a
-- trace is printed, and whether no progress is shown.
abbrev pub run_in : WordsValue → AskedValue
run_in w =
    run (required (codes "CONFIG") w) (required (codes "SCRIPT") w) (is_given (codes "check") w)
    (is_given (codes "trace") w) (is_given (codes "quiet") w)

-- What a station is fed: its address, and the words of the command.
abbrev pub feed_in : WordsValue → AskedValue
feed_in w = feed (required (codes "ADDRESS") w) (texts_at (codes "COMMAND") w)

-- A work on a store.
abbrev pub store_in : WordsValue → AskedValue
store_in w = store (store_words w)

-- The value of the work in the code.
abbrev pub asked : Asked → AskedValue
asked Names = names
asked (Name words) = name_in (words_value words)
asked Show = show
asked (Chart words) = chart_in (words_value words)
asked (Run words) = run_in (words_value words)
asked (Station words) = station (words_value words)
asked (Feed words) = feed_in (words_value words)
asked (Store words) = store_in (words_value words)
