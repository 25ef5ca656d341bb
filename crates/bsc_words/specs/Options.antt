-- Arguments and options of the command line, and their values.
use Rattle.std.specs.Prelude.{ℕ, List, [], ◌∷◌, map, Bool, true, Some, unwrap_or, codes}
use Rattle.std.specs.Str.{bytes_eq}
use Rattle.clap.specs.Words.{App, Row, Rule, Shape, Text, all_of, count_of, first_of, new_app}
use Rattle.clap.specs.Words.{new_rule}
use Rattle.clap.specs.Words.{with_rule, with_subcommand}
use Rattle.bsc_options.specs.declared.entry.Entry.{Entry}
use Rattle.bsc_options.specs.declared.entry.Subcommand.{Subcommand}
use Rattle.bsc_options.specs.declared.entry.Takes.{Takes}
use Rattle.bsc_options.specs.declared.entry.Takes.TheVariants as takes
use Rattle.bsc_options.specs.Entries.{EntryValue}
use Rattle.bsc_options.specs.Inputs.{one_if}
use Rattle.bsc_options.specs.Words.{GivenValue, WordsValue}
use Rattle.clap.specs.declared.builder.ArgAction.TheVariants.{Append, Count, Set, SetTrue}

-- A required argument with a value.
abbrev pub required : Text → Rule
required id = record (new_rule id) { required = true; action = Some Set }

-- An argument with a value, which may be left out.
abbrev pub optional : Text → Rule
optional id = record (new_rule id) { action = Some Set }

-- A flag with a long name.
abbrev pub flag : Text → Rule
flag id = record (new_rule id) { long = Some id; action = Some SetTrue }

-- A flag with a long name that may be given any number of times.
abbrev pub counted : Text → Rule
counted id = record (new_rule id) { long = Some id; action = Some Count }

-- An option with a long name and a value.
abbrev pub option : Text → Rule
option id = record (new_rule id) { long = Some id; value_names = 1; action = Some Set }

-- An option with a long name and a value that may be given any number of times.
abbrev pub value_list : Text → Rule
value_list id = record (new_rule id) { long = Some id; value_names = 1; action = Some Append }

-- Values without a name, any number of them, after the first of which all words are values.
abbrev pub rest : Text → Rule
rest id = record (new_rule id) { action = Some Append; trailing_var_arg = true }

-- The rule for an argument or option with this name that takes this.
abbrev pub takes_rule : Takes → Text → Rule
takes_rule takes.Required id = required id
takes_rule takes.Optional id = optional id
takes_rule takes.Rest id = rest id
takes_rule takes.Flag id = flag id
takes_rule takes.Count id = counted id
takes_rule takes.Value id = option id
takes_rule takes.Values id = value_list id
takes_rule (takes.Number least most absent) id = option id
takes_rule (takes.Derived least most) id = option id

-- The rule for a row of a table.
abbrev pub entry_rule : Entry → Rule
entry_rule entry = takes_rule entry.takes entry.id.now

abbrev pub row_rule : EntryValue → Rule
row_rule row = takes_rule row.takes row.id

-- A command with these rules added.
abbrev pub with_rules : App → List Rule → App
with_rules app [] = app
with_rules app (rule ∷ rules) = with_rules (with_rule app rule) rules

-- The shape of the command for a row.
abbrev pub subcommand_shape : Subcommand → Shape
subcommand_shape row =
    (with_rules (new_app row.name.now) (map entry_rule row.entries.now)).top

-- A program with these commands added.
abbrev pub with_shapes : App → List Shape → App
with_shapes program [] = program
with_shapes program (shape ∷ shapes) = with_shapes (with_subcommand program shape) shapes

-- The values of an argument.
abbrev pub values_of : Text → List Row → List Text
values_of id rows = unwrap_or (all_of id rows) []

-- Whether the text is the one that `clap` gives a flag that was given.
abbrev pub is_true_text : Text → Bool
is_true_text text = bytes_eq text (codes "true")

-- How often an option without a value was given, by what it takes.
abbrev pub times_in : Takes → Text → List Row → ℕ
times_in takes.Flag id rows = one_if (is_true_text (unwrap_or (first_of id rows) []))
times_in takes.Count id rows = count_of id rows
times_in other id rows = 0

-- The values of an argument or option, by what it takes.
abbrev pub texts_in : Takes → Text → List Row → List Text
texts_in takes.Flag id rows = []
texts_in takes.Count id rows = []
texts_in other id rows = values_of id rows

-- What was given of a row of a table, in the matches.
abbrev pub given_in : List Row → EntryValue → GivenValue
given_in rows row = record {
  id = row.id;
  times = times_in row.takes row.id rows;
  texts = texts_in row.takes row.id rows;
}

-- What was given of all rows.
abbrev pub words_in : List EntryValue → List Row → WordsValue
words_in table rows = map (given_in rows) table
