-- The result of reading a text.
use Rattle.std.specs.Prelude.{◌≡◌, ◌≤◌, ℕ, ◌+◌, ◌==◌, List, length, take, count_by, Some}
use Rattle.std.specs.Prelude.{Result, Ok, Err, IsUtf8}
use Rattle.toml.specs.Data.{Members}
use Rattle.toml.specs.Parse.{parse_document}
use Rattle.bsc_bid.specs.Refusals.{IsAccepted}
use Rattle.bsc_config.specs.declared.error.ConfigError.{ConfigError}
use Rattle.bsc_config.specs.declared.error.ConfigError.TheVariants.{NotToml, Memory}
use Rattle.bsc_config.specs.Faults.{Fault, Reports}
use Rattle.bsc_config.specs.Settings.{ConfigValue, settings_in}
use Rattle.bsc_config.specs.Refusals.{IsRefusal}

-- The text is UTF-8 and is the TOML document with this table.
pub record IsDocument (text : List ℕ) (document : Members) : Type 0 where
  pub utf8 : IsUtf8 text
  pub parsed : parse_document text ≡ Some document

-- A line can be made of the contents of a document: 1 to 64 terminals with distinct addresses, and
-- a poll list of 1 to 255 entries, each the number of a terminal.
abbrev pub IsConfig : ConfigValue → Type 0
IsConfig config = IsAccepted config.terminals config.poll_list

-- The text is a document with these contents, and a line can be made of them.
pub record Says (text : List ℕ) (config : ConfigValue) : Type 0 where
  pub document : Members
  pub read : IsDocument text document
  pub settings : settings_in document ≡ Ok config
  pub line : IsConfig config

-- The reason for refusing the contents of a document: its first fault; otherwise the reason why no
-- line can be made of it.
abbrev pub Refuses : Result ConfigValue Fault → ConfigError → Type 0
Refuses (Err fault) error = Reports {V = ConfigValue} error (Err fault)
Refuses (Ok settings) error = IsRefusal settings error

-- The text is a document that is refused for this reason.
pub record IsWrong (text : List ℕ) (error : ConfigError) : Type 0 where
  pub document : Members
  pub read : IsDocument text document
  pub refused : Refuses (settings_in document) error

-- The number of the line of a place in the text, counted from 1.
abbrev pub IsLineOf : List ℕ → ℕ → Type 0
IsLineOf text line =
    (place : ℕ) × (place ≤ length text)
    × (line ≡ count_by (λ octet. octet == 10) (take place text) + 1)

-- The reason for refusing a text: it is not a document, which shows on this line of the text, or
-- the contents of the document are refused. Out of memory may come in place of any answer.
abbrev pub IsRefusedFor : List ℕ → ConfigError → Type 0
IsRefusedFor text (NotToml line) =
    ((document : Members) → IsDocument text document → ⊥) × IsLineOf text line
IsRefusedFor text Memory = Unit {0}
IsRefusedFor text error = IsWrong text error
