-- What is read before a station makes its connections: the options, and its station of the
-- configuration, with its records; and what an error says of that.
use Rattle.std.specs.Prelude.{◌≡◌, ◌≢◌, ◌⊎◌, ◌≤◌, ◌<◌, ℕ, List, length, slice_index_or, Option}
use Rattle.std.specs.Prelude.{Ok, Err, None, Some, IfSome, codes}
use Rattle.bsc_options.specs.Errors.{refusal}
use Rattle.bsc_options.specs.Words.{WordsValue, required, text_at, texts_at}
use Rattle.bsc_config.specs.Answers.{IsRefusedFor, Says}
use Rattle.bsc_config.specs.Settings.{ConfigValue}
use Rattle.bsc_control.specs.Control.{ControlValue}
use Rattle.bsc_control.specs.Kept.{IsNewControl}
use Rattle.bsc_control.specs.Peer.{no_peer}
use Rattle.bsc_text.specs.InputTexts.{IsReadError, IsTextAt}
use Rattle.bsc_keeping.specs.Own.{receiving_of, sending_of}
use Rattle.bsc_keeping.specs.declared.own.Own.{Own}
use Rattle.bsc_station.specs.LineTerminal.{LineTerminalValue}
use Rattle.bsc_options.specs.Admission.{IsAdmission}
use Rattle.bsc_options.specs.Settings.{SettingsValue, settings_in}
use Rattle.bsc_options.specs.declared.error.OptionError.{OptionError}
use Rattle.bsc_options.specs.declared.error.OptionError.TheVariants as option
use Rattle.bsc_bid.specs.declared.speaker.Speaker.{Speaker}
use Rattle.bsc_bid.specs.declared.speaker.Speaker.TheVariants as speaker
use Rattle.bsc_tributary.specs.Kept.{IsNewTerminal}
use Rattle.bsc_attending.specs.Offering.{AddsAllLines, AddsNoLines, OffersAllLines, OffersNoLines}
use Rattle.bsc_attending.specs.declared.error.AttendingError.{AttendingError}
use Rattle.bsc_attending.specs.declared.error.AttendingError.TheVariants as attending
use Rattle.bsc_attending.specs.declared.preparing.Prepared.{Prepared}
use Rattle.bsc_attending.specs.declared.preparing.Prepared.TheVariants as prepared

-- The path of the configuration, that of the store, if records are to be kept, and the texts of
-- `--offer`.
abbrev pub config_path : WordsValue → List ℕ
config_path w = required (codes "CONFIG") w

abbrev pub store_path : WordsValue → Option (List ℕ)
store_path w = text_at (codes "store") w

abbrev pub offers_in : WordsValue → List (List ℕ)
offers_in w = texts_at (codes "offer") w

-- The text at a path is this configuration.
pub record HasConfig (path : List ℕ) (input : Option (List ℕ)) (config : ConfigValue) : Type 0 where
  pub text : List ℕ
  pub text_is : IsTextAt path input text
  pub says : Says text config

-- What an error says of the configuration at a path: its text could not be read, or is refused.
abbrev pub HasNoConfig : List ℕ → Option (List ℕ) → AttendingError → Type 0
HasNoConfig path input (attending.Text error) = IsReadError path input error
HasNoConfig path input (attending.Config error) =
    (text : List ℕ) × IsTextAt path input text × IsRefusedFor text error
HasNoConfig path input attending.Memory = Unit {0}
HasNoConfig path input _ = ⊥

-- The control station of the configuration, to which the records of all offers were offered.
pub record IsControlOf (config : ConfigValue) (offers : List (List ℕ))
    (input after : Option (List ℕ)) (control : ControlValue) : Type 0 where
  pub fresh : ControlValue
  pub new : IsNewControl config.setup config.terminals config.poll_list fresh
  pub offered : OffersAllLines offers (input, fresh) (after, control)

-- The terminal of the configuration with this number, with the records of all offers.
pub record IsTerminalOf (config : ConfigValue) (number : ℕ) (offers : List (List ℕ))
    (input after : Option (List ℕ)) (terminal : LineTerminalValue) : Type 0 where
  pub fresh : LineTerminalValue
  pub numbered : fresh.number ≡ number
  pub new : IsNewTerminal config.setup
      (slice_index_or config.terminals number no_peer.terminal) fresh.tributary
  pub offered : AddsAllLines offers (input, fresh) (after, terminal)

-- The station that the options select, with its records.
abbrev pub IsStationOf : ConfigValue → Speaker → List (List ℕ) → Option (List ℕ) → Option (List ℕ)
    → Prepared → Type 0
IsStationOf config speaker.Control offers input after (prepared.Control control) =
    IsControlOf config offers input after control
IsStationOf config (speaker.Terminal number) offers input after (prepared.Terminal terminal) =
    IsTerminalOf config number offers input after terminal
IsStationOf config speaker offers input after prepared = ⊥

-- The full length of a record is that of the terminal, if the station is one.
abbrev pub Suits : ℕ → Prepared → Type 0
Suits full (prepared.Control control) = Unit {0}
Suits full (prepared.Terminal terminal) = terminal.tributary.queue.format.full ≡ full

-- The same, if the records of the station are to be kept.
abbrev pub SuitsOwn : Option Own → Prepared → Type 0
SuitsOwn None prepared = Unit {0}
SuitsOwn (Some own) prepared = Suits own.full prepared

-- The records of the new control station are refused, with this error.
pub record IsControlRefused (config : ConfigValue) (offers : List (List ℕ))
    (input : Option (List ℕ)) (error : AttendingError) : Type 0 where
  pub fresh : ControlValue
  pub new : IsNewControl config.setup config.terminals config.poll_list fresh
  pub refused : OffersNoLines offers (input, fresh) error

-- The records of the new terminal are refused, with this error.
pub record IsTerminalRefused (config : ConfigValue) (number : ℕ) (offers : List (List ℕ))
    (input : Option (List ℕ)) (error : AttendingError) : Type 0 where
  pub there : number < length config.terminals
  pub fresh : LineTerminalValue
  pub numbered : fresh.number ≡ number
  pub new : IsNewTerminal config.setup
      (slice_index_or config.terminals number no_peer.terminal) fresh.tributary
  pub refused : AddsNoLines offers (input, fresh) error

-- What an error says of the control station of a configuration, where addresses are given for
-- terminals below `peers`.
abbrev pub HasNoControl : ConfigValue → ℕ → List (List ℕ) → Option (List ℕ) → AttendingError
    → Type 0
HasNoControl config peers offers input (attending.Options option.NoPeer) =
    length config.terminals < peers
HasNoControl config peers offers input attending.Memory = Unit {0}
HasNoControl config peers offers input error =
    (peers ≤ length config.terminals) × IsControlRefused config offers input error

-- What an error says of the terminal of a configuration with this number.
abbrev pub HasNoTerminal : ConfigValue → ℕ → List (List ℕ) → Option (List ℕ) → AttendingError
    → Type 0
HasNoTerminal config number offers input (attending.Options option.NoTerminal) =
    length config.terminals ≤ number
HasNoTerminal config number offers input error =
    IsTerminalRefused config number offers input error

-- What an error says of the station that the options select.
abbrev pub HasNoStation : ConfigValue → Speaker → ℕ → List (List ℕ) → Option (List ℕ)
    → AttendingError → Type 0
HasNoStation config speaker.Control peers offers input error =
    HasNoControl config peers offers input error
HasNoStation config (speaker.Terminal number) peers offers input error =
    HasNoTerminal config number offers input error

-- The configuration was read, and `middle` was left of standard input. Nothing of it is read unless
-- the path is `-`.
pub record ReadsConfig (path : List ℕ) (input middle : Option (List ℕ))
    (config : ConfigValue) : Type 0 where
  pub read : HasConfig path input config
  pub unasked : path ≢ codes "-" → middle ≡ input

-- The configuration of the words was read, and the station was prepared with its records.
pub record IsPrepared (w : WordsValue) (speaker : Speaker) (input after : Option (List ℕ))
    (prepared : Prepared) : Type 0 where
  pub config : ConfigValue
  pub middle : Option (List ℕ)
  pub reads : ReadsConfig (config_path w) input middle config
  pub station : IsStationOf config speaker (offers_in w) middle after prepared

-- The same, and if its records are to be kept, what is known of it has the channels of the
-- configuration.
pub record IsReady (w : WordsValue) (speaker : Speaker) (input after : Option (List ℕ))
    (begun : Prepared) (own : Option Own) : Type 0 where
  pub prepared : IsPrepared w speaker input after begun
  pub sending : IfSome own (λ it.
      it.sending.items ≡ sending_of prepared.config.terminals speaker)
  pub receiving : IfSome own (λ it.
      it.receiving.items ≡ receiving_of prepared.config.terminals speaker)

-- The configuration was read, and then the station was refused, with this error.
pub record IsStationRefused (w : WordsValue) (speaker : Speaker) (peers : ℕ)
    (input : Option (List ℕ)) (error : AttendingError) : Type 0 where
  pub config : ConfigValue
  pub middle : Option (List ℕ)
  pub reads : ReadsConfig (config_path w) input middle config
  pub refused : HasNoStation config speaker peers (offers_in w) middle error

-- The configuration or the station is refused, with this error.
abbrev pub IsUnprepared : WordsValue → Speaker → ℕ → Option (List ℕ) → AttendingError → Type 0
IsUnprepared w speaker peers input error =
    HasNoConfig (config_path w) input error ⊎ IsStationRefused w speaker peers input error

-- The station that the options select was prepared with its records: what comes before its
-- connections was done.
pub record IsBegun (w : WordsValue) (speaker : Speaker) (input : Option (List ℕ)) : Type 0 where
  pub after : Option (List ℕ)
  pub begun : Prepared
  pub prepared : IsPrepared w speaker input after begun

-- The options are refused for this reason: their settings, or after them the peers.
abbrev pub IsRefusedBy : WordsValue → OptionError → Type 0
IsRefusedBy w why =
    (settings_in w ≡ Err (refusal why))
    ⊎ ((settings : SettingsValue) × (settings_in w ≡ Ok settings) × IsAdmission w (Err why))

-- An error says that the options are refused, and why.
abbrev pub IsOptionsRefused : WordsValue → AttendingError → Type 0
IsOptionsRefused w (attending.Options why) = IsRefusedBy w why
IsOptionsRefused w _ = ⊥
