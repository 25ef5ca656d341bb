-- The settings in the options of a station.
use Rattle.std.specs.Prelude.{ℕ, ◌-◌, ◌*◌, ◌/◌, ◌^◌, ◌==◌, min, nat_le, nat_lt, ◌&&◌, ◌||◌, not}
use Rattle.std.specs.Prelude.{Bool, true, false, option_map, codes}
use Rattle.std.specs.Prelude.{List, [], ◌∷◌, Option, Some, None, is_some, ok_or, Result, Ok, Err}
use Rattle.std.specs.Prelude.{if◌then◌else◌}
use Rattle.bsc_options.specs.Words.{WordsValue, is_given, text_at, times_at}
use Rattle.bsc_options.specs.Entries.{fits_station, hour, number_in}
use Rattle.bsc_options.specs.Errors.{Refusal, plain}
use Rattle.bsc_text.specs.declared.form.Form.{Form}
use Rattle.bsc_text.specs.declared.form.Form.TheVariants.{Hexadecimal, Text, Bytes}
use Rattle.bsc_monitor.specs.declared.attendance.AbsenceLimits.{AbsenceLimits}
use Rattle.bsc_monitor.specs.declared.rounds.Limits.{Limits}
use Rattle.bsc_report.specs.declared.printing.Printing.{Printing}
use Rattle.bsc_report.specs.declared.tracing.Tracing.{Tracing}
use Rattle.bsc_report.specs.declared.tracing.Tracing.TheVariants.{Off, Exchanges, All}
use Rattle.bsc_options.specs.declared.error.OptionError.{OptionError}
use Rattle.bsc_options.specs.declared.error.OptionError.TheVariants as error
use Rattle.bsc_bid.specs.declared.speaker.Speaker.{Speaker}
use Rattle.bsc_bid.specs.declared.speaker.Speaker.TheVariants.{Control, Terminal}
use Rattle.bsc_options.specs.declared.settings.Place.{Place}
use Rattle.bsc_options.specs.declared.settings.Place.TheVariants.{Listen, Connect}
use Rattle.bsc_options.specs.declared.settings.Times.{Times}
use Rattle.bsc_options.specs.declared.settings.StationSettings.{StationSettings}
use Rattle.bsc_options.specs.Inputs.{repeats_input}
use Rattle.bsc_options.specs.Numbers.{number_within}
use Rattle.bsc_options.specs.Readings.{◌>>=◌}
use Rattle.bsc_options.specs.Serves.{ServesValue, is_address, serves_in, serves_value}

-- The station with this number, if it is one.
abbrev pub terminal_of : Option ℕ → Result Speaker Refusal
terminal_of None = Err (plain error.TerminalNumber)
terminal_of (Some number) = Ok (Terminal number)

-- The station that is run: exactly one of the control station and a terminal.
abbrev pub speaker_in : Bool → Option (List ℕ) → Result Speaker Refusal
speaker_in true None = Ok Control
speaker_in true (Some text) = Err (plain error.Station)
speaker_in false None = Err (plain error.Station)
speaker_in false (Some text) = terminal_of (number_within 0 255 text)

-- The place of the connections: peers connect at this address, or a peer listens there.
pub data PlaceValue : Type 0 where
  listens_at : List ℕ → PlaceValue
  connects_to : List ℕ → PlaceValue

abbrev pub place_value : Place → PlaceValue
place_value (Listen address) = listens_at address.now
place_value (Connect address) = connects_to address.now

-- The place that is given: exactly one.
abbrev pub place_in : Option (List ℕ) → Option (List ℕ) → Result PlaceValue Refusal
place_in (Some address) None = Ok (listens_at address)
place_in None (Some address) = Ok (connects_to address)
place_in None None = Err (plain error.Place)
place_in (Some listen) (Some connect) = Err (plain error.Place)

-- An error, if a rule is broken.
abbrev pub unless : Bool → Refusal → Result (Unit {0}) Refusal
unless broken why = if broken then Err why else Ok tt

-- What the table does not say of how options fit the station and one another: a control station
-- that connects reaches all terminals by one connection, only programs that come over a network are
-- of other machines, and standard input is used once.
abbrev pub fits_together : WordsValue → Speaker → Result (Unit {0}) Refusal
fits_together w speaker = do
  connect ← unless
      ((is_given (codes "control") w && not (is_given (codes "shared") w))
      && is_given (codes "connect") w)
      (plain error.ConnectNeedsShared)
  anyone ← unless
      (is_given (codes "serve-anyone") w && not (is_address (text_at (codes "serve") w)))
      (plain error.ServeAnyoneNeedsServe)
  unless (repeats_input w speaker) (plain error.RepeatedInput)

-- Three times a time, up to the largest value of 64 bits.
abbrev pub three_times : ℕ → ℕ
three_times time = min (time * 3) (2 ^ 64 - 1)

-- Twice a time, up to the largest value of 64 bits.
abbrev pub twice : ℕ → ℕ
twice time = min (time * 2) (2 ^ 64 - 1)

-- The pause unless it is given: 20, and for a station that programs feed 100, but no more than a
-- quarter of the time-out.
abbrev pub absent_pause : Bool → ℕ → ℕ
absent_pause serves time_out = min (time_out / 4) (if serves then 100 else 20)

-- Milliseconds up to an hour, in words.
abbrev milliseconds : List ℕ
milliseconds = codes "milliseconds, 1 to 3600000"

-- The times of a station in milliseconds. The gap is 50 and the time-out 3000 unless given, and the
-- patience is the time-out, and a connection is replaced after three time-outs.
-- With raw octets the gap is less than the time-out: otherwise no transmission would end before a
-- silence. A pause that is given is less than half of it: otherwise what is sent after the pause to
-- a terminal that answers during it would be withheld as late.
abbrev pub times_in : WordsValue → Result Times Refusal
times_in w = do
  gap ← number_in (codes "gap") milliseconds 1 hour 50 w
  time_out ← number_in (codes "time-out") milliseconds 1 hour 3000 w
  below ← unless (is_given (codes "raw") w && nat_le time_out gap) (plain error.GapNotBelowTimeOut)
  patience ← number_in (codes "patience") milliseconds 1 hour time_out w
  replace_after ← number_in (codes "replace-after") milliseconds 1 hour (three_times time_out) w
  pause ← number_in (codes "pause") (codes "milliseconds, 0 to 3600000") 0 hour
      (absent_pause (is_given (codes "serve") w) time_out) w
  short ← unless (is_given (codes "pause") w && nat_le time_out (twice pause))
      (plain error.PauseNotBelowHalf)
  Ok (record {
    gap = gap;
    time_out = time_out;
    patience = patience;
    replace_after = replace_after;
    pause = pause;
  })

-- A number from 1 up, in words.
abbrev from_one : List ℕ
from_one = codes "a number from 1 up"

-- The number of rounds, if it is limited.
abbrev pub rounds_in : WordsValue → Result (Option ℕ) Refusal
rounds_in w =
    if is_given (codes "rounds") w then (do
      rounds ← number_in (codes "rounds") from_one 1 (2 ^ 64 - 1) 0 w
      Ok (Some rounds))
    else Ok None

-- The number of idle rounds in a row unless it is given: two for a station that ends once all is
-- done, and otherwise the greatest number.
abbrev pub absent_idle_rounds : Bool → ℕ
absent_idle_rounds batch = if batch then 2 else 2 ^ 64 - 1

-- The limits at which a control station ends that waits for this many terminals. Rounds count from
-- the beginning if it waits for some, or connects to a peer.
abbrev pub limits_in : WordsValue → ℕ → Result Limits Refusal
limits_in w begin_with = do
  rounds ← rounds_in w
  idle_rounds ← number_in (codes "idle-rounds") from_one 1 (2 ^ 64 - 1)
      (absent_idle_rounds (is_given (codes "batch") w)) w
  Ok (record {
    rounds = rounds;
    idle_rounds = idle_rounds;
    counts_at_once = not (is_given (codes "listen") w) || nat_lt 0 begin_with;
  })

-- A number of seconds in milliseconds, up to the largest value of 64 bits.
abbrev pub in_milliseconds : ℕ → ℕ
in_milliseconds seconds = min (seconds * 1000) (2 ^ 64 - 1)

-- When a terminal is absent: after two visits without an answer unless given, and with 0 never. It
-- is called again after 30 seconds unless given.
abbrev pub absence_in : WordsValue → Result AbsenceLimits Refusal
absence_in w = do
  absent_after ← number_in (codes "absent-after") (codes "a number from 0 up") 0 (2 ^ 64 - 1) 2 w
  seconds ← number_in (codes "retry-absent") (codes "seconds, 1 to 3600") 1 3600 30 w
  Ok (record { absent_after = absent_after; retry = in_milliseconds seconds })

-- The form of records in the output.
abbrev pub form_in : WordsValue → Form
form_in w =
    if is_given (codes "text") w then Text
    else (if is_given (codes "bytes") w then Bytes else Hexadecimal)

-- How much is traced, for the number of times that a trace is asked for: twice for all.
abbrev pub tracing_in : ℕ → Tracing
tracing_in times =
    if times == 0 then Off else (if times == 1 then Exchanges else All)

-- The output of a station.
abbrev pub printing_in : WordsValue → Printing
printing_in w = record {
  records = record { form = form_in w; numbers = is_given (codes "numbers") w };
  trace = tracing_in (times_at (codes "trace") w);
}

-- The number of terminals for which a control station waits, none unless it is given.
abbrev pub begin_with_in : WordsValue → Result ℕ Refusal
begin_with_in w = number_in (codes "begin-with") (codes "a number, 0 to 64") 0 64 0 w

-- The settings of a station.
pub record SettingsValue : Type 0 where
  pub speaker : Speaker
  pub place : PlaceValue
  pub serves : Option ServesValue
  pub shared : Bool
  pub begin_with : ℕ
  pub raw : Bool
  pub times : Times
  pub limits : Limits
  pub absence : AbsenceLimits
  pub until_input_ends : Bool
  pub is_kept : Bool
  pub sync : Bool
  pub quiet : Bool
  pub printing : Printing
  pub reported : Option Form

abbrev pub settings_value : StationSettings → SettingsValue
settings_value s = record {
  speaker = s.speaker;
  place = place_value s.place;
  serves = option_map serves_value s.serves;
  shared = s.shared;
  begin_with = s.begin_with;
  raw = s.raw;
  times = s.times;
  limits = s.limits;
  absence = s.absence;
  until_input_ends = s.until_input_ends;
  is_kept = s.is_kept;
  sync = s.sync;
  quiet = s.quiet;
  printing = s.printing;
  reported = s.reported;
}

-- The form in which the report repeats the records, if it does.
abbrev pub reported_in : WordsValue → Option Form
reported_in w = if is_given (codes "report-records") w then Some (form_in w) else None

-- The settings in the options, or the first reason for refusing them.
abbrev pub settings_in : WordsValue → Result SettingsValue Refusal
settings_in w = do
  speaker ← speaker_in (is_given (codes "control") w) (text_at (codes "terminal") w)
  place ← place_in (text_at (codes "listen") w) (text_at (codes "connect") w)
  table ← fits_station w
  fits ← fits_together w speaker
  begin_with ← begin_with_in w
  times ← times_in w
  limits ← limits_in w begin_with
  absence ← absence_in w
  Ok (record {
    speaker = speaker;
    place = place;
    serves = serves_in (text_at (codes "serve") w) (is_given (codes "serve-anyone") w);
    shared = is_given (codes "shared") w;
    begin_with = begin_with;
    raw = is_given (codes "raw") w;
    times = times;
    limits = limits;
    absence = absence;
    until_input_ends = is_given (codes "until-input-ends") w;
    is_kept = is_given (codes "store") w;
    sync = is_given (codes "sync") w;
    quiet = is_given (codes "quiet") w;
    printing = printing_in w;
    reported = reported_in w;
  })
