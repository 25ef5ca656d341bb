-- The connections that a station asks for.
use Rattle.std.specs.Prelude.{ℕ, ℤ, pos, ◌+◌, ◌*◌, ◌-◌, ◌^◌, min, Bool, true, false, not, ◌&&◌}
use Rattle.std.specs.Prelude.{if◌then◌else◌, Option, None, Some, length}
use Rattle.bsc_report.specs.declared.tracing.Tracing.{Tracing}
use Rattle.bsc_report.specs.declared.tracing.Tracing.TheVariants.{Off, Exchanges, All}
use Rattle.bsc_trust.specs.declared.networks.Networks.{Networks}
use Rattle.bsc_options.specs.Settings.{PlaceValue, SettingsValue, connects_to, listens_at}
use Rattle.bsc_options.specs.Settings.{place_value}
use Rattle.bsc_attending.specs.declared.preparing.Prepared.{Prepared}
use Rattle.bsc_attending.specs.declared.preparing.Prepared.TheVariants as prepared
use Rattle.bsc_attending.specs.declared.wanted.Wanted.{Wanted}

-- The connections: their place and number, for how many of them the station waits, whether their
-- octets are raw, from which networks peers may connect, whether the station ends with standard
-- input, whether other peers may connect later, whether the station begins, whether it skips
-- silences that nobody can break, its times in milliseconds, whether what happens is traced, and
-- the descriptor that tells when a program may have to be served.
pub record WantedValue : Type 0 where
  pub place : PlaceValue
  pub connections : ℕ
  pub begin_with : ℕ
  pub raw : Bool
  pub allowed : Networks
  pub stops : Bool
  pub stays : Bool
  pub begins : Bool
  pub skips : Bool
  pub time_out : ℕ
  pub gap : ℕ
  pub patience : ℕ
  pub replace_after : ℕ
  pub pause : ℕ
  pub line_time_out : ℕ
  pub trace : Bool
  pub serves : Option ℤ
  pub prints : Option ℤ

abbrev pub wanted_value : Wanted → WantedValue
wanted_value w = record {
  place = place_value w.place;
  connections = w.connections;
  begin_with = w.begin_with;
  raw = w.raw;
  allowed = w.allowed;
  stops = w.stops;
  stays = w.stays;
  begins = w.begins;
  skips = w.skips;
  time_out = w.time_out;
  gap = w.gap;
  patience = w.patience;
  replace_after = w.replace_after;
  pause = w.pause;
  line_time_out = w.line_time_out;
  trace = w.trace;
  serves = w.serves;
  prints = w.prints;
}

-- Standard input, if the station is asked to end with it.
abbrev pub input_if : Bool → Option ℤ
input_if stops = if stops then Some (pos 0) else None

-- Whether there is a trace.
abbrev pub is_traced : Tracing → Bool
is_traced Off = false
is_traced Exchanges = true
is_traced All = true

-- Whether peers connect to the station.
abbrev pub is_listening : PlaceValue → Bool
is_listening (listens_at address) = true
is_listening (connects_to address) = false

-- The time-out of the control station, where the terminals have this time-out and this limit of
-- failures in a row. A terminal that holds the line acts on each silence, and gives up at the one
-- that exceeds the limit, the failure `tries + 1`. What it sends then is heard or lost before one
-- more time-out passes (GA27-3004: time-outs). Up to the largest value of 64 bits.
abbrev pub time_out_of_control : ℕ → ℕ → ℕ
time_out_of_control time tries = min (time * (tries + 2)) (2 ^ 64 - 1)

-- The control station begins, unless its records are kept, and asks for a connection for each
-- terminal, or one for all. Its time-out is longer than a terminal holds the line without hearing
-- anything. It skips silences that nobody can break if peers connect to it, each terminal has a
-- connection of its own, and transmissions are socket records, so that no terminal goes on after
-- its connection was cut off.
abbrev pub control_wants : SettingsValue → Networks → ℕ → ℕ → WantedValue
control_wants s allowed terminals tries = record {
  place = s.place;
  connections = if s.shared then 1 else terminals;
  begin_with = s.begin_with;
  raw = s.raw;
  allowed = allowed;
  stops = s.until_input_ends;
  stays = is_listening s.place;
  begins = not s.is_kept;
  skips = is_listening s.place && (not s.raw && not s.shared);
  time_out = time_out_of_control s.times.time_out tries;
  gap = s.times.gap;
  patience = s.times.patience;
  replace_after = s.times.replace_after;
  pause = s.times.pause;
  line_time_out = s.times.time_out;
  trace = is_traced s.printing.trace;
  serves = None;
  prints = None;
}

-- A terminal asks for one connection.
abbrev pub terminal_wants : SettingsValue → Networks → WantedValue
terminal_wants s allowed = record {
  place = s.place;
  connections = 1;
  begin_with = 1;
  raw = s.raw;
  allowed = allowed;
  stops = s.until_input_ends;
  stays = false;
  begins = false;
  skips = false;
  time_out = s.times.time_out;
  gap = s.times.gap;
  patience = s.times.patience;
  replace_after = s.times.replace_after;
  pause = s.times.pause;
  line_time_out = s.times.time_out;
  trace = is_traced s.printing.trace;
  serves = None;
  prints = None;
}

-- What a station asks for that is prepared.
abbrev pub wants : SettingsValue → Networks → Prepared → WantedValue
wants s allowed (prepared.Control control) =
    control_wants s allowed (length control.peers) control.setup.tries
wants s allowed (prepared.Terminal terminal) = terminal_wants s allowed
