-- The connections that a machine makes for a station.
use Rattle.std.specs.Prelude.{◌≡◌, ◌*◌, ◌/◌, ℕ, min, ⊤, Bool, true, false, Option, IsNone, IsSome}
use Rattle.std.specs.Duration.{as_nanos}
use Rattle.bsc_carrier.specs.declared.limits.TheConstants.{MAX_CONNECTIONS}
use Rattle.bsc_options.specs.declared.settings.Place.{Place}
use Rattle.bsc_options.specs.declared.settings.Place.TheVariants.{Listen, Connect}
use Rattle.bsc_attending.specs.Wanted.{input_if}
use Rattle.bsc_attending.specs.declared.wanted.Wanted.{Wanted}
use Rattle.bsc_sockets.specs.declared.settings.ConnectionSettings.{ConnectionSettings}

-- How many connections there can be where this many are asked for: up to 64 if peers connect to the
-- station, and one if it connects to a peer.
abbrev pub count_at : Place → ℕ → ℕ
count_at (Listen address) connections = min connections MAX_CONNECTIONS
count_at (Connect address) connections = 1

-- How many connections there are first where the station waits for this many of those that are
-- asked for.
abbrev pub first_at : Place → ℕ → ℕ → ℕ
first_at (Listen address) begin_with connections = min begin_with (min connections MAX_CONNECTIONS)
first_at (Connect address) begin_with connections = 1

-- Other peers may connect later, or none, where peers connect to the station.
abbrev pub ListensOn : {A : Type 0} → Place → Bool → Option A → Type 0
ListensOn (Listen address) true listener = IsSome listener
ListensOn (Listen address) false listener = IsNone listener
ListensOn (Connect address) stays listener = ⊤

-- The settings of the connections are those that the station asks for, whose times are in
-- milliseconds. What it sends is late after half of the time-out of the line.
pub record AreSettings (wanted : Wanted) (settings : ConnectionSettings) : Type 0 where
  pub time_out : as_nanos settings.time_out ≡ wanted.time_out * 1000000
  pub gap : as_nanos settings.gap ≡ wanted.gap * 1000000
  pub replace_after : as_nanos settings.replace_after ≡ wanted.replace_after * 1000000
  pub pause : as_nanos settings.pause ≡ wanted.pause * 1000000
  pub late_after : as_nanos settings.late_after ≡ wanted.line_time_out * 1000000 / 2
  pub begins : settings.begins ≡ wanted.begins
  pub skips : settings.skips ≡ wanted.skips
  pub allowed : settings.allowed ≡ wanted.allowed
  pub stops : settings.stops_with ≡ input_if wanted.stops
  pub serves : settings.serves ≡ wanted.serves
  pub prints : settings.prints ≡ wanted.prints
