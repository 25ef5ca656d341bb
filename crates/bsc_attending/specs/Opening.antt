-- What a station asks the machine for when it begins, and what it runs with then.
use Rattle.std.specs.Prelude.{◌≡◌, ℤ, Bool, true, false, map, Option, Some, None, option_map}
use Rattle.std.specs.Prelude.{Result, Ok, Err, IfErr, IfOk}
use Rattle.bsc_clients.specs.declared.error.ClientsError.{ClientsError}
use Rattle.bsc_clients.specs.declared.served_at.ServedAt.{ServedAt}
use Rattle.bsc_options.specs.Serves.{ServesValue}
use Rattle.bsc_options.specs.Settings.{SettingsValue}
use Rattle.bsc_sockets.specs.declared.error.SocketsError.{SocketsError}
use Rattle.bsc_attending.specs.Errors.{clients_cut, sockets_cut}
use Rattle.bsc_attending.specs.Forgetting.{forgets_printed_in}
use Rattle.bsc_attending.specs.Framings.{ends_with_vacant}
use Rattle.bsc_attending.specs.Serving.{IsPlace}
use Rattle.bsc_attending.specs.Wanted.{WantedValue, is_traced}
use Rattle.bsc_attending.specs.declared.cut_short.CutShort.{CutShort}
use Rattle.bsc_attending.specs.declared.cut_short.CutShort.TheVariants as cut
use Rattle.bsc_attending.specs.declared.live.Live.{Live}
use Rattle.bsc_attending.specs.declared.network.Opened.{Opened}
use Rattle.bsc_attending.specs.declared.network.Reachable.{Reachable}

-- What programs reach a station by, where they are to.
abbrev pub some_reachable : {P : Type 0} → Result (Reachable P) ClientsError
    → Result (Option (Reachable P)) ClientsError
some_reachable (Ok reachable) = Ok (Some reachable)
some_reachable (Err error) = Err error

-- A machine lets programs reach a station at the place that is asked for, or, if none is, it is
-- asked for nothing. `serves` says what it means that it does.
module _ {N P : Type 0}
    (serves : N → ServedAt → Bool → Result (Reachable P) ClientsError → N → Type 0)
    (trace : Bool) where
  pub record IsServed (asked : ServesValue) (old : N)
      (result : Result (Option (Reachable P)) ClientsError) (new : N) : Type 0 where
    pub place : ServedAt
    pub is_place : IsPlace asked place
    pub answer : Result (Reachable P) ClientsError
    pub is_served : serves old place trace answer new
    pub returns : result ≡ some_reachable answer

  abbrev pub Reaches : Option ServesValue → N → Result (Option (Reachable P)) ClientsError → N
      → Type 0
  Reaches None old result new = (result ≡ Ok None) × (new ≡ old)
  Reaches (Some asked) old result new = IsServed asked old result new

-- A station runs with the connections and the waiter that a machine has made, and vacant places
-- after the connections, with the programs that can reach it, and forgets what it has printed if
-- the flag says so.
pub record IsLiveOver {R W F T P Z : Type 0} (opened : Opened R W T)
    (reachable : Option (Reachable P)) (forgets : Bool) (live : Live R W F T P Z) : Type 0 where
  pub waiter : live.waiter ≡ opened.waiter
  pub connections : map (λ c. c.ends) live.connections.items
      ≡ ends_with_vacant opened.connections.items opened.places
  pub programs : option_map (λ s. s.programs) live.programs
      ≡ option_map (λ r. r.programs) reachable
  pub forgets_printed : live.forgets_printed ≡ forgets

-- Each flush of standard output also syncs it from now on, if the flag says so.
abbrev pub SyncsIf : {N : Type 0} → (N → N → Type 0) → Bool → N → N → Type 0
SyncsIf syncs true old new = syncs old new
SyncsIf syncs false old new = new ≡ old

-- A station with these settings, that wants these connections, begins on a machine. `serves` says
-- what it means that programs can reach it there, `connects` that connections are made, and `syncs`
-- that standard output is synced. `prints` is the descriptor that tells when standard output takes
-- more, if the station has a store.
module _ {N R W F T P Z : Type 0}
    (serves : N → ServedAt → Bool → Result (Reachable P) ClientsError → N → Type 0)
    (connects : N → WantedValue → Result (Opened R W T) SocketsError → N → Type 0)
    (syncs : N → N → Type 0) (settings : SettingsValue) (wanted : WantedValue) (prints : Option ℤ)
  where
    -- The connections are made, and the station runs with them, or memory runs out; or they could
    -- not be made, as the error says.
    abbrev pub RunsOver : Option (Reachable P) → Result (Opened R W T) SocketsError → N
        → Result (Live R W F T P Z) CutShort → N → Type 0
    RunsOver reachable (Ok opened) after result new =
        IfOk result (λ live. IsLiveOver opened reachable (forgets_printed_in settings) live
        × SyncsIf syncs settings.sync after new)
        × IfErr result (λ why. (why ≡ cut.Memory) × (new ≡ after))
    RunsOver reachable (Err error) after result new =
        (result ≡ Err (sockets_cut error)) × (new ≡ after)

    -- The machine is asked for the connections, once for all. A wait ends also by the descriptor of
    -- the programs, if any can reach the station, and by that of standard output.
    pub record ConnectsFor (reachable : Option (Reachable P)) (mid : N)
        (result : Result (Live R W F T P Z) CutShort) (new : N) : Type 0 where
      pub answer : Result (Opened R W T) SocketsError
      pub after : N
      pub connected : connects mid
          (record wanted { serves = option_map (λ r. r.descriptor) reachable; prints = prints })
          answer after
      pub runs : RunsOver reachable answer after result new

    abbrev pub ConnectsIf : Result (Option (Reachable P)) ClientsError → N
        → Result (Live R W F T P Z) CutShort → N → Type 0
    ConnectsIf (Ok reachable) mid result new = ConnectsFor reachable mid result new
    ConnectsIf (Err error) mid result new = (result ≡ Err (clients_cut error)) × (new ≡ mid)

    -- Programs can reach the station before it has connections, if it serves them.
    pub record Opens (old : N) (result : Result (Live R W F T P Z) CutShort) (new : N)
        : Type 0 where
      pub answer : Result (Option (Reachable P)) ClientsError
      pub mid : N
      pub reaches : Reaches serves (is_traced settings.printing.trace) settings.serves old answer
          mid
      pub connected : ConnectsIf answer mid result new
