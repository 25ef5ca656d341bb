-- What a station that is attended does, step by step.
use Rattle.std.specs.Prelude.{◌≡◌, ◌⊎◌, ◌&&◌, ◌||◌, ⊤, ℕ, zero, suc, ◌+◌, ◌-◌, ◌^◌}
use Rattle.std.specs.Prelude.{Bool, true, false, not}
use Rattle.std.specs.Prelude.{List, [], ◌∷◌, ◌++◌, length, slice_get, position}
use Rattle.std.specs.Prelude.{Option, None, Some, is_none, is_some, Result, Ok, Err, nat_lt}
use Rattle.std.specs.Prelude.{if◌then◌else◌}
use Rattle.std.specs.List.{AllZip}
use Rattle.std.specs.declared.net.socket_addr.SocketAddr.{SocketAddr}
use Rattle.bsc_frame.specs.declared.message.Message.{Message}
use Rattle.bsc_frame.specs.declared.message.Heard.{Heard}
use Rattle.bsc_frame.specs.Wire.{wire}
use Rattle.bsc_frame.specs.Spells.{IsHeardAs}
use Rattle.bsc_connections.specs.declared.awaited.Awaited.{Awaited}
use Rattle.bsc_connections.specs.declared.awaited.Awaited.TheVariants.{Octets, Newcomer, Gap}
use Rattle.bsc_connections.specs.declared.awaited.Awaited.TheVariants.{NotAccepted, NotAllowed}
use Rattle.bsc_connections.specs.declared.awaited.Awaited.TheVariants.{TimeOut, Stopped, Client}
use Rattle.bsc_connections.specs.declared.awaited.Handled.{Handled}
use Rattle.bsc_connections.specs.declared.awaited.Handled.TheVariants.{Answered, Unanswered}
use Rattle.bsc_connections.specs.declared.awaited.Handled.TheVariants.{Silence}
use Rattle.bsc_connections.specs.declared.awaited.LiveError.{LiveError}
use Rattle.bsc_connections.specs.declared.awaited.LiveError.TheVariants.{Count}
use Rattle.bsc_connections.specs.declared.monitor.Refusal.{Refusal}
use Rattle.bsc_connections.specs.declared.monitor.Refusal.TheVariants as refusal
use Rattle.bsc_connections.specs.declared.connection.Taken.{Taken}
use Rattle.bsc_connections.specs.declared.connection.Taken.TheVariants.{Nothing, Part, Whole}
use Rattle.bsc_connections.specs.declared.connection.Taken.TheVariants.{Closed}
use Rattle.bsc_connections.specs.Parts.{ConnectionParts, SessionParts}
use Rattle.bsc_connections.specs.Connections.{ConnectionValue, Takes, Sends, is_reached}
use Rattle.bsc_connections.specs.Histories.{Happening, WasHeard, WasSilent, HasJoined}
use Rattle.bsc_connections.specs.Histories.{HasClosed, WasIgnored, WasRefused, WasStopped}
use Rattle.bsc_connections.specs.Histories.{sent_if_in_time, sent_where_some}
use Rattle.bsc_carrier.specs.Cable.{ChangesAt}

-- A station, its connections, the monitor that is told what happens, and the waiter.
pub record Session (S C M T : Type 0) : Type 0 where
  pub station : S
  pub connections : List C
  pub monitor : M
  pub waiter : T

-- The connections of a station, and its monitor.
pub record Around (C M : Type 0) : Type 0 where
  pub connections : List C
  pub monitor : M

-- The place of the first connection that is closed.
abbrev pub first_closed : {R W F : Type 0} → List (ConnectionValue R W F) → Option ℕ
first_closed connections = position (λ c. is_none c.ends) connections

-- The place of the first connection that a failed write has closed, and of which that is not told
-- yet.
abbrev pub first_untold : {R W F : Type 0} → List (ConnectionValue R W F) → Option ℕ
first_untold connections = position (λ c. is_none c.ends && is_some c.untold) connections

-- Whether there is this connection, it is open, and a transmission was written on it.
abbrev pub is_reached_at : {R W F : Type 0} → Option (ConnectionValue R W F) → Bool
is_reached_at None = false
is_reached_at (Some connection) = is_reached connection

-- Whether somebody at the first places, this many, may answer what was sent last: it was written
-- there, and the monitor says that the peer there may answer.
abbrev pub is_reached_below : {R W F : Type 0} → (ℕ → Bool) → List (ConnectionValue R W F) → ℕ
    → Bool
is_reached_below may_answer connections zero = false
is_reached_below may_answer connections (suc place) =
    is_reached_below may_answer connections place
    || (is_reached_at (slice_get connections place) && may_answer place)

-- Whether somebody may answer what was sent last.
abbrev pub is_any_reached : {R W F : Type 0} → (ℕ → Bool) → List (ConnectionValue R W F) → Bool
is_any_reached may_answer connections =
    is_reached_below may_answer connections (length connections)

-- Whether there is this connection, and it is open.
abbrev pub is_open_at : {R W F : Type 0} → Option (ConnectionValue R W F) → Bool
is_open_at None = false
is_open_at (Some connection) = not (is_none connection.ends)

-- Whether a transmission has begun on this connection, if it is one, that a gap would end.
abbrev pub awaits_gap : {R W F : Type 0} → (F → Bool) → Option (ConnectionValue R W F) → Bool
awaits_gap awaits None = false
awaits_gap awaits (Some connection) = awaits connection.framing

-- What a station has handled that heard a transmission at this place; the flag says whether it
-- answered.
abbrev pub handled_if : Bool → ℕ → Handled
handled_if true place = Answered place
handled_if false place = Unanswered place

-- What a station has handled that has this answer to what happened.
abbrev pub handled_by : Happening → Option Message → Handled
handled_by (WasHeard place octets) (Some m) = Answered place
handled_by (WasHeard place octets) None = Unanswered place
handled_by happening answer = Silence

-- This place, if there is one and it is less than this number.
abbrev pub place_below : ℕ → Option ℕ → Option ℕ
place_below places None = None
place_below places (Some place) = if nat_lt place places then Some place else None

-- The place that a newcomer gets: the first whose connection is closed, or if there is none the
-- place of the connection that the waiter says may be replaced.
abbrev pub PlaceFor : {T : Type 0} → (T → Option ℕ → Type 0) → Option ℕ → ℕ → T → Option ℕ → Type 0
PlaceFor may_replace (Some closed) places waiter place = place ≡ Some closed
PlaceFor may_replace None places waiter place =
    (named : Option ℕ) × may_replace waiter named × (place ≡ place_below places named)

-- What is to be sent of an answer, by what the monitor returned when it was told of the event: all
-- if it accepted that, and nothing if it refused.
abbrev pub due_if_accepted : Result Bool LiveError → Option Message → Option Message
due_if_accepted (Ok goes_on) answer = answer
due_if_accepted (Err error) answer = None

-- The result of telling a monitor of two things: the first error, or whether it goes on after both.
abbrev pub both_go_on : Result Bool LiveError → Result Bool LiveError → Result Bool LiveError
both_go_on (Ok goes_on) (Ok goes_on_later) = Ok (goes_on_later && goes_on)
both_go_on (Ok goes_on) (Err error) = Err error
both_go_on (Err error) later = Err error

-- The result of a session that ends with a step of this result: its error, or that the monitor has
-- ended it.
abbrev pub IsLastOf : Result Bool LiveError → Result (Unit {0}) LiveError → Type 0
IsLastOf (Ok goes_on) (Ok done) = goes_on ≡ false
IsLastOf (Err error) (Err other) = other ≡ error
IsLastOf _ _ = ⊥

module _ {R W F : Type 0} (parts : ConnectionParts R W F) where
  -- These octets are written to every open connection if they are in time, as the flag says; else
  -- nothing is written.
  abbrev pub WritesIfInTime : Bool → List ℕ → List (ConnectionValue R W F)
      → List (ConnectionValue R W F) → Type 0
  WritesIfInTime true octets old new = AllZip (Sends parts octets) old new
  WritesIfInTime false octets old new = new ≡ old

  -- What is due is written to every open connection if it is in time.
  abbrev pub SendsAll : Bool → Option Message → List (ConnectionValue R W F)
      → List (ConnectionValue R W F) → Type 0
  SendsAll in_time None old new = new ≡ old
  SendsAll in_time (Some m) old new = WritesIfInTime in_time (wire m) old new

  -- The result of a read at this place; `Nothing` if there is no such connection.
  abbrev pub IsTakenAt : ℕ → List (ConnectionValue R W F) → Taken → List (ConnectionValue R W F)
      → Type 0
  IsTakenAt place before taken after =
      ChangesAt place (λ b a. Takes parts b taken a) before after
      ⊎ ((slice_get before place ≡ None) × (taken ≡ Nothing) × (after ≡ before))

-- What is known of the connections, what the monitor does when it is told of something, and what
-- the waiter says of whether something is in time.
module _ {S R W F M T : Type 0} (parts : ConnectionParts R W F)
    (is_told : M → S → Happening → Result Bool LiveError → M → Type 0)
    (permits : T → Bool → T → Type 0) where
  abbrev AroundIt : Type 0
  AroundIt = Around (ConnectionValue R W F) M

  -- If this message is due, the waiter says whether it is in time. If none is, it is not asked.
  abbrev pub AsksWaiter : Option Message → T → Bool → T → Type 0
  AsksWaiter None before in_time after = after ≡ before
  AsksWaiter (Some m) before in_time after = permits before in_time after

  -- If this message was due, the monitor is told whether it was sent or withheld. If none was, it
  -- is told of nothing.
  abbrev pub TellsSent : Bool → Option Message → S → M → Result Bool LiveError → M → Type 0
  TellsSent in_time None station before result after = (result ≡ Ok true) × (after ≡ before)
  TellsSent in_time (Some m) station before result after =
      is_told before station (sent_if_in_time in_time (wire m)) result after

  -- The station has an answer, and the monitor has returned this when it was told what happened. If
  -- it accepted that, the waiter says whether the answer is in time: if it is, it is sent, and then
  -- the monitor is told what was sent; if it is late, nothing is sent, and the monitor is told what
  -- was withheld. If the monitor refused, nothing is sent, and its error is the result.
  pub record Replies (told : Result Bool LiveError) (answer : Option Message) (station : S)
      (old : AroundIt) (before : T) (happened : List Happening) (result : Result Bool LiveError)
      (new : AroundIt) (after : T) : Type 0 where
    pub due : Option Message
    pub accepted : due ≡ due_if_accepted told answer
    pub in_time : Bool
    pub asks : AsksWaiter due before in_time after
    pub sends : SendsAll parts in_time due old.connections new.connections
    pub told_later : Result Bool LiveError
    pub tells_sent : TellsSent in_time due station old.monitor told_later new.monitor
    pub result_is : result ≡ both_go_on told told_later
    pub happens : happened ≡ sent_where_some in_time due

module _ {S R W F M T : Type 0} (parts : SessionParts S R W F M T) where
  abbrev Now : Type 0
  Now = Session S (ConnectionValue R W F) M T

  abbrev AroundNow : Type 0
  AroundNow = Around (ConnectionValue R W F) M

  -- Nothing happens of which the monitor is told.
  abbrev pub TellsNothing : M → List Happening → Result Bool LiveError → M → Type 0
  TellsNothing before happened result after =
      (happened ≡ []) × (result ≡ Ok true) × (after ≡ before)

  -- The monitor is told of this by the station, and nothing else happens.
  abbrev pub TellsOne : Happening → S → M → List Happening → Result Bool LiveError → M → Type 0
  TellsOne happening station before happened result after =
      (happened ≡ happening ∷ []) × parts.is_told before station happening result after

  -- The station has this answer to what happened. The monitor is told what happened, and then the
  -- answer is sent if it accepted that, unless it is late. Then the waiter is told what was
  -- handled, late or not, and with which pace of the monitor it goes on.
  pub record Answers (happening : Happening) (answer : Option Message) (old : Now)
      (happened : List Happening) (result : Result Bool LiveError) (new : Now) : Type 0 where
    pub told : Result Bool LiveError
    pub monitor : M
    pub tells : parts.is_told old.monitor new.station happening told monitor
    pub later : List Happening
    pub waiter : T
    pub replies : Replies parts.connection parts.is_told parts.waiter.permits told answer
        new.station (record { connections = old.connections; monitor = monitor }) old.waiter later
        result (record { connections = new.connections; monitor = new.monitor }) waiter
    pub happens : happened ≡ happening ∷ later
    pub handles :
        parts.waiter.handles waiter (handled_by happening answer) (parts.paces new.monitor)
        new.waiter

  -- The station is told of a silence, and answers.
  pub record IsSilent (old : Now) (happened : List Happening) (result : Result Bool LiveError)
      (new : Now) : Type 0 where
    pub answer : Option Message
    pub acted : parts.station.acts old.station new.station answer
    pub answers : Answers WasSilent answer old happened result new

  -- The station hears these octets, which arrived on the connection at this place, and answers.
  pub record Hears (place : ℕ) (octets : List ℕ) (old : Now) (happened : List Happening)
      (result : Result Bool LiveError) (new : Now) : Type 0 where
    pub heard : Heard
    pub answer : Option Message
    pub is_heard : IsHeardAs octets heard
    pub heeds : parts.station.hears old.station heard new.station answer
    pub answers : Answers (WasHeard place octets) answer old happened result new

  -- These octets arrived on the connection at this place, and the station hears nothing of them.
  -- The monitor is told, nothing is sent, and the waiter is told nothing, so that no time-out
  -- moves.
  abbrev pub Ignores : ℕ → List ℕ → Now → List Happening → Result Bool LiveError → Now → Type 0
  Ignores place octets old happened result new =
      (new.station ≡ old.station)
      × (new.connections ≡ old.connections)
      × TellsOne (WasIgnored place octets) new.station old.monitor happened result new.monitor
      × (new.waiter ≡ old.waiter)

  -- These octets arrived on the connection at this place. The station hears them if the monitor
  -- admits them, as the flag says, and ignores them otherwise.
  abbrev pub HearsIfAdmitted : Bool → ℕ → List ℕ → Now → List Happening → Result Bool LiveError
      → Now → Type 0
  HearsIfAdmitted true place octets old happened result new =
      Hears place octets old happened result new
  HearsIfAdmitted false place octets old happened result new =
      Ignores place octets old happened result new

  -- The last transmission of the connection at this place has arrived. The monitor decides whether
  -- the station hears it.
  pub record Arrives (place : ℕ) (old : Now) (happened : List Happening)
      (result : Result Bool LiveError) (new : Now) : Type 0 where
    pub connection : ConnectionValue R W F
    pub at : slice_get old.connections place ≡ Some connection
    pub heard : HearsIfAdmitted
        (parts.admits old.monitor old.station place
        (parts.connection.framing.last connection.framing))
        place (parts.connection.framing.last connection.framing) old happened result new

  -- What the waiter is told of a read that completes no transmission: the gap of the connection
  -- begins anew if octets arrived and a gap would end them, and a connection that has nothing left
  -- is named. The time of the time-out is not moved. The flag says whether a gap would end what has
  -- begun.
  abbrev pub WaitsOn : Taken → ℕ → Bool → T → T → Type 0
  WaitsOn Part place true old new = parts.waiter.begins_gap old place new
  WaitsOn Nothing place awaits old new = parts.waiter.has_nothing_left old place new
  WaitsOn (Closed why) place awaits old new = parts.waiter.has_nothing_left old place new
  WaitsOn _ place awaits old new = new ≡ old

  -- The monitor is told of a read that completes no transmission exactly if it closes the
  -- connection, and then of its peer.
  abbrev pub TellsRead : Taken → ℕ → Option SocketAddr → S → M → List Happening
      → Result Bool LiveError → M → Type 0
  TellsRead (Closed why) place peer station before happened result after =
      TellsOne (HasClosed place peer why) station before happened result after
  TellsRead taken place peer station before happened result after =
      TellsNothing before happened result after

  -- The waiter names this peer of a connection that a read has closed.
  abbrev pub NamesClosed : Taken → ℕ → T → Option SocketAddr → Type 0
  NamesClosed (Closed why) place waiter peer = parts.waiter.names waiter place peer
  NamesClosed taken place waiter peer = ⊤

  -- A read that completes no transmission: the station hears nothing.
  pub record ReadsNoWhole (place : ℕ) (taken : Taken) (old : Now) (happened : List Happening)
      (result : Result Bool LiveError) (new : Now) : Type 0 where
    pub is_taken : IsTakenAt parts.connection place old.connections taken new.connections
    pub station : new.station ≡ old.station
    pub peer : Option SocketAddr
    pub named : NamesClosed taken place new.waiter peer
    pub tells : TellsRead taken place peer new.station old.monitor happened result new.monitor
    pub waits_on : WaitsOn taken place
        (awaits_gap parts.connection.framing.awaits (slice_get new.connections place)) old.waiter
        new.waiter

  -- A read at this place completes a transmission, or completes none.
  abbrev pub ReadsAt : ℕ → Taken → Now → List Happening → Result Bool LiveError → Now → Type 0
  ReadsAt place Whole old happened result new =
      (between : List (ConnectionValue R W F))
      × IsTakenAt parts.connection place old.connections Whole between
      × Arrives place (record old { connections = between }) happened result new
  ReadsAt place taken old happened result new = ReadsNoWhole place taken old happened result new

  -- A gap ends the transmission that has begun at this place.
  pub record ArrivesAtGap (place : ℕ) (old : Now) (happened : List Happening)
      (result : Result Bool LiveError) (new : Now) : Type 0 where
    pub between : List (ConnectionValue R W F)
    pub ended : ChangesAt place
        (λ b a. (a.ends ≡ b.ends) × (a.written ≡ b.written)
        × parts.connection.framing.ends b.framing true a.framing)
        old.connections between
    pub arrives : Arrives place (record old { connections = between }) happened result new

  -- The gap has passed at this place. It ends what has begun there if a gap would end it, as the
  -- flag says; else nothing is done.
  abbrev pub GapPasses : ℕ → Bool → Now → List Happening → Result Bool LiveError → Now → Type 0
  GapPasses place true old happened result new = ArrivesAtGap place old happened result new
  GapPasses place false old happened result new =
      (happened ≡ []) × (result ≡ Ok true) × (new ≡ old)

  -- A peer that has connected and has these directions gets this place, as an open connection on
  -- which nothing has arrived and nothing was written, and the monitor is told of that, of the peer
  -- that the waiter names there, and whether the connection was open; or it has gone and nothing
  -- changes.
  abbrev pub JoinsAs : ℕ → Option (R × W) → S → T → AroundNow → List Happening
      → Result Bool LiveError → AroundNow → Type 0
  JoinsAs place None station waiter old happened result new =
      (new.connections ≡ old.connections) × TellsNothing old.monitor happened result new.monitor
  JoinsAs place (Some ends) station waiter old happened result new =
      ChangesAt place (λ b a. (a.ends ≡ Some ends) × (a.written ≡ false)
      × parts.connection.framing.starts a.framing)
      old.connections new.connections
      × (peer : Option SocketAddr) × parts.waiter.names waiter place peer
      × TellsOne
      (HasJoined place peer (is_open_at (slice_get old.connections place)))
      station old.monitor happened result new.monitor

  -- A peer that has connected is turned away for this reason, and the monitor is told of that and
  -- of the peer that the waiter names.
  abbrev pub TurnsAway : Refusal → Now → List Happening → Result Bool LiveError → Now → Type 0
  TurnsAway why old happened result new =
      (new.connections ≡ old.connections)
      × parts.waiter.turns_away old.waiter new.waiter
      × (peer : Option SocketAddr) × parts.waiter.names_newcomer old.waiter peer
      × TellsOne (WasRefused peer why) new.station old.monitor happened result new.monitor

  -- A peer that has connected joins at this place, as a connection of its own in place of the one
  -- that was there; or it is turned away, because it gets no place.
  abbrev pub Joins : Option ℕ → Now → List Happening → Result Bool LiveError → Now → Type 0
  Joins (Some place) old happened result new =
      (joined : Option (R × W)) × parts.waiter.joins old.waiter place joined new.waiter
      × JoinsAs place joined new.station new.waiter
      (record { connections = old.connections; monitor = old.monitor }) happened result
      (record { connections = new.connections; monitor = new.monitor })
  Joins None old happened result new = TurnsAway refusal.NoPlace old happened result new

  -- What is done for the event of a wait, what happens in the course of it, and what the monitor
  -- returns: an error, or whether the station is attended further.
  abbrev pub Does : Awaited → Now → List Happening → Result Bool LiveError → Now → Type 0
  Does (Octets place) old happened result new =
      (taken : Taken) × ReadsAt place taken old happened result new
  Does Newcomer old happened result new =
      (new.station ≡ old.station)
      × (place : Option ℕ)
      × PlaceFor parts.waiter.may_replace (first_closed old.connections) (length old.connections)
      old.waiter place
      × Joins place old happened result new
  Does NotAccepted old happened result new =
      (new.station ≡ old.station)
      × (new.connections ≡ old.connections)
      × TellsOne (WasRefused None refusal.NotAccepted) new.station old.monitor happened result
      new.monitor
      × (new.waiter ≡ old.waiter)
  Does NotAllowed old happened result new =
      (new.station ≡ old.station) × TurnsAway refusal.NotAllowed old happened result new
  Does (Gap place) old happened result new =
      GapPasses place
      (awaits_gap parts.connection.framing.awaits (slice_get old.connections place)) old happened
      result new
  Does TimeOut old happened result new = IsSilent old happened result new
  Does Stopped old happened result new =
      (new.station ≡ old.station)
      × (new.connections ≡ old.connections)
      × TellsOne WasStopped new.station old.monitor happened result new.monitor
      × (new.waiter ≡ old.waiter)
  Does Client old happened result new = (happened ≡ []) × (result ≡ Ok true) × (new ≡ old)

  -- What a step begins with: if a write has failed that is not told yet, with a read at the place
  -- of the first such connection, which tells of it, and without a wait; otherwise with the event
  -- that a wait returns. The flag says whether somebody may answer what was sent last.
  abbrev pub BeginsWith : Option ℕ → Bool → T → Awaited → T → Type 0
  BeginsWith (Some place) is_reached before awaited waiter =
      (awaited ≡ Octets place) × (waiter ≡ before)
  BeginsWith None is_reached before awaited waiter =
      parts.waiter.waits before is_reached (Ok awaited) waiter

  -- One step: it began with an event, and that was handled. The result is what the monitor
  -- returned.
  pub record Steps (old : Now) (happened : List Happening) (result : Result Bool LiveError)
      (new : Now) : Type 0 where
    pub awaited : Awaited
    pub waiter : T
    pub begins : BeginsWith (first_untold old.connections)
        (is_any_reached (parts.may_answer old.monitor old.station) old.connections)
        old.waiter awaited waiter
    pub does : Does awaited (record old { waiter = waiter }) happened result new

  -- A wait failed, and nothing was done. Each failed write had been told.
  pub record FailsToWait (old : Now) (result : Result Bool LiveError) (new : Now) : Type 0 where
    pub error : LiveError
    pub all_told : first_untold old.connections ≡ None
    pub waited : parts.waiter.waits old.waiter
        (is_any_reached (parts.may_answer old.monitor old.station) old.connections) (Err error)
        new.waiter
    pub result_is : result ≡ Err error
    pub others : new ≡ record old { waiter = new.waiter }

  -- One step, or a wait that failed.
  abbrev pub StepsOrFails : Now → Result Bool LiveError → Now → Type 0
  StepsOrFails old result new =
      ((happened : List Happening) × Steps old happened result new) ⊎ FailsToWait old result new

  -- A sequence of steps with the history of what happened. Each step continues from the state in
  -- which the step before it ended, the waiter included, and adds what happened in it. No step
  -- follows a wait that failed, or a step that the monitor ended with an error.
  pub data Attends : Now → List Happening → Now → Type 0 where
    ended : {old new : Now} → new ≡ old → Attends old [] new
    goes_on : {old mid new : Now} {happened history : List Happening} {is_more : Bool}
        → Steps old happened (Ok is_more) mid → Attends mid history new
        → Attends old (happened ++ history) new
    fails : {old new : Now} {happened : List Happening} {error : LiveError}
        → Steps old happened (Err error) new → Attends old happened new
    fails_to_wait : {old new : Now} {result : Result Bool LiveError}
        → FailsToWait old result new → Attends old [] new

  -- This many steps lead from one state to another, and the station is attended further after each.
  pub data GoesOn : ℕ → Now → Now → Type 0 where
    not_begun : {old new : Now} → new ≡ old → GoesOn 0 old new
    one_more : {steps : ℕ} {old mid new : Now} → GoesOn steps old mid
        → StepsOrFails mid (Ok true) new → GoesOn (steps + 1) old new

  -- What ends a session of which this many steps are made: too many steps to count, or the first
  -- step after which the station is not attended further, by its result.
  abbrev pub EndsWith : ℕ → Now → Result (Unit {0}) LiveError → Now → Type 0
  EndsWith steps old result new =
      ((steps ≡ 2 ^ 64 - 1) × (result ≡ Err Count) × (new ≡ old))
      ⊎ ((told : Result Bool LiveError) × StepsOrFails old told new × IsLastOf told result)

  -- How a session ends, and by what.
  pub record IsEnded (old : Now) (result : Result (Unit {0}) LiveError) (new : Now) : Type 0 where
    pub steps : ℕ
    pub last : Now
    pub goes_on : GoesOn steps old last
    pub ends : EndsWith steps last result new
