-- Whether there may be work beside the line, which is told as a call of a program, and when that is
-- told.
use Rattle.std.specs.Prelude.{◌≡◌, ℕ, ◌==◌, Bool, true, false}
use Rattle.std.specs.List.{list_any}
use Rattle.mio.specs.Event.{event_token}
use Rattle.mio.specs.Events.{items}
use Rattle.mio.specs.declared.event.events.Events.{Events}
use Rattle.bsc_connections.specs.declared.awaited.Awaited.{Awaited}
use Rattle.bsc_connections.specs.declared.awaited.Awaited.TheVariants.{Client}
use Rattle.bsc_sockets.specs.declared.pausing.Rest.{Rest}
use Rattle.bsc_sockets.specs.declared.pausing.Rest.TheVariants.{Over, Called}
use Rattle.bsc_sockets.specs.declared.waiting.Sought.{Sought}
use Rattle.bsc_sockets.specs.declared.waiting.Sought.TheVariants.{Anything, Line}

-- Whether one of these events is of the source with this token.
abbrev pub is_reported_in : {A : Type 0} → ℕ → Events A → Bool
is_reported_in token events = list_any (λ event. (event_token event).0 == token) (items events)

-- Whether an event tells that a program has called.
abbrev pub is_call : Awaited → Bool
is_call Client = true
is_call _ = false

-- What is sought once no time is left, as the flag says, and what is sought else.
abbrev pub sought_in : Bool → Sought
sought_in true = Line
sought_in false = Anything

-- What is found tells of a call only if one had come before, and then that is past. Else nothing
-- changes.
abbrev pub FindsCall : Bool → Awaited → Bool → Type 0
FindsCall before awaited after =
    (is_call awaited ≡ true → (before ≡ true) × (after ≡ false))
    × (is_call awaited ≡ false → after ≡ before)

-- What ends a wait tells of a call only if one had come before, or the system has reported one when
-- it was last asked, as the flags say, and then that is past. With any other end no call is lost.
abbrev pub TellsCall : Bool → Bool → Awaited → Bool → Type 0
TellsCall before reported awaited after =
    (is_call awaited ≡ true → (before ≡ false → reported ≡ true) × (after ≡ false))
    × (is_call awaited ≡ false → before ≡ true → after ≡ true)

-- While what is sought is not found, no call is lost, and where a call is sought none is left.
abbrev pub KeepsCall : Sought → Bool → Bool → Type 0
KeepsCall sought before after =
    (sought ≡ Anything → before ≡ false → after ≡ false) × (before ≡ true → after ≡ true)

-- Whether a program has interrupted a pause.
abbrev pub is_interrupted : Rest → Bool
is_interrupted (Over limit) = false
is_interrupted (Called limit) = true

-- A pause is interrupted, as the last flag but one says, only if a call had come before, or the
-- system has reported one when it was last asked, and then that is past. Else nothing changes.
abbrev pub Interrupts : Bool → Bool → Bool → Bool → Type 0
Interrupts before reported interrupts after =
    (interrupts ≡ true → (before ≡ false → reported ≡ true) × (after ≡ false))
    × (interrupts ≡ false → after ≡ before)
