-- The times of the pause, the time-out and the gaps.
use Rattle.std.specs.Prelude.{◌≡◌, ⊤, ℕ, List, Option, None, Some, IsSome, nat_le}
use Rattle.std.specs.Prelude.{slice_index_or, slice_set, if◌then◌else◌}
use Rattle.bsc_connections.specs.declared.awaited.Awaited.{Awaited}
use Rattle.bsc_connections.specs.declared.awaited.Awaited.TheVariants.{Client, Gap, TimeOut}
use Rattle.bsc_connections.specs.declared.awaited.Pace.{Pace}
use Rattle.bsc_connections.specs.declared.awaited.Pace.TheVariants.{AtOnce, AfterPause}
use Rattle.bsc_sockets.specs.declared.pausing.Rest.{Rest}
use Rattle.bsc_sockets.specs.declared.pausing.Rest.TheVariants.{Over, Called}
use Rattle.bsc_sockets.specs.declared.time_limit.TimeLimit.{TimeLimit}
use Rattle.bsc_sockets.specs.declared.times.Time.{Time}
use Rattle.std.specs.declared.time.Duration.{Duration}
use Rattle.bsc_sockets.specs.declared.times.Time.TheVariants.{Anew, Since}
use Rattle.bsc_sockets.specs.declared.times.End.{End}
use Rattle.std.specs.Duration.{as_nanos}

-- A time that has begun runs on since the same moment; one that begins with the next wait may
-- begin.
abbrev pub IsKept : Time → Time → Type 0
IsKept (Since limit) new = new ≡ Since limit
IsKept Anew new = ⊤

-- The time has begun, and has this length. One that had begun runs on since the same moment; one
-- that begins with this wait has this length.
abbrev pub HasBegun : Duration → Time → Time → Type 0
HasBegun whole (Since limit) new = new ≡ Since limit
HasBegun whole Anew (Since limit) = limit.time ≡ whole
HasBegun whole Anew Anew = ⊥

-- The time of the pause with which a wait begins so, if it begins with one.
abbrev pub pause_of : Pace → Option Time
pause_of AtOnce = None
pause_of AfterPause = Some Anew

-- The end of a time: of a gap, or of the time-out.
abbrev pub IsEnd : Awaited → Type 0
IsEnd (Gap connection) = ⊤
IsEnd TimeOut = ⊤
IsEnd _ = ⊥

-- The event of the end of the gap at this place, or of the time-out.
abbrev pub event_of : Option ℕ → Awaited
event_of None = TimeOut
event_of (Some place) = Gap place

-- The time of the gap at this place, if one is awaited there.
abbrev pub gap_at : List (Option Time) → ℕ → Option Time
gap_at gaps place = slice_index_or gaps place None

-- If a time is awaited it has begun, and has this length; if none is, none is.
abbrev pub Runs : Duration → Option Time → Option Time → Type 0
Runs whole None new = new ≡ None
Runs whole (Some time) None = ⊥
Runs whole (Some time) (Some new) = HasBegun whole time new

-- The time that begins with a wait that has this limit, if it has one.
abbrev pub since : Option TimeLimit → Option Time
since None = None
since (Some limit) = Some (Since limit)

-- A pause of this length with which a wait begins so has let its time pass, which had this limit;
-- or a program has interrupted it, and then it goes on.
abbrev pub IsRest : Duration → Option Time → Rest → Option Time → Type 0
IsRest pause before (Over limit) after = Runs pause before (since limit) × (after ≡ None)
IsRest pause before (Called limit) after =
    Runs pause before (Some (Since limit)) × (after ≡ Some (Since limit))

-- The pause, of this length, with which a wait begins that ends with this event. It has ended
-- unless a program has interrupted it: then it has begun, and the next wait goes on with it.
abbrev pub Rests : Duration → Option Time → Awaited → Option Time → Type 0
Rests pause before Client after = IsSome after → Runs pause before after
Rests pause before awaited after = after ≡ None

-- This is so at each place.
abbrev pub GapsRun : Duration → List (Option Time) → List (Option Time) → Type 0
GapsRun whole old new = (place : ℕ) → Runs whole (gap_at old place) (gap_at new place)

-- What ends next, with a gap at this place of which this is left: the gap, if no more is left of
-- it.
abbrev pub earlier : End → Duration → ℕ → End
earlier next left place =
    if nat_le (as_nanos left) (as_nanos next.left) then record { left = left; gap = Some place }
    else next

-- The gaps that are awaited after the end of the gap at this place, or of the time-out.
abbrev pub without_ended : Option ℕ → List (Option Time) → List (Option Time)
without_ended None gaps = gaps
without_ended (Some place) gaps = slice_set gaps place None

-- The gap at this place, if one ends, is awaited.
abbrev pub IsAwaited : Option ℕ → List (Option Time) → Type 0
IsAwaited None gaps = ⊤
IsAwaited (Some place) gaps = IsSome (gap_at gaps place)

-- The place of the gap that ends with an event, if one does.
abbrev pub ended_gap : Awaited → Option ℕ
ended_gap (Gap place) = Some place
ended_gap _ = None

-- In a wait that ends with this event each gap that was awaited has begun, and has this length. A
-- gap that has ended was awaited, and is awaited no more.
pub record RunGaps (whole : Duration) (awaited : Awaited) (old new : List (Option Time))
    : Type 0 where
  pub between : List (Option Time)
  pub run : GapsRun whole old between
  pub was_awaited : IsAwaited (ended_gap awaited) old
  pub ended : new ≡ without_ended (ended_gap awaited) between
