-- Calls by a handle: of what has to be there, and what is answered if it is not. A call that does
-- not find it changes nothing.
use Rattle.std.specs.Prelude.{◌≡◌, ℕ, Option, Some, None, Result}
use Rattle.bsc_tributary.specs.Tributary.{TributaryValue}
use Rattle.bsc_control.specs.Control.{ControlValue}
use Rattle.bsc_line_model.specs.Line.{LineValue}
use Rattle.bsc_embed.specs.declared.handles.made.Made.{Made}
use Rattle.bsc_embed.specs.declared.handles.made.Made.TheVariants.{Terminal, Control, Line}
use Rattle.bsc_embed.specs.Faults.{fault_number, number_of}
use Rattle.bsc_embed.specs.declared.interface.fault.Fault.{Fault}
use Rattle.bsc_embed.specs.declared.interface.fault.Fault.TheVariants.{NotMade, OtherKind}

-- What a call does: to what it is about, before and after, with its answer.
abbrev pub Doing : Type 0 → Type 1
Doing S = S → S → Result (Unit {0}) Fault → Type 0

-- Nothing is done, for this reason. What the caller lent is as it was.
abbrev pub IsRefused : Fault → Type 0 → Option Made → Option Made → ℕ → Type 0
IsRefused fault same old new number = (number ≡ fault_number fault) × (new ≡ old) × same

-- This is done to what was found, which the handle then has, and its answer is told.
abbrev pub IsDone : {S : Type 0} → (S → Made) → Doing S → S → Option Made → ℕ → Type 0
IsDone {S = S} made does old new number =
    (after : S) × (answer : Result (Unit {0}) Fault) × (new ≡ Some (made after))
    × (number ≡ number_of answer) × does old after answer

-- A call of a terminal.
abbrev pub AtTerminal : Doing TributaryValue → Type 0 → Option Made → Option Made → ℕ → Type 0
AtTerminal does same None new number = IsRefused NotMade same None new number
AtTerminal does same (Some (Terminal t)) new number = IsDone Terminal does t new number
AtTerminal does same (Some (Control c)) new number =
    IsRefused OtherKind same (Some (Control c)) new number
AtTerminal does same (Some (Line l)) new number =
    IsRefused OtherKind same (Some (Line l)) new number

-- A call of a control station.
abbrev pub AtControl : Doing ControlValue → Type 0 → Option Made → Option Made → ℕ → Type 0
AtControl does same None new number = IsRefused NotMade same None new number
AtControl does same (Some (Terminal t)) new number =
    IsRefused OtherKind same (Some (Terminal t)) new number
AtControl does same (Some (Control c)) new number = IsDone Control does c new number
AtControl does same (Some (Line l)) new number =
    IsRefused OtherKind same (Some (Line l)) new number

-- A call of a line.
abbrev pub AtLine : Doing LineValue → Type 0 → Option Made → Option Made → ℕ → Type 0
AtLine does same None new number = IsRefused NotMade same None new number
AtLine does same (Some (Terminal t)) new number =
    IsRefused OtherKind same (Some (Terminal t)) new number
AtLine does same (Some (Control c)) new number =
    IsRefused OtherKind same (Some (Control c)) new number
AtLine does same (Some (Line l)) new number = IsDone Line does l new number

-- A call that only reads, by what it tells of what it is about.
abbrev pub Reading : {S : Type 0} → (S → Result (Unit {0}) Fault → Type 0) → Doing S
Reading tells old new answer = (new ≡ old) × tells old answer
