-- What is made and freed by a handle. This is the project's own.
use Rattle.std.specs.Prelude.{◌≡◌, ◌⊎◌, ℕ, Option, Some, None, Result, Ok, Err}
use Rattle.bsc_embed.specs.declared.handles.made.Made.{Made}
use Rattle.bsc_embed.specs.declared.handles.made.Made.TheVariants.{Terminal, Control, Line}
use Rattle.bsc_embed.specs.Faults.{fault_number}
use Rattle.bsc_embed.specs.declared.interface.fault.Fault.{Fault}
use Rattle.bsc_embed.specs.declared.interface.fault.Fault.TheVariants.{AlreadyMade, Memory, NotMade}
use Rattle.bsc_embed.specs.declared.interface.fault.Fault.TheVariants.{OtherKind}

-- The handle has what was made; or there is no memory for it, and the handle has nothing.
abbrev pub IsKept : Made → Option Made → ℕ → Type 0
IsKept made new number =
    ((new ≡ Some made) × (number ≡ 0)) ⊎ ((new ≡ None) × (number ≡ fault_number Memory))

-- What was made answers what was asked for, and the handle has it.
abbrev pub IsHeld : {S : Type 0} → (S → Made) → (Result S Fault → Type 0) → Option Made → ℕ
    → Type 0
IsHeld {S = S} made answers new number =
    (s : S) × (new ≡ Some (made s)) × (number ≡ 0) × answers (Ok s)

-- Nothing was made, for a reason, and the handle has nothing.
abbrev pub IsNotHeld : {S : Type 0} → (Result S Fault → Type 0) → Option Made → ℕ → Type 0
IsNotHeld answers new number =
    (f : Fault) × (new ≡ None) × (number ≡ fault_number f) × (answers (Err f) ⊎ (f ≡ Memory))

-- Something is made by a handle that has nothing. If it already has something nothing changes.
abbrev pub IsMadeBy : {S : Type 0} → (S → Made) → (Result S Fault → Type 0)
    → Option Made → Option Made → ℕ → Type 0
IsMadeBy made answers None new number =
    IsHeld made answers new number ⊎ IsNotHeld answers new number
IsMadeBy made answers (Some there) new number =
    (new ≡ Some there) × (number ≡ fault_number AlreadyMade)

-- Nothing was there to be freed.
abbrev pub FreesNothing : Option Made → ℕ → Type 0
FreesNothing new number = (new ≡ None) × (number ≡ fault_number NotMade)

-- What is there is of another kind, and stays.
abbrev pub KeepsOther : Made → Option Made → ℕ → Type 0
KeepsOther made new number = (new ≡ Some made) × (number ≡ fault_number OtherKind)

-- The handle has nothing any more.
abbrev pub IsFreed : Option Made → ℕ → Type 0
IsFreed new number = (new ≡ None) × (number ≡ 0)

-- A terminal is freed.
abbrev pub FreesTerminal : Option Made → Option Made → ℕ → Type 0
FreesTerminal None new number = FreesNothing new number
FreesTerminal (Some (Terminal t)) new number = IsFreed new number
FreesTerminal (Some made) new number = KeepsOther made new number

-- A control station is freed.
abbrev pub FreesControl : Option Made → Option Made → ℕ → Type 0
FreesControl None new number = FreesNothing new number
FreesControl (Some (Control c)) new number = IsFreed new number
FreesControl (Some made) new number = KeepsOther made new number

-- A line is freed.
abbrev pub FreesLine : Option Made → Option Made → ℕ → Type 0
FreesLine None new number = FreesNothing new number
FreesLine (Some (Line l)) new number = IsFreed new number
FreesLine (Some made) new number = KeepsOther made new number
