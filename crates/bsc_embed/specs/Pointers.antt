-- What the pointer of a handle owns.
use Rattle.std.specs.Prelude.{Option, Some, None}
use base.Fml.{Fml, ftrue}
use denote.RattleType.{RattleType}
use denote.RawPtr.{Ptr}
use Rattle.libc.specs.Heap.{chunk}
use Rattle.std_alloc.specs.Box.Ownership.{box_owns}

-- What was made, at this place on the heap of the program, and the right to free it; or nothing.
abbrev pub owns_made : (R : RattleType) → Ptr → Option R.Denot → Fml
owns_made R p (Some made) = box_owns chunk R p made
owns_made R p None = ftrue
