-- A whole stream of socket records, and how an assembler is fed it.
use Rattle.std.specs.Prelude.{◌≡◌, ℕ, true, false, List, [], ◌∷◌, ◌++◌, drop, Ok}
use Rattle.std.specs.List.{AllByRecursion, flat_map}
use Rattle.bsc_carrier.specs.Record.{IsCarried, socket_record}
use Rattle.bsc_carrier.specs.Front.{BeginsRecord}
use Rattle.bsc_carrier.specs.Assembler.{AssemblerValue, Fed}

-- The stream is the records of these octets, one after another, and then a rest that begins with no
-- whole record.
pub record Splits (stream : List ℕ) (records : List (List ℕ)) (rest : List ℕ) : Type 0 where
  pub whole : stream ≡ flat_map socket_record records ++ rest
  pub carried : AllByRecursion IsCarried records
  pub rest_begins_none : ¬ BeginsRecord rest

-- Fed these pieces in turn, the assembler goes from old to new and completes these records. If a
-- feed leaves octets of its piece, they are the next piece.
pub data Assembles : AssemblerValue → List (List ℕ) → List (List ℕ) → AssemblerValue → Type 0 where
  ended : {held : AssemblerValue} → Assembles held [] [] held
  goes_on : {old mid new : AssemblerValue} {piece : List ℕ} {pieces records : List (List ℕ)}
      (taken : ℕ)
      → Fed old piece (Ok (taken, false)) mid → Assembles mid pieces records new
      → Assembles old (piece ∷ pieces) records new
  completes : {old mid new : AssemblerValue} {piece : List ℕ} {pieces records : List (List ℕ)}
      (taken : ℕ)
      → Fed old piece (Ok (taken, true)) mid → Assembles mid (drop taken piece ∷ pieces) records new
      → Assembles old (piece ∷ pieces) (mid.complete ∷ records) new
