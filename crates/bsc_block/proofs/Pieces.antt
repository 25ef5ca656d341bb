-- Lists that are divided by the ends of their parts.
use Rattle.std.proofs.Common.{◌≡◌, ℕ, zero, suc, ◌+◌, ◌-◌, ◌<◌, ◌≤◌, arith, refl, ap}
use Rattle.std.proofs.Common.{List, [], ◌∷◌, ◌++◌, length, drop, slice_get, get_or, Some}
use Rattle.std.proofs.lemmas.List.{drop-append-le, take-append-le, length-drop, length-append}
use Rattle.std.proofs.lemmas.List.{take_all}
use Rattle.std.proofs.Math.Seq.{drop-append_seam}
use Rattle.bsc_block.specs.Records.{IsRecord}
use Rattle.bsc_block.specs.Pieces.{piece, pieces, start_of, Ascend, AreRecords}
use Rattle.bsc_frame.proofs.Elements.{all_append, all_slice_get}
use Rattle.std.proofs.lemmas.Option.{slice_get-get_or}

pub length_pieces : (from : ℕ) (es cs : List ℕ) → length (pieces from es cs) ≡ length es
length_pieces from [] cs = refl
length_pieces from (e ∷ es) cs = ap (λ n. suc n) (length_pieces e es cs)

-- Ascending ends do not fall below the place where they start.
pub ascend_le : (from : ℕ) (es : List ℕ) (to : ℕ) → Ascend from es to → from ≤ to
ascend_le from [] to a = omega (arith, a)
ascend_le from (e ∷ es) to a = omega (arith, a.0, ascend_le e es to a.1)

pub ascend_push : (from : ℕ) (es : List ℕ) (n m : ℕ) → Ascend from es n → n ≤ m
    → Ascend from (es ++ m ∷ []) m
ascend_push from [] n m a l = (omega (arith, a), refl)
ascend_push from (e ∷ es) n m a l = (a.0, ascend_push e es n m a.1 l)

-- A part of a list is a part of each longer one.
piece_front : (from to : ℕ) (cs new : List ℕ) → from ≤ to → to ≤ length cs
    → piece from to (cs ++ new) ≡ piece from to cs
piece_front from to cs new l k =
    rw (
      drop-append-le from cs new (omega arith),
      take-append-le (to - from) (drop from cs) new (omega (arith, length-drop from cs)),
    ) refl

-- The part after a list is what was appended to it.
piece_end : (cs new : List ℕ) → piece (length cs) (length cs + length new) (cs ++ new) ≡ new
piece_end cs new =
    rw (drop-append_seam cs new) (take_all (length cs + length new - length cs) new (omega arith))

pub pieces_push : (from : ℕ) (es cs new : List ℕ) → Ascend from es (length cs)
    → pieces from (es ++ (length cs + length new) ∷ []) (cs ++ new) ≡ pieces from es cs ++ new ∷ []
pieces_push from [] cs new a = rw a (ap (λ r. r ∷ []) (piece_end cs new))
pieces_push from (e ∷ es) cs new a =
    rw (piece_front from e cs new a.0 (ascend_le e es (length cs) a.1), pieces_push e es cs new a.1)
    refl

-- The part at a place, and where it is.
pub record IsPiece (from : ℕ) (es cs : List ℕ) (i e : ℕ) : Type 0 where
  pub low : start_of from es i ≤ e
  pub high : e ≤ length cs
  pub is : slice_get (pieces from es cs) i ≡ Some (piece (start_of from es i) e cs)

pub piece_at : (from : ℕ) (es cs : List ℕ) (i e : ℕ) → Ascend from es (length cs)
    → slice_get es i ≡ Some e → IsPiece from es cs i e
piece_at from [] cs i e a g = absurd (cc)
piece_at from (x ∷ es) cs zero e a g =
    let same : x ≡ e = cc in
    record {
      low = omega (arith, a.0, same);
      high = omega (arith, same, ascend_le x es (length cs) a.1);
      is = rw same refl;
    }
piece_at from (x ∷ es) cs (suc i) e a g =
    let rest : IsPiece x es cs i e = piece_at x es cs i e a.1 g in
    record { low = rest.low; high = rest.high; is = rest.is }

-- A part starts where the one before ends.
pub start_after : (from : ℕ) (es : List ℕ) (i d : ℕ) → i < length es
    → start_of from es (suc i) ≡ get_or es i d
start_after from [] i d l = absurd (omega arith)
start_after from (x ∷ es) zero d l = refl
start_after from (x ∷ es) (suc i) d l = start_after x es i d (omega arith)

-- The records after one more was appended.
pub are_records_push : (es cs new : List ℕ) → AreRecords es cs → IsRecord new
    → AreRecords (es ++ (length cs + length new) ∷ []) (cs ++ new)
are_records_push es cs new h r =
    record {
      cut =
          rw (length-append cs new)
          (ascend_push 0 es (length cs) (length cs + length new) h.cut (omega arith));
      each = rw (pieces_push 0 es cs new h.cut) (all_append IsRecord _ _ h.each (r, tt));
    }

-- The part of a number, with its bounds, is a record.
pub record IsPart (es cs : List ℕ) (i from to : ℕ) : Type 0 where
  pub low : from ≤ to
  pub high : to ≤ length cs
  pub is : slice_get (pieces 0 es cs) i ≡ Some (piece from to cs)
  pub of_record : IsRecord (piece from to cs)

pub part_at : (es cs : List ℕ) (i from : ℕ) → AreRecords es cs → i < length es
    → from ≡ start_of 0 es i → IsPart es cs i from (get_or es i 0)
part_at es cs i from h l e =
    let at : IsPiece 0 es cs i (get_or es i 0) =
    piece_at 0 es cs i (get_or es i 0) h.cut (slice_get-get_or es i 0 l) in
    let is : slice_get (pieces 0 es cs) i ≡ Some (piece from (get_or es i 0) cs) = rw e at.is in
    record {
      low = omega (arith, e, at.low);
      high = at.high;
      is = is;
      of_record = all_slice_get IsRecord (pieces 0 es cs) i _ h.each is;
    }
