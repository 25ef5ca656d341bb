-- A buffer and its marks are determined by the units that they hold, so two texts are the same
-- exactly if their marks, characters and ends are.
use Rattle.std.proofs.Common.{◌≡◌, ℕ, ◌+◌, ◌-◌, ◌≤◌, Bool, true, false, ◌&&◌, ◌==◌, refl, sym, ap}
use Rattle.std.proofs.Common.{◌∙◌, subst}
use Rattle.std.proofs.Common.{arith, List, [], ◌∷◌, ◌++◌, length, drop, length-take, length-drop}
use Rattle.std.proofs.Common.{drop-drop}
use Rattle.std.proofs.Common.{take-append-drop, slice_range}
use Rattle.std.proofs.lemmas.List.{drop_all}
use Rattle.std.specs.Bool.{Decides, one_answer, beq}
use Rattle.std.specs.Cmp.{unsigned_Decides, booleans_Decides}
use lib.Pointwise.{pointwise, pointwise_decides, bytes_decides}
use denote.Enum.Bare.{sameb}
use Rattle.bsc_frame.specs.contracts.text.End.{the_type}
use Rattle.bsc_frame.specs.Texts.{TextUnit, TextValue, units_from, AreMarked}
use Rattle.bsc_frame.specs.TextBuffers.{HoldsText, buffer_text}
use Rattle.bsc_frame.specs.Same.{is_same_text}
use Rattle.bsc_frame.specs.TextEquality.{text_decides, both_true}
use Rattle.bsc_frame.specs.declared.text.End.{End}
use Rattle.bsc_frame.specs.declared.text.End.TheVariants.{Etb, Etx}
use Rattle.bsc_frame.specs.declared.text.Mark.{Mark}
use Rattle.bsc_frame.specs.declared.text_buffer.TextBuffer.{TextBuffer}

-- the marks, and the characters from where the first unit begins
record SameFrom (start : ℕ) (ms ns : List Mark) (xs ys : List ℕ) : Type 0 where
  marks : ms ≡ ns
  chars : drop start xs ≡ drop start ys

-- a unit and what stands after it
unit_length : (start end : ℕ) (xs : List ℕ) → start ≤ end → end ≤ length xs
    → length (slice_range xs start end) ≡ end - start
unit_length start end xs h l =
    omega (arith, h, l, length-take (end - start) (drop start xs), length-drop start xs)

-- what is left after a start is the range up to an end, and what is left after that
unit_first : (start end : ℕ) (xs : List ℕ) → start ≤ end
    → drop start xs ≡ slice_range xs start end ++ drop end xs
unit_first start end xs h =
    let to : start + (end - start) ≡ end = omega arith in
    sym (take-append-drop (end - start) (drop start xs))
    ∙ ap (λ (zs : List ℕ). slice_range xs start end ++ zs)
    (drop-drop (end - start) start xs ∙ ap (λ (k : ℕ). drop k xs) to)

-- the first unit, or this one if there is none
abbrev first_or : TextUnit → List TextUnit → TextUnit
first_or d [] = d
first_or d (u ∷ us) = u

-- the units after the first
abbrev later_units : List TextUnit → List TextUnit
later_units [] = []
later_units (u ∷ us) = us

-- marks and characters that give the same units from a start on are the same
same_from : (start : ℕ) (ms ns : List Mark) (xs ys : List ℕ) → AreMarked start ms xs
    → AreMarked start ns ys →
    units_from start ms xs ≡ units_from start ns ys → SameFrom start ms ns xs ys
same_from start [] [] xs ys h k e =
    record {
      marks = refl;
      chars = drop_all start xs (omega arith)
          ∙ sym (drop_all start ys (omega arith));
    }
same_from start [] (n ∷ ns) xs ys h k e = absurd (cc)
same_from start (m ∷ ms) [] xs ys h k e = absurd (cc)
same_from start (m ∷ ms) (n ∷ ns) xs ys h k e =
    let u : TextUnit = record { chars = slice_range xs start m.end; em = m.em } in
    let v : TextUnit = record { chars = slice_range ys start n.end; em = n.em } in
    let one : u ≡ v = ap (first_or u) e in
    let more : units_from m.end ms xs ≡ units_from n.end ns ys = ap later_units e in
    let chars : slice_range xs start m.end ≡ slice_range ys start n.end =
    ap (λ (x : TextUnit). x.chars) one in
    let ends : m.end ≡ n.end =
    omega (
      arith,
      h.0,
      k.0,
      unit_length start m.end xs h.0 h.1,
      unit_length start n.end ys k.0 k.1,
      ap length chars,
    ) in
    let rest : SameFrom m.end ms ns xs ys =
    same_from m.end ms ns xs ys h.2 (subst (λ (z : ℕ). AreMarked z ns ys) (sym ends) k.2)
    (more ∙ ap (λ (z : ℕ). units_from z ns ys) (sym ends)) in
    let em : m.em ≡ n.em = ap (λ (x : TextUnit). x.em) one in
    let mark : m ≡ n = λ i. record { end = ends i; em = em i } in
    record {
      marks = λ i. mark i ∷ rest.marks i;
      chars = unit_first start m.end xs h.0 ∙ (λ i. chars i ++ rest.chars i)
          ∙ ap (λ (z : ℕ). slice_range ys start n.end ++ drop z ys) ends
          ∙ sym (unit_first start n.end ys k.0);
    }

-- the buffers hold the same
pub record IsKeptAlike (b c : TextBuffer) : Type 0 where
  pub marks : b.marks.items ≡ c.marks.items
  pub end : b.end ≡ c.end
  pub chars : b.chars.items ≡ c.chars.items

-- two buffers that hold the same text are kept alike
kept_alike : (b c : TextBuffer) → HoldsText b → HoldsText c → buffer_text b ≡ buffer_text c
    → IsKeptAlike b c
kept_alike b c h k same =
    let from : SameFrom 0 b.marks.items c.marks.items b.chars.items c.chars.items =
    same_from 0 b.marks.items c.marks.items b.chars.items c.chars.items h.marked k.marked
    (ap (λ (t : TextValue). t.units) same) in
    record { end = ap (λ (t : TextValue). t.end) same; marks = from.marks; chars = from.chars }

-- two buffers that are kept alike hold the same text
text_alike : (b c : TextBuffer) → IsKeptAlike b c → buffer_text b ≡ buffer_text c
text_alike b c a = λ i. record { units = units_from 0 (a.marks i) (a.chars i); end = a.end i }

-- the test that the code makes of what is kept
abbrev pub is_same_mark : Mark → Mark → Bool
is_same_mark a b = (a.end == b.end) && beq a.em b.em

-- the test of all that two buffers hold: marks, ends and characters
abbrev pub is_kept_alike : TextBuffer → TextBuffer → Bool
is_kept_alike b c =
    pointwise is_same_mark b.marks.items c.marks.items
    && (sameb the_type b.end c.end && pointwise ◌==◌ b.chars.items c.chars.items)

-- the comparison of marks tells exactly whether they are the same
mark_decides : (a b : Mark) → Decides (is_same_mark a b) (a ≡ b)
mark_decides a b =
    both_true (a.end == b.end) (beq a.em b.em) (unsigned_Decides a.end b.end)
    (booleans_Decides a.em b.em)
    (λ end em i. record { end = end i; em = em i }) (ap (λ (m : Mark). m.end))
    (ap (λ (m : Mark). m.em))

-- the comparison of ends decides whether they are the same
ends_decides : (e f : End) → Decides (sameb the_type e f) (e ≡ f)
ends_decides Etb Etb = (λ t. refl, λ t. refl)
ends_decides Etb Etx = (λ t. absurd (cc), λ t. absurd (cc))
ends_decides Etx Etb = (λ t. absurd (cc), λ t. absurd (cc))
ends_decides Etx Etx = (λ t. refl, λ t. refl)

-- the comparison of all that two buffers hold decides whether it is the same
kept_decides : (b c : TextBuffer) → Decides (is_kept_alike b c) (IsKeptAlike b c)
kept_decides b c =
    both_true {P = b.marks.items ≡ c.marks.items}
    {Q = (b.end ≡ c.end) × (b.chars.items ≡ c.chars.items)}
    (pointwise is_same_mark b.marks.items c.marks.items)
    (sameb the_type b.end c.end && pointwise ◌==◌ b.chars.items c.chars.items)
    (pointwise_decides mark_decides b.marks.items c.marks.items)
    (both_true (sameb the_type b.end c.end) (pointwise ◌==◌ b.chars.items c.chars.items)
    (ends_decides b.end c.end) (bytes_decides b.chars.items c.chars.items)
    (λ a b. (a, b)) (λ a. a.0) (λ a. a.1))
    (λ a b. record { marks = a; end = b.0; chars = b.1 }) (λ a. a.marks) (λ a. (a.end, a.chars))

-- the comparison of what two buffers hold decides whether their texts are the same
pub tells_text : (b c : TextBuffer) (x y : TextValue) (r : Bool) → HoldsText b → HoldsText c
    → buffer_text b ≡ x → buffer_text c ≡ y → r ≡ is_kept_alike b c → r ≡ is_same_text x y
tells_text b c x y r h k is_x is_y tests =
    let d = kept_decides b c in
    tests ∙ one_answer (is_kept_alike b c) (is_same_text x y) (
      λ t. sym is_x ∙ text_alike b c (d.0 t) ∙ is_y,
      λ same. d.1 (kept_alike b c h k (is_x ∙ same ∙ sym is_y)),
    )
    (text_decides x y)

-- three tests in turn
pub third_tells : (p q r s : Bool) → p ≡ true → q ≡ true → s ≡ r → s ≡ (p && (q && r))
third_tells p q r s a b e = rw (a, b) e

-- if the first of three comparisons fails, so do all three together
pub first_fails : (p q r s : Bool) → p ≡ false → s ≡ false → s ≡ (p && (q && r))
first_fails p q r s a e = rw a e

-- if the second of three comparisons fails, so do all three together
pub second_fails : (p q r s : Bool) → q ≡ false → s ≡ false → s ≡ (p && (q && r))
second_fails true q r s b e = rw b e
second_fails false q r s b e = e
