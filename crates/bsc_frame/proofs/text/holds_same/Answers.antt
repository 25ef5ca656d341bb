-- The three comparisons together decide whether two texts are the same.
use Rattle.std.proofs.Common.{◌==◌, ◌∙◌, sym, refl}
use lib.Pointwise.{pointwise}
use denote.Enum.Bare.{sameb}
use Rattle.bsc_frame.specs.contracts.text.End.{the_type}
use Rattle.bsc_frame.proofs.SameTexts.{is_same_mark, tells_text, third_tells}
use Rattle.bsc_frame.proofs.SameTexts.{first_fails, second_fails}
use Rattle.bsc_frame.proofs.text.holds_same.Goals.{then-eq, else-eq}
use Rattle.bsc_frame.proofs.text.holds_same.Goals as goal

pub returns-then-eq-2 : goal.returns-then-eq-2
returns-then-eq-2 c =
    tells_text c.args.a.now c.args.b.now _ _ c.eq-then-eq-2.result c.requires.first
    c.requires.second refl refl
    (elim c.if-eq.branch [
      | then-eq w ↦ third_tells (pointwise is_same_mark c.args.a.now.marks.items c.args.b.now.marks.items)
          (sameb the_type c.args.a.now.end c.args.b.now.end)
          (pointwise ◌==◌ c.args.a.now.chars.items c.args.b.now.chars.items) c.eq-then-eq-2.result
          (rw (← c.marks.ensures, ← c.marks-2.ensures) (sym c.eq.ensures ∙ w.if-eq.true))
          (rw (← w.end.ensures, ← w.end-then-eq.ensures)
          (sym w.eq-then-eq.ensures ∙ sym w.value-is ∙ c.if-eq-2.true))
          (rw (← c.chars.ensures, ← c.chars-then-eq-2.ensures) c.eq-then-eq-2.ensures)
      | else-eq w ↦ absurd (cc)
    ])

pub returns-else-eq-2 : goal.returns-else-eq-2
returns-else-eq-2 c =
    tells_text c.args.a.now c.args.b.now _ _ c.if-eq.value c.requires.first c.requires.second refl
    refl
    (elim c.if-eq.branch [
      | then-eq w ↦ second_fails
          (pointwise is_same_mark c.args.a.now.marks.items c.args.b.now.marks.items)
          (sameb the_type c.args.a.now.end c.args.b.now.end)
          (pointwise ◌==◌ c.args.a.now.chars.items c.args.b.now.chars.items) c.if-eq.value
          (rw (← w.end.ensures, ← w.end-then-eq.ensures) (sym w.eq-then-eq.ensures
          ∙ sym w.value-is ∙ c.if-eq-2.false)) c.if-eq-2.false
      | else-eq w ↦ first_fails
          (pointwise is_same_mark c.args.a.now.marks.items c.args.b.now.marks.items)
          (sameb the_type c.args.a.now.end c.args.b.now.end)
          (pointwise ◌==◌ c.args.a.now.chars.items c.args.b.now.chars.items) c.if-eq.value
          (rw (← c.marks.ensures, ← c.marks-2.ensures) (sym c.eq.ensures ∙ w.if-eq.false))
          c.if-eq-2.false
    ])
