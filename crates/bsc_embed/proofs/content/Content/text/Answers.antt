-- `text` returns the text that is stored, or none at a wrong count, end or unit.
use Rattle.std.proofs.Common.{◌∙◌, sym, ap, inl, inr, arith, rules, take, length-set}
use Rattle.std.specs.Option.{option_map}
use Rattle.bsc_frame.specs.Units.{text_unit}
use Rattle.bsc_embed.proofs.Texts.{text_not_counted, text_not_ended, text_not_unit, units_are}
use Rattle.bsc_embed.proofs.Texts.{units_taken, units_read, text_here}
use Rattle.bsc_embed.proofs.content.Content.text.Goals as goal

pub returns-then-count-eq0 : goal.returns-then-count-eq0
returns-then-count-eq0 c =
    sym (text_not_counted c.args.self.now
    (elim c.then-count-eq0.either [ inl e ↦ inl e | inr h ↦ inr h.1 ]))

pub returns-in_err-end : goal.returns-in_err-end
returns-in_err-end c =
    c.from_residual.ensures
    ∙ sym (text_not_ended c.args.self.now (omega (arith, c.if-count-eq0.false))
    c.if-count-gt-MAX_UNITS.false (sym c.end_of.ensures ∙ c.in_err-end.was))

pub returns-in_err-units : goal.returns-in_err-units
returns-in_err-units c =
    c.from_residual-in_err-units.ensures
    ∙ sym (text_not_unit c.args.self.now c.in_ok-end.end c.loop-place.place _
    (omega (arith, c.if-count-eq0.false)) c.if-count-gt-MAX_UNITS.false
    (sym c.end_of.ensures ∙ c.in_ok-end.was) c.loop-place-test.true (search rules)
    (sym c.unit.ensures ∙ ap (option_map text_unit) c.in_err-units.was))

pub loop-place-preserved : goal.loop-place-preserved
loop-place-preserved c = record {
  long = length-set _ _ _ ∙ c.loop-place.invariant.long;
  units =
      units_taken c.args.self.now.units c.loop-place.units c.loop-place.place _
      c.in_ok-units.field-0 (search rules)
      (omega (
        arith,
        c.loop-place.invariant.long,
        c.if-count-gt-MAX_UNITS.false,
        c.loop-place-test.true,
      )) c.loop-place.invariant.units
      (sym c.unit.ensures ∙ ap (option_map text_unit) c.in_ok-units.was);
}

pub hold-requires-clause-each : goal.hold-requires-clause-each
hold-requires-clause-each c =
    units_are (take c.args.self.now.count c.args.self.now.units) _
    (units_read c.args.self.now.units c.loop-place.units c.loop-place.place c.args.self.now.count
    c.loop-place.auto.place-end c.loop-place-test.false c.loop-place.invariant.units)

pub returns : goal.returns
returns c =
    sym (rw c.hold.ensures
    (text_here c.args.self.now _ (omega (arith, c.if-count-eq0.false)) c.if-count-gt-MAX_UNITS.false
    (sym c.end_of.ensures ∙ c.in_ok-end.was)
    (units_read c.args.self.now.units c.loop-place.units c.loop-place.place c.args.self.now.count
    c.loop-place.auto.place-end c.loop-place-test.false c.loop-place.invariant.units)))
