-- Shows that each iteration of the loop writes the line for one more unit.
use Rattle.std.proofs.Common.{take, ◌++◌, subst, sym}
use Rattle.std.specs.List.{flat_map}
use Rattle.std.proofs.KnownBytes.{Appends-trans}
use Rattle.bsc_frame.specs.Units.{text_unit}
use Rattle.bsc_text.specs.Fronts.{AppendsFront}
use Rattle.bsc_text.specs.Names.{unit_line}
use Rattle.bsc_text.proofs.Fronts.{for_err, front_after, front_within}
use Rattle.bsc_text.proofs.Lists.{flat_map_seam, flat_map_take_more}
use Rattle.bsc_text.proofs.printed.write_text_units.Goals as goal

pub units-preserved : goal.units-preserved
units-preserved g c =
    let more =
    flat_map_take_more unit_line c.args.text.now.units c.units.place (text_unit c.unit.result)
    c.unit.ensures in
    rw more (Appends-trans (g.W.Write.contents c.args.out.now) (g.W.Write.contents c.units.out)
    (g.W.Write.contents c.write_unit.new.out)
    (flat_map unit_line (take c.units.place c.args.text.now.units))
    (unit_line (text_unit c.unit.result)) c.units.invariant c.in_ok-write_unit.ensures.ok)

pub returns-in_err-write_unit-clause-front : goal.returns-in_err-write_unit-clause-front
returns-in_err-write_unit-clause-front g c =
    let before = flat_map unit_line (take c.units.place c.args.text.now.units) in
    let line = unit_line (text_unit c.unit.result) in
    let seam =
    flat_map_seam unit_line c.args.text.now.units c.units.place (text_unit c.unit.result)
    c.unit.ensures in
    for_err c.from_residual.result
    (subst (λ text. AppendsFront (g.W.Write.contents c.args.out.now)
    (g.W.Write.contents c.write_unit.new.out) text) (sym seam.1)
    (front_within _ _ (before ++ line) seam.0
    (front_after _ _ _ before line c.units.invariant c.in_err-write_unit.ensures.front)))
