-- Shows what is written of the output after a failure.
use Rattle.std.proofs.Common.{ℕ, List, Option}
use Rattle.std.specs.List.{flat_map}
use Rattle.bsc_frame.specs.declared.message.Heard.{Heard}
use Rattle.bsc_text.specs.Fronts.{AppendsFront}
use Rattle.bsc_text.specs.Names.{name_line, shown, unit_line, units_of}
use Rattle.bsc_text.specs.declared.printed.Detail.{Detail}
use Rattle.bsc_text.specs.declared.printed.Detail.TheVariants.{Name, Units}
use Rattle.bsc_text.proofs.Fronts.{for_err, front_after_on_err, front_within}
use Rattle.bsc_text.proofs.printed.write_shown.Goals as goal

-- the name comes first
front_of_name : (detail : Detail) (heard : Heard) (a b : Option (List ℕ))
    → AppendsFront a b (name_line heard) → AppendsFront a b (shown detail heard)
front_of_name Name heard a b p = p
front_of_name Units heard a b p =
    front_within a b (name_line heard) (flat_map unit_line (units_of heard)) p

pub returns-in_err-write_name_line-clause-front : goal.returns-in_err-write_name_line-clause-front
returns-in_err-write_name_line-clause-front g c =
    for_err c.from_residual.result (front_of_name c.args.detail c.args.heard.now _ _
    c.in_err-write_name_line.ensures.front)

pub returns-in-Units-clause-front : goal.returns-in-Units-clause-front
returns-in-Units-clause-front g c =
    rw c.in-Units.is
    (front_after_on_err _ _ _ (name_line c.args.heard.now)
    (flat_map unit_line (units_of c.args.heard.now)) c.write_units.result
    c.in_ok-write_name_line.ensures.ok c.write_units.ensures.front)
