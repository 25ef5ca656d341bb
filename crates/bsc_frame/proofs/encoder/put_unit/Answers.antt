-- `put_unit` writes the octets of the codes of the unit and their check.
use Rattle.std.proofs.Common.{◌≡◌, ◌∙◌, ℕ, List, ◌++◌, [], ◌∷◌, refl, take, map, cond}
use Rattle.bsc_octet.specs.Octet.{odd_octet}
use Rattle.bsc_frame.specs.Units.{text_unit}
use Rattle.bsc_octet.specs.declared.controls.TheConstants.{EM_CODE}
use Rattle.bsc_frame.proofs.WireSteps.{chars_small, unit_wire_is}
use Rattle.bsc_frame.proofs.encoder.put_unit.Goals as goal

pub put_codes-requires-clause-codes : goal.put_codes-requires-clause-codes
put_codes-requires-clause-codes c = chars_small (text_unit c.args.unit) c.requires.unit

pub returns-clause-octets : goal.returns-clause-octets
returns-clause-octets c =
    let line : List ℕ = take c.put-count.result c.put-count.new.octets in
    let codes : line ≡ (map odd_octet c.args.unit.chars.now ++ cond c.args.unit.em (EM_CODE ∷ []) [])
    ++ odd_octet c.args.ending ∷ [] =
    c.put-count.ensures.octets ∙ rw (
      c.put_em-count.ensures.octets,
      c.put_codes.ensures,
      c.carried.ensures,
    ) refl in
    c.put_check.ensures.octets ∙ unit_wire_is (text_unit c.args.unit) c.args.ending line c.requires.unit c.requires.ending
    codes
