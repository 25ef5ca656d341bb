-- `put_text` stores the text and keeps the rest.
use Rattle.std.proofs.Common.{◌≡◌, ◌∙◌, ap, rules, arith, refl, Some}
use Rattle.bsc_frame.specs.Units.{text_unit}
use Rattle.bsc_embed.proofs.Texts.{units_put, text_here, units_all}
use Rattle.bsc_embed.proofs.KeptContents.{keep_same, keep_put, rest_set}
use Rattle.bsc_embed.proofs.content.Content.put_text.Goals as goal

pub loop-place-init : goal.loop-place-init
loop-place-init c =
    record {
      units = refl;
      rest = refl;
      chars = keep_same c.args.self.now.units;
      address = refl;
      address_len = refl;
    }

pub loop-place-preserved : goal.loop-place-preserved
loop-place-preserved c = record {
  units =
      units_put c.loop-place.self.units c.args.text.now.units c.loop-place.place _
      (text_unit c.unit.result) (search rules) c.loop-place.invariant.units c.put.ensures.unit
      c.unit.ensures;
  rest =
      rest_set c.loop-place.self.units c.args.self.now.units c.loop-place.place _
      c.loop-place.invariant.rest;
  chars =
      keep_put c.args.self.now.units c.loop-place.self.units c.loop-place.place c.put.new.self _
      (search rules) c.loop-place.invariant.chars
      c.loop-place.invariant.rest c.put.ensures.kept;
  address = c.loop-place.invariant.address;
  address_len = c.loop-place.invariant.address_len;
}

pub returns-clause-text : goal.returns-clause-text
returns-clause-text c =
    text_here _ c.args.text.now (omega (arith, c.count.ensures.count, c.count.ensures.text.some))
    (omega (arith, c.count.ensures.count, c.count.ensures.text.most))
    (c.end_code-self.ensures ∙ ap Some c.end.ensures)
    (units_all c.loop-place.self.units c.args.text.now.units c.loop-place.place c.count.result
    (omega arith) c.count.ensures.count c.loop-place.invariant.units)

pub returns-clause-kept : goal.returns-clause-kept
returns-clause-kept c =
    let all : c.loop-place.place ≡ c.count.result = omega arith in
    record {
      address = c.loop-place.invariant.address;
      address_len = c.loop-place.invariant.address_len;
      units = rw (← all) c.loop-place.invariant.rest;
      chars = c.loop-place.invariant.chars;
    }
