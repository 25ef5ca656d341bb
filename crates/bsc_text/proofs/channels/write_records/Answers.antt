-- One more line is written, or a front of it.
use Rattle.std.proofs.Common.{◌++◌, take, subst, sym}
use Rattle.std.specs.List.{flat_map}
use Rattle.std.proofs.KnownBytes.{Appends-trans}
use Rattle.bsc_text.specs.Fronts.{AppendsFront}
use Rattle.bsc_text.proofs.Fronts.{for_err, front_after, front_within}
use Rattle.bsc_text.proofs.Lists.{flat_map_seam, flat_map_take_more}
use Rattle.bsc_text.specs.Channels.{record_line}
use Rattle.bsc_text.proofs.channels.write_records.Goals as goal

pub records-preserved : goal.records-preserved
records-preserved g c =
    rw (flat_map_take_more (record_line c.args.form) c.args.records.now.items c.records.place
    c.chars.result.now c.chars.ensures.chars)
    (Appends-trans _ _ _ _ _ c.records.invariant c.in_ok-write_record.ensures.ok)

pub returns-in_err-write_record-clause-front : goal.returns-in_err-write_record-clause-front
returns-in_err-write_record-clause-front g c =
    let text = record_line c.args.form in
    let before = flat_map text (take c.records.place c.args.records.now.items) in
    let line = text c.chars.result.now in
    let seam =
    flat_map_seam text c.args.records.now.items c.records.place c.chars.result.now
    c.chars.ensures.chars in
    for_err c.from_residual.result
    (subst (λ l. AppendsFront (g.W.Write.contents c.args.out.now)
    (g.W.Write.contents c.write_record.new.out) l) (sym seam.1)
    (front_within _ _ (before ++ line) seam.0
    (front_after _ _ _ before line c.records.invariant c.in_err-write_record.ensures.front)))
