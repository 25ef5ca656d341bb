-- Shows that the four parts of a channel's lines are written one after another.
use Rattle.std.specs.List.{flat_map}
use Rattle.bsc_bid.specs.Sender.{is_in_doubt}
use Rattle.bsc_line_model.specs.Line.{channel_of, phase_of}
use Rattle.bsc_line_model.specs.Offers.{select_count}
use Rattle.bsc_text.specs.declared.form.Form.TheVariants.{Hexadecimal}
use Rattle.bsc_text.specs.Channels.{channel_name, doubt_shown, record_line}
use Rattle.bsc_run.specs.Printed.{counts_shown}
use Rattle.bsc_run.proofs.Appending.{extends_more, four_on_ok}
use Rattle.bsc_text.proofs.Fronts.{extends_by, extends_trans}
use Rattle.bsc_run.proofs.report.write_channel.Goals as goal

pub returns-clause-ok : goal.returns-clause-ok
returns-clause-ok g c =
    let l = c.args.line.now in
    let t = c.args.terminal in
    let way = c.args.way in
    let name = rw c.addresses.ensures.value at c.in_ok-write_channel_name.ensures.ok in
    let doubt = rw (c.doubt_text.ensures, c.in_doubt.ensures.value) at c.in_ok-put.ensures.ok in
    let records = rw c.spooled-records.ensures.value at c.write_records.ensures.ok in
    four_on_ok (g.W.Write.contents c.args.out.now) (g.W.Write.contents c.write_channel_name.new.out)
    (g.W.Write.contents c.write_counts.new.out) (g.W.Write.contents c.put.new.out)
    (g.W.Write.contents c.write_records.new.out) (channel_name (select_count l t) t way)
    (counts_shown (channel_of l t way)) (doubt_shown (is_in_doubt (phase_of l t way)))
    (flat_map (record_line Hexadecimal) (channel_of l t way).spooled) c.write_records.result name
    c.in_ok-write_counts.ensures.ok doubt records

pub returns-in_err-write_channel_name-clause-stays : goal.returns-in_err-write_channel_name-clause-stays
returns-in_err-write_channel_name-clause-stays g c =
    extends_by _ _ _ c.write_channel_name.result c.write_channel_name.ensures.ok
    c.write_channel_name.ensures.front

pub returns-in_err-write_counts-clause-stays : goal.returns-in_err-write_counts-clause-stays
returns-in_err-write_counts-clause-stays g c =
    extends_trans _ _ _
    (extends_by _ _ _ c.write_channel_name.result c.write_channel_name.ensures.ok
    c.write_channel_name.ensures.front) c.write_counts.ensures.stays

pub returns-in_err-put-clause-stays : goal.returns-in_err-put-clause-stays
returns-in_err-put-clause-stays g c =
    extends_more _ _ _ _ c.put.result
    (extends_trans _ _ _
    (extends_by _ _ _ c.write_channel_name.result c.write_channel_name.ensures.ok
    c.write_channel_name.ensures.front) c.write_counts.ensures.stays) c.put.ensures.ok
    c.put.ensures.front

pub returns-clause-stays : goal.returns-clause-stays
returns-clause-stays g c =
    extends_more _ _ _ _ c.write_records.result
    (extends_more _ _ _ _ c.put.result
    (extends_trans _ _ _
    (extends_by _ _ _ c.write_channel_name.result c.write_channel_name.ensures.ok
    c.write_channel_name.ensures.front) c.write_counts.ensures.stays) c.put.ensures.ok
    c.put.ensures.front) c.write_records.ensures.ok c.write_records.ensures.front
