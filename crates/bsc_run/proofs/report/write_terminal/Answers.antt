-- Shows that the channel from the terminal is written, and then each channel to it.
use Rattle.std.proofs.Common.{◌≡◌, arith}
use Rattle.std.proofs.KnownBytes.{Appends-nil, Appends-trans}
use Rattle.bsc_text.proofs.Fronts.{extends_trans}
use Rattle.bsc_bid.specs.declared.way.Way.TheVariants.{FromTerminal, ToTerminal}
use Rattle.bsc_line_model.specs.Offers.{select_count}
use Rattle.bsc_text.specs.Channels.{each_below}
use Rattle.bsc_text.proofs.Appending.{each_below_more}
use Rattle.bsc_run.specs.Printed.{channel_lines}
use Rattle.bsc_run.proofs.report.write_terminal.Goals as goal

pub selects-init : goal.selects-init
selects-init g c = record { written = Appends-nil _; stays = c.write_channel.ensures.stays }

pub selects-preserved : goal.selects-preserved
selects-preserved g c = record {
  written =
      each_below_more (g.W.Write.contents c.write_channel.new.out)
      (g.W.Write.contents c.selects.out) (g.W.Write.contents c.write_channel-in-selects.new.out)
      (λ s. channel_lines c.args.line.now c.args.terminal (ToTerminal s)) c.selects.select
      c.selects.invariant.written c.in_ok-write_channel-2.ensures.ok;
  stays =
      extends_trans _ _ _ c.selects.invariant.stays c.write_channel-in-selects.ensures.stays;
}

pub returns-in_err-write_channel-2-clause-stays : goal.returns-in_err-write_channel-2-clause-stays
returns-in_err-write_channel-2-clause-stays g c =
    extends_trans _ _ _ c.selects.invariant.stays c.write_channel-in-selects.ensures.stays

pub returns-clause-ok : goal.returns-clause-ok
returns-clause-ok g c =
    let l = c.args.line.now in
    let t = c.args.terminal in
    let all : c.selects.select ≡ select_count l t =
    omega (arith, c.addresses-select-end.ensures.value) in
    let selects = rw all at c.selects.invariant.written in
    Appends-trans (g.W.Write.contents c.args.out.now) (g.W.Write.contents c.write_channel.new.out)
    (g.W.Write.contents c.selects.out) (channel_lines l t FromTerminal)
    (each_below (λ s. channel_lines l t (ToTerminal s)) (select_count l t))
    c.in_ok-write_channel.ensures.ok selects
