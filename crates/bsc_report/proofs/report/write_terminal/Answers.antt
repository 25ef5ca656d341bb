-- Shows that the channel from the terminal is written, and then each channel to it.
use Rattle.std.proofs.Common.{◌≡◌, arith}
use Rattle.std.proofs.KnownBytes.{Appends-trans}
use Rattle.bsc_bid.specs.declared.way.Way.TheVariants.{FromTerminal, ToTerminal}
use Rattle.bsc_text.specs.Channels.{each_below}
use Rattle.bsc_report.specs.Printed.{channel_lines}
use Rattle.bsc_text.proofs.Appending.{each_below_more}
use Rattle.bsc_report.proofs.report.write_terminal.Goals as goal

pub selects-preserved : goal.selects-preserved
selects-preserved g c =
    let s = c.args.station.now in
    let t = c.args.terminal in
    each_below_more (g.W.Write.contents c.write_channel.new.out) (g.W.Write.contents c.selects.out)
    (g.W.Write.contents c.write_channel-in-selects.new.out)
    (λ n. channel_lines c.args.repeated (g.P.Party.selects s t) (g.P.Party.numbers s t) (g.P.Party.ends s t)
    (ToTerminal n)) c.selects.select c.selects.invariant c.in_ok-write_channel-2.ensures

pub returns : goal.returns
returns g c =
    let s = c.args.station.now in
    let t = c.args.terminal in
    let line = channel_lines c.args.repeated (g.P.Party.selects s t) (g.P.Party.numbers s t) (g.P.Party.ends s t) in
    let all : c.selects.select ≡ g.P.Party.selects s t =
    omega (arith, c.addresses-select-end.ensures) in
    let selects = rw all at c.selects.invariant in
    Appends-trans (g.W.Write.contents c.args.out.now) (g.W.Write.contents c.write_channel.new.out)
    (g.W.Write.contents c.selects.out)
    (line FromTerminal) (each_below (λ n. line (ToTerminal n)) (g.P.Party.selects s t))
    c.in_ok-write_channel.ensures selects
