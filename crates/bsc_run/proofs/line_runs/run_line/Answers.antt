-- Shows that the cable fits the new line, that the run is one of the configuration, and what ended
-- it.
use Rattle.std.proofs.Common.{inr}
use Rattle.bsc_run.proofs.LineRuns.{arrived_on_new_line}
use Rattle.bsc_run.proofs.Playing.{where_ended, where_whole}
use Rattle.bsc_run.proofs.Speaking.{new_line_fits}
use Rattle.bsc_run.proofs.line_runs.run_line.Goals as goal

pub run_on-requires : goal.run_on-requires
run_on-requires g c =
    let new =
    rw (
      c.setup.ensures.value,
      c.terminal_list-terminals.ensures.value,
      c.poll_list-poll_list.ensures.value,
    ) at c.in-Ok.ensures.value in
    new_line_fits c.args.config.now.setup c.args.config.now.terminals c.args.config.now.poll_list
    c.in-Ok.line c.args.cable.now new c.in-Ok.ensures.line c.requires

pub returns-in-Ok-clause-whole : goal.returns-in-Ok-clause-whole
returns-in-Ok-clause-whole g c =
    let new =
    rw (
      c.setup.ensures.value,
      c.terminal_list-terminals.ensures.value,
      c.poll_list-poll_list.ensures.value,
    ) at c.in-Ok.ensures.value in
    let runs = rw c.steps-steps.ensures at c.run_on.ensures.whole in
    where_whole c.run_on.result (λ r. record {
      begun = c.in-Ok.line;
      ended = c.run_on.new.line;
      new_line = new;
      told = g.D.Write.contents c.trace_addresses.new.out;
      addresses =
          rw c.terminal_list-terminals.ensures.value at c.in_ok-trace_addresses.ensures.traced;
      runs = r;
      arrived =
          arrived_on_new_line c.args.config.now.setup c.args.config.now.terminals
          c.args.config.now.poll_list c.args.script.now r.events c.in-Ok.line c.run_on.new.line
          c.run_on.result c.in-Ok.ensures.line new r.line;
    }) runs

pub returns-in-Ok-clause-cause : goal.returns-in-Ok-clause-cause
returns-in-Ok-clause-cause g c =
    let new =
    rw (
      c.setup.ensures.value,
      c.terminal_list-terminals.ensures.value,
      c.poll_list-poll_list.ensures.value,
    ) at c.in-Ok.ensures.value in
    let ended = rw c.steps-steps.ensures at c.run_on.ensures.cause in
    where_ended c.run_on.result (λ error ends. inr record {
      begun = c.in-Ok.line;
      ended = c.run_on.new.line;
      new_line = new;
      told = g.D.Write.contents c.trace_addresses.new.out;
      addresses =
          rw c.terminal_list-terminals.ensures.value at c.in_ok-trace_addresses.ensures.traced;
      ends = ends;
    }) ended
