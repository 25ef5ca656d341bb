-- The events of the text are those read so far and those of the rest, which becomes shorter.
use Rattle.std.proofs.Common.{◌≡◌, ◌+◌, ◌≤◌, length, map}
use Rattle.bsc_text.specs.InputLines.{lines_of}
use Rattle.bsc_config.specs.Actions.{numbered}
use Rattle.bsc_config.specs.Script.{after_these, events_from, events_of}
use Rattle.bsc_config.proofs.script.script.read_script.Given as goal

abbrev pub invariant-lines : goal.invariant-lines
invariant-lines g l = record {
  events : events_of l.text ≡ after_these (map numbered l.steps.items)
      (events_from (l.before + 1) (lines_of l.left));
  counted : l.before + length l.left ≤ length l.text;
}

abbrev pub decreases-lines : goal.decreases-lines
decreases-lines g l = length l.left
