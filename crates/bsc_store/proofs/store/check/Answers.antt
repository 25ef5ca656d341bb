use Rattle.std.proofs.Common.{rules, arith}
use Rattle.sqlite.specs.State.{HasCleanDisk}
use Rattle.sqlite.specs.Held.{state}
use Rattle.bsc_store.proofs.store.check.Goals as goal

pub returns-clause-is : goal.returns-clause-is
returns-clause-is g c last =
    let fourth : HasCleanDisk (state g.S.Store c.number-2.new.conn) = omega (arith, c.marks.ensures.read.crash.clean) in
    let third : HasCleanDisk (state g.S.Store c.number.new.conn) = omega (arith, c.number-2.ensures.read.crash.clean) in
    let second : HasCleanDisk (state g.S.Store c.is_text.new.conn) = omega (arith, c.number.ensures.read.crash.clean) in
    let first : HasCleanDisk (state g.S.Store c.version_in.new.conn) = omega (arith, c.is_text.ensures.read.crash.clean) in
    record {
      number = c.in_ok-version.version;
      second = c.version_in.new.conn;
      third = c.is_text.new.conn;
      fourth = c.number.new.conn;
      fifth = c.number-2.new.conn;
      version = c.in_ok-version.ensures.is first;
      line = c.in_ok-is_text.ensures.text second (search rules);
      known = rw c.if-branch-ne0.false at (c.in_ok-number.ensures.number third);
      printed = rw c.if-branch-ne0-2.false at (c.in_ok-number-2.ensures.number fourth);
      marks = c.in_ok-marks.ensures.are last;
    }
