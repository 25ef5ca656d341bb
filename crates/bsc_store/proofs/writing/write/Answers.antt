use Rattle.std.proofs.Common.{rules}
use Rattle.bsc_store.proofs.Steps.{ran_inside, keeps_inside}
use Rattle.bsc_store.proofs.writing.write.Goals as goal

pub returns-in-Some-clause-ran : goal.returns-in-Some-clause-ran
returns-in-Some-clause-ran g c clean inside =
    ran_inside g.S.Store c.args.marks c.args.change.now _ _ _ _ c.write_checked.result (search rules) (search rules)
    (c.write_checked.ensures.runs clean inside)

pub returns-in-None-clause-ran : goal.returns-in-None-clause-ran
returns-in-None-clause-ran g c clean inside =
    ran_inside g.S.Store c.args.marks c.args.change.now _ _ _ _ c.execute.result (search rules) (search rules)
    (c.execute.ensures.runs clean inside)

pub returns-in-Known-clause-ran : goal.returns-in-Known-clause-ran
returns-in-Known-clause-ran g c clean inside =
    ran_inside g.S.Store c.args.marks c.args.change.now _ _ _ _ c.execute-in-Known.result (search rules) (search rules)
    (c.execute-in-Known.ensures.runs clean inside)

pub returns-in-Known-clause-kept : goal.returns-in-Known-clause-kept
returns-in-Known-clause-kept g c clean inside =
    keeps_inside _ _ _ _ _ (c.execute-in-Known.ensures.runs clean inside)

pub returns-in-Some-marks-clause-ran : goal.returns-in-Some-marks-clause-ran
returns-in-Some-marks-clause-ran g c clean inside =
    ran_inside g.S.Store c.args.marks c.args.change.now _ _ _ _ c.write_checked-in-Some-marks.result (search rules) (search rules)
    (c.write_checked-in-Some-marks.ensures.runs clean inside)

pub returns-in-None-marks-clause-ran : goal.returns-in-None-marks-clause-ran
returns-in-None-marks-clause-ran g c clean inside =
    ran_inside g.S.Store c.args.marks c.args.change.now _ _ _ _ c.execute-in-None-marks.result (search rules) (search rules)
    (c.execute-in-None-marks.ensures.runs clean inside)

pub returns-in-Printed-clause-ran : goal.returns-in-Printed-clause-ran
returns-in-Printed-clause-ran g c clean inside =
    ran_inside g.S.Store c.args.marks c.args.change.now _ _ _ _ c.execute-in-Printed.result (search rules) (search rules)
    (c.execute-in-Printed.ensures.runs clean inside)

pub returns-in-Printed-clause-kept : goal.returns-in-Printed-clause-kept
returns-in-Printed-clause-kept g c clean inside =
    keeps_inside _ _ _ _ _ (c.execute-in-Printed.ensures.runs clean inside)
