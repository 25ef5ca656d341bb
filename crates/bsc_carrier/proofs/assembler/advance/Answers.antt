-- `advance` takes octets up to the end of a record, and stops at a wrong length.
use Rattle.std.proofs.Common.{subst, Ok, Err}
use Rattle.std.proofs.lemmas.List.{take_rest}
use Rattle.std.proofs.lemmas.Result.{err_from_is_err_and}
use Rattle.bsc_carrier.specs.Assembler.{IsWhole}
use Rattle.bsc_carrier.proofs.Gathering.{TakesTwice, gathers_more, gathers_wrong}
use Rattle.bsc_carrier.proofs.assembler.advance.Goals as goal

pub returns-in_err-is_whole-clause-gathers : goal.returns-in_err-is_whole-clause-gathers
returns-in_err-is_whole-clause-gathers c =
    let piece = c.args.piece.now in
    let took : TakesTwice c.args.records.now.begun piece _ _ c.gather-body.new.records.begun _ _ =
    record {
      head_is = c.gather-head.ensures.count;
      mid_is = c.gather-head.ensures.begun;
      rest_is = take_rest piece c.gather-head.result;
      body_is = c.gather-body.ensures.count;
      new_is = c.gather-body.ensures.begun;
    } in
    let p = err_from_is_err_and c.from_residual.result c.from_residual.ensures.1 in
    rw (p.1, p.2) (gathers_wrong took c.requires _
    (subst (λ l. IsWhole l (Err c.in_err-is_whole.field-0.0)) c.begun.ensures.value
    c.in_err-is_whole.ensures))

pub returns-clause-gathers : goal.returns-clause-gathers
returns-clause-gathers c =
    let piece = c.args.piece.now in
    let took : TakesTwice c.args.records.now.begun piece _ _ c.gather-body.new.records.begun _ _ =
    record {
      head_is = c.gather-head.ensures.count;
      mid_is = c.gather-head.ensures.begun;
      rest_is = take_rest piece c.gather-head.result;
      body_is = c.gather-body.ensures.count;
      new_is = c.gather-body.ensures.begun;
    } in
    gathers_more took c.requires _
    (subst (λ l. IsWhole l (Ok c.in_ok-is_whole.is_whole)) c.begun.ensures.value
    c.in_ok-is_whole.ensures)
