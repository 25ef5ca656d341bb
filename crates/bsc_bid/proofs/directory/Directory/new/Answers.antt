-- `Directory::new` returns the numbered addresses, or the first refusal.
use Rattle.std.proofs.Common.{refl}
use Rattle.std.proofs.lemmas.Result.{err_from_is_err_and}
use Rattle.bsc_bid.proofs.Refusing.{none_there, some_there, refused_addresses}
use Rattle.bsc_bid.proofs.directory.Directory.new.Goals as goal

pub returns-clause-accepted : goal.returns-clause-accepted
returns-clause-accepted g c =
    record {
      number = record {
        some = some_there _ _ c.is_empty.ensures c.if-is_empty.false;
        few = c.if-terminals-gt-MAX_TERMINALS.false;
      };
      distinct = c.in_ok-directory.ensures.distinct;
      some = some_there _ _ c.is_empty-2.ensures c.if-is_empty-2.false;
      right = c.in_default.ensures.right refl;
    }

pub returns-then-is_empty-clause-refused : goal.returns-then-is_empty-clause-refused
returns-then-is_empty-clause-refused g c = none_there _ _ c.is_empty.ensures c.if-is_empty.true

pub returns-in_err-directory-clause-refused : goal.returns-in_err-directory-clause-refused
returns-in_err-directory-clause-refused g c =
    let p = err_from_is_err_and c.from_residual.result c.from_residual.ensures.1 in
    rw (p.1, p.2) (refused_addresses c.args.terminals.now c.args.poll_list.now _
    (record {
      some = some_there _ _ c.is_empty.ensures c.if-is_empty.false;
      few = c.if-terminals-gt-MAX_TERMINALS.false;
    }) c.in_err-directory.ensures.refused)

pub returns-then-is_empty-2-clause-refused : goal.returns-then-is_empty-2-clause-refused
returns-then-is_empty-2-clause-refused g c = (
  record {
    some = some_there _ _ c.is_empty.ensures c.if-is_empty.false;
    few = c.if-terminals-gt-MAX_TERMINALS.false;
  },
  c.in_ok-directory.ensures.distinct,
  none_there _ _ c.is_empty-2.ensures c.if-is_empty-2.true,
)

pub returns-in-Some-clause-refused : goal.returns-in-Some-clause-refused
returns-in-Some-clause-refused g c = (
  record {
    some = some_there _ _ c.is_empty.ensures c.if-is_empty.false;
    few = c.if-terminals-gt-MAX_TERMINALS.false;
  },
  c.in_ok-directory.ensures.distinct,
  c.in-Some.ensures.wrong,
)
