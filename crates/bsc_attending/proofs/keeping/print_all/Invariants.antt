-- The loop invariant of `print_all`.
use Rattle.bsc_attending.proofs.keeping.print_all.Given as goal

-- What was printed before tells nothing of what is left.
abbrev pub invariant-turns : goal.invariant-turns
invariant-turns g l = Unit {0}
