-- Shows that the loop reads the terminals, and that the first fault is reported.
use Rattle.std.proofs.Common.{◌++◌, ◌∙◌, ap, sym, drop, ◌+◌, Ok, subst}
use Rattle.std.proofs.lemmas.Result.{err_from_is_err_and}
use Rattle.toml.specs.View.{items_view}
use Rattle.bsc_config.specs.Faults.{◌>>=◌, Reports}
use Rattle.bsc_config.specs.Terminals.{terminals_of}
use Rattle.bsc_config.proofs.EachTerminal.{one_more_terminal, terminal_reported}
use Rattle.bsc_config.proofs.terminals.each_terminal.Goals as goal

pub loop-number-preserved : goal.loop-number-preserved
loop-number-preserved c =
    let n = c.loop-number.number in
    let rest =
    terminals_of c.args.version (n + 1) (items_view (drop (n + 1) c.args.values.now)) in
    c.loop-number.invariant
    ∙ one_more_terminal c.args.version c.args.values.now n c.index-values-number.result
    c.loop-number.terminals.items c.in_ok-terminal.terminal c.loop-number-test.true
    c.index-values-number.is c.in_ok-terminal.ensures
    ∙ ap (λ done. rest >>= λ ts. Ok (done ++ ts)) (sym c.in_ok-push.ensures.items)

pub returns-in_err-terminal : goal.returns-in_err-terminal
returns-in_err-terminal c =
    let p = err_from_is_err_and c.from_residual.result c.from_residual.ensures.1 in
    rw (p.1, p.2) (subst (Reports c.in_err-terminal.field-0.0) (sym c.loop-number.invariant)
    (terminal_reported c.args.version c.args.values.now c.loop-number.number c.index-values-number.result
    c.loop-number.terminals.items c.in_err-terminal.field-0.0 c.loop-number-test.true
    c.index-values-number.is c.in_err-terminal.ensures))
