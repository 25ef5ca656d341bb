-- Shows that the error is that of the text that was read.
use Rattle.std.proofs.Common.{rules, ◌≡◌, subst, sym, IfErr, Err}
use Rattle.bsc_config.specs.Answers.{IsRefusedFor}
use Rattle.bsc_text.specs.InputTexts.{IsTextAt}
use Rattle.bsc_attending.specs.Errors.{config_error}
use Rattle.bsc_attending.specs.Preparing.{HasNoConfig}
use Rattle.bsc_attending.proofs.Prepared.{no_config}
use Rattle.bsc_attending.proofs.preparing.config_at.Goals as goal

pub returns-in_err-read_config-clause-refused : goal.returns-in_err-read_config-clause-refused
returns-in_err-read_config-clause-refused g c =
    let path = c.args.path.now in
    let input = g.R.Read.remaining c.args.input.now in
    let text = c.deref.result.now in
    let error = c.in_err-read_config.field-0.0 in
    let is_error : c.from_residual-in_err-read_config.result ≡ Err (config_error error) =
    search rules in
    let is_text : IsTextAt path input text = search rules in
    let refused : IsRefusedFor text error = search rules in
    subst (λ r. IfErr r (HasNoConfig path input)) (sym is_error)
    (no_config path input text is_text error refused)
