-- Shows that the error is one for the arguments as they are printed.
use Rattle.std.proofs.Common.{ap, ◌≡◌, ◌∙◌, List, map, rules, string_bytes, subst}
use Rattle.clap.specs.Words.{App, HasKind, Text, app_of, fault_of, is_simple_and_free}
use Rattle.bsc_text.specs.Forms.{escaped}
use Rattle.bsc_words.specs.CommandLine.{bscline_app, faults_at}
use Rattle.bsc_words.proofs.Simple.{is_free}
use Rattle.bsc_words.proofs.words.refusal_in_print.Goals as goal

pub returns : goal.returns
unfolding faults_at
returns c =
    let app_is : app_of c.in_ok-command_line.command_line ≡ bscline_app =
    c.in_ok-command_line.ensures in
    let printed = map string_bytes c.deref.result.now in
    let same : printed ≡ map (λ s. escaped s.now) c.args.words.now = search rules in
    let P : App → Type 0 = λ a. HasKind (fault_of a printed) c.in-Err.error in
    subst (λ (words : List Text). HasKind (fault_of bscline_app words) c.in-Err.error) same
    (subst P app_is (c.in-Err.ensures.kinds (ap is_simple_and_free app_is ∙ is_free)))
