-- Shows that the work and the errors are those of the command line of the program.
use Rattle.std.proofs.Common.{ap, sym, ◌≡◌, ◌⊎◌, ◌∙◌, inl, inr, map, subst}
use Rattle.clap.specs.Words.{App, app_of, fault_of, is_simple, is_simple_and_free, HasKind}
use Rattle.clap.specs.Words.{IsAmong, Kinds, kind_of, subcommand_of}
use Rattle.clap.specs.declared.error.Error.{Error}
use Rattle.clap.specs.declared.error.kind.ErrorKind.{ErrorKind}
use Rattle.clap.specs.declared.error.kind.ErrorKind.TheVariants as kind
use Rattle.bsc_words.specs.CommandLine.{bscline_app, faults_at, asked_of, asked_sub}
use Rattle.bsc_words.proofs.Simple.{are_simple, is_free}
use Rattle.bsc_words.proofs.words.read_words.Goals as goal

pub returns-in_ok-work_of-in-Ok-clause-asked : goal.returns-in_ok-work_of-in-Ok-clause-asked
unfolding asked_of
returns-in_ok-work_of-in-Ok-clause-asked c =
    let app_is : app_of c.in_ok-command_line.command_line ≡ bscline_app =
    c.in_ok-command_line.ensures in
    let words = map (λ s. s.now) c.args.words.now in
    c.in_ok-work_of-in-Ok.ensures ∙ ap asked_sub
    ((c.in-Ok.ensures.matches (ap is_simple app_is ∙ are_simple)).1
    ∙ ap (λ a. subcommand_of a words) app_is)

pub returns-in_ok-work_of-in-Ok-clause-fits : goal.returns-in_ok-work_of-in-Ok-clause-fits
unfolding faults_at
returns-in_ok-work_of-in-Ok-clause-fits c =
    let app_is : app_of c.in_ok-command_line.command_line ≡ bscline_app =
    c.in_ok-command_line.ensures in
    let words = map (λ s. s.now) c.args.words.now in
    ap (λ a. fault_of a words) (sym app_is)
    ∙ c.in-Ok.ensures.kinds (ap is_simple_and_free app_is ∙ is_free)

-- the error that is shown is of a kind of these, if the one that was given is
shown_kind : (kinds : Kinds) (shown error : Error)
    → (kind_of shown ≡ kind_of error) ⊎ (kind_of shown ≡ kind.OutOfMemory)
    → HasKind kinds error → HasKind kinds shown
shown_kind kinds shown error (inl same) has =
    subst (λ (k : ErrorKind). (k ≡ kind.OutOfMemory) ⊎ IsAmong k kinds) (sym same) has
shown_kind kinds shown error (inr memory) has = inl memory

pub returns-in-Err-clause-kinds : goal.returns-in-Err-clause-kinds
unfolding faults_at
returns-in-Err-clause-kinds c =
    let app_is : app_of c.in_ok-command_line.command_line ≡ bscline_app =
    c.in_ok-command_line.ensures in
    let words = map (λ s. s.now) c.args.words.now in
    let P : App → Type 0 = λ a. HasKind (fault_of a words) c.in-Err.error in
    shown_kind (fault_of bscline_app words) c.in_print.result c.in-Err.error c.in_print.ensures
    (subst P app_is (c.in-Err.ensures.kinds (ap is_simple_and_free app_is ∙ is_free)))
