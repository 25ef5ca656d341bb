-- The commands of a program.
use Rattle.std.proofs.Common.{◌≡◌, ◌∙◌, ap, List, Result, Ok, Err, IfOk}
use Rattle.clap.specs.Words.{App, Shape}
use Rattle.bsc_words.specs.Options.{with_shapes}

-- the commands of a program that is known
pub of_program : {C E : Type 0} (f : C → App) (built : Result C E) (a b : App) (shapes : List Shape)
    → a ≡ b → IfOk built (λ c. f c ≡ with_shapes a shapes)
    → IfOk built (λ c. f c ≡ with_shapes b shapes)
of_program f (Ok c) a b shapes e h = h ∙ ap (λ p. with_shapes p shapes) e
of_program f (Err error) a b shapes e h = tt
