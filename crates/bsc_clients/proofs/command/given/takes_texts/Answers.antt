-- Shows that a command with more than three words is not one without a text.
use Rattle.std.proofs.Common.{◌∷◌, ap, sym, ◌∙◌}
use Rattle.bsc_clients.specs.Commands.{is_unfinished}
use Rattle.bsc_clients.proofs.Unfinished.{unfinished_more}
use Rattle.bsc_clients.proofs.command.given.takes_texts.Goals as goal

pub returns-in-Some-rest-2 : goal.returns-in-Some-rest-2
returns-in-Some-rest-2 c =
    let word = c.split_word.result.0.now in
    let way = c.split_word-2.result.0.now in
    let place = c.split_word-3.result.0.now in
    let first = rw c.in-Some.is at c.split_word.ensures.more in
    let second = rw c.in-Some-rest.is at c.split_word-2.ensures.more in
    let third = rw c.in-Some-rest-2.is at c.split_word-3.ensures.more in
    sym (ap is_unfinished (first ∙ ap (λ l. word ∷ l) second ∙ ap (λ l. word ∷ way ∷ l) third)
    ∙ unfinished_more word way place c.in-Some-rest-2.field-0.now)
