-- Shows that the two results are the text before the first such octet and the text after it.
use Rattle.std.proofs.Common.{◌≡◌, ◌-◌, ◌+◌, ◌==◌, ◌∷◌, length, take, drop, sym, ◌∙◌, ap, arith}
use Rattle.std.proofs.Common.{length-drop}
use Rattle.std.specs.List.{slice_split}
use Rattle.std.proofs.lemmas.List.{take_all}
use Rattle.bsc_text.proofs.Splitting.{before_first_some, before_first_none, slice_split_finds_some}
use Rattle.bsc_text.proofs.Splitting.{slice_split_finds_none}
use Rattle.bsc_text.proofs.parts.split_at_first.Goals as goal

pub returns-in-Some-clause-before : goal.returns-in-Some-clause-before
returns-in-Some-clause-before c =
    sym (before_first_some (λ octet. octet == c.args.value) c.args.text.now c.in-Some.place
    (sym c.place_of.ensures ∙ c.in-Some.is))

pub returns-in-Some-clause-more : goal.returns-in-Some-clause-more
returns-in-Some-clause-more c =
    let text = c.args.text.now in
    let rest = drop (c.in-Some.place + 1) text in
    let whole : take (length text - (c.in-Some.place + 1)) rest ≡ rest =
    take_all _ rest (omega (arith, length-drop (c.in-Some.place + 1) text)) in
    slice_split_finds_some (λ octet. octet == c.args.value) text c.in-Some.place
    (sym c.place_of.ensures ∙ c.in-Some.is)
    ∙ ap (λ l. take c.in-Some.place text ∷ slice_split (λ octet. octet == c.args.value) l)
    (sym whole)

pub returns-in-None-clause-before : goal.returns-in-None-clause-before
returns-in-None-clause-before c =
    sym (before_first_none (λ octet. octet == c.args.value) c.args.text.now
    (sym c.place_of.ensures ∙ c.in-None.is))

pub returns-in-None-clause-last : goal.returns-in-None-clause-last
returns-in-None-clause-last c =
    λ _. slice_split_finds_none (λ octet. octet == c.args.value) c.args.text.now
    (sym c.place_of.ensures ∙ c.in-None.is)
