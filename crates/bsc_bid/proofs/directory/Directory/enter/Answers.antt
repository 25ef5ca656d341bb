-- `enter` appends the address, or refuses one that came before.
use Rattle.std.proofs.Common.{◌≡◌, ◌==◌, false, List, ◌++◌, ◌∷◌, [], Option, None, Some, is_some}
use Rattle.std.proofs.Common.{refl, sym, ◌∙◌, ap, subst}
use Rattle.indexmap.proofs.CallerLemmas.{insert_entry-new}
use Rattle.std.specs.Map.{keys_of}
use lib.Pointwise.{pointwise}
use Rattle.bsc_bid.specs.Refusals.{IsFirstRepeat}
use Rattle.bsc_bid.proofs.Owners.{Owner}
use Rattle.bsc_bid.proofs.Repeats.{first_repeat}
use Rattle.bsc_bid.proofs.directory.Directory.enter.Goals as goal

none_unless_some : {X : Type 0} (o : Option X) → is_some o ≡ false → o ≡ None
none_unless_some None h = refl
none_unless_some (Some x) h = absurd (cc)

pub returns-in-Some-clause-refused : goal.returns-in-Some-clause-refused
returns-in-Some-clause-refused g c =
    subst (λ (es : List Owner). IsFirstRepeat (keys_of es ++ c.args.address ∷ []) c.in-Some.first
    c.len.result) c.self.view_is
    (first_repeat c.self.inside.owners.entries c.args.address c.in-Some.first c.len.result
    (sym c.get_index_of.ensures.index ∙ c.in-Some.is) c.len.ensures.len c.self.invariant)

pub returns-clause-entries : goal.returns-clause-entries
returns-clause-entries g c =
    c.in_ok-insert.ensures.entries
    ∙ insert_entry-new (pointwise ◌==◌) c.self.inside.owners c.args.address
    (c.args.terminal, c.args.way) (none_unless_some _ (sym c.in_default.ensures.found))
    ∙ ap (λ (es : List Owner). es ++ (c.args.address, (c.args.terminal, c.args.way)) ∷ [])
    c.self.view_is
