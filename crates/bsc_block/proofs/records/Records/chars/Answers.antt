-- A record is forgotten, or it is the one that many places after the forgotten ones.
use Rattle.std.proofs.Common.{◌≡◌, ◌-◌, ◌∙◌, ap, arith, sym, length, slice_get}
use Rattle.bsc_block.proofs.Forgotten.{forgotten_at, kept_at}
use Rattle.bsc_block.proofs.records.Records.chars.Goals as goal

pub returns-then-place-forgotten-clause-chars : goal.returns-then-place-forgotten-clause-chars
returns-then-place-forgotten-clause-chars g c =
    let n : c.self.inside.count - length c.self.inside.rest.items ≡ c.forgotten-forgotten.result =
    ap (λ v. v.forgotten) c.self.view_is ∙ sym c.forgotten-forgotten.ensures in
    sym (ap (λ v. slice_get v.items c.args.place) c.self.view_is)
    ∙ forgotten_at (c.self.inside.count - length c.self.inside.rest.items) c.self.inside.rest.items
    c.args.place (omega (arith, n))

pub returns-clause-chars : goal.returns-clause-chars
returns-clause-chars g c =
    let n : c.self.inside.count - length c.self.inside.rest.items ≡ c.forgotten-forgotten.result =
    ap (λ v. v.forgotten) c.self.view_is ∙ sym c.forgotten-forgotten.ensures in
    sym (ap (λ v. slice_get v.items c.args.place) c.self.view_is)
    ∙ kept_at (c.self.inside.count - length c.self.inside.rest.items) c.self.inside.rest.items
    c.args.place (omega (arith, n))
    ∙ ap (λ k. slice_get c.self.inside.rest.items (c.args.place - k)) n
    ∙ c.chars.ensures.chars
