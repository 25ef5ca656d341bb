-- More records are forgotten, or as many as before.
use Rattle.std.proofs.Common.{◌≡◌, ◌-◌, ◌∙◌, ap, arith, sym, length, ◌+◌}
use Rattle.bsc_block.proofs.Forgotten.{forgets_more, forgotten_fewer, length_after_forgotten}
use Rattle.bsc_block.proofs.records.Records.forget.Goals as goal

pub returns-then-count-forgotten-clause-items : goal.returns-then-count-forgotten-clause-items
returns-then-count-forgotten-clause-items g c =
    let n : c.forgotten-forgotten.result ≡ c.self.inside.count - length c.self.inside.rest.items =
    c.forgotten-forgotten.ensures ∙ sym (ap (λ v. v.forgotten) c.self.view_is) in
    let all : c.self.inside.count
    ≡ c.self.inside.count - length c.self.inside.rest.items + length c.self.inside.rest.items =
    omega (arith, c.self.invariant) in
    let there : length c.args.self.now.items ≡ c.self.inside.count =
    sym (ap (λ v. length v.items) c.self.view_is)
    ∙ length_after_forgotten (c.self.inside.count - length c.self.inside.rest.items)
    c.self.inside.rest.items
    ∙ sym all in
    rw (← ap (λ v. v.items) c.self.view_is)
    (forgets_more c.self.inside.count (c.self.inside.count - length c.self.inside.rest.items)
    c.args.count c.self.inside.rest.items c.remove_first.new.self.items all (omega (arith, n))
    (omega (arith, there, c.requires)) (rw n at c.remove_first.ensures.items))

pub returns-else-count-forgotten-clause-items : goal.returns-else-count-forgotten-clause-items
returns-else-count-forgotten-clause-items g c =
    let n : c.self.inside.count - length c.self.inside.rest.items ≡ c.forgotten-forgotten.result =
    ap (λ v. v.forgotten) c.self.view_is ∙ sym c.forgotten-forgotten.ensures in
    rw (← ap (λ v. v.items) c.self.view_is)
    (sym (forgotten_fewer (c.self.inside.count - length c.self.inside.rest.items) c.args.count
    c.self.inside.rest.items (omega (arith, n))))
