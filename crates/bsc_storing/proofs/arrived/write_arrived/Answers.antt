-- One more record is printed, which is the next one that the store gives.
use Rattle.std.proofs.Common.{◌≡◌, ◌∙◌, ◌∷◌, [], None, Some, rules, subst, sym, w64, to_z, of_z}
use Rattle.bsc_storing.specs.Works.{PrintsFrom, PrintsNext}
use Rattle.bsc_storing.proofs.arrived.write_arrived.Goals as goal

pub returns-in-None : goal.returns-in-None
returns-in-None g c =
    let after = g.W.Write.contents c.write_next.new.out in
    let is : c.in_ok-mark.field-0 ≡ None = search rules in
    let last : PrintsNext g.S.Store c.args.channel.now c.args.form c.records.place.0
    c.records.place.1 c.records.store c.write_next.new.store (g.W.Write.contents c.records.out)
    after None =
    subst
    (PrintsNext g.S.Store c.args.channel.now c.args.form c.records.place.0 c.records.place.1
    c.records.store c.write_next.new.store (g.W.Write.contents c.records.out) after)
    is c.in_ok-mark.ensures in
    c.records.invariant [] c.write_next.new.store after last

pub records-preserved : goal.records-preserved
records-preserved g c its last after rest =
    let out = g.W.Write.contents c.write_next.new.out in
    let is : c.in_ok-mark.field-0 ≡ Some c.in-Some.mark = search rules in
    let next : PrintsNext g.S.Store c.args.channel.now c.args.form c.records.place.0
    c.records.place.1 c.records.store c.write_next.new.store (g.W.Write.contents c.records.out)
    out (Some c.in-Some.mark) =
    subst
    (PrintsNext g.S.Store c.args.channel.now c.args.form c.records.place.0 c.records.place.1
    c.records.store c.write_next.new.store (g.W.Write.contents c.records.out) out)
    is c.in_ok-mark.ensures in
    let back : to_z w64 (of_z w64 c.in-Some.mark) ≡ c.in-Some.mark = search rules in
    let left =
    subst
    (λ m. PrintsFrom g.S.Store c.args.channel.now c.args.form m 0 its c.write_next.new.store last
    out after)
    (back ∙ sym next.1) rest in
    c.records.invariant (next.0 ∷ its) last after
    (c.write_next.new.store, out, next.2, next.3, left)
