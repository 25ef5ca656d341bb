-- `carry_each` lets each terminal hear its piece.
use Rattle.std.proofs.Common.{◌≡◌, ◌<◌, ℕ, length, get_or, refl, sym, ap, arith, rules, inl, inr}
use Rattle.bsc_embed.specs.LineEvents.{as_told}
use Rattle.bsc_embed.specs.LineHearings.{taken}
use Rattle.bsc_embed.proofs.Cutting.{too_long, all_right, all_cut, each_told, taken_whole}
use Rattle.bsc_embed.proofs.line_calls.hearings.carry_each.Goals as goal

pub returns-then-length-rest : goal.returns-then-length-rest
returns-then-length-rest c =
    let len : ℕ = get_or c.args.lengths.now c.loop-place.place 0 in
    let long : length c.loop-place.rest.now < taken len =
    omega (arith, taken_whole len c.if-length.false, c.if-length-rest.true) in
    inr (record {
      wrong = too_long c.args.octets.now c.args.lengths.now c.loop-place.items c.loop-place.rest.now
          c.loop-place.place c.loop-place.invariant c.loop-place-test.true long;
      told = refl;
      unchanged = refl;
    })

pub returns : goal.returns
returns c =
    let none : length c.loop-place.rest.now ≡ 0 = search rules in
    let last : c.loop-place.place ≡ length c.args.lengths.now = omega arith in
    inl (each_told c.args.octets.now c.args.lengths.now _ c.args.line.now c.carry_each.new.self
    c.carry_each.result _
    (all_right c.args.octets.now c.args.lengths.now c.loop-place.items c.loop-place.rest.now
    c.loop-place.place c.loop-place.invariant c.loop-place-test.false none
    c.if-lengths-gt-MAX_TERMINALS.false)
    (all_cut c.args.octets.now c.args.lengths.now c.loop-place.items c.loop-place.rest.now
    c.loop-place.place c.loop-place.invariant last)
    c.carry_each.ensures.does c.carry_each.ensures.steps
    (ap as_told (sym c.in_ok-carry_each.was)))
