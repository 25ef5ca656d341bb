-- `take_unit` adds the first unit, with or without fill.
use Rattle.std.proofs.Common.{arith, subst, sym, ◌∙◌, ◌≡◌, ◌+◌, take, map, None, IfSome, IfNone}
use Rattle.std.proofs.lemmas.List.Elements.{All-take, All-filter}
use Rattle.bsc_octet.specs.Octet.{IsOdd, code_in}
use Rattle.bsc_frame.specs.TextBuffers.{TakesUnit}
use Rattle.bsc_frame.specs.Reading.{is_other, unit_before, unit_at}
use Rattle.bsc_frame.proofs.CarriedOctets.{carried_of_odd_octets}
use Rattle.bsc_frame.proofs.Taking.{at_end, front_ends, ends_filtered, front_without_fill}
use Rattle.bsc_frame.proofs.Taking.{front_squeezed}
use Rattle.bsc_frame.proofs.Taking.{long_front_none}
use Rattle.bsc_frame.proofs.unit_decoder.take_unit.Goals as goal

pub returns-then-place-octets-clause-none : goal.returns-then-place-octets-clause-none
returns-then-place-octets-clause-none c =
    at_end c.args.after_us c.args.octets.now c.before_ending-place.result
    (carried_of_odd_octets c.args.octets.now c.requires.odd c.type_inv.octets)
    c.before_ending-place.ensures.count c.if-place-octets.true

pub take_front-requires-clause-ends : goal.take_front-requires-clause-ends
take_front-requires-clause-ends c =
    rw c.split_at.ensures.front (front_ends c.args.octets.now c.before_ending-place.result
    c.before_ending-place.ensures.count (omega arith))

pub returns-then-not-has_fill-clause-found : goal.returns-then-not-has_fill-clause-found
returns-then-not-has_fill-clause-found c =
    let same : unit_before c.args.after_us (map code_in c.split_at.result.0.now)
    c.split_at.result.1.now ≡ unit_at c.args.after_us c.args.octets.now =
    rw (c.split_at.ensures.front, c.split_at.ensures.back)
    (front_without_fill c.args.after_us c.args.octets.now c.before_ending-place.result
    (carried_of_odd_octets c.args.octets.now c.requires.odd c.type_inv.octets)
    c.before_ending-place.ensures.count (omega arith)
    (rw c.split_at.ensures.front at (sym c.has_fill.ensures ∙ c.if-not-has_fill.true))) in
    subst (λ x. IfSome c.take_front.result
    (λ r. TakesUnit c.args.buffer.now c.take_front.new.buffer x r.0 r.1.now)) same
    c.take_front.ensures.found

pub returns-then-not-has_fill-clause-none : goal.returns-then-not-has_fill-clause-none
returns-then-not-has_fill-clause-none c =
    let same : unit_before c.args.after_us (map code_in c.split_at.result.0.now)
    c.split_at.result.1.now ≡ unit_at c.args.after_us c.args.octets.now =
    rw (c.split_at.ensures.front, c.split_at.ensures.back)
    (front_without_fill c.args.after_us c.args.octets.now c.before_ending-place.result
    (carried_of_odd_octets c.args.octets.now c.requires.odd c.type_inv.octets)
    c.before_ending-place.ensures.count (omega arith)
    (rw c.split_at.ensures.front at (sym c.has_fill.ensures ∙ c.if-not-has_fill.true))) in
    subst (λ x. IfNone c.take_front.result (x ≡ None)) same c.take_front.ensures.none

pub returns-in_default-clause-none : goal.returns-in_default-clause-none
returns-in_default-clause-none c =
    long_front_none c.args.after_us c.args.octets.now c.before_ending-place.result
    (carried_of_odd_octets c.args.octets.now c.requires.odd c.type_inv.octets)
    c.before_ending-place.ensures.count (omega arith)
    (rw c.split_at.ensures.front at c.in_default.ensures.none)

pub take_front-requires-2-clause-odd : goal.take_front-requires-2-clause-odd
take_front-requires-2-clause-odd c =
    rw (c.in-Some.ensures.some.1, c.split_at.ensures.front)
    (All-filter is_other IsOdd (take (c.before_ending-place.result + 1) c.args.octets.now)
    (All-take IsOdd (c.before_ending-place.result + 1) c.args.octets.now c.requires.odd))

pub take_front-requires-2-clause-ends : goal.take_front-requires-2-clause-ends
take_front-requires-2-clause-ends c =
    rw (c.in-Some.ensures.some.1, c.split_at.ensures.front)
    (ends_filtered (take (c.before_ending-place.result + 1) c.args.octets.now)
    (front_ends c.args.octets.now c.before_ending-place.result
    c.before_ending-place.ensures.count (omega arith)))

pub returns-clause-found : goal.returns-clause-found
returns-clause-found c =
    let same : unit_before c.args.after_us
    (map code_in (take c.in-Some.count c.squeeze.new.buffer)) c.split_at.result.1.now
    ≡ unit_at c.args.after_us c.args.octets.now =
    rw c.split_at.ensures.back
    (front_squeezed c.args.after_us c.args.octets.now c.before_ending-place.result
    (take c.in-Some.count c.squeeze.new.buffer)
    (carried_of_odd_octets c.args.octets.now c.requires.odd c.type_inv.octets)
    c.before_ending-place.ensures.count (omega arith)
    (rw c.split_at.ensures.front at c.in-Some.ensures.some.1)) in
    subst (λ x. IfSome c.take_front-2.result
    (λ r. TakesUnit c.args.buffer.now c.take_front-2.new.buffer x r.0 r.1.now)) same
    c.take_front-2.ensures.found

pub returns-clause-none : goal.returns-clause-none
returns-clause-none c =
    let same : unit_before c.args.after_us
    (map code_in (take c.in-Some.count c.squeeze.new.buffer)) c.split_at.result.1.now
    ≡ unit_at c.args.after_us c.args.octets.now =
    rw c.split_at.ensures.back
    (front_squeezed c.args.after_us c.args.octets.now c.before_ending-place.result
    (take c.in-Some.count c.squeeze.new.buffer)
    (carried_of_odd_octets c.args.octets.now c.requires.odd c.type_inv.octets)
    c.before_ending-place.ensures.count (omega arith)
    (rw c.split_at.ensures.front at c.in-Some.ensures.some.1)) in
    subst (λ x. IfNone c.take_front-2.result (x ≡ None)) same c.take_front-2.ensures.none
