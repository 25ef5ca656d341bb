-- Shows that each terminal hears the octets that crossed the cable for it, or that a fault comes.
use Rattle.std.proofs.Common.{◌≡◌, length, option_map, Err, ◌∙◌, ap, refl, rules}
use Rattle.bsc_config.specs.Events.{heard_each}
use Rattle.bsc_run.specs.Crossing.{streams_of}
use Rattle.bsc_run.proofs.Acting.{acts_fault, hears_items}
use Rattle.bsc_run.proofs.Causes.{cause_of_items, cause_of_traced, items_is_fault, trace_is_fault}
use Rattle.bsc_run.proofs.Items.{slices_count}
use Rattle.bsc_run.proofs.actions.carry_items.Goals as goal

pub returns-in_err-words-clause-acts : goal.returns-in_err-words-clause-acts
returns-in_err-words-clause-acts g c =
    let same : c.from_residual-in_err-words.result ≡ Err c.in_err-words.field-0.0 = search rules in
    rw same (acts_fault (streams_of g.S.Write.contents g.S.Read.remaining) c.args.number
    (heard_each c.args.items.now) c.args.line.now c.args.line.now c.args.cable.now
    c.cross_each.new.cable (g.D.Write.contents c.args.trace.now)
    (g.D.Write.contents c.args.trace.now) c.in_err-words.field-0.0 (items_is_fault c.cross_each.new.cable.fault c.in_err-words.field-0.0
    c.in_err-words.ensures.faults))

pub hear_each-requires : goal.hear_each-requires
hear_each-requires g c =
    let sent = c.in_ok-check_items.ensures.right in
    let count : length c.deref-2.result.now ≡ length c.args.items.now =
    ap length c.deref-2.ensures.value ∙ slices_count (streams_of g.S.Write.contents g.S.Read.remaining)
    (option_map (λ w. w.items)) c.args.items.now c.in_ok-words.words.items
    c.in_ok-words-2.words.items c.args.cable.now c.cross_each.new.cable
    c.in_ok-words.ensures.crossed (rw c.deref.ensures.value at c.in_ok-words-2.ensures) in
    record { control = sent.control; one_each = count ∙ sent.one_each }

pub returns-clause-acts : goal.returns-clause-acts
returns-clause-acts g c =
    hears_items (streams_of g.S.Write.contents g.S.Read.remaining) c.args.number
    c.args.items.now c.args.line.now c.hear_each.new.line c.args.cable.now
    c.cross_each.new.cable (g.D.Write.contents c.args.trace.now)
    (g.D.Write.contents c.hear_each.new.trace) c.deref-2.result c.hear_each.result c.requires
    (rw (c.deref-2.ensures.value, c.in_ok-words-2.ensures, c.deref.ensures.value)
    c.in_ok-words.ensures.crossed) c.cross_each.ensures.count c.hear_each.ensures.does
    c.hear_each.ensures.line c.hear_each.ensures.traced (trace_is_fault c.args.number c.hear_each.result c.hear_each.ensures.faults)

pub returns-clause-cause : goal.returns-clause-cause
returns-clause-cause g c =
    cause_of_traced c.args.number (heard_each c.args.items.now) c.cross_each.new.cable.fault
    c.hear_each.result c.hear_each.ensures.faults

pub returns-in_err-words-clause-cause : goal.returns-in_err-words-clause-cause
returns-in_err-words-clause-cause g c =
    let same : c.from_residual-in_err-words.result ≡ Err c.in_err-words.field-0.0 = search rules in
    rw same (cause_of_items c.args.number (heard_each c.args.items.now)
    c.cross_each.new.cable.fault c.in_err-words.field-0.0 refl refl c.in_err-words.ensures.faults)
