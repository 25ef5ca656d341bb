-- Shows that the name of the transmission in the text is printed.
use Rattle.std.proofs.Common.{◌≡◌, Some, sym, ap, ◌∙◌, option_map}
use Rattle.std.proofs.lemmas.Result.{on_ok_weaker}
use Rattle.bsc_text.specs.Hexadecimal.{octets_of}
use Rattle.bsc_text.specs.Names.{Prints, name_line}
use Rattle.bsc_trace.proofs.naming.naming.name.Goals as goal

pub returns-in-Some-clause-ok : goal.returns-in-Some-clause-ok
returns-in-Some-clause-ok g c =
    let octets = c.deref.result.now in
    let read : octets_of c.args.text.now ≡ Some octets =
    ap octets_of (sym c.as_bytes.ensures.value) ∙ sym c.in_ok-octets.ensures
    ∙ ap (option_map (λ v. v.items)) c.in-Some.is ∙ ap Some (sym c.deref.ensures.value) in
    on_ok_weaker {P =
    Prints name_line octets (g.W.Write.contents c.args.out.now)
    (g.W.Write.contents c.write_transmission.new.out)} c.write_transmission.result
    (λ p. rw read p) c.write_transmission.ensures.ok
