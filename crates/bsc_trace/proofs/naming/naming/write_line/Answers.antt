-- Shows that a blank line prints nothing, and that any other prints its transmission.
use Rattle.std.proofs.Common.{◌≡◌, Some, true, false, sym, ap, ◌∙◌, option_map, rules}
use Rattle.std.proofs.lemmas.Result.{on_err_weaker, on_ok_weaker}
use Rattle.bsc_text.specs.Hexadecimal.{octets_of}
use Rattle.bsc_text.specs.InputLines.{is_blank}
use Rattle.bsc_trace.specs.NamingLines.{is_traced}
use Rattle.bsc_trace.proofs.Lines.{prints_lines_plain, prints_lines_skip, digits_plain}
use Rattle.bsc_trace.proofs.Lines.{given_blank, lines_front_plain}
use Rattle.bsc_trace.proofs.naming.naming.write_line.Goals as goal

pub returns-then-is_blank-clause-ok : goal.returns-then-is_blank-clause-ok
returns-then-is_blank-clause-ok g c =
    let line = c.args.line.now in
    let plain : is_traced line ≡ false = search rules in
    let blank : is_blank line ≡ true = search rules in
    prints_lines_skip c.args.detail line line _ plain (digits_plain line plain)
    (given_blank line blank)

pub returns-in-Some-clause-ok : goal.returns-in-Some-clause-ok
returns-in-Some-clause-ok g c =
    let line = c.args.line.now in
    let octets = c.deref.result.now in
    let read : octets_of line ≡ Some octets = sym c.in_ok-octets.ensures
    ∙ ap (option_map (λ v. v.items)) c.in-Some.is ∙ ap Some (sym c.deref.ensures.value) in
    let plain : is_traced line ≡ false = search rules in
    let blank : is_blank line ≡ false = search rules in
    on_ok_weaker c.write_transmission.result (prints_lines_plain c.args.detail line octets _ _ plain
    (digits_plain line plain) blank read) c.write_transmission.ensures.ok

pub returns-in-Some-clause-front : goal.returns-in-Some-clause-front
returns-in-Some-clause-front g c =
    let line = c.args.line.now in
    let octets = c.deref.result.now in
    let read : octets_of line ≡ Some octets = sym c.in_ok-octets.ensures
    ∙ ap (option_map (λ v. v.items)) c.in-Some.is ∙ ap Some (sym c.deref.ensures.value) in
    let plain : is_traced line ≡ false = search rules in
    let blank : is_blank line ≡ false = search rules in
    on_err_weaker c.write_transmission.result (lines_front_plain c.args.detail line octets _ _ plain
    (digits_plain line plain) blank read) c.write_transmission.ensures.front
