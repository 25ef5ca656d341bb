-- Shows that a line of a trace prints the transmission in its last word, if there is one.
use Rattle.std.proofs.Common.{◌≡◌, Some, None, true, false, sym, ap, ◌∙◌, option_map, rules}
use Rattle.std.proofs.lemmas.Result.{on_err_weaker, on_ok_weaker}
use Rattle.bsc_text.specs.Hexadecimal.{octets_of}
use Rattle.bsc_text.specs.InputLines.{is_blank}
use Rattle.bsc_trace.specs.NamingLines.{digits}
use Rattle.bsc_trace.proofs.Lines.{prints_lines_one, prints_lines_kept, digits_traced}
use Rattle.bsc_trace.proofs.Lines.{given_blank, given_wrong, lines_front_kept, lines_front_one}
use Rattle.bsc_trace.proofs.naming.naming.write_traced.Goals as goal

pub returns-then-is_blank-clause-ok : goal.returns-then-is_blank-clause-ok
returns-then-is_blank-clause-ok g c =
    let line = c.args.line.now in
    let word = c.last_word-word.result.now in
    let same : digits line ≡ word = digits_traced line c.requires ∙ sym c.last_word-word.ensures in
    let blank : is_blank word ≡ true = search rules in
    on_ok_weaker c.write_kept.result (prints_lines_kept c.args.detail true line word _ _ c.requires same
    (given_blank word blank)) c.write_kept.ensures.ok

pub returns-then-is_blank-clause-front : goal.returns-then-is_blank-clause-front
returns-then-is_blank-clause-front g c =
    let line = c.args.line.now in
    let word = c.last_word-word.result.now in
    let same : digits line ≡ word = digits_traced line c.requires ∙ sym c.last_word-word.ensures in
    let blank : is_blank word ≡ true = search rules in
    on_err_weaker c.write_kept.result (lines_front_kept c.args.detail true line word _ _ c.requires same
    (given_blank word blank)) c.write_kept.ensures.front

pub returns-in-Some-clause-ok : goal.returns-in-Some-clause-ok
returns-in-Some-clause-ok g c =
    let line = c.args.line.now in
    let word = c.last_word-word.result.now in
    let same : digits line ≡ word = digits_traced line c.requires ∙ sym c.last_word-word.ensures in
    let octets = c.deref.result.now in
    let read : octets_of word ≡ Some octets = sym c.in_ok-octets.ensures
    ∙ ap (option_map (λ v. v.items)) c.in-Some.is ∙ ap Some (sym c.deref.ensures.value) in
    let blank : is_blank word ≡ false = search rules in
    on_ok_weaker c.write_spoken.result (prints_lines_one c.args.detail true line word octets _ _ c.requires
    same blank read) c.write_spoken.ensures.ok

pub returns-in-Some-clause-front : goal.returns-in-Some-clause-front
returns-in-Some-clause-front g c =
    let line = c.args.line.now in
    let word = c.last_word-word.result.now in
    let same : digits line ≡ word = digits_traced line c.requires ∙ sym c.last_word-word.ensures in
    let octets = c.deref.result.now in
    let read : octets_of word ≡ Some octets = sym c.in_ok-octets.ensures
    ∙ ap (option_map (λ v. v.items)) c.in-Some.is ∙ ap Some (sym c.deref.ensures.value) in
    let blank : is_blank word ≡ false = search rules in
    on_err_weaker c.write_spoken.result (lines_front_one c.args.detail true line word octets _ _ c.requires
    same blank read) c.write_spoken.ensures.front

pub returns-in-None-clause-ok : goal.returns-in-None-clause-ok
returns-in-None-clause-ok g c =
    let line = c.args.line.now in
    let word = c.last_word-word.result.now in
    let same : digits line ≡ word = digits_traced line c.requires ∙ sym c.last_word-word.ensures in
    let blank : is_blank word ≡ false = search rules in
    let read : octets_of word ≡ None = sym c.in_ok-octets.ensures
    ∙ ap (option_map (λ v. v.items)) c.in-None.is in
    on_ok_weaker c.write_kept-in-None.result (prints_lines_kept c.args.detail true line word _ _ c.requires
    same (given_wrong word blank read)) c.write_kept-in-None.ensures.ok

pub returns-in-None-clause-front : goal.returns-in-None-clause-front
returns-in-None-clause-front g c =
    let line = c.args.line.now in
    let word = c.last_word-word.result.now in
    let same : digits line ≡ word = digits_traced line c.requires ∙ sym c.last_word-word.ensures in
    let blank : is_blank word ≡ false = search rules in
    let read : octets_of word ≡ None = sym c.in_ok-octets.ensures
    ∙ ap (option_map (λ v. v.items)) c.in-None.is in
    on_err_weaker c.write_kept-in-None.result (lines_front_kept c.args.detail true line word _ _ c.requires
    same (given_wrong word blank read)) c.write_kept-in-None.ensures.front
