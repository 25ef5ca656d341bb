-- Shows that each text changes what is read as it says, and that the first refusal is the result.
use Rattle.std.proofs.Common.{rules, ◌≡◌, get_or, string_bytes, subst, Ok, Err}
use Rattle.bsc_options.proofs.EachText.{reads_none, reads_one}
use Rattle.bsc_options.proofs.admission.read_each.Goals as goal

pub returns-in_err-value : goal.returns-in_err-value
returns-in_err-value g c =
    let Adds = g.V.Given.adds in
    let why = c.in_err-value.field-0.0 in
    let texts = c.args.texts.now in
    let item = c.text-item.result in
    let text_is : c.as_str.result.now ≡ string_bytes (get_or texts c.texts.text-index item) =
    search rules in
    let is_error : c.from_residual.result ≡ Err why = search rules in
    c.texts.invariant c.from_residual.result
    (reads_one Adds string_bytes texts c.texts.text-index item c.texts.value (Err why)
    c.from_residual.result c.texts-test.true
    (subst (λ t. Adds t c.texts.value (Err why)) text_is c.in_err-value.ensures) is_error)

pub texts-preserved : goal.texts-preserved
texts-preserved g c = λ result rest.
    let Adds = g.V.Given.adds in
    let texts = c.args.texts.now in
    let item = c.text-item.result in
    let next = c.in_ok-value.value in
    let text_is : c.as_str.result.now ≡ string_bytes (get_or texts c.texts.text-index item) =
    search rules in
    c.texts.invariant result
    (reads_one Adds string_bytes texts c.texts.text-index item c.texts.value (Ok next) result
    c.texts-test.true (subst (λ t. Adds t c.texts.value (Ok next)) text_is c.in_ok-value.ensures)
    rest)

pub returns : goal.returns
returns g c =
    c.texts.invariant (Ok c.texts.value)
    (reads_none g.V.Given.adds string_bytes c.args.texts.now c.texts.text-index c.texts.value
    c.texts-test.false)
