-- Shows that what was given of a row is what the matches have of it, by what the row takes.
use Rattle.std.proofs.Common.{rules, ◌≡◌, ◌≢◌, ◌∙◌, ap, sym, refl, List, [], unwrap_or}
use Rattle.clap.specs.Words.{Row, Text, found_of, rows_of}
use Rattle.clap.proofs.WalkLemmas.{first_value-rows, raw_values-rows}
use Rattle.bsc_options.specs.Inputs.{one_if}
use Rattle.bsc_options.specs.Words.{GivenValue}
use Rattle.bsc_options.specs.declared.entry.Takes.{Takes}
use Rattle.bsc_options.specs.declared.entry.Takes.TheVariants as takes
use Rattle.bsc_words.specs.Options.{is_true_text, texts_in, times_in, values_of}
use Rattle.bsc_words.proofs.given.given_of.Goals as goal

-- what is given under a name
abbrev given_as : Text → Takes → List Row → GivenValue
given_as id what rows =
    record { id = id; times = times_in what id rows; texts = texts_in what id rows }

-- what takes values is given by its texts
by_texts : (id : Text) (what : Takes) (rows : List Row) → what ≢ takes.Flag → what ≢ takes.Count
    → record { id = id; times = 0; texts = values_of id rows } ≡ given_as id what rows
by_texts id takes.Required rows no_flag no_count = refl
by_texts id takes.Optional rows no_flag no_count = refl
by_texts id takes.Rest rows no_flag no_count = refl
by_texts id takes.Flag rows no_flag no_count = absurd (no_flag refl)
by_texts id takes.Count rows no_flag no_count = absurd (no_count refl)
by_texts id takes.Value rows no_flag no_count = refl
by_texts id takes.Values rows no_flag no_count = refl
by_texts id (takes.Number least most absent) rows no_flag no_count = refl
by_texts id (takes.Derived least most) rows no_flag no_count = refl

pub returns-in-Flag : goal.returns-in-Flag
returns-in-Flag c =
    let id : Text = c.args.entry.now.id.now in
    let found = found_of c.args.matches.now in
    c.flagged.ensures
    ∙ ap (λ b. record { id = id; times = one_if b; texts = [] })
    (c.is_given.ensures
    ∙ ap (λ o. is_true_text (unwrap_or o [])) (first_value-rows found id))
    ∙ sym (ap (λ (what : Takes). given_as id what (rows_of found)) c.in-Flag.is)

pub returns-in_ok-texts_at-in_default : goal.returns-in_ok-texts_at-in_default
returns-in_ok-texts_at-in_default c =
    let id : Text = c.args.entry.now.id.now in
    let found = found_of c.args.matches.now in
    ap (λ texts. record { id = id; times = 0; texts = texts })
    (c.in_ok-texts_at-in_default.ensures
    ∙ ap (λ o. unwrap_or o []) (raw_values-rows found id))
    ∙ by_texts id c.args.entry.now.takes (rows_of found) c.in_default.not-Flag c.in_default.not-Count
