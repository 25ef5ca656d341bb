-- Shows that each command asks for its work, with what was given of its table.
use Rattle.std.proofs.Common.{rules, ap, ap₂, sym, ◌≡◌, ◌∙◌, List, [], Option, Some, None}
use Rattle.std.proofs.Common.{option_map, codes}
use Rattle.std.proofs.lemmas.Option.{same_Some}
use Rattle.clap.specs.Words.{Row, Text, found_of, rows_of, subcommand_rows_of}
use Rattle.clap.specs.declared.parser.matches.ArgMatches.{out-ArgMatches}
use Rattle.clap.specs.declared.parser.matches.SubCommand.{out-SubCommand}
use Rattle.std.specs.Box.{box_value}
use Rattle.bsc_options.specs.Asked.{chart_in, feed_in, run_in, store_in}
use Rattle.bsc_words.specs.CommandLine.{asked_by, asked_sub}
use Rattle.bsc_words.proofs.words.work_of.Goals as goal

-- a pair by its parts
paired : {Z : Type 0} (k : Z → Text × List Row) (o : Option Z) (t : Text) (rows : List Row) → Some t
    ≡ option_map (λ z. (k z).0) o
    → Some rows ≡ option_map (λ (p : Text × List Row). p.1) (option_map k o) → option_map k o
    ≡ Some (t, rows)
paired k None t rows a b = cc
paired k (Some z) t rows a b =
    ap Some (ap₂ (λ u v. (u, v)) (sym (same_Some _ _ a)) (sym (same_Some _ _ b)))

pub returns-in_ok-words_of-in-chart : goal.returns-in_ok-words_of-in-chart
returns-in_ok-words_of-in-chart c =
    let inner = found_of c.in-Some.inner.now in
    let sub_is : c.in-Some.sub.now ≡ codes "chart" = search rules in
    let pair : subcommand_rows_of c.args.matches.now ≡ Some (c.in-Some.sub.now, rows_of inner) =
    paired (λ b. (
      (out-SubCommand (box_value b)).name.now,
      rows_of (found_of (out-SubCommand (box_value b)).matches),
    ))
    (out-ArgMatches c.args.matches.now).subcommand _ _ c.in-Some.ensures.name
    c.in-Some.ensures.rows in
    ap chart_in c.in_ok-words_of-in-chart.ensures
    ∙ sym (ap asked_sub pair ∙ ap (λ t. asked_by t (rows_of inner)) sub_is)

pub returns-in_ok-words_of-in-run : goal.returns-in_ok-words_of-in-run
returns-in_ok-words_of-in-run c =
    let inner = found_of c.in-Some.inner.now in
    let sub_is : c.in-Some.sub.now ≡ codes "run" = search rules in
    let pair : subcommand_rows_of c.args.matches.now ≡ Some (c.in-Some.sub.now, rows_of inner) =
    paired (λ b. (
      (out-SubCommand (box_value b)).name.now,
      rows_of (found_of (out-SubCommand (box_value b)).matches),
    ))
    (out-ArgMatches c.args.matches.now).subcommand _ _ c.in-Some.ensures.name
    c.in-Some.ensures.rows in
    ap run_in c.in_ok-words_of-in-run.ensures
    ∙ sym (ap asked_sub pair ∙ ap (λ t. asked_by t (rows_of inner)) sub_is)

pub returns-in_ok-words_of-in-feed : goal.returns-in_ok-words_of-in-feed
returns-in_ok-words_of-in-feed c =
    let inner = found_of c.in-Some.inner.now in
    let sub_is : c.in-Some.sub.now ≡ codes "feed" = search rules in
    let pair : subcommand_rows_of c.args.matches.now ≡ Some (c.in-Some.sub.now, rows_of inner) =
    paired (λ b. (
      (out-SubCommand (box_value b)).name.now,
      rows_of (found_of (out-SubCommand (box_value b)).matches),
    ))
    (out-ArgMatches c.args.matches.now).subcommand _ _ c.in-Some.ensures.name
    c.in-Some.ensures.rows in
    ap feed_in c.in_ok-words_of-in-feed.ensures
    ∙ sym (ap asked_sub pair ∙ ap (λ t. asked_by t (rows_of inner)) sub_is)

pub returns-in_ok-words_of-in-store : goal.returns-in_ok-words_of-in-store
returns-in_ok-words_of-in-store c =
    let inner = found_of c.in-Some.inner.now in
    let sub_is : c.in-Some.sub.now ≡ codes "store" = search rules in
    let pair : subcommand_rows_of c.args.matches.now ≡ Some (c.in-Some.sub.now, rows_of inner) =
    paired (λ b. (
      (out-SubCommand (box_value b)).name.now,
      rows_of (found_of (out-SubCommand (box_value b)).matches),
    ))
    (out-ArgMatches c.args.matches.now).subcommand _ _ c.in-Some.ensures.name
    c.in-Some.ensures.rows in
    ap store_in c.in_ok-words_of-in-store.ensures
    ∙ sym (ap asked_sub pair ∙ ap (λ t. asked_by t (rows_of inner)) sub_is)
