-- Shows that the fault for words that are refused is one of these words.
use Rattle.std.proofs.Common.{rules, ◌≡◌, [], List, inr, map, string_bytes, subst}
use Rattle.std.proofs.lemmas.Result.{IfErr-weaker, on_ok_weaker}
use Rattle.bsc_options.specs.Asked.{asked as asked_now}
use Rattle.clap.specs.Words.{HasKind, Text}
use Rattle.bsc_words.specs.CommandLine.{asked_of, faults_at}
use Rattle.bsc_command.specs.Program.{HasFailedReport, IsFailure, IsReportedOn}
use Rattle.bsc_command.proofs.Words.{words_early, words_fault}
use Rattle.bsc_command.proofs.whole_command.obey.Goals as goal

pub returns-clause-fault : goal.returns-clause-fault
returns-clause-fault g c =
    let same : map (λ s. s.now) c.deref.result.now ≡ map string_bytes c.args.words.now =
    search rules in
    let words = map string_bytes c.args.words.now in
    words_fault words c.in-Err.error
    (λ f. IsFailure g.H.Stream.Write.contents g.H.Stream.Read.remaining
    g.H.Trace.Write.contents g.H.Network.traces (asked_of words) f
    (g.R.Read.remaining c.args.input.now) (g.W.Write.contents c.args.out.now)
    (g.W.Write.contents c.help_or_fault.new.out))
    c.help_or_fault.result
    (subst (λ (words : List Text). HasKind (faults_at words) c.in-Err.error) same
    c.in-Err.ensures.kinds)
    c.help_or_fault.ensures.help c.help_or_fault.ensures.memory c.help_or_fault.ensures.usage

pub returns-clause-unreported : goal.returns-clause-unreported
returns-clause-unreported g c =
    let same : map (λ s. s.now) c.deref.result.now ≡ map string_bytes c.args.words.now =
    search rules in
    let words = map string_bytes c.args.words.now in
    words_fault words c.in-Err.error
    (λ f. HasFailedReport g.W.Write.contents (asked_of words) f
    (g.R.Read.remaining c.args.input.now) c.help_or_fault.new.out)
    c.help_or_fault.result
    (subst (λ (words : List Text). HasKind (faults_at words) c.in-Err.error) same
    c.in-Err.ensures.kinds)
    c.help_or_fault.ensures.help c.help_or_fault.ensures.memory c.help_or_fault.ensures.usage

pub returns-clause-early : goal.returns-clause-early
returns-clause-early g c =
    words_early c.in-Err.error c.help_or_fault.result c.help_or_fault.ensures.help
    c.help_or_fault.ensures.quiet

pub returns-in-Ok-clause-reported : goal.returns-in-Ok-clause-reported
returns-in-Ok-clause-reported g c =
    let words = map string_bytes c.args.words.now in
    let asked : asked_now c.in-Ok.asked ≡ asked_of words = search rules in
    let fits : faults_at words ≡ [] = search rules in
    on_ok_weaker c.perform.result
    (λ p. inr (fits, subst (λ a. IsReportedOn g.W.Write.contents a (g.R.Read.remaining c.args.input.now) c.perform.new.out) asked p))
    c.perform.ensures.reported

pub returns-in-Ok-clause-unreported : goal.returns-in-Ok-clause-unreported
returns-in-Ok-clause-unreported g c =
    let words = map string_bytes c.args.words.now in
    let asked : asked_now c.in-Ok.asked ≡ asked_of words = search rules in
    IfErr-weaker c.perform.result _ _
    (λ f p. inr (inr (subst (λ a. HasFailedReport g.W.Write.contents a f (g.R.Read.remaining c.args.input.now) c.perform.new.out) asked p)))
    c.perform.ensures.unreported
