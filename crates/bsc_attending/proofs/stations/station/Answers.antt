-- Shows that what a station answers and prints comes after its options were read and it was prepared.
use Rattle.std.proofs.Common.{rules, ◌≡◌, ap, Bool, true, false, Ok, Err, IsErr, IsErrAnd, inl, inr}
use Rattle.std.proofs.Common.{is_some, subst, sym, ◌∙◌, Option, Some, None, IsNone, refl}
use Rattle.std.specs.Prelude.{IsSomeAnd}
use Rattle.bsc_options.specs.Admission.{IsAdmission}
use Rattle.bsc_options.specs.Settings.{settings_in, settings_value}
use Rattle.bsc_options.specs.Words.{words_value}
use Rattle.bsc_attending.specs.Ending.{HasRun}
use Rattle.bsc_attending.specs.Errors.{IsCutShort, IsUnbegun, IsUnended}
use Rattle.bsc_attending.specs.Outcomes.{IsAnswer}
use Rattle.bsc_attending.specs.Runs.{IsNotBegun}
use Rattle.bsc_attending.proofs.Outcomes.{answer_after, answer_unbegun, cut_is, ran_filled}
use Rattle.bsc_attending.proofs.Outcomes.{report_after, reported_by, run_is, unended_if_unbegun}
use Rattle.bsc_attending.proofs.Ran.{kept_ended, printed_ended}
use Rattle.bsc_attending.proofs.stations.station.Goals as goal
use Rattle.bsc_attending.proofs.stations.station.Goals.{in-Some, in-None}

-- what is there, by its name
some_of : {A : Type 0} (P : A → Type 0) (it : Option A) (a : A) → it ≡ Some a → IsSomeAnd it P → P a
some_of P it a is has = subst (λ o. IsSomeAnd o P) is has

none_of : {A : Type 0} (P : A → Type 0) (it : Option A) → it ≡ None → IsSomeAnd it P → ⊥
none_of P it is has = subst (λ o. IsSomeAnd o P) is has

pub returns-in_err-begun-clause-answers : goal.returns-in_err-begun-clause-answers
returns-in_err-begun-clause-answers g c =
    let w = words_value c.args.words.now in
    let settings = settings_value c.in_ok-settings.settings in
    let read : settings_in w ≡ Ok settings = search rules in
    let admission = c.in_ok-admission.admission in
    let admitted : IsAdmission w (Ok admission) = search rules in
    let input = g.R.Read.remaining c.args.input.now in
    let error = c.in_err-begun.field-0.0 in
    let is_error : c.from_residual-in_err-begun.result ≡ Err error = search rules in
    let refused : IsNotBegun w settings.speaker admission.peers.terminals input error = search rules in
    subst (λ r. IsAnswer w input r) (sym is_error)
    (inr (record {
      settings = settings;
      read = read;
      admission = admission;
      admitted = admitted;
      answer = answer_unbegun w settings.speaker admission.peers.terminals input error refused;
    }))

pub returns-in_err-begun-clause-reported : goal.returns-in_err-begun-clause-reported
returns-in_err-begun-clause-reported g c =
    let error = c.in_err-begun.field-0.0 in
    let is_error : c.from_residual-in_err-begun.result ≡ Err error = search rules in
    let unbegun : IsUnbegun error = search rules in
    inl (subst (λ r. IsErrAnd r IsUnended) (sym is_error) (unended_if_unbegun error unbegun))

pub returns-in_err-begun-clause-kept : goal.returns-in_err-begun-clause-kept
returns-in_err-begun-clause-kept g c stored =
    let error = c.in_err-begun.field-0.0 in
    let is_error : c.from_residual-in_err-begun.result ≡ Err error = search rules in
    let unbegun : IsUnbegun error = search rules in
    inl (subst (λ r. IsErrAnd r IsUnbegun) (sym is_error) unbegun)

pub returns-in_err-begun-clause-printed : goal.returns-in_err-begun-clause-printed
returns-in_err-begun-clause-printed g c unstored =
    let error = c.in_err-begun.field-0.0 in
    let is_error : c.from_residual-in_err-begun.result ≡ Err error = search rules in
    let unbegun : IsUnbegun error = search rules in
    inl (subst (λ r. IsErrAnd r IsUnbegun) (sym is_error) unbegun)

pub returns-clause-answers : goal.returns-clause-answers
returns-clause-answers g c =
    let w = words_value c.args.words.now in
    let settings = settings_value c.in_ok-settings.settings in
    let read : settings_in w ≡ Ok settings = search rules in
    let b = c.in_ok-begun.ensures.begun in
    let filled = c.in_ok-begun.begun.prepared in
    let contents = g.W.Write.contents in
    let form = c.in_ok-settings.settings.reported in
    let ended = c.match-keeper.prepared in
    let result = c.finish.result in
    let new = c.finish.new.out in
    let input = g.R.Read.remaining c.args.input.now in
    let ran : HasRun contents form filled ended result new = elim c.match-keeper.branch [
      | in-Some w ↦
          run_is contents form filled ended w.run_kept-attended.new.prepared c.match-keeper.attended
          w.run_kept-attended.result result c.match-keeper.out new w.prepared-is w.attended-is
          w.run_kept-attended.ensures.left c.finish.ensures.finishes
      | in-None w ↦
          run_is contents form filled ended w.run_printed-attended.new.prepared
          c.match-keeper.attended w.run_printed-attended.result result c.match-keeper.out new
          w.prepared-is w.attended-is w.run_printed-attended.ensures.left c.finish.ensures.finishes
    ] in
    let run = ran_filled contents form b.begun filled ended result new b.kind ran in
    let admission = c.in_ok-admission.admission in
    let admitted : IsAdmission w (Ok admission) = search rules in
    inr (record {
      settings = settings;
      read = read;
      admission = admission;
      admitted = admitted;
      answer =
          answer_after w settings.speaker input b.after b.begun b.prepared contents form ended new
          admission.peers.terminals result run;
    })

pub returns-clause-reported : goal.returns-clause-reported
returns-clause-reported g c =
    let w = words_value c.args.words.now in
    let settings = settings_value c.in_ok-settings.settings in
    let read : settings_in w ≡ Ok settings = search rules in
    let b = c.in_ok-begun.ensures.begun in
    let filled = c.in_ok-begun.begun.prepared in
    let contents = g.W.Write.contents in
    let form = c.in_ok-settings.settings.reported in
    let ended = c.match-keeper.prepared in
    let result = c.finish.result in
    let new = c.finish.new.out in
    let input = g.R.Read.remaining c.args.input.now in
    let ran : HasRun contents form filled ended result new = elim c.match-keeper.branch [
      | in-Some w ↦
          run_is contents form filled ended w.run_kept-attended.new.prepared c.match-keeper.attended
          w.run_kept-attended.result result c.match-keeper.out new w.prepared-is w.attended-is
          w.run_kept-attended.ensures.left c.finish.ensures.finishes
      | in-None w ↦
          run_is contents form filled ended w.run_printed-attended.new.prepared
          c.match-keeper.attended w.run_printed-attended.result result c.match-keeper.out new
          w.prepared-is w.attended-is w.run_printed-attended.ensures.left c.finish.ensures.finishes
    ] in
    let run = ran_filled contents form b.begun filled ended result new b.kind ran in
    reported_by w input settings read contents new result
    (report_after w settings.speaker input b.after b.begun b.prepared contents form ended new result run)

pub returns-clause-kept : goal.returns-clause-kept
returns-clause-kept g c stored =
    let w = words_value c.args.words.now in
    let settings = settings_value c.in_ok-settings.settings in
    let read : settings_in w ≡ Ok settings = search rules in
    let b = c.in_ok-begun.ensures.begun in
    let filled = c.in_ok-begun.begun.prepared in
    let contents = g.W.Write.contents in
    let form = c.in_ok-settings.settings.reported in
    let ended = c.match-keeper.prepared in
    let result = c.finish.result in
    let new = c.finish.new.out in
    let input = g.R.Read.remaining c.args.input.now in
    let ran : HasRun contents form filled ended result new = elim c.match-keeper.branch [
      | in-Some w ↦
          run_is contents form filled ended w.run_kept-attended.new.prepared c.match-keeper.attended
          w.run_kept-attended.result result c.match-keeper.out new w.prepared-is w.attended-is
          w.run_kept-attended.ensures.left c.finish.ensures.finishes
      | in-None w ↦
          run_is contents form filled ended w.run_printed-attended.new.prepared
          c.match-keeper.attended w.run_printed-attended.result result c.match-keeper.out new
          w.prepared-is w.attended-is w.run_printed-attended.ensures.left c.finish.ensures.finishes
    ] in
    elim c.match-keeper.branch [
      | in-Some w ↦
          inr (record {
            settings = settings;
            read = read;
            after = b.after;
            begun = b.begun;
            prepared = b.prepared;
            filled = filled;
            keeper = w.in-Some.keeper;
            begins = some_of _ c.in_ok-begun.begun.keeper w.in-Some.keeper w.in-Some.is (b.kept stored);
            ended = ended;
            ran =
                kept_ended _ _ w.in-Some.keeper (IsErr w.run_kept-attended.result)
                (IsErrAnd result IsCutShort)
                (λ so. cut_is form ended c.match-keeper.attended result
                (contents c.match-keeper.out) (contents new) c.finish.ensures.finishes
                (subst (λ r. IsErr r) (sym w.attended-is) so))
                filled w.run_kept-attended.new.prepared ended w.prepared-is
                w.run_kept-attended.ensures.kept;
            ends = ran;
          })
      | in-None w ↦ absurd (none_of _ c.in_ok-begun.begun.keeper w.in-None.is (b.kept stored))
    ]

pub returns-clause-printed : goal.returns-clause-printed
returns-clause-printed g c unstored =
    let w = words_value c.args.words.now in
    let settings = settings_value c.in_ok-settings.settings in
    let read : settings_in w ≡ Ok settings = search rules in
    let b = c.in_ok-begun.ensures.begun in
    let filled = c.in_ok-begun.begun.prepared in
    let contents = g.W.Write.contents in
    let form = c.in_ok-settings.settings.reported in
    let ended = c.match-keeper.prepared in
    let result = c.finish.result in
    let new = c.finish.new.out in
    let input = g.R.Read.remaining c.args.input.now in
    let ran : HasRun contents form filled ended result new = elim c.match-keeper.branch [
      | in-Some w ↦
          run_is contents form filled ended w.run_kept-attended.new.prepared c.match-keeper.attended
          w.run_kept-attended.result result c.match-keeper.out new w.prepared-is w.attended-is
          w.run_kept-attended.ensures.left c.finish.ensures.finishes
      | in-None w ↦
          run_is contents form filled ended w.run_printed-attended.new.prepared
          c.match-keeper.attended w.run_printed-attended.result result c.match-keeper.out new
          w.prepared-is w.attended-is w.run_printed-attended.ensures.left c.finish.ensures.finishes
    ] in
    let run = ran_filled contents form b.begun filled ended result new b.kind ran in
    let (same, none) = b.unkept unstored in
    elim c.match-keeper.branch [
      | in-Some w ↦
          let clash : true ≡ false = ap is_some (sym w.in-Some.is ∙ none) in
          absurd cc
      | in-None w ↦
          inr (record {
            settings = settings;
            read = read;
            after = b.after;
            begun = b.begun;
            prepared = b.prepared;
            ended = ended;
            ran =
                printed_ended _ _ (IsErr w.run_printed-attended.result)
                (IsErrAnd result IsCutShort)
                (λ so. cut_is form ended c.match-keeper.attended result
                (contents c.match-keeper.out) (contents new) c.finish.ensures.finishes
                (subst (λ r. IsErr r) (sym w.attended-is) so))
                filled b.begun w.run_printed-attended.new.prepared ended same w.prepared-is
                w.run_printed-attended.ensures.printed;
            ends = run;
          })
    ]
