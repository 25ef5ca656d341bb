-- The events read so far, followed by those of the remaining lines.
use Rattle.std.proofs.Common.{◌≡◌, ◌+◌, ℕ, map, List, [], ◌∷◌, ◌++◌, Some, Ok, Err, true, false}
use Rattle.std.proofs.Common.{refl, ap, sym, ◌∙◌, append_assoc, append-nil}
use Rattle.std.proofs.lemmas.List.{map-append}
use Rattle.bsc_text.specs.InputLines.{is_skipped}
use Rattle.bsc_config.specs.Actions.{NumberedEvent, event_in, numbered}
use Rattle.bsc_config.specs.declared.script.action.Step.{Step}
use Rattle.bsc_config.specs.Events.{event_of}
use Rattle.bsc_config.specs.Script.{Reading, after_these, events_from}

pub after_these_more : (done : List NumberedEvent) (next : NumberedEvent) (rest : Reading)
    → after_these done (after_these (next ∷ []) rest) ≡ after_these (done ++ next ∷ []) rest
after_these_more done next (Ok more) = ap Ok (sym (append_assoc done (next ∷ []) more))
after_these_more done next (Err n) = refl

-- the next line is skipped
pub keep_line : {A : Type 0} {all : Reading} (old new : List (Step A)) (n : ℕ) (line : List ℕ)
    (more : List (List ℕ))
    → all ≡ after_these (map numbered old) (events_from n (line ∷ more)) → is_skipped line ≡ true
    → new ≡ old → all ≡ after_these (map numbered new) (events_from (n + 1) more)
keep_line old new n line more h e same = rw e at h
    ∙ ap (λ done. after_these (map numbered done) (events_from (n + 1) more)) (sym same)

-- the next line is an event
pub take_line : {A : Type 0} {all : Reading} (old new : List (Step A)) (step : Step A) (n : ℕ)
    (line : List ℕ) (more : List (List ℕ))
    → all ≡ after_these (map numbered old) (events_from n (line ∷ more)) → is_skipped line ≡ false
    → step.line ≡ n → event_of line ≡ Some (event_in step.action)
    → new ≡ old ++ step ∷ [] → all ≡ after_these (map numbered new) (events_from (n + 1) more)
take_line old new step n line more h e number event pushed =
    let here = rw (e, event) at h in
    let taken : map numbered new ≡ map numbered old
    ++ record { line = n; event = event_in step.action } ∷ [] =
    ap (map numbered) pushed ∙ map-append numbered old (step ∷ [])
    ∙ ap (λ k. map numbered old ++ record { line = k; event = event_in step.action } ∷ [])
    number in
    here ∙ after_these_more (map numbered old) (record { line = n; event = event_in step.action })
    (events_from (n + 1) more) ∙ ap (λ done. after_these done (events_from (n + 1) more))
    (sym taken)

-- no line remains
pub all_read : {all : Reading} (done : List NumberedEvent) (n : ℕ) → all
    ≡ after_these done (events_from n []) → all ≡ Ok done
all_read done n h = h ∙ ap Ok (append-nil done)
