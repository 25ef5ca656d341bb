use Rattle.std.proofs.Common.{◌≡◌, IsTrue, refl, sym, ap, subst, rules, arith}
use Rattle.sqlite.specs.Tree.{Trees}
use Rattle.sqlite.specs.Effect.{Database}
use Rattle.sqlite.specs.State.{HasCleanDisk, Survives}
use Rattle.sqlite.specs.Held.{state}
use Rattle.sqlite.proofs.StateLemmas.{survives_then}
use Rattle.sqlite.proofs.Callers.{survives_begin}
use Rattle.bsc_store.specs.Tables.{IsAfter}
use Rattle.bsc_store.proofs.Steps.{back_from, back_from_commit, at_error}
use Rattle.bsc_store.proofs.writing.commit.Goals as goal

pub returns-clause-kept : goal.returns-clause-kept
returns-clause-kept g c clean =
    let old = c.args.conn.now in
    let last = c.write_all.new.tx.conn.now in
    let begun = c.transaction-tx.ensures.begun in
    let ran = λ (clean : HasCleanDisk (state g.S.Store last)).
    let after : IsAfter g.S.Store c.args.marks c.args.step.now old (state g.S.Store last).now =
    record { last = last; ran = rw begun at (c.in_ok-last.ensures.ran clean (rw begun)); is = refl } in after in
    let end = c.commit.new.self.0 in
    let same : end ≡ c.conn-2-1.given.0 = search rules in
    let late : HasCleanDisk (state g.S.Store end) = search rules in
    subst (λ h. IsAfter g.S.Store c.args.marks c.args.step.now old (state g.S.Store h).committed) same
    (subst (IsAfter g.S.Store c.args.marks c.args.step.now old) (sym (c.in_ok-commit.ensures.ok late).1.committed_is) (ran (omega (arith, c.commit.ensures.survives.clean))))

pub returns-clause-crash : goal.returns-clause-crash
returns-clause-crash g c =
    let old = c.args.conn.now in
    let last = c.write_all.new.tx.conn.now in
    let begun = c.transaction-tx.ensures.begun in
    let ran = λ (clean : HasCleanDisk (state g.S.Store last)).
    let after : IsAfter g.S.Store c.args.marks c.args.step.now old (state g.S.Store last).now =
    record { last = last; ran = rw begun at (c.in_ok-last.ensures.ran clean (rw begun)); is = refl } in after in
    let P = λ (trees : Trees). (db : Database) × IsAfter g.S.Store c.args.marks c.args.step.now old db × (trees ≡ db.trees) in
    let whole = survives_then (state g.S.Store old) (state g.S.Store last) (state g.S.Store c.commit.new.self.0) _ _ P (λ _ db none. absurd none)
    (λ clean db is. (_, ran (omega (arith, c.commit.ensures.survives.clean)), is)) (survives_begin g.S.Store old (state g.S.Store last) _ (rw begun at c.write_all.ensures.survives)) c.commit.ensures.survives in
    let same : c.commit.new.self.0 ≡ c.conn-2-1.given.0 = search rules in
    subst (λ h. Survives (state g.S.Store old) (state g.S.Store h) P) same whole

pub returns-in_err-commit-clause-crash : goal.returns-in_err-commit-clause-crash
returns-in_err-commit-clause-crash g c =
    let old = c.args.conn.now in
    let last = c.write_all.new.tx.conn.now in
    let begun = c.transaction-tx.ensures.begun in
    let ran = λ (clean : HasCleanDisk (state g.S.Store last)).
    let after : IsAfter g.S.Store c.args.marks c.args.step.now old (state g.S.Store last).now =
    record { last = last; ran = rw begun at (c.in_ok-last.ensures.ran clean (rw begun)); is = refl } in after in
    let P = λ (trees : Trees). (db : Database) × IsAfter g.S.Store c.args.marks c.args.step.now old db × (trees ≡ db.trees) in
    let whole = survives_then (state g.S.Store old) (state g.S.Store last) (state g.S.Store c.commit.new.self.0) _ _ P (λ _ db none. absurd none)
    (λ clean db is. (_, ran (omega (arith, c.commit.ensures.survives.clean)), is)) (survives_begin g.S.Store old (state g.S.Store last) _ (rw begun at c.write_all.ensures.survives)) c.commit.ensures.survives in
    let same : c.commit.new.self.0 ≡ c.conn-2-1.given.0 = search rules in
    subst (λ h. Survives (state g.S.Store old) (state g.S.Store h) P) same whole

pub returns-in_err-last-clause-unchanged : goal.returns-in_err-last-clause-unchanged
returns-in_err-last-clause-unchanged g c clean is_open =
    let old = c.args.conn.now in
    let last = c.write_all.new.tx.conn.now in
    let begun = c.transaction-tx.ensures.begun in
    let end = c.drop-tx.new.self.0 in
    let same : end ≡ c.conn-1.given.0 = search rules in
    let late : HasCleanDisk (state g.S.Store end) = search rules in
    let stays : IsTrue (state g.S.Store end).is_open = subst (λ h. IsTrue (state g.S.Store h).is_open) (sym same) is_open in
    let kept = c.write_all.ensures.kept (omega (arith, c.drop-tx.ensures.survives.clean)) (rw begun) in
    let settled = λ (was : IsTrue (state g.S.Store c.transaction-tx.result.conn.now).is_open). c.is_autocommit.ensures.settled (search rules) (subst (λ h. IsTrue (state g.S.Store h).is_open) begun was) in
    let back = back_from (state g.S.Store old) (state g.S.Store c.transaction-tx.result.conn.now) (state g.S.Store last) (state g.S.Store end) (ap (λ h. (state g.S.Store h).committed) begun) settled kept (c.drop-tx.ensures.undone late) stays in
    at_error _ (subst (λ h. ((state g.S.Store h).now ≡ (state g.S.Store old).now) × ((state g.S.Store h).committed ≡ (state g.S.Store old).committed)) same back)

pub returns-in_err-commit-clause-unchanged : goal.returns-in_err-commit-clause-unchanged
returns-in_err-commit-clause-unchanged g c clean is_open =
    let old = c.args.conn.now in
    let last = c.write_all.new.tx.conn.now in
    let begun = c.transaction-tx.ensures.begun in
    let end = c.commit.new.self.0 in
    let same : end ≡ c.conn-2-1.given.0 = search rules in
    let late : HasCleanDisk (state g.S.Store end) = search rules in
    let stays : IsTrue (state g.S.Store end).is_open = subst (λ h. IsTrue (state g.S.Store h).is_open) (sym same) is_open in
    let early : HasCleanDisk (state g.S.Store last) = omega (arith, c.commit.ensures.survives.clean) in
    let kept = c.write_all.ensures.kept early (rw begun) in
    let settled = λ (was : IsTrue (state g.S.Store c.transaction-tx.result.conn.now).is_open). c.is_autocommit.ensures.settled (search rules) (subst (λ h. IsTrue (state g.S.Store h).is_open) begun was) in
    let back = back_from_commit (state g.S.Store old) (state g.S.Store c.transaction-tx.result.conn.now) (state g.S.Store last) (state g.S.Store end) c.in_err-commit.field-0.0 (ap (λ h. (state g.S.Store h).committed) begun) settled kept (c.in_ok-last.ensures.goes_on early (rw begun)) (c.in_err-commit.ensures.err late) stays in
    at_error _ (subst (λ h. ((state g.S.Store h).now ≡ (state g.S.Store old).now) × ((state g.S.Store h).committed ≡ (state g.S.Store old).committed)) same back)
