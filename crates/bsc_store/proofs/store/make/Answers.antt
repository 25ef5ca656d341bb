use Rattle.std.proofs.Common.{◌≡◌, ◌∙◌, IsTrue, refl, sym, ap, subst, rules, arith}
use Rattle.sqlite.specs.Tree.{Trees}
use Rattle.sqlite.specs.Effect.{Database}
use Rattle.sqlite.specs.State.{HasCleanDisk, Survives}
use Rattle.sqlite.specs.Held.{state}
use Rattle.sqlite.proofs.StateLemmas.{survives_then}
use Rattle.sqlite.proofs.Callers.{survives_begin}
use Rattle.bsc_store.specs.Making.{IsMade}
use Rattle.bsc_store.proofs.Steps.{executed}
use Rattle.bsc_store.proofs.store.make.Goals as goal

pub returns-clause-made : goal.returns-clause-made
returns-clause-made g c clean =
    let old = c.args.conn.now in
    let last = c.execute.new.self.conn.now in
    let made = c.execute_batch.new.self.conn.now in
    let begun = c.transaction-tx.ensures.begun in
    let whole = λ (early : HasCleanDisk (state g.S.Store last)).
    let first : HasCleanDisk (state g.S.Store made) = omega (arith, c.execute.ensures.survives.clean) in
    let inside : IsTrue (state g.S.Store made).in_transaction =
    c.in_ok-execute_batch.ensures.inside first ∙ ap (λ h. (state g.S.Store h).in_transaction) begun in
    let is : IsMade g.S.Store c.args.line.now old (state g.S.Store last).now = record {
      made = made;
      last = last;
      count = c.in_ok-execute.field-0;
      tables = rw begun at (c.in_ok-execute_batch.ensures.ran first);
      named = executed _ _ _ _ _ _ _ (search rules) (search rules) (c.in_ok-execute.ensures.runs early inside);
      is = refl;
    } in is in
    let end = c.commit.new.self.0 in
    let same : end ≡ c.conn-2-1.given.0 = search rules in
    let late : HasCleanDisk (state g.S.Store end) = search rules in
    let early : HasCleanDisk (state g.S.Store c.execute.new.self.conn.now) = omega (arith, c.commit.ensures.survives.clean) in
    subst (λ h. IsMade g.S.Store c.args.line.now c.args.conn.now (state g.S.Store h).committed) same
    (subst (IsMade g.S.Store c.args.line.now c.args.conn.now) (sym (c.in_ok-commit.ensures.ok late).1.committed_is) (whole early))

pub returns-clause-crash : goal.returns-clause-crash
returns-clause-crash g c =
    let old = c.args.conn.now in
    let last = c.execute.new.self.conn.now in
    let made = c.execute_batch.new.self.conn.now in
    let begun = c.transaction-tx.ensures.begun in
    let whole = λ (early : HasCleanDisk (state g.S.Store last)).
    let first : HasCleanDisk (state g.S.Store made) = omega (arith, c.execute.ensures.survives.clean) in
    let inside : IsTrue (state g.S.Store made).in_transaction =
    c.in_ok-execute_batch.ensures.inside first ∙ ap (λ h. (state g.S.Store h).in_transaction) begun in
    let is : IsMade g.S.Store c.args.line.now old (state g.S.Store last).now = record {
      made = made;
      last = last;
      count = c.in_ok-execute.field-0;
      tables = rw begun at (c.in_ok-execute_batch.ensures.ran first);
      named = executed _ _ _ _ _ _ _ (search rules) (search rules) (c.in_ok-execute.ensures.runs early inside);
      is = refl;
    } in is in
    let P = λ (trees : Trees). (db : Database) × IsMade g.S.Store c.args.line.now old db × (trees ≡ db.trees) in
    let ran = survives_then (state g.S.Store c.transaction-tx.result.conn.now) (state g.S.Store c.execute_batch.new.self.conn.now) (state g.S.Store last) _ _ (λ _. ⊥) (λ _ db none. none) (λ _ db none. none) c.execute_batch.ensures.survives c.execute.ensures.survives in
    let all = survives_then (state g.S.Store old) (state g.S.Store last) (state g.S.Store c.commit.new.self.0) _ _ P (λ _ db none. absurd none)
    (λ clean db is. (_, whole (omega (arith, c.commit.ensures.survives.clean)), is)) (survives_begin g.S.Store old (state g.S.Store last) _ (rw c.transaction-tx.ensures.begun at ran)) c.commit.ensures.survives in
    let same : c.commit.new.self.0 ≡ c.conn-2-1.given.0 = search rules in
    subst (λ h. Survives (state g.S.Store old) (state g.S.Store h) P) same all

pub returns-in_err-commit-clause-crash : goal.returns-in_err-commit-clause-crash
returns-in_err-commit-clause-crash g c =
    let old = c.args.conn.now in
    let last = c.execute.new.self.conn.now in
    let made = c.execute_batch.new.self.conn.now in
    let begun = c.transaction-tx.ensures.begun in
    let whole = λ (early : HasCleanDisk (state g.S.Store last)).
    let first : HasCleanDisk (state g.S.Store made) = omega (arith, c.execute.ensures.survives.clean) in
    let inside : IsTrue (state g.S.Store made).in_transaction =
    c.in_ok-execute_batch.ensures.inside first ∙ ap (λ h. (state g.S.Store h).in_transaction) begun in
    let is : IsMade g.S.Store c.args.line.now old (state g.S.Store last).now = record {
      made = made;
      last = last;
      count = c.in_ok-execute.field-0;
      tables = rw begun at (c.in_ok-execute_batch.ensures.ran first);
      named = executed _ _ _ _ _ _ _ (search rules) (search rules) (c.in_ok-execute.ensures.runs early inside);
      is = refl;
    } in is in
    let P = λ (trees : Trees). (db : Database) × IsMade g.S.Store c.args.line.now old db × (trees ≡ db.trees) in
    let ran = survives_then (state g.S.Store c.transaction-tx.result.conn.now) (state g.S.Store c.execute_batch.new.self.conn.now) (state g.S.Store last) _ _ (λ _. ⊥) (λ _ db none. none) (λ _ db none. none) c.execute_batch.ensures.survives c.execute.ensures.survives in
    let all = survives_then (state g.S.Store old) (state g.S.Store last) (state g.S.Store c.commit.new.self.0) _ _ P (λ _ db none. absurd none)
    (λ clean db is. (_, whole (omega (arith, c.commit.ensures.survives.clean)), is)) (survives_begin g.S.Store old (state g.S.Store last) _ (rw c.transaction-tx.ensures.begun at ran)) c.commit.ensures.survives in
    let same : c.commit.new.self.0 ≡ c.conn-2-1.given.0 = search rules in
    subst (λ h. Survives (state g.S.Store old) (state g.S.Store h) P) same all
