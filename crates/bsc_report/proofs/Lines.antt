-- The lines of records, printed one by one.
use Rattle.std.proofs.Common.{◌≡◌, ℕ, ◌+◌, List, [], ◌∷◌, ◌++◌, Some, take, sym, ap, ◌∙◌, zero, suc, arith}
use Rattle.std.proofs.Common.{add-one, append-nil, append_assoc}
use Rattle.std.specs.List.{slice_get}
use Rattle.std.proofs.lemmas.Option.{same_Some}
use Rattle.bsc_report.specs.declared.record_lines.RecordLines.{RecordLines}
use Rattle.bsc_report.specs.Printed.{arrival_line, lines_from}

module _ (lines : RecordLines) (name : List ℕ) where
  lines_take_suc : (rs : List (List ℕ)) (n i : ℕ) (r : List ℕ) → slice_get rs i ≡ Some r
      → lines_from lines name n (take (suc i) rs)
      ≡ lines_from lines name n (take i rs) ++ arrival_line lines name (n + i) r
  lines_take_suc [] n i r e = cc
  lines_take_suc (q ∷ qs) n zero r e =
      let none : n + 0 ≡ n = omega arith in
      rw none (append-nil (arrival_line lines name n q)
      ∙ ap (arrival_line lines name n) (same_Some q r e))
  lines_take_suc (q ∷ qs) n (suc i) r e =
      let next : n + suc i ≡ suc n + i = omega arith in
      rw next (ap (λ l. arrival_line lines name n q ++ l) (lines_take_suc qs (suc n) i r e)
      ∙ sym (append_assoc (arrival_line lines name n q) (lines_from lines name (suc n) (take i qs))
      (arrival_line lines name (suc n + i) r)))

  -- one more record
  pub lines_take_more : (rs : List (List ℕ)) (n i : ℕ) (r : List ℕ) → slice_get rs i ≡ Some r
      → lines_from lines name n (take (i + 1) rs)
      ≡ lines_from lines name n (take i rs) ++ arrival_line lines name (n + i) r
  lines_take_more rs n i r e = rw add-one (lines_take_suc rs n i r e)
