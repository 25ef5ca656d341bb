-- Rows that are written one after another.
use Rattle.std.proofs.Common.{◌≡◌, ℕ, ◌+◌, ◌*◌, List, [], ◌∷◌, ◌++◌, ◌<◌, length, get_or, take, sym, ap, ◌∙◌}
use Rattle.std.proofs.Common.{zero, suc, add-one, append-nil, append_assoc, arith}
use Rattle.bsc_chart.specs.Pictures.{row_group, rows_from}
use Rattle.bsc_chart.specs.PictureRows.{kept_in, rows_in}
use Rattle.bsc_chart.specs.declared.picture.rows.PictureRow.{PictureRow}

module _ {A : Type 0} where
  rows_suc : (c y : ℕ) (xs : List (PictureRow A)) (i : ℕ) (x : PictureRow A)
      → i < length xs → x ≡ get_or xs i x
      → rows_from c y (rows_in (take (suc i) xs))
      ≡ rows_from c y (rows_in (take i xs)) ++ row_group c (y + 24 * i) (kept_in x)
  rows_suc c y [] i x h e = absurd (omega arith)
  rows_suc c y (r ∷ rs) zero x h e =
      let place : y ≡ y + 24 * zero = omega arith in
      append-nil (row_group c y (kept_in r))
      ∙ ap (λ z. row_group c y (kept_in z)) (sym e)
      ∙ ap (λ m. row_group c m (kept_in x)) place
  rows_suc c y (r ∷ rs) (suc i) x h e =
      let place : y + 24 + 24 * i ≡ y + 24 * suc i = omega arith in
      ap (λ l. row_group c y (kept_in r) ++ l) (rows_suc c (y + 24) rs i x (omega arith) e)
      ∙ sym (append_assoc (row_group c y (kept_in r))
      (rows_from c (y + 24) (rows_in (take i rs))) (row_group c (y + 24 + 24 * i) (kept_in x)))
      ∙ ap (λ m. row_group c y (kept_in r) ++ rows_from c (y + 24) (rows_in (take i rs))
      ++ row_group c m (kept_in x)) place

  -- one more row
  pub rows_more : (c y : ℕ) (xs : List (PictureRow A)) (i : ℕ) (x : PictureRow A)
      → i < length xs → x ≡ get_or xs i x
      → rows_from c y (rows_in (take (i + 1) xs))
      ≡ rows_from c y (rows_in (take i xs)) ++ row_group c (y + 24 * i) (kept_in x)
  rows_more c y xs i x h e = rw add-one (rows_suc c y xs i x h e)
