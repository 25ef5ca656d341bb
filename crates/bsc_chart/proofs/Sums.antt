-- Counts and times of rows, one more row at a time.
use Rattle.std.proofs.Common.{◌≡◌, ℕ, ◌+◌, List, [], ◌∷◌, ◌<◌, length, get_or, take, refl, sym, ap, ◌∙◌}
use Rattle.std.proofs.Common.{zero, suc, add-one, arith}
use Rattle.bsc_chart.specs.PictureRows.{kept_in, rows_in}
use Rattle.bsc_chart.specs.declared.picture.rows.PictureRow.{PictureRow}
use Rattle.bsc_chart.specs.Clocks.{ClockValue, clock_after, clock_from, milliseconds_from}
use Rattle.bsc_chart.specs.Clocks.{with_digit}
use Rattle.bsc_chart.specs.Counts.{WantedValue, count_of, one_if, wants}

plus_assoc : (a b c : ℕ) → a + b + c ≡ a + (b + c)
plus_assoc a b c = omega arith

module _ {A : Type 0} where
  count_suc : (w : WantedValue) (xs : List (PictureRow A)) (i : ℕ) (x : PictureRow A)
      → i < length xs → x ≡ get_or xs i x
      → count_of w (rows_in (take (suc i) xs))
      ≡ count_of w (rows_in (take i xs)) + one_if (wants w (kept_in x))
  count_suc w [] i x h e = absurd (omega arith)
  count_suc w (y ∷ ys) zero x h e =
      let same : one_if (wants w (kept_in y)) ≡ one_if (wants w (kept_in x)) =
      ap (λ z. one_if (wants w (kept_in z))) (sym e) in
      omega (arith, same)
  count_suc w (y ∷ ys) (suc i) x h e =
      let more = count_suc w ys i x (omega arith) e in
      ap (λ n. one_if (wants w (kept_in y)) + n) more
      ∙ sym (plus_assoc (one_if (wants w (kept_in y))) (count_of w (rows_in (take i ys)))
      (one_if (wants w (kept_in x))))

  -- the count of one more row
  pub count_more : (w : WantedValue) (xs : List (PictureRow A)) (i : ℕ) (x : PictureRow A)
      → i < length xs → x ≡ get_or xs i x
      → count_of w (rows_in (take (i + 1) xs))
      ≡ count_of w (rows_in (take i xs)) + one_if (wants w (kept_in x))
  count_more w xs i x h e = rw add-one (count_suc w xs i x h e)

  clock_suc : (c : ClockValue) (xs : List (PictureRow A)) (i : ℕ) (x : PictureRow A)
      → i < length xs → x ≡ get_or xs i x
      → clock_from c (rows_in (take (suc i) xs))
      ≡ clock_after (clock_from c (rows_in (take i xs))) (kept_in x)
  clock_suc c [] i x h e = absurd (omega arith)
  clock_suc c (y ∷ ys) zero x h e = ap (λ z. clock_after c (kept_in z)) (sym e)
  clock_suc c (y ∷ ys) (suc i) x h e =
      clock_suc (clock_after c (kept_in y)) ys i x (omega arith) e

  -- the clock after one more row
  pub clock_more : (c : ClockValue) (xs : List (PictureRow A)) (i : ℕ) (x : PictureRow A)
      → i < length xs → x ≡ get_or xs i x
      → clock_from c (rows_in (take (i + 1) xs))
      ≡ clock_after (clock_from c (rows_in (take i xs))) (kept_in x)
  clock_more c xs i x h e = rw add-one (clock_suc c xs i x h e)

milliseconds_suc : (n : ℕ) (xs : List ℕ) (i d : ℕ) → i < length xs
    → milliseconds_from n (take (suc i) xs)
    ≡ with_digit (milliseconds_from n (take i xs)) (get_or xs i d)
milliseconds_suc n [] i d h = absurd (omega arith)
milliseconds_suc n (y ∷ ys) zero d h = refl
milliseconds_suc n (y ∷ ys) (suc i) d h =
    milliseconds_suc (with_digit n y) ys i d (omega arith)

-- the milliseconds with one more digit
pub milliseconds_more : (n : ℕ) (xs : List ℕ) (i d : ℕ) → i < length xs
    → milliseconds_from n (take (i + 1) xs)
    ≡ with_digit (milliseconds_from n (take i xs)) (get_or xs i d)
milliseconds_more n xs i d h = rw add-one (milliseconds_suc n xs i d h)
