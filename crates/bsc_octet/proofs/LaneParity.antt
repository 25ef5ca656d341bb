-- Exclusive or and parity of octets in lanes and chunks.
use Rattle.std.proofs.Common.{◌≡◌, ℕ, zero, suc, ◌+◌, ◌*◌, ◌%◌, ◌/◌, ◌<◌, ◌≤◌, ◌==◌, cond, refl}
use Rattle.std.proofs.Common.{sym, ap, ◌∙◌}
use Rattle.std.proofs.Common.{arith, List, [], ◌∷◌, ◌++◌, bit_and, bit_xor, min, length, take}
use Rattle.std.proofs.Common.{get_or, map}
use Rattle.std.proofs.Common.{count_ones, IsTrue, append-nil, append_assoc, drop, drop-drop}
use Rattle.std.proofs.Common.{zero-mul}
use Rattle.std.proofs.Common.{length-drop, All, take-append-drop, Fits, w8}
use Rattle.std.specs.Int.{bit_at}
use Rattle.std.specs.Simd.Lanes.{fold_l, zip2, Each1}
use Rattle.std.specs.List.{concat, AllByRecursion}
use Rattle.std.specs.Simd.{first_chunks}
use Rattle.std.proofs.lemmas.Nat.{ones-le}
use Rattle.std.proofs.lemmas.Nat.Bits.{bit_at_and, bit_at_xor, bit_at-lt, bit_at_lowest}
use Rattle.std.proofs.lemmas.List.{take_more}
use Rattle.std.proofs.lemmas.List.Elements.{All-from_recursion, recursion_from_All}
use Rattle.std.proofs.lemmas.List.Sums.{sum_by-cons, sum_by-append}
use Rattle.std.proofs.lemmas.Bool.{eqb-true, eq-eqb}
use Rattle.bsc_octet.specs.Octet.{longitudinal_sum, with_bit, IsOdd}
use Rattle.bsc_octet.proofs.Sums.{longitudinal_sum_from_xor}
use Rattle.bsc_octet.proofs.Elements.{all_take, all_drop, all_append}

with_bit_cons : (i x : ℕ) (xs : List ℕ) → with_bit i (x ∷ xs) ≡ cond (bit_at x i == 1) 1 0
    + with_bit i xs
with_bit_cons i x xs = sum_by-cons (λ x. cond (bit_at x i == 1) 1 0) x xs

pub with_bit_append : (i : ℕ) (xs ys : List ℕ) → with_bit i (xs ++ ys) ≡ with_bit i xs
    + with_bit i ys
with_bit_append i xs ys = sum_by-append (λ x. cond (bit_at x i == 1) 1 0) xs ys

-- What a bit counts is the bit itself.
pub test_bit : (x i : ℕ) → cond (bit_at x i == 1) 1 0 ≡ bit_at x i
test_bit x i = by_bit (bit_at x i) (bit_at-lt x i)
  where
    by_bit : (b : ℕ) → b < 2 → cond (b == 1) 1 0 ≡ b
    by_bit zero l = refl
    by_bit (suc zero) l = refl
    by_bit (suc (suc b)) l = absurd (omega arith)

-- The exclusive or of all lanes.
pub fold_xor : (i a : ℕ) (xs : List ℕ) → bit_at (fold_l bit_xor a xs) i
    ≡ (bit_at a i + with_bit i xs) % 2
fold_xor i a [] = omega (arith, bit_at-lt a i)
fold_xor i a (x ∷ xs) =
    fold_xor i (bit_xor a x) xs ∙ rw (bit_at_xor a x i, with_bit_cons i x xs, test_bit x i)
    (omega arith)

-- The exclusive or of two lists, lane by lane.
pub zip_xor : (i : ℕ) (xs ys : List ℕ) → length xs ≡ length ys
    → with_bit i (zip2 bit_xor xs ys) % 2 ≡ (with_bit i xs + with_bit i ys) % 2
zip_xor i [] [] h = refl
zip_xor i [] (y ∷ ys) h = absurd (omega arith)
zip_xor i (x ∷ xs) [] h = absurd (omega arith)
zip_xor i (x ∷ xs) (y ∷ ys) h =
    rw (
      with_bit_cons i (bit_xor x y) (zip2 bit_xor xs ys),
      with_bit_cons i x xs,
      with_bit_cons i y ys,
      test_bit (bit_xor x y) i,
      test_bit x i,
      test_bit y i,
      bit_at_xor x y i,
    )
    (omega (arith, zip_xor i xs ys (omega arith)))

concat_push : (cs : List (List ℕ)) (c : List ℕ) → concat (cs ++ c ∷ []) ≡ concat cs ++ c
concat_push [] c = append-nil c
concat_push (d ∷ cs) c = ap (λ z. d ++ z) (concat_push cs c) ∙ sym (append_assoc d (concat cs) c)

pub chunk_more : (lanes : List ℕ) (cs : List (List ℕ)) (k i : ℕ) → k < length cs
    → length lanes ≡ length (get_or cs k []) → with_bit i lanes % 2
    ≡ with_bit i (concat (take k cs)) % 2
    → with_bit i (zip2 bit_xor lanes (get_or cs k [])) % 2
    ≡ with_bit i (concat (take (k + 1) cs)) % 2
chunk_more lanes cs k i l w h =
    zip_xor i lanes (get_or cs k []) w
    ∙ rw (
      take_more cs k [] l,
      concat_push (take k cs) (get_or cs k []),
      with_bit_append i (concat (take k cs)) (get_or cs k []),
    ) (omega arith)

-- ---- parity

map_same : (xs : List ℕ) → map (λ x. x) xs ≡ xs
map_same [] = refl
map_same (x ∷ xs) = ap (λ z. x ∷ z) (map_same xs)

pub fold_and : (a : ℕ) (xs : List ℕ) → bit_at (fold_l bit_and a xs) 0 ≡ 1
    → (bit_at a 0 ≡ 1) × AllByRecursion (λ x. x % 2 ≡ 1) xs
fold_and a [] h = (h, tt)
fold_and a (x ∷ xs) h =
    let r = fold_and (bit_and a x) xs h in
    let both : min (bit_at a 0) (bit_at x 0) ≡ 1 = sym (bit_at_and a x 0) ∙ r.0 in (
      omega (arith, bit_at-lt a 0, bit_at-lt x 0),
      (sym (bit_at_lowest x) ∙ omega (arith, bit_at-lt a 0, bit_at-lt x 0), r.1),
    )

pub and_fold : (a : ℕ) (xs : List ℕ) → bit_at a 0 ≡ 1 → AllByRecursion (λ x. x % 2 ≡ 1) xs
    → bit_at (fold_l bit_and a xs) 0 ≡ 1
and_fold a [] h p = h
and_fold a (x ∷ xs) h p =
    and_fold (bit_and a x) xs (bit_at_and a x 0 ∙ rw (h, bit_at_lowest x, p.0) refl) p.1

-- From the test of the lanes, each of which is a count of ones, to the parity of the octets.
pub odd_of : (f : ℕ → ℕ) → ((x : ℕ) → f x ≡ count_ones x) → (xs : List ℕ)
    → AllByRecursion (λ x. x % 2 ≡ 1) (map f xs) → AllByRecursion IsOdd xs
odd_of f e [] h = tt
odd_of f e (x ∷ xs) h = (ap (λ n. n % 2) (sym (e x)) ∙ h.0, odd_of f e xs h.1)

pub of_odd : (f : ℕ → ℕ) → ((x : ℕ) → f x ≡ count_ones x) → (xs : List ℕ) → AllByRecursion IsOdd xs
    → AllByRecursion (λ x. x % 2 ≡ 1) (map f xs)
of_odd f e [] h = tt
of_odd f e (x ∷ xs) h = (ap (λ n. n % 2) (e x) ∙ h.0, of_odd f e xs h.1)

pub lanes_odd : (xs : List ℕ)
    → IsTrue (fold_l bit_and 255 (map (λ x. x) (map count_ones xs)) % 2 == 1)
    → AllByRecursion IsOdd xs
lanes_odd xs h =
    let bit : bit_at (fold_l bit_and 255 (map (λ x. x) (map count_ones xs))) 0 ≡ 1 =
    bit_at_lowest (fold_l bit_and 255 (map (λ x. x) (map count_ones xs)))
    ∙ eqb-true (fold_l bit_and 255 (map (λ x. x) (map count_ones xs)) % 2) 1 h in
    let each : AllByRecursion (λ x. x % 2 ≡ 1) (map (λ x. x) (map count_ones xs)) =
    (fold_and 255 (map (λ x. x) (map count_ones xs)) bit).1 in
    odd_of count_ones (λ x. refl) xs (rw map_same at each)

pub odd_lanes : (xs : List ℕ) → AllByRecursion IsOdd xs
    → IsTrue (fold_l bit_and 255 (map (λ x. x) (map count_ones xs)) % 2 == 1)
odd_lanes xs h =
    let each : AllByRecursion (λ x. x % 2 ≡ 1) (map (λ x. x) (map count_ones xs)) =
    rw map_same (of_odd count_ones (λ x. refl) xs h) in
    let bit : bit_at (fold_l bit_and 255 (map (λ x. x) (map count_ones xs))) 0 ≡ 1 =
    and_fold 255 (map (λ x. x) (map count_ones xs)) refl each in
    eq-eqb (fold_l bit_and 255 (map (λ x. x) (map count_ones xs)) % 2) 1
    (sym (bit_at_lowest (fold_l bit_and 255 (map (λ x. x) (map count_ones xs)))) ∙ bit)

pub counts_fit : (xs : List ℕ) → AllByRecursion (λ x. x < 256) xs
    → Each1 (Fits w8) (map count_ones xs)
counts_fit [] h = tt
counts_fit (x ∷ xs) h = (record { fits = omega (arith, ones-le 8 x h.0) }, counts_fit xs h.1)

-- ---- chunks

pub chunks_whole : (n k : ℕ) (xs : List ℕ) → k * n ≤ length xs
    → concat (first_chunks n k xs) ++ drop (k * n) xs ≡ xs
chunks_whole n zero xs h = ap (λ z. drop z xs) (zero-mul n)
chunks_whole n (suc k) xs h =
    let step : suc k * n ≡ n + k * n = omega arith in
    rw (step, ← drop-drop (k * n) n xs)
    (append_assoc (take n xs) (concat (first_chunks n k (drop n xs))) (drop (k * n) (drop n xs))
    ∙ ap (λ z. take n xs ++ z) (chunks_whole n k (drop n xs) (omega (arith, length-drop n xs)))
    ∙ take-append-drop n xs)

pub all_chunks : (P : ℕ → Type 0) (n k : ℕ) (xs : List ℕ) → AllByRecursion P xs
    → AllByRecursion (AllByRecursion P) (first_chunks n k xs)
all_chunks P n zero xs h = tt
all_chunks P n (suc k) xs h = (all_take P n xs h, all_chunks P n k (drop n xs) (all_drop P n xs h))

pub all_concat : (P : ℕ → Type 0) (cs : List (List ℕ)) → AllByRecursion (AllByRecursion P) cs
    → AllByRecursion P (concat cs)
all_concat P [] h = tt
all_concat P (c ∷ cs) h = all_append P c (concat cs) h.0 (all_concat P cs h.1)

-- A list has odd parity if its chunks and the rest have.
pub odd_parts : (n k : ℕ) (xs : List ℕ) → k * n ≤ length xs
    → AllByRecursion (AllByRecursion IsOdd) (first_chunks n k xs)
    → AllByRecursion IsOdd (drop (k * n) xs)
    → AllByRecursion IsOdd xs
odd_parts n k xs h c d =
    rw chunks_whole at (all_append IsOdd (concat (first_chunks n k xs)) (drop (k * n) xs)
    (all_concat IsOdd (first_chunks n k xs) c) d)

-- The exclusive or of the chunks and that of the rest give the sum of the whole list.
pub parts_xor : (n k t u : ℕ) (xs : List ℕ) → k * n ≤ length xs
    → ((i : ℕ) → bit_at t i ≡ with_bit i (concat (first_chunks n k xs)) % 2)
    → ((i : ℕ) → bit_at u i ≡ with_bit i (drop (k * n) xs) % 2)
    → bit_and (bit_xor t u) 127 ≡ longitudinal_sum xs
parts_xor n k t u xs h c d = longitudinal_sum_from_xor (bit_xor t u) xs (λ i.
    let whole : with_bit i xs ≡ with_bit i (concat (first_chunks n k xs))
    + with_bit i (drop (k * n) xs) =
    ap (with_bit i) (sym (chunks_whole n k xs h))
    ∙ with_bit_append i (concat (first_chunks n k xs)) (drop (k * n) xs) in
    bit_at_xor t u i ∙ rw (c i, d i, whole) (omega arith))

-- The same for the parts that `as_chunks` returns.
pub both_odd : (xs : List ℕ) (chunks : List (List ℕ)) (rest : List ℕ)
    → chunks ≡ first_chunks 32 (length xs / 32) xs → rest ≡ drop (length xs / 32 * 32) xs
    → AllByRecursion (AllByRecursion IsOdd) chunks → All IsOdd rest → All IsOdd xs
both_odd xs chunks rest c r h k =
    All-from_recursion IsOdd xs (odd_parts 32 (length xs / 32) xs (omega arith) (rw c at h)
    (recursion_from_All IsOdd (drop (length xs / 32 * 32) xs) (rw r at k)))

pub chunks_odd : (xs : List ℕ) (chunks : List (List ℕ)) → chunks
    ≡ first_chunks 32 (length xs / 32) xs
    → All IsOdd xs → AllByRecursion (AllByRecursion IsOdd) chunks
chunks_odd xs chunks c h =
    rw c (all_chunks IsOdd 32 (length xs / 32) xs (recursion_from_All IsOdd xs h))

pub rest_odd : (xs rest : List ℕ) → rest ≡ drop (length xs / 32 * 32) xs → All IsOdd xs
    → All IsOdd rest
rest_odd xs rest r h =
    rw r (All-from_recursion IsOdd (drop (length xs / 32 * 32) xs)
    (all_drop IsOdd (length xs / 32 * 32) xs (recursion_from_All IsOdd xs h)))
