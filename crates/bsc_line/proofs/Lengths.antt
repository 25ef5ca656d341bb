-- The numbers of transmissions of a visit and of a round, step by step.
use Rattle.std.proofs.Common.{◌≡◌, ◌≢◌, ℕ, zero, suc, ◌+◌, ◌^◌, ◌<◌, Bool, true, false, nat_eq}
use Rattle.std.proofs.Common.{List, [], ◌∷◌, length, drop, filter, get_or, slice_set, refl, sym, ◌∙◌, ap}
use Rattle.std.proofs.Common.{arith, if◌then◌else◌, get_or-set_other, get_or-set_same}
use Rattle.std.proofs.lemmas.Bool.Decides.{nat_tests}
use Rattle.std.proofs.Math.Seq.{drop-cons}
use Rattle.bsc_bid.specs.declared.limits.TheConstants.{MAX_TERMINALS}
use Rattle.bsc_control.specs.CallOrder.{is_polled}
use Rattle.bsc_line_model.specs.Line.{LineValue}
use Rattle.bsc_line_model.specs.Rounds.{visit_length, entries_length}
use Rattle.bsc_line_model.specs.Rounds.{is_seen, SeesLast, SeesEarlier}
use Rattle.bsc_line.specs.Counts.{entry_length, in_u64}

-- the terminals of the first entries, in reverse order
abbrev pub seen_before : List ℕ → ℕ → List ℕ
seen_before list zero = []
seen_before list (suc n) = get_or list n 0 ∷ seen_before list n

-- sums that saturate in 64 bits
pub saturating_sum_of_three : (a b c : ℕ) → in_u64 (in_u64 (a + b) + c) ≡ in_u64 (a + (b + c))
saturating_sum_of_three a b c = omega arith

pub saturated_from_zero : (a : ℕ) → in_u64 (0 + a) ≡ in_u64 a
saturated_from_zero a = omega arith

pub saturated_with_zero : (a : ℕ) → a < 2 ^ 64 → in_u64 (a + 0) ≡ a
saturated_with_zero a less = omega (arith, less)

-- numbers that pass the test are equal
equal_numbers_by_test : (a b : ℕ) → nat_eq a b ≡ true → a ≡ b
equal_numbers_by_test a b is = grind (arith, nat_tests)

different_numbers_by_test : (a b : ℕ) → nat_eq a b ≡ false → a ≢ b
different_numbers_by_test a b is = grind (arith, nat_tests)

-- the terminals of the entries from k on that are polled
abbrev pub polled_from : LineValue → List ℕ → ℕ → List ℕ
polled_from l list k = filter (is_polled l.control) (drop k list)

-- lists that have the same terminals that are polled among them
abbrev SeeAlike : LineValue → List ℕ → List ℕ → Type 0
SeeAlike l one other =
    (t : ℕ) → is_polled l.control t ≡ true → is_seen t one ≡ is_seen t other

see_alike_with : (last : SeesLast) (earlier : SeesEarlier) (l : LineValue) (one other : List ℕ)
    (e : ℕ) → SeeAlike l one other → SeeAlike l (e ∷ one) (e ∷ other)
see_alike_with last earlier l one other e alike t on_list = by_test (nat_eq t e) refl
  where
    by_test : (same : Bool) → nat_eq t e ≡ same → is_seen t (e ∷ one) ≡ is_seen t (e ∷ other)
    by_test true is =
        let same : t ≡ e = equal_numbers_by_test t e is in
        last t e one same ∙ sym (last t e other same)
    by_test false is =
        let differ : t ≢ e = different_numbers_by_test t e is in
        earlier t e one differ ∙ alike t on_list ∙ sym (earlier t e other differ)

-- the length of entries that are polled depends on the polled terminals only
same_length : (last : SeesLast) (earlier : SeesEarlier) (l : LineValue) (one other ts : List ℕ)
    → SeeAlike l one other
    → entries_length l one (filter (is_polled l.control) ts)
    ≡ entries_length l other (filter (is_polled l.control) ts)
same_length last earlier l one other [] alike = refl
same_length last earlier l one other (t ∷ ts) alike =
    by_flag (same_length last earlier l one other ts alike)
    (same_length last earlier l (t ∷ one) (t ∷ other) ts
    (see_alike_with last earlier l one other t alike)) (is_polled l.control t) refl
  where
    by_flag : entries_length l one (filter (is_polled l.control) ts)
        ≡ entries_length l other (filter (is_polled l.control) ts)
        → entries_length l (t ∷ one) (filter (is_polled l.control) ts)
        ≡ entries_length l (t ∷ other) (filter (is_polled l.control) ts)
        → (b : Bool) → is_polled l.control t ≡ b
        → entries_length l one
        (if b then t ∷ filter (is_polled l.control) ts else filter (is_polled l.control) ts)
        ≡ entries_length l other
        (if b then t ∷ filter (is_polled l.control) ts else filter (is_polled l.control) ts)
    by_flag rest more true is =
        ap (λ (b : Bool). (if b then 2 else visit_length l t)
        + entries_length l (t ∷ one) (filter (is_polled l.control) ts)) (alike t is)
        ∙ ap (λ (n : ℕ). (if is_seen t other then 2 else visit_length l t) + n) more
    by_flag rest more false is = rest

-- a terminal that is not polled makes no difference
see_alike_without : (earlier : SeesEarlier) (l : LineValue) (seen : List ℕ) (e : ℕ)
    → is_polled l.control e ≡ false → SeeAlike l seen (e ∷ seen)
see_alike_without earlier l seen e off t on_list =
    sym (earlier t e seen (λ same.
    let both : true ≡ false = sym on_list ∙ ap (is_polled l.control) same ∙ off in
    cc))

length_with_next_entry : (last : SeesLast) (earlier : SeesEarlier) (l : LineValue)
    (list seen : List ℕ) (k : ℕ) → k < length list
    → entries_length l seen (polled_from l list k)
    ≡ entry_length l (is_seen (get_or list k 0) seen) (get_or list k 0)
    + entries_length l (get_or list k 0 ∷ seen) (polled_from l list (k + 1))
length_with_next_entry last earlier l list seen k less =
    let next : suc k ≡ k + 1 = omega arith in
    ap (λ (ts : List ℕ). entries_length l seen (filter (is_polled l.control) ts))
    (drop-cons list k 0 less ∙ ap (λ (n : ℕ). get_or list k 0 ∷ drop n list) next)
    ∙ by_flag (is_polled l.control (get_or list k 0)) refl
  where
    by_flag : (b : Bool) → is_polled l.control (get_or list k 0) ≡ b
        → entries_length l seen
        (if b then get_or list k 0 ∷ polled_from l list (k + 1) else polled_from l list (k + 1))
        ≡ (if b then (if is_seen (get_or list k 0) seen then 2
        else visit_length l (get_or list k 0)) else 0)
        + entries_length l (get_or list k 0 ∷ seen) (polled_from l list (k + 1))
    by_flag true is = refl
    by_flag false is =
        let rest : entries_length l seen (polled_from l list (k + 1))
        ≡ entries_length l (get_or list k 0 ∷ seen) (polled_from l list (k + 1)) =
        same_length last earlier l seen (get_or list k 0 ∷ seen) (drop (k + 1) list)
        (see_alike_without earlier l seen (get_or list k 0) is) in
        omega (arith, rest)

-- one more entry
pub entry_added : (last : SeesLast) (earlier : SeesEarlier) (l : LineValue) (list : List ℕ)
    (k total r e : ℕ) (b : Bool) → k < length list → e
    ≡ get_or list k 0 → b ≡ is_seen e (seen_before list k) → r
    ≡ in_u64 (total + entry_length l b e) →
    in_u64 (r + entries_length l (seen_before list (k + 1)) (polled_from l list (k + 1)))
    ≡ in_u64 (total + entries_length l (seen_before list k) (polled_from l list k))
entry_added last earlier l list k total r e b less named marked is =
    let first : ℕ = get_or list k 0 in
    let before : List ℕ = seen_before list k in
    let rest : ℕ = entries_length l (first ∷ before) (polled_from l list (k + 1)) in
    let this : ℕ = entry_length l (is_seen first before) first in
    let next : suc k ≡ k + 1 = omega arith in
    let more : seen_before list (k + 1) ≡ first ∷ before =
    ap (λ (n : ℕ). seen_before list n) (sym next) in
    let now : r ≡ in_u64 (total + this) =
    is ∙ ap (λ (c : Bool). in_u64 (total + entry_length l c e)) marked
    ∙ ap (λ (t : ℕ). in_u64 (total + entry_length l (is_seen t before) t))
    named in
    ap (λ (seen : List ℕ). in_u64 (r + entries_length l seen (polled_from l list (k + 1)))) more
    ∙ ap (λ (n : ℕ). in_u64 (n + rest)) now ∙ saturating_sum_of_three total this rest
    ∙ ap (λ (n : ℕ). in_u64 (total + n))
    (sym (length_with_next_entry last earlier l list before k less))

-- the terminal of this entry is marked
pub terminal_of_entry_is_marked : SeesLast → SeesEarlier → (list : List ℕ) (seen : List Bool) (k e : ℕ) → length seen
    ≡ MAX_TERMINALS → e < MAX_TERMINALS → e ≡ get_or list k 0
    → ((t : ℕ) → t < MAX_TERMINALS → get_or seen t false ≡ is_seen t (seen_before list k)) →
    (t : ℕ) → t < MAX_TERMINALS → get_or (slice_set seen e true) t false
    ≡ is_seen t (seen_before list (k + 1))
terminal_of_entry_is_marked last earlier list seen k e sized there named marked t less = by_test (nat_eq t e) refl
  where
    more : seen_before list (k + 1) ≡ e ∷ seen_before list k
    more = let next : suc k ≡ k + 1 = omega arith in ap (λ (n : ℕ). seen_before list n) (sym next)
        ∙ ap (λ (n : ℕ). n ∷ seen_before list k) (sym named)

    by_test : (same : Bool) → nat_eq t e ≡ same → get_or (slice_set seen e true) t false
        ≡ is_seen t (seen_before list (k + 1))
    by_test true is =
        let same : t ≡ e = equal_numbers_by_test t e is in
        ap (λ (n : ℕ). get_or (slice_set seen e true) n false) same
        ∙ get_or-set_same seen e true false (omega (arith, there, sized))
        ∙ sym (last t e (seen_before list k) same)
        ∙ ap (λ (ts : List ℕ). is_seen t ts) (sym more)
    by_test false is =
        let differ : t ≢ e = different_numbers_by_test t e is in
        get_or-set_other seen e t true false differ ∙ marked t less
        ∙ sym (earlier t e (seen_before list k) differ)
        ∙ ap (λ (ts : List ℕ). is_seen t ts) (sym more)
