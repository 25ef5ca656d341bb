-- Which of a terminal's addresses a call names, and which it does not.
use Rattle.std.proofs.Common.{◌≡◌, ◌≢◌, ◌∙◌, ◌⊎◌, inl, inr, ℕ, zero, suc, ◌<◌, ◌≤◌, sym, ap, refl}
use Rattle.std.proofs.Common.{Bool, true, false, List, [], length, get_or, slice_get, Option, None}
use Rattle.std.proofs.Common.{Some, nat_lt, if◌then◌else◌, arith}
use Rattle.std.proofs.lemmas.Bool.Decides.{nat_tests}
use Rattle.std.proofs.lemmas.List.Quantifiers.{position-Some}
use Rattle.std.proofs.lemmas.List.Sums.{position_or_len_is, fails_before_first}
use Rattle.std.proofs.lemmas.Option.{slice_get-get_or, slice_get_within, get_or_from_slice_get}
use Rattle.std.specs.Cmp.Lexicographic.{same_text, other_text}
use Rattle.std.specs.List.{Contains, position, position_or_len}
use Rattle.bsc_bid.specs.Terminal.{TerminalValue, own_addresses, HasDistinctAddresses}
use Rattle.bsc_tributary.specs.declared.called.Called.TheVariants.{Polling, Selection, Other}
use Rattle.bsc_tributary.specs.Called.{is_same, selection, called_as}

-- addresses that pass the test are the same
pub is_same-≡ : (a b : List ℕ) → is_same a b ≡ true → a ≡ b
is_same-≡ a b e = same_text a b (sym e)

is_same_told : (a b : List ℕ) (told : Bool) → is_same a b ≡ told →
    ((a ≡ b) × (told ≡ true)) ⊎ ((a ≢ b) × (told ≡ false))
is_same_told a b true e = inl (same_text a b (sym e), refl)
is_same_told a b false e = inr (other_text a b (sym e), refl)

pub is_same_refl : (a b : List ℕ) → a ≡ b → is_same a b ≡ true
is_same_refl a b e =
    elim (is_same_told a b (is_same a b) refl)
    [ inl same ↦ same.1 | inr differ ↦ absurd (differ.0 e) ]

pub is_same-≢ : (a b : List ℕ) → a ≢ b → is_same a b ≡ false
is_same-≢ a b ne =
    elim (is_same_told a b (is_same a b) refl)
    [ inl same ↦ absurd (ne same.0) | inr differ ↦ differ.1 ]

-- the first element that passes a test
pub position_of_first_passing : (p : List ℕ → Bool) (xs : List (List ℕ)) (i : ℕ) → i < length xs →
    ((k : ℕ) → k < i → p (get_or xs k []) ≡ false) → p (get_or xs i []) ≡ true → position p xs
    ≡ Some i
position_of_first_passing p xs i within before here =
    let first : position_or_len p xs ≡ i =
    position_or_len_is p xs i [] (omega arith) before (λ _. here) in
    let less : nat_lt i (length xs) ≡ true = grind (arith, nat_tests) in
    rw (first, less) refl

pub no_position_if_none_passes : (p : List ℕ → Bool) (xs : List (List ℕ)) →
    ((k : ℕ) → k < length xs → p (get_or xs k []) ≡ false) → position p xs ≡ None
no_position_if_none_passes p xs each =
    let all : position_or_len p xs ≡ length xs =
    position_or_len_is p xs (length xs) [] (omega arith) each
    (λ less. absurd (omega arith)) in
    let none : nat_lt (length xs) (length xs) ≡ false = grind (arith, nat_tests) in
    rw (all, none) refl

-- if a search finds no element, none passes
pub none_passes_without_position : {X : Type 0} → (p : X → Bool) (xs : List X) (k : ℕ) (d : X) → position p xs ≡ None
    → k < length xs → p (get_or xs k d) ≡ false
none_passes_without_position p xs k d none within =
    test_fails_without_position (nat_lt (position_or_len p xs) (length xs)) refl none
  where
    test_fails_without_position : (less : Bool) → nat_lt (position_or_len p xs) (length xs) ≡ less
        → (if less then Some (position_or_len p xs) else None) ≡ None → p (get_or xs k d) ≡ false
    test_fails_without_position true e found = absurd (cc)
    test_fails_without_position false e found = let far : length xs ≤ position_or_len p xs = grind (arith, nat_tests) in
        fails_before_first p xs k d (omega (arith, within, far))

-- a call that is not of the polling address names the first selection address that is the same
pub called_as_selection : (t : TerminalValue) (address : List ℕ) (s : ℕ) → is_same address t.poll
    ≡ false →
    position (is_same address) t.selects ≡ Some s → called_as t address ≡ Selection s
called_as_selection t address s poll at = rw poll (ap selection at)

pub called_as_other : (t : TerminalValue) (address : List ℕ) → is_same address t.poll ≡ false →
    position (is_same address) t.selects ≡ None → called_as t address ≡ Other
called_as_other t address poll nowhere = rw poll (ap selection nowhere)

from_Selection : (poll_step : Bool) (at : Option ℕ) (s : ℕ) →
    (if poll_step then Polling else selection at) ≡ Selection s → (poll_step ≡ false)
    × (at ≡ Some s)
from_Selection true at s e = absurd (cc)
from_Selection false None s e = absurd (cc)
from_Selection false (Some k) s e = (refl, let same : k ≡ s = cc in ap (λ n. Some n) same)

from_Other : (poll_step : Bool) (at : Option ℕ) → (if poll_step then Polling else selection at)
    ≡ Other →
    (poll_step ≡ false) × (at ≡ None)
from_Other true at e = absurd (cc)
from_Other false None e = (refl, refl)
from_Other false (Some k) e = absurd (cc)

-- a call that names the selection address of this number is a call of it
pub selection_is : (t : TerminalValue) (address : List ℕ) (s : ℕ) → called_as t address
    ≡ Selection s →
    slice_get t.selects s ≡ Some address
selection_is t address s e =
    let f = from_Selection (is_same address t.poll) (position (is_same address) t.selects) s e in
    let p = position-Some (is_same address) t.selects s [] f.1 in
    slice_get-get_or t.selects s [] p.0 ∙ ap (λ (a : List ℕ). Some a)
    (sym (is_same-≡ address (get_or t.selects s []) p.1))

-- and conversely, if the addresses differ
pub is_selection : (t : TerminalValue) (address : List ℕ) (s : ℕ) → HasDistinctAddresses t →
    slice_get t.selects s ≡ Some address → called_as t address ≡ Selection s
is_selection t address s distinct at =
    let within : s < length t.selects = slice_get_within t.selects s address at in
    let here : get_or t.selects s [] ≡ address = get_or_from_slice_get t.selects s address [] at in
    called_as_selection t address s
    (is_same-≢ address t.poll (λ e. distinct zero (suc s) [] (omega arith) (omega arith)
    (sym (here ∙ e))))
    (position_of_first_passing (is_same address) t.selects s within
    (λ k less. is_same-≢ address (get_or t.selects k [])
    (λ e. distinct (suc k) (suc s) [] (omega arith) (omega arith) (sym e ∙ sym here)))
    (is_same_refl address (get_or t.selects s []) (sym here)))

-- a call that names no address of the terminal is a call of none of them
place_is_none : (t : TerminalValue) (address : List ℕ) (k : ℕ) → is_same address t.poll ≡ false →
    position (is_same address) t.selects ≡ None → k < length (own_addresses t) →
    get_or (own_addresses t) k address ≡ address → ⊥
place_is_none t address zero poll nowhere within here = let yes : is_same address t.poll ≡
    true = is_same_refl address t.poll (sym here) in cc
place_is_none t address (suc k) poll nowhere within here =
    let less : k < length t.selects = omega arith in
    let there : get_or t.selects k [] ≡ address = get_or_from_slice_get t.selects k address []
    (slice_get-get_or t.selects k address less ∙ ap (λ (a : List ℕ). Some a) here) in
    let yes : is_same address (get_or t.selects k []) ≡ true =
    is_same_refl address (get_or t.selects k [])
    (sym there) in
    let no : is_same address (get_or t.selects k []) ≡ false =
    none_passes_without_position (is_same address) t.selects k [] nowhere less in
    cc

pub other_address_is_not_own : (t : TerminalValue) (address : List ℕ) → called_as t address ≡ Other
    → Contains (own_addresses t) address → ⊥
other_address_is_not_own t address e there =
    let f = from_Other (is_same address t.poll) (position (is_same address) t.selects) e in
    place_is_none t address there.0 f.0 f.1 there.1 there.2

pub not_own_is_other : (t : TerminalValue) (address : List ℕ) → (Contains (own_addresses t) address → ⊥) →
    called_as t address ≡ Other
not_own_is_other t address none =
    called_as_other t address
    (is_same-≢ address t.poll (λ e. none (zero, omega arith, sym e)))
    (no_position_if_none_passes (is_same address) t.selects
    (λ k within. is_same-≢ address (get_or t.selects k [])
    (λ e. none (
      suc k,
      omega arith,
      get_or_from_slice_get t.selects k (get_or t.selects k []) address
          (slice_get-get_or t.selects k [] within) ∙ sym e,
    ))))

-- if a call of each selection address names that address, the addresses differ
distinct_selects_by_call : (t : TerminalValue)
    → ((k : ℕ) → k < length t.selects → called_as t (get_or t.selects k []) ≡
    Selection k) → (i j : ℕ) (d : List ℕ) → i < j → j < length (own_addresses t) →
    get_or (own_addresses t) i d ≢ get_or (own_addresses t) j d
distinct_selects_by_call t each i zero d less within e = absurd (omega arith)
distinct_selects_by_call t each zero (suc j) d less within e =
    let there : j < length t.selects = omega arith in
    let f = from_Selection (is_same (get_or t.selects j []) t.poll)
    (position (is_same (get_or t.selects j [])) t.selects) j (each j there) in
    let here : get_or t.selects j d ≡ get_or t.selects j [] = get_or_from_slice_get t.selects j
    (get_or t.selects j []) d (slice_get-get_or t.selects j [] there) in
    let same : is_same (get_or t.selects j []) t.poll ≡ true =
    is_same_refl (get_or t.selects j []) t.poll
    (sym (e ∙ here)) in
    cc
distinct_selects_by_call t each (suc i) (suc j) d less within e =
    let there : j < length t.selects = omega arith in
    let before : i < j = omega arith in
    let also : i < length t.selects = omega arith in
    let f = from_Selection (is_same (get_or t.selects j []) t.poll)
    (position (is_same (get_or t.selects j [])) t.selects) j (each j there) in
    let p = position-Some (is_same (get_or t.selects j [])) t.selects j [] f.1 in
    let here : get_or t.selects j d ≡ get_or t.selects j [] = get_or_from_slice_get t.selects j
    (get_or t.selects j []) d (slice_get-get_or t.selects j [] there) in
    let first : get_or t.selects i d ≡ get_or t.selects i [] = get_or_from_slice_get t.selects i
    (get_or t.selects i []) d (slice_get-get_or t.selects i [] also) in
    let same : is_same (get_or t.selects j []) (get_or t.selects i []) ≡ true =
    is_same_refl (get_or t.selects j [])
    (get_or t.selects i []) (sym here ∙ sym e ∙ first) in
    let other : is_same (get_or t.selects j []) (get_or t.selects i []) ≡ false = p.2 i before in
    cc

pub are_distinct : (t : TerminalValue)
    → ((k : ℕ) → k < length t.selects → called_as t (get_or t.selects k []) ≡
    Selection k) → HasDistinctAddresses t
are_distinct t each = λ i j d less within. distinct_selects_by_call t each i j d less within

pub is_selection_at : (t : TerminalValue) (s : ℕ) → HasDistinctAddresses t → s < length t.selects →
    called_as t (get_or t.selects s []) ≡ Selection s
is_selection_at t s distinct within = is_selection t (get_or t.selects s []) s distinct
    (slice_get-get_or t.selects s [] within)
