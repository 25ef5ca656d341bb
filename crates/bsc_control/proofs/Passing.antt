-- Which entries of a poll list are passed over.
use Rattle.std.proofs.Common.{◌≡◌, ℕ, zero, suc, ◌+◌, ◌-◌, ◌≤◌, ◌<◌, Bool, true, false, nat_eq, nat_lt}
use Rattle.std.proofs.Common.{List, [], ◌∷◌, ◌++◌, length, take, drop, get_or, position, Option}
use Rattle.std.proofs.Common.{option_map, None, Some, refl, sym, ◌∙◌, ap, subst, arith, length-drop}
use Rattle.std.proofs.Common.{length-append, append_assoc, if◌then◌else◌}
use Rattle.std.proofs.Math.Seq.{drop-cons}
use Rattle.std.proofs.lemmas.Bool.Decides.{nat_tests}
use Rattle.std.proofs.lemmas.List.{append-nil, drop_all, get_or_append_left, get_or-append_right}
use Rattle.std.proofs.lemmas.List.{get_or-drop, get_or-take, length-take-le, take-append-drop}
use Rattle.std.proofs.lemmas.List.{take_more}
use Rattle.std.proofs.lemmas.List.Quantifiers.{position-Some}
use Rattle.bsc_control.specs.CallOrder.{is_polled, entries_from, passed_over, place_further}
use Rattle.bsc_control.specs.CallOrder.{place_past, polled_place, wrapped, first_call}
use Rattle.bsc_control.specs.Control.{ControlValue, peer_at, terminal_of_entry}
use Rattle.bsc_control.specs.Table.{make_call_step, call_past_step}
use Rattle.bsc_control.proofs.Positions.{position_at_front, position_later, position_alike}
use Rattle.bsc_control.proofs.Positions.{position_in_front, position_behind, none_passes}

-- as many entries come from a place on as the list has
entries_from_all : (list : List ℕ) (place : ℕ) → place ≤ length list
    → length (entries_from list place) ≡ length list
entries_from_all list place within =
    let before : length (take place list) ≡ place = length-take-le place list within in
    omega (
      arith,
      length-append (drop place list) (take place list),
      length-drop place list,
      before,
      within,
    )

-- fewer entries are passed over than the list has
pub passed_within : (c : ControlValue) (place more : ℕ) → place ≤ length c.poll_list
    → passed_over c place ≡ Some more → more < length c.poll_list
passed_within c place more within is =
    let found = position-Some (is_polled c) (entries_from c.poll_list place) more 0 is in
    omega (arith, found.0, entries_from_all c.poll_list place within)

-- a place further on is one in the list
pub further_within : (count place more : ℕ) → place < count → more < count
    → place_further count place more < count
further_within count place more within less = by_end (nat_lt (place + more) count) refl
  where
    by_end : (b : Bool) → nat_lt (place + more) count ≡ b
        → (if b then place + more else place + more - count) < count
    by_end true e = grind (arith, nat_tests)
    by_end false e = omega (arith, within, less)

-- no entry further on is the entry itself
pub no_further : (count place : ℕ) → place < count → place_further count place 0 ≡ place
no_further count place within = by_end (nat_lt (place + 0) count) refl
  where
    by_end : (b : Bool) → nat_lt (place + 0) count ≡ b
        → (if b then place + 0 else place + 0 - count) ≡ place
    by_end true e = omega arith
    by_end false e = absurd (grind (arith, nat_tests))

-- the entry that comes after this many is the one at the place further on
pub entry_further : (list : List ℕ) (place more : ℕ) → place < length list → more < length list
    → get_or (entries_from list place) more 0
    ≡ get_or list (place_further (length list) place more) 0
entry_further list place more within less = by_end (nat_lt (place + more) (length list)) refl
  where
    by_end : (b : Bool) → nat_lt (place + more) (length list) ≡ b
        → get_or (entries_from list place) more 0
        ≡ get_or list (if b then place + more else place + more - length list) 0
    by_end true e =
        let before_end : place + more < length list = grind (arith, nat_tests) in
        let there : more < length (drop place list) =
        omega (arith, length-drop place list, before_end) in
        get_or_append_left (drop place list) (take place list) 0 more there
        ∙ get_or-drop place list more 0
    by_end false e =
        let past_end : length list ≤ place + more = grind (arith, nat_tests) in
        let rest : ℕ = length list - place in
        let count : length (drop place list) ≡ rest = length-drop place list in
        let left : more - rest ≡ place + more - length list = omega (arith, within, past_end) in
        get_or-append_right (drop place list) (take place list) rest more 0 count
        (omega (arith, within, past_end))
        ∙ get_or-take place list (more - rest) 0 (omega (arith, within, less, past_end))
        ∙ ap (λ (k : ℕ). get_or list k 0) left

-- the terminal of the entry to which is passed is polled
pub polled_further : (c : ControlValue) (place more : ℕ) → place < length c.poll_list
    → passed_over c place ≡ Some more
    → is_polled c (terminal_of_entry c (place_further (length c.poll_list) place more)) ≡ true
polled_further c place more within is =
    let found = position-Some (is_polled c) (entries_from c.poll_list place) more 0 is in
    let less : more < length c.poll_list =
    passed_within c place more (omega (arith, within)) is in
    subst (λ (t : ℕ). is_polled c t ≡ true) (entry_further c.poll_list place more within less)
    found.1

-- the terminal of the entry itself is not polled if entries are passed over
pub unpolled_here : (c : ControlValue) (place more : ℕ) → place < length c.poll_list
    → passed_over c place ≡ Some (suc more) → is_polled c (terminal_of_entry c place) ≡ false
unpolled_here c place more within is =
    let found = position-Some (is_polled c) (entries_from c.poll_list place) (suc more) 0 is in
    let some : 0 < length c.poll_list = omega (arith, within) in
    subst (λ (t : ℕ). is_polled c t ≡ false)
    (entry_further c.poll_list place 0 within some
    ∙ ap (λ (k : ℕ). get_or c.poll_list k 0) (no_further (length c.poll_list) place within))
    (found.2 0 (omega arith))

-- stations with the same poll list that poll the same terminals pass over the same entries
pub passed_alike : (c d : ControlValue) → d.poll_list ≡ c.poll_list
    → ((t : ℕ) → (peer_at d t).polled ≡ (peer_at c t).polled) → (place : ℕ)
    → passed_over d place ≡ passed_over c place
passed_alike c d list same place =
    ap (λ (l : List ℕ). position (is_polled d) (entries_from l place)) list
    ∙ position_alike (is_polled d) (is_polled c) same (entries_from c.poll_list place)

pub polled_place_alike : (c d : ControlValue) → d.poll_list ≡ c.poll_list
    → ((t : ℕ) → (peer_at d t).polled ≡ (peer_at c t).polled) → (place : ℕ)
    → polled_place d place ≡ polled_place c place
polled_place_alike c d list same place =
    ap (λ (l : List ℕ). place_past (length l) place (passed_over d place)) list
    ∙ ap (place_past (length c.poll_list) place) (passed_alike c d list same place)

-- the entry at this place, and then those after it
entries_from_here : (list : List ℕ) (place : ℕ) → place < length list
    → entries_from list place
    ≡ get_or list place 0 ∷ (drop (place + 1) list ++ take place list)
entries_from_here list place within =
    let next : suc place ≡ place + 1 = omega arith in
    ap (λ (xs : List ℕ). xs ++ take place list)
    (drop-cons list place 0 within
    ∙ ap (λ (k : ℕ). get_or list place 0 ∷ drop k list) next)

-- if the terminal of an entry is polled, none is passed over
pub passes_none : (c : ControlValue) (place : ℕ) → place < length c.poll_list
    → is_polled c (terminal_of_entry c place) ≡ true → passed_over c place ≡ Some 0
passes_none c place within is =
    ap (position (is_polled c)) (entries_from_here c.poll_list place within)
    ∙ position_at_front (is_polled c) (terminal_of_entry c place)
    (drop (place + 1) c.poll_list ++ take place c.poll_list) is

-- if a terminal in the list is polled, a call is made
pub some_polled : (c : ControlValue) (place there : ℕ) → place < length c.poll_list
    → there < length c.poll_list → is_polled c (terminal_of_entry c there) ≡ true
    → passed_over c place ≡ None → ⊥
some_polled c place there within inside is none =
    by_end (nat_lt there place) refl
  where
    list : List ℕ
    list = c.poll_list

    reached : (more : ℕ) → more < length c.poll_list
        → place_further (length c.poll_list) place more ≡ there → ⊥
    reached more less at =
        let no : is_polled c (get_or (entries_from c.poll_list place) more 0) ≡ false =
        none_passes (is_polled c) (entries_from c.poll_list place) none more 0
        (omega (arith, less, within, entries_from_all c.poll_list place (omega (arith, within)))) in
        let same : get_or (entries_from c.poll_list place) more 0 ≡ terminal_of_entry c there =
        entry_further c.poll_list place more within less
        ∙ ap (λ (k : ℕ). get_or c.poll_list k 0) at in
        let both : true ≡ false = sym is ∙ ap (is_polled c) (sym same) ∙ no in
        cc

    at_place : (more : ℕ) (b : Bool) → nat_lt (place + more) (length c.poll_list) ≡ b
        → (if b then place + more else place + more - length c.poll_list) ≡ there
        → place_further (length c.poll_list) place more ≡ there
    at_place more b e at =
        ap (λ (x : Bool). if x then place + more else place + more - length c.poll_list) e ∙ at

    by_end : (b : Bool) → nat_lt there place ≡ b → ⊥
    by_end true e =
        let before : there < place = grind (arith, nat_tests) in
        let more : ℕ = length c.poll_list - place + there in
        let past : nat_lt (place + more) (length c.poll_list) ≡ false =
        grind (arith, nat_tests, within, inside, before) in
        reached more (omega (arith, within, before))
        (at_place more false past (omega (arith, within, before)))
    by_end false e =
        let after : place ≤ there = grind (arith, nat_tests) in
        let more : ℕ = there - place in
        let fits : nat_lt (place + more) (length c.poll_list) ≡ true =
        grind (arith, nat_tests, within, inside, after) in
        reached more (omega (arith, inside, after))
        (at_place more true fits (omega (arith, after)))

-- the entries that come from the next place on: those after this one, and then this one
entries_from_next : (list : List ℕ) (place : ℕ) → place < length list
    → entries_from list (wrapped (length list) (place + 1))
    ≡ (drop (place + 1) list ++ take place list) ++ get_or list place 0 ∷ []
entries_from_next list place within = by_last (nat_eq (place + 1) (length list)) refl
  where
    more : take (place + 1) list ≡ take place list ++ get_or list place 0 ∷ []
    more = take_more list place 0 within

    by_last : (b : Bool) → nat_eq (place + 1) (length list) ≡ b
        → entries_from list (if b then 0 else place + 1)
        ≡ (drop (place + 1) list ++ take place list) ++ get_or list place 0 ∷ []
    by_last true e =
        let end : place + 1 ≡ length list = grind (arith, nat_tests) in
        let none : drop (place + 1) list ≡ [] = drop_all (place + 1) list (omega (arith, end)) in
        let all : list ≡ take (place + 1) list =
        sym (take-append-drop (place + 1) list)
        ∙ ap (λ (xs : List ℕ). take (place + 1) list ++ xs) none
        ∙ append-nil (take (place + 1) list) in
        append-nil list ∙ all ∙ more
        ∙ ap (λ (xs : List ℕ). (xs ++ take place list) ++ get_or list place 0 ∷ []) (sym none)
    by_last false e =
        ap (λ (xs : List ℕ). drop (place + 1) list ++ xs) more
        ∙ sym (append_assoc (drop (place + 1) list) (take place list)
        (get_or list place 0 ∷ []))

-- one entry further on from the place after it is two further on from it, and so on
further_from_next : (count place more : ℕ) → place < count → 1 + more < count
    → place_further count place (1 + more)
    ≡ place_further count (wrapped count (place + 1)) more
further_from_next count place more within less =
    by_tests (nat_eq (place + 1) count) (nat_lt (place + (1 + more)) count) refl refl
  where
    by_tests : (last fits : Bool) → nat_eq (place + 1) count ≡ last
        → nat_lt (place + (1 + more)) count ≡ fits
        → (if fits then place + (1 + more) else place + (1 + more) - count)
        ≡ place_further count (if last then 0 else place + 1) more
    by_tests true true e f = absurd (grind (arith, nat_tests))
    by_tests true false e f =
        let end : place + 1 ≡ count = grind (arith, nat_tests) in
        let fits : nat_lt (0 + more) count ≡ true = grind (arith, nat_tests, less) in
        let left : place + (1 + more) - count ≡ 0 + more = omega (arith, end) in
        left ∙ sym (ap (λ (b : Bool). if b then 0 + more else 0 + more - count) fits)
    by_tests false true e f =
        let same : place + (1 + more) ≡ place + 1 + more = omega arith in
        let fits : nat_lt (place + 1 + more) count ≡ true =
        ap (λ (k : ℕ). nat_lt k count) (sym same) ∙ f in
        same ∙ sym (ap (λ (b : Bool). if b then place + 1 + more else place + 1 + more - count)
        fits)
    by_tests false false e f =
        let same : place + (1 + more) ≡ place + 1 + more = omega arith in
        let fits : nat_lt (place + 1 + more) count ≡ false =
        ap (λ (k : ℕ). nat_lt k count) (sym same) ∙ f in
        ap (λ (k : ℕ). k - count) same
        ∙ sym (ap (λ (b : Bool). if b then place + 1 + more else place + 1 + more - count) fits)

-- If the terminal of an entry is not polled, the first polled one from it on is the first from the
-- next entry on.
pub polled_place_past_one : (c : ControlValue) (place : ℕ) → place < length c.poll_list
    → is_polled c (terminal_of_entry c place) ≡ false
    → (passed_over c place ≡ None → ⊥)
    → polled_place c place
    ≡ polled_place c (wrapped (length c.poll_list) (place + 1))
polled_place_past_one c place within off some =
    by_rest (position (is_polled c) rest) refl
  where
    rest : List ℕ
    rest = drop (place + 1) c.poll_list ++ take place c.poll_list

    here : passed_over c place
        ≡ option_map (λ (k : ℕ). 1 + k)
        (position (is_polled c) (drop (place + 1) c.poll_list ++ take place c.poll_list))
    here =
        ap (position (is_polled c)) (entries_from_here c.poll_list place within)
        ∙ position_later (is_polled c) (terminal_of_entry c place)
        (drop (place + 1) c.poll_list ++ take place c.poll_list) off

    by_rest : (o : Option ℕ)
        → position (is_polled c) (drop (place + 1) c.poll_list ++ take place c.poll_list) ≡ o
        → polled_place c place
        ≡ polled_place c (wrapped (length c.poll_list) (place + 1))
    by_rest None e =
        absurd (some (here ∙ ap (option_map (λ (k : ℕ). 1 + k)) e))
    by_rest (Some more) e =
        let count : ℕ = length c.poll_list in
        let next : ℕ = wrapped (length c.poll_list) (place + 1) in
        let now : passed_over c place ≡ Some (1 + more) =
        here ∙ ap (option_map (λ (k : ℕ). 1 + k)) e in
        let later : passed_over c next ≡ Some more =
        ap (position (is_polled c)) (entries_from_next c.poll_list place within)
        ∙ position_in_front (is_polled c)
        (drop (place + 1) c.poll_list ++ take place c.poll_list)
        (terminal_of_entry c place ∷ []) more e in
        let less : 1 + more < count =
        passed_within c place (1 + more) (omega (arith, within)) now in
        ap (place_past count place) now
        ∙ further_from_next count place more within less
        ∙ sym (ap (place_past count next) later)

-- the first call of an entry that is due is made at the place to which is passed
pub first_call_past : (c : ControlValue) (place more : ℕ) → place < length c.poll_list
    → passed_over c place ≡ Some more
    → call_past_step c (first_call c place) (passed_over c place)
    ≡ make_call_step c (first_call c (polled_place c place))
first_call_past c place more within is = by_passed (passed_over c place) more refl is
  where
    by_passed : (passed : Option ℕ) (more : ℕ) → passed_over c place ≡ passed
        → passed ≡ Some more
        → call_past_step c (first_call c place) passed
        ≡ make_call_step c (first_call c (place_past (length c.poll_list) place passed))
    by_passed None more e some = absurd (cc)
    by_passed (Some zero) more e some =
        ap (λ (k : ℕ). make_call_step c (first_call c k))
        (sym (no_further (length c.poll_list) place within))
    by_passed (Some (suc k)) more e some = refl
