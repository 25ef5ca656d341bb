-- The steps of taking one unit from octets.
use Rattle.std.proofs.Common.{◌≡◌, inl, inr, ℕ, suc, ◌+◌, ◌<◌, ◌≤◌, ◌==◌, ◌||◌, ◌&&◌, not, Bool}
use Rattle.std.proofs.Common.{true, false}
use Rattle.std.proofs.Common.{cond, refl, sym, ap, subst, ◌∙◌, arith, List, [], ◌∷◌, ◌++◌, length}
use Rattle.std.proofs.Common.{take, drop}
use Rattle.std.proofs.Common.{map, get_or, append_assoc, append-nil, Option, Some, None, All}
use Rattle.std.proofs.Common.{IsTrue}
use Rattle.std.specs.List.{AllByRecursion, filter, prefix_len, list_all, list_any}
use Rattle.std.proofs.lemmas.Bool.{eqb-true, cases_lt}
use Rattle.std.proofs.lemmas.List.{take_more, map-append, append_cancel_right, length-map}
use Rattle.std.proofs.lemmas.List.Elements.{filter-append, All-drop}
use Rattle.std.proofs.lemmas.List.Sums.{prefix_len_stops}
use Rattle.bsc_octet.specs.Octet.{IsOdd, is_record_char, code_of, code_in}
use Rattle.bsc_frame.specs.Texts.{TextUnit, IsUnit}
use Rattle.bsc_frame.specs.Units.{unit_codes}
use Rattle.bsc_frame.specs.Reading.{◌>>=◌, is_octet, begins, is_other, is_char_octet}
use Rattle.bsc_frame.specs.Reading.{is_before_ending, is_ending_code, is_ending_octet, IsFront}
use Rattle.bsc_frame.specs.Reading.{AreParts}
use Rattle.bsc_frame.specs.Reading.{after_start, read_unit, unit_before, unit_at}
use Rattle.bsc_octet.specs.Check.{after_check}
use Rattle.bsc_frame.proofs.Units.{length_unit_codes}
use Rattle.bsc_frame.proofs.UnitCodes.{unit_of_reads, unit_of_read}
use Rattle.bsc_frame.proofs.CarriedOctets.{AreCarried, ending_same, em_is, start_low}
use Rattle.bsc_octet.proofs.Checks.{check_low}
use Rattle.bsc_frame.proofs.Cutting.{gathered_none, codes_cut_at_first_ending}
use Rattle.bsc_frame.specs.declared.limits.TheConstants.{MAX_CHARS, MAX_UNIT_CODES}
use Rattle.bsc_octet.specs.declared.controls.TheConstants.{EM_CODE, STX, SYN}

-- ---- the front

-- an STX is at most one code
length_after_start : (after_us : Bool) (codes : List ℕ) → length codes
    ≤ length (after_start after_us codes) + 1
length_after_start false codes = omega arith
length_after_start true [] = omega arith
length_after_start true (x ∷ codes) = by_test (x == STX)
  where
    by_test : (b : Bool) → suc (length codes) ≤ length (cond b codes (x ∷ codes)) + 1
    by_test true = omega arith
    by_test false = omega arith

-- if every continuation gives nothing, the whole gives nothing
none_after : {A B : Type 0} (o : Option A) (f : A → Option B) → ((x : A) → f x ≡ None) → (o >>= f)
    ≡ None
none_after None f h = refl
none_after (Some x) f h = h x

-- a unit has at most MAX_UNIT_CODES codes
long_unit : (after_us : Bool) (codes octets : List ℕ) → MAX_UNIT_CODES < length codes
    → unit_before after_us codes octets ≡ None
long_unit after_us codes octets l =
    let none : read_unit (after_start after_us codes) ≡ None =
    by_unit (read_unit (after_start after_us codes)) refl in
    none_after (after_check codes octets) _ (λ rest. rw none refl)
  where
    by_unit : (o : Option (TextUnit × ℕ)) → read_unit (after_start after_us codes) ≡ o → o ≡ None
    by_unit None e = refl
    by_unit (Some f) e =
        let r = unit_of_reads (after_start after_us codes) f e in
        absurd (omega (
          arith,
          r.1.most,
          ap length r.0,
          length_unit_codes f.0 f.1,
          length_after_start after_us codes,
        ))

-- if no octet ends a unit, no unit is read
pub at_end : (after_us : Bool) (s : List ℕ) (place : ℕ) → AreCarried s → place
    ≡ prefix_len is_before_ending s
    → place ≡ length s → unit_at after_us s ≡ None
unfolding unit_at
at_end after_us s place c e l = rw (gathered_none MAX_UNIT_CODES s c (sym e ∙ l)) refl

-- the unit is that of the front without fill
pub at_front : (after_us : Bool) (s : List ℕ) (m : ℕ) → AreCarried s → m
    ≡ prefix_len is_before_ending s + 1
    → m ≤ length s
    → unit_at after_us s ≡ unit_before after_us (map code_in (filter is_other (take m s)))
    (drop m s)
unfolding unit_at
at_front after_us s m c e l =
    let k = codes_cut_at_first_ending m MAX_UNIT_CODES s c e l in
    let codes : List ℕ = map code_in (filter is_other (take m s)) in
    elim (cases_lt MAX_UNIT_CODES (length (filter is_other (take m s)))) [
      | inl many ↦ rw (k.full many)
          (sym (long_unit after_us codes (drop m s)
          (omega (arith, many, length-map (filter is_other (take m s)) code_in))))
      | inr few ↦ rw (k.fits few) refl
    ]

-- without SYN nothing is filtered out
pub filter_no_fill : (s : List ℕ) → list_any (is_octet SYN) s ≡ false → filter is_other s ≡ s
filter_no_fill [] h = refl
filter_no_fill (x ∷ s) h = by_test (x == SYN) refl h (filter_no_fill s)
  where
    by_test : (b : Bool) → (x == SYN) ≡ b → (b || list_any (is_octet SYN) s) ≡ false
        → (list_any (is_octet SYN) s ≡ false → filter is_other s ≡ s)
        → cond (not b) (x ∷ filter is_other s) (filter is_other s) ≡ x ∷ s
    by_test true e h f = cc
    by_test false e h f = ap (λ t. x ∷ t) (f h)

-- an octet that carries an ending character is not SYN
ending_octet_other : (x : ℕ) → is_ending_octet x ≡ true → is_other x ≡ true
ending_octet_other x e = by_test (x == SYN) refl
  where
    by_test : (b : Bool) → (x == SYN) ≡ b → not b ≡ true
    by_test true f = let z : x ≡ SYN = eqb-true x SYN f in let t : is_ending_octet x ≡ false =
        rw z refl in cc
    by_test false f = refl

-- an octet that is not before an ending one is an ending one
not_before : (x : ℕ) (b : Bool) → is_ending_octet x ≡ b → not b ≡ false → b ≡ true
not_before x true e h = refl
not_before x false e h = cc

-- the octets up to the first ending one are a front
pub front_ends : (s : List ℕ) (place : ℕ) → place ≡ prefix_len is_before_ending s → place < length s
    → IsFront (take (place + 1) s)
front_ends s place e l =
    let stops : is_before_ending (get_or s (prefix_len is_before_ending s) 0) ≡ false =
    prefix_len_stops is_before_ending s 0 (omega arith) in
    record {
      front = take place s;
      last = get_or s place 0;
      whole = take_more s place 0 l;
      ends =
          rw e (not_before (get_or s (prefix_len is_before_ending s) 0)
          (is_ending_octet (get_or s (prefix_len is_before_ending s) 0)) refl stops);
    }

-- a front without its fill is a front
pub ends_filtered : (s : List ℕ) → IsFront s → IsFront (filter is_other s)
ends_filtered s e = record {
  front = filter is_other e.front;
  last = e.last;
  whole = ap (filter is_other) e.whole ∙ filter-append is_other e.front (e.last ∷ [])
      ∙ rw (ending_octet_other e.last e.ends) refl;
  ends = e.ends;
}

-- a front without an STX before it is a front
pub ends_start : (after_us : Bool) (s : List ℕ) → IsFront s → IsFront (after_start after_us s)
ends_start false s e = e
ends_start true [] e = e
ends_start true (x ∷ s) e = by_test (x == STX) refl
  where
    without : (front : List ℕ) → x ∷ s ≡ front ++ e.last ∷ [] → x ≡ STX → IsFront s
    without [] w z =
        let same : e.last ≡ STX = cc in
        let t : is_ending_octet e.last ≡ false = rw same refl in
        absurd (let f = e.ends in cc)
    without (y ∷ ys) w z = record { front = ys; last = e.last; whole = cc; ends = e.ends }

    by_test : (b : Bool) → (x == STX) ≡ b → IsFront (cond b s (x ∷ s))
    by_test true t = without e.front e.whole (eqb-true x STX t)
    by_test false t = e

-- ---- the unit of the front

-- two lists that are the same have the same front and the same last element
snoc_same : (xs ys : List ℕ) (a b : ℕ) → xs ++ a ∷ [] ≡ ys ++ b ∷ [] → (xs ≡ ys) × (a ≡ b)
snoc_same [] [] a b e = (refl, cc)
snoc_same [] (y ∷ []) a b e = absurd cc
snoc_same [] (y ∷ z ∷ ys) a b e = absurd cc
snoc_same (x ∷ []) [] a b e = absurd cc
snoc_same (x ∷ z ∷ xs) [] a b e = absurd cc
snoc_same (x ∷ xs) (y ∷ ys) a b e =
    let tail : xs ++ a ∷ [] ≡ ys ++ b ∷ [] = cc in
    let k = snoc_same xs ys a b tail in
    (let head : x ≡ y = cc in let rest = k.0 in cc, k.1)

-- the last octet of a front ends the unit
pub last_ends : (octets chars : List ℕ) (em : Bool) (last : ℕ) → IsFront octets
    → AreParts octets chars em last → is_ending_octet last ≡ true
last_ends octets chars em last e p =
    let k =
    snoc_same e.front (chars ++ cond em (EM_CODE ∷ []) []) e.last last (sym e.whole ∙ p.whole) in
    rw (← k.1) e.ends

-- an octet in a list of odd parity carries its low bits
carried_last : (xs : List ℕ) (x : ℕ) (ys : List ℕ) → AreCarried (xs ++ x ∷ ys) → code_of x
    ≡ Some (code_in x)
carried_last [] x ys c = c.0
carried_last (z ∷ xs) x ys c = carried_last xs x ys c.1

-- the front of a list of odd parity has odd parity
carried_front : (xs ys : List ℕ) → AreCarried (xs ++ ys) → AreCarried xs
carried_front [] ys c = tt
carried_front (x ∷ xs) ys c = (c.0, carried_front xs ys c.1)

-- the code of the last octet of a front is an ending character
pub last_code : (octets chars : List ℕ) (em : Bool) (last : ℕ) → AreCarried octets → IsFront octets
    → AreParts octets chars em last → is_ending_code (code_in last) ≡ true
last_code octets chars em last c e p =
    ending_same last (carried_last (chars ++ cond em (EM_CODE ∷ []) []) last [] (rw p.whole at c))
    ∙ last_ends octets chars em last e p

-- the low bits of EM are EM
low_em : (em : Bool) → map code_in (cond em (EM_CODE ∷ []) []) ≡ cond em (EM_CODE ∷ []) []
low_em true = refl
low_em false = refl

-- the codes of the parts
low_parts : (octets chars : List ℕ) (em : Bool) (last : ℕ) → AreParts octets chars em last
    → map code_in octets ≡ unit_codes (record { chars = map code_in chars; em = em })
    (code_in last)
low_parts octets chars em last p =
    ap (map code_in) p.whole ∙ map-append code_in (chars ++ cond em (EM_CODE ∷ []) []) (last ∷ [])
    ∙ ap (λ z. z ++ code_in last ∷ [])
    (map-append code_in chars (cond em (EM_CODE ∷ []) [])
    ∙ ap (λ z. map code_in chars ++ z) (low_em em))

-- one octet more that carries a record character
char_head : (x : ℕ) (chars : List ℕ) (b : Bool) → is_char_octet x ≡ b
    → (list_all is_char_octet chars ≡ true
    → AllByRecursion (λ c. IsTrue (is_record_char c)) (map code_in chars))
    → (b && list_all is_char_octet chars) ≡ true
    → AllByRecursion (λ c. IsTrue (is_record_char c)) (map code_in (x ∷ chars))
char_head x chars true e f h = (e, f h)
char_head x chars false e f h = cc

-- octets that pass the test have codes that are record characters
all_chars : (chars : List ℕ) → list_all is_char_octet chars ≡ true
    → AllByRecursion (λ c. IsTrue (is_record_char c)) (map code_in chars)
all_chars [] h = tt
all_chars (x ∷ chars) h = char_head x chars (is_char_octet x) refl (all_chars chars) h

-- octets whose codes are record characters pass the test of the octets
chars_all : (chars : List ℕ) → AllByRecursion (λ c. IsTrue (is_record_char c)) (map code_in chars)
    → list_all is_char_octet chars ≡ true
chars_all [] h = refl
chars_all (x ∷ chars) h = rw (h.0, chars_all chars h.1) refl

-- at most MAX_CHARS octets that pass the test are the characters of a unit
pub chars_unit : (chars : List ℕ) (em : Bool) → length chars ≤ MAX_CHARS
    → list_all is_char_octet chars ≡ true
    → IsUnit (record { chars = map code_in chars; em = em })
chars_unit chars em l h =
    record { most = omega (arith, length-map chars code_in); each = all_chars chars h }

-- the characters are a unit
pub parts_read : (octets chars : List ℕ) (em : Bool) (last : ℕ) → AreCarried octets → IsFront octets
    → AreParts octets chars em last → length chars ≤ MAX_CHARS → list_all is_char_octet chars ≡ true
    → read_unit (map code_in octets) ≡ Some
    (record { chars = map code_in chars; em = em }, code_in last)
parts_read octets chars em last c e p l h =
    ap read_unit (low_parts octets chars em last p)
    ∙ unit_of_read (record { chars = map code_in chars; em = em }) (code_in last)
    (chars_unit chars em l h) (last_code octets chars em last c e p)

-- ---- no other characters are

-- if all codes are record characters, the last one is
all_last : (xs : List ℕ) (x : ℕ) → AllByRecursion (λ c. IsTrue (is_record_char c)) (xs ++ x ∷ [])
    → is_record_char x ≡ true
all_last [] x h = h.0
all_last (y ∷ xs) x h = all_last xs x h.1

-- EM is no record character
em_no_char : is_record_char EM_CODE ≡ false
unfolding is_record_char
em_no_char = refl

-- characters and EM after them can be split in only one way
same_chars : (chars : List ℕ) (em : Bool) (more : List ℕ) (marked : Bool)
    → chars ++ cond em (EM_CODE ∷ []) [] ≡ more ++ cond marked (EM_CODE ∷ []) []
    → AllByRecursion (λ c. IsTrue (is_record_char c)) more
    → (em ≡ false → (front : List ℕ) → chars ≡ front ++ EM_CODE ∷ [] → ⊥) → chars ≡ more
same_chars chars true more true e h n = append_cancel_right chars more (EM_CODE ∷ []) e
same_chars chars false more false e h n = sym (append-nil chars) ∙ e ∙ append-nil more
same_chars chars true more false e h n =
    let last : is_record_char EM_CODE ≡ true =
    all_last chars EM_CODE (subst (AllByRecursion (λ c. IsTrue (is_record_char c)))
    (sym (append-nil more) ∙ sym e) h) in
    absurd (let k = em_no_char in cc)
same_chars chars false more true e h n = absurd (n refl more (sym (append-nil chars) ∙ e))

-- EM at the end of the codes is EM at the end of the octets
last_em : (xs front : List ℕ) → AreCarried xs → map code_in xs ≡ front ++ EM_CODE ∷ []
    → (before : List ℕ) × (xs ≡ before ++ EM_CODE ∷ [])
last_em [] [] c e = absurd cc
last_em [] (y ∷ front) c e = absurd cc
last_em (x ∷ []) [] c e =
    ([], let k = em_is x c.0 (let w : code_in x ≡ EM_CODE = cc in w) in ap (λ z. z ∷ []) k)
last_em (x ∷ z ∷ xs) [] c e = absurd cc
last_em (x ∷ xs) (y ∷ front) c e =
    let k = last_em xs front c.1 (let w : map code_in xs ≡ front ++ EM_CODE ∷ [] = cc in w) in
    (x ∷ k.0, ap (λ t. x ∷ t) k.1)

-- parts with too many characters, or with one that is not a record character, are no unit
pub parts_none : (octets chars : List ℕ) (em : Bool) (last : ℕ) → AreCarried octets
    → AreParts octets chars em last
    → (length chars ≤ MAX_CHARS → list_all is_char_octet chars ≡ true → ⊥)
    → read_unit (map code_in octets) ≡ None
parts_none octets chars em last c p n = by_unit (read_unit (map code_in octets)) refl
  where
    carried_chars : AreCarried chars
    carried_chars =
        carried_front chars (cond em (EM_CODE ∷ []) [] ++ last ∷ [])
        (rw (p.whole ∙ append_assoc chars (cond em (EM_CODE ∷ []) []) (last ∷ [])) at c)

    by_unit : (o : Option (TextUnit × ℕ)) → read_unit (map code_in octets) ≡ o → o ≡ None
    by_unit None e = refl
    by_unit (Some f) e =
        let r = unit_of_reads (map code_in octets) f e in
        let k =
        snoc_same (map code_in chars ++ cond em (EM_CODE ∷ []) [])
        (f.0.chars ++ cond f.0.em (EM_CODE ∷ []) []) (code_in last) f.1
        (sym (low_parts octets chars em last p) ∙ r.0) in
        let same : map code_in chars ≡ f.0.chars =
        same_chars (map code_in chars) em f.0.chars f.0.em k.0 r.1.each
        (λ m front w. let b = last_em chars front carried_chars w in p.no_em m b.0 b.1) in
        absurd (n (omega (arith, r.1.most, ap length same, length-map chars code_in))
        (chars_all chars (rw same r.1.each)))

-- ---- the check, and an STX after one

-- a wrong check: no unit is read
pub wrong_check_none : (after_us : Bool) (front octets : List ℕ) → None ≡ after_check front octets
    → unit_before after_us (map code_in front) octets ≡ None
wrong_check_none after_us front octets e = rw (check_low front octets, ← e) refl

-- a right check of codes that are no unit: none is read
pub wrong_unit : (after_us : Bool) (front octets rest : List ℕ) → AreCarried front
    → Some rest ≡ after_check front octets → read_unit (map code_in (after_start after_us front))
    ≡ None
    → unit_before after_us (map code_in front) octets ≡ None
wrong_unit after_us front octets rest c e n =
    rw (check_low front octets, ← e, start_low after_us front c, n) refl

-- a right check of the codes of a unit: it is read
pub right_unit : (after_us : Bool) (front octets rest : List ℕ) (u : TextUnit) (k : ℕ)
    → AreCarried front
    → Some rest ≡ after_check front octets
    → read_unit (map code_in (after_start after_us front)) ≡ Some (u, k)
    → unit_before after_us (map code_in front) octets ≡ Some (u, k, rest)
right_unit after_us front octets rest u k c e n =
    rw (check_low front octets, ← e, start_low after_us front c, n) refl

-- octets with odd parity have it without an STX too
pub odd_start : (after_us : Bool) (s : List ℕ) → All IsOdd s → All IsOdd (after_start after_us s)
odd_start after_us s h = by_test (after_us && begins (is_octet STX) s)
  where
    by_test : (b : Bool) → All IsOdd (cond b (drop 1 s) s)
    by_test true = All-drop IsOdd 1 s h
    by_test false = h

-- ---- the front and what stands after it

-- if there is no fill, the unit is read from the front
pub front_without_fill : (after_us : Bool) (s : List ℕ) (place : ℕ) → AreCarried s
    → place ≡ prefix_len is_before_ending s → place < length s
    → list_any (is_octet SYN) (take (place + 1) s) ≡ false
    → unit_before after_us (map code_in (take (place + 1) s)) (drop (place + 1) s)
    ≡ unit_at after_us s
front_without_fill after_us s place c e l n =
    ap (λ z. unit_before after_us (map code_in z) (drop (place + 1) s))
    (sym (filter_no_fill (take (place + 1) s) n))
    ∙ sym (at_front after_us s (place + 1) c (omega arith) (omega arith))

-- if fill was squeezed out, the unit is read from the octets that are left
pub front_squeezed : (after_us : Bool) (s : List ℕ) (place : ℕ) (unit : List ℕ) → AreCarried s
    → place ≡ prefix_len is_before_ending s → place < length s → unit
    ≡ filter is_other (take (place + 1) s)
    → unit_before after_us (map code_in unit) (drop (place + 1) s) ≡ unit_at after_us s
front_squeezed after_us s place unit c e l n =
    ap (λ z. unit_before after_us (map code_in z) (drop (place + 1) s)) n
    ∙ sym (at_front after_us s (place + 1) c (omega arith) (omega arith))

-- more than MAX_UNIT_CODES octets without fill are no unit
pub long_front_none : (after_us : Bool) (s : List ℕ) (place : ℕ) → AreCarried s
    → place ≡ prefix_len is_before_ending s → place < length s
    → MAX_UNIT_CODES < length (filter is_other (take (place + 1) s))
    → unit_at after_us s ≡ None
unfolding unit_at
long_front_none after_us s place c e l n =
    rw ((codes_cut_at_first_ending (place + 1) MAX_UNIT_CODES s c (omega arith) (omega arith)).full n) refl
