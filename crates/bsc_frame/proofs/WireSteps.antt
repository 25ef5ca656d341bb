-- The steps of sending units.
use Rattle.std.proofs.Common.{◌≡◌, ℕ, zero, suc, ◌+◌, ◌*◌, ◌<◌, ◌≤◌, Bool, true, false, cond, refl}
use Rattle.std.proofs.Common.{sym, ap}
use Rattle.std.proofs.Common.{◌∙◌, arith, lit<, List, [], ◌∷◌, ◌++◌, length, take, drop, get_or}
use Rattle.std.proofs.Common.{set, map}
use Rattle.std.proofs.Common.{add-one, append_assoc, length-set, length-append, Some, slice_get}
use Rattle.std.proofs.Common.{All, IsTrue}
use Rattle.std.specs.List.{AllByRecursion}
use Rattle.std.proofs.lemmas.List.{drop_all, take_all, take_more, take_more_set, map-append}
use Rattle.std.proofs.lemmas.List.Elements.{All-from_recursion, All-append}
use Rattle.std.proofs.lemmas.List.Elements.{All-cons}
use Rattle.std.proofs.lemmas.List.Elements.{All-nil}
use Rattle.bsc_octet.specs.Octet.{odd_octet, longitudinal_sum, is_record_char}
use Rattle.std.specs.Int.Count.{ones}
use Rattle.bsc_octet.proofs.Checks.{sum_odd}
use Rattle.bsc_frame.specs.Texts.{TextUnit, IsUnit}
use Rattle.bsc_frame.specs.Units.{unit_codes, unit_wire, units_wire, ending, end_code}
use Rattle.bsc_frame.specs.declared.limits.TheConstants.{MAX_UNITS, MAX_UNIT_SENT, MAX_SENT}
use Rattle.bsc_frame.specs.declared.text.End.{End}
use Rattle.bsc_octet.specs.declared.controls.TheConstants.{EM_CODE, US_CODE}
use Rattle.bsc_frame.proofs.Units.{char_lt}
use Rattle.bsc_frame.proofs.TextUnits.{length_units_wire}

-- record characters are codes of seven bits
all_small : (chars : List ℕ) → AllByRecursion (λ c. IsTrue (is_record_char c)) chars
    → AllByRecursion (λ c. c < 128) chars
all_small [] h = tt
all_small (c ∷ chars) h = (char_lt c h.0, all_small chars h.1)

-- EM is a code of seven bits
em_small : (b : Bool) → All (λ c. c < 128) (cond b (EM_CODE ∷ []) [])
em_small true = All-cons (λ c. c < 128) EM_CODE [] (lit< tt) (All-nil (λ c. c < 128))
em_small false = All-nil (λ c. c < 128)

-- all codes of a unit are codes of seven bits
codes_small : (u : TextUnit) (e : ℕ) → IsUnit u → e < 128 → All (λ c. c < 128) (unit_codes u e)
codes_small u e h l =
    All-append (λ c. c < 128) (u.chars ++ cond u.em (EM_CODE ∷ []) []) (e ∷ [])
    (All-append (λ c. c < 128) u.chars (cond u.em (EM_CODE ∷ []) [])
    (All-from_recursion (λ c. c < 128) u.chars (all_small u.chars h.each)) (em_small u.em))
    (All-cons (λ c. c < 128) e [] l (All-nil (λ c. c < 128)))

-- ---- the octets of a unit

-- the first i codes stand as octets at the front
pub record PutTo (octets : List ℕ) (i : ℕ) (codes : List ℕ) : Type 0 where
  pub long : length octets ≡ MAX_UNIT_SENT
  pub front : take i octets ≡ map odd_octet (take i codes)

-- one octet more is put
pub put_more : (octets : List ℕ) (i : ℕ) (codes : List ℕ) (o : ℕ) → PutTo octets i codes → i
    < length codes
    → length codes ≤ MAX_UNIT_SENT → o ≡ odd_octet (get_or codes i 0)
    → PutTo (set octets i o) (i + 1) codes
put_more octets i codes o p l few e =
    let next : map odd_octet (take (i + 1) codes) ≡ map odd_octet (take i codes)
    ++ odd_octet (get_or codes i 0) ∷ [] =
    ap (map odd_octet) (take_more codes i 0 l)
    ∙ map-append odd_octet (take i codes) (get_or codes i 0 ∷ []) in
    record {
      long = omega (arith, p.long, length-set octets i o);
      front = take_more_set octets i o (omega (arith, p.long)) ∙ ap (λ z. z ++ o ∷ []) p.front
          ∙ ap (λ z. map odd_octet (take i codes) ++ z ∷ []) e ∙ sym next;
    }

-- at the end all octets stand at the front
pub put_all : (octets : List ℕ) (i : ℕ) (codes : List ℕ) → PutTo octets i codes → length codes ≤ i
    → i ≤ length codes → take (length codes) octets ≡ map odd_octet codes
put_all octets i codes p l u =
    let same : length codes ≡ i = omega arith in
    ap (λ n. take n octets) same ∙ p.front ∙ ap (map odd_octet) (take_all i codes l)

-- the characters of a unit are codes of seven bits
pub chars_small : (u : TextUnit) → IsUnit u → All (λ c. c < 128) u.chars
chars_small u h = All-from_recursion (λ c. c < 128) u.chars (all_small u.chars h.each)

-- EM is carried as it is
odd_em : (em : Bool) → map odd_octet (cond em (EM_CODE ∷ []) []) ≡ cond em (EM_CODE ∷ []) []
unfolding odd_octet ones
odd_em true = refl
odd_em false = refl

-- the octets of the codes of a unit, by its parts
odd_codes : (u : TextUnit) (e : ℕ)
    → map odd_octet (unit_codes u e) ≡ (map odd_octet u.chars ++ cond u.em (EM_CODE ∷ []) [])
    ++ odd_octet e ∷ []
odd_codes u e =
    map-append odd_octet (u.chars ++ cond u.em (EM_CODE ∷ []) []) (e ∷ [])
    ∙ ap (λ z. z ++ odd_octet e ∷ []) (map-append odd_octet u.chars (cond u.em (EM_CODE ∷ []) [])
    ∙ ap (λ z. map odd_octet u.chars ++ z) (odd_em u.em))

-- the octets of the codes and the check after them
pub unit_wire_is : (u : TextUnit) (e : ℕ) (line : List ℕ) → IsUnit u → e < 128
    → line ≡ (map odd_octet u.chars ++ cond u.em (EM_CODE ∷ []) []) ++ odd_octet e ∷ []
    → line ++ odd_octet (longitudinal_sum line) ∷ [] ≡ unit_wire u e
unit_wire_is u e line h l w =
    let same : line ≡ map odd_octet (unit_codes u e) = w ∙ sym (odd_codes u e) in
    ap (λ z. z ++ odd_octet (longitudinal_sum z) ∷ []) same
    ∙ ap (λ n. map odd_octet (unit_codes u e) ++ odd_octet n ∷ [])
    (sum_odd (unit_codes u e) (codes_small u e h l))

-- ---- which character ends a unit

-- a unit that others follow ends with US
pub ending_more : (us : List TextUnit) (i : ℕ) (end : End) → i < length us → US_CODE
    ≡ ending (drop i us) end
ending_more [] i end l = absurd (omega arith)
ending_more (u ∷ us) zero end l = refl
ending_more (u ∷ us) (suc i) end l = ending_more us i end (omega arith)

-- the last unit ends with the end of the text
pub ending_last : (us : List TextUnit) (i : ℕ) (end : End) → length us ≤ i
    → end_code end ≡ ending (drop i us) end
ending_last us i end l = rw (drop_all i us l) refl

-- ---- the units one after another

-- what is left from a place on is the unit there and what is left after it
drop_get : (us : List TextUnit) (i : ℕ) (u : TextUnit) → slice_get us i ≡ Some u
    → drop i us ≡ u ∷ drop (suc i) us
drop_get [] i u e = cc
drop_get (v ∷ us) zero u e = let h : v ≡ u = cc in ap (λ z. z ∷ us) h
drop_get (v ∷ us) (suc i) u e = drop_get us i u e

-- the octets that are sent from a place on are those of the unit there and of what is left after it
wire_split : (us : List TextUnit) (i : ℕ) (u : TextUnit) (end : End) → slice_get us i ≡ Some u
    → units_wire (drop i us) end ≡ unit_wire u (ending (drop (i + 1) us) end)
    ++ units_wire (drop (i + 1) us) end
wire_split us i u end e = rw (add-one, drop_get us i u e) refl

-- the wire after the unit at the place
pub wire_next : (w first : List ℕ) (us : List TextUnit) (i : ℕ) (u : TextUnit) (end : End)
    → slice_get us i ≡ Some u
    → w ++ units_wire (drop i us) end ≡ first ++ units_wire us end
    → w ++ unit_wire u (ending (drop (i + 1) us) end) ++ units_wire (drop (i + 1) us) end ≡ first
    ++ units_wire us end
wire_next w first us i u end e h =
    append_assoc w (unit_wire u (ending (drop (i + 1) us) end)) (units_wire (drop (i + 1) us) end)
    ∙ ap (λ z. w ++ z) (sym (wire_split us i u end e)) ∙ h

-- the units of a text within its limits have at most this many octets
wire_long : (us : List TextUnit) (end : End) → length us ≤ MAX_UNITS → AllByRecursion IsUnit us
    → length (units_wire us end) ≤ MAX_UNITS * MAX_UNIT_SENT
wire_long us end l h = omega (arith, length_units_wire us end h)

-- there is room for one unit more
pub wire_room : (w first : List ℕ) (us : List TextUnit) (i : ℕ) (u : TextUnit) (end : End)
    → slice_get us i ≡ Some u → length first ≤ 3 → length us ≤ MAX_UNITS → AllByRecursion IsUnit us
    → w ++ units_wire (drop i us) end ≡ first ++ units_wire us end
    → length w + length (unit_wire u (ending (drop (i + 1) us) end)) ≤ MAX_SENT
wire_room w first us i u end e short few all h =
    omega (
      arith,
      wire_long us end few all,
      ap length h,
      length-append w (units_wire (drop i us) end),
      length-append first (units_wire us end),
      ap length (wire_split us i u end e),
      length-append (unit_wire u (ending (drop (i + 1) us) end)) (units_wire (drop (i + 1) us) end),
    )

-- there is room for one octet after all units
pub wire_short : (w first : List ℕ) (us : List TextUnit) (i : ℕ) (end : End) → length first ≤ 3
    → length us ≤ MAX_UNITS → AllByRecursion IsUnit us
    → w ++ units_wire (drop i us) end ≡ first ++ units_wire us end → length w < MAX_SENT
wire_short w first us i end short few all h =
    omega (
      arith,
      wire_long us end few all,
      ap length h,
      length-append first (units_wire us end),
      length-append w (units_wire (drop i us) end),
    )
