-- The steps of the loops over the octets of a unit.
use Rattle.std.proofs.Common.{◌≡◌, ℕ, ◌+◌, ◌-◌, ◌<◌, ◌≤◌, ◌==◌, Bool, true, false, not, ◌||◌, ◌&&◌}
use Rattle.std.proofs.Common.{cond}
use Rattle.std.proofs.Common.{List, [], ◌∷◌, ◌++◌, length, take, drop, get_or, set, map, refl, sym}
use Rattle.std.proofs.Common.{ap, ◌∙◌}
use Rattle.std.proofs.Common.{arith, length-append, length-take, length-set, append-nil}
use Rattle.std.proofs.Common.{append_assoc}
use Rattle.std.proofs.Common.{take-add, le_refl, take-append-drop}
use Rattle.std.specs.List.{filter, list_any, list_all}
use Rattle.std.proofs.lemmas.List.{take_more, take_all, take_more_set, take-set, map-append}
use Rattle.std.proofs.lemmas.List.Elements.{filter_more, filter-append}
use Rattle.std.proofs.lemmas.List.Folds.{list_any_more, list_all_more}
use Rattle.bsc_frame.specs.Reading.{is_octet, is_other, is_char_octet}
use Rattle.bsc_octet.specs.Octet.{code_in}
use Rattle.bsc_frame.specs.declared.limits.TheConstants.{MAX_CHARS, MAX_UNIT_CODES}
use Rattle.bsc_frame.specs.declared.squeeze.TheConstants.{PART, TOO_MANY, UNIT_ROOM}
use Rattle.bsc_octet.specs.declared.controls.TheConstants.{SYN}

-- ---- fill

-- one octet more is tested for fill
pub fill_more : (found : Bool) (i : ℕ) (s : List ℕ) → found ≡ list_any (is_octet SYN) (take i s)
    → i < length s
    → (found || (get_or s i 0 == SYN)) ≡ list_any (is_octet SYN) (take (i + 1) s)
fill_more found i s e l = ap (λ b. b || (get_or s i 0 == SYN)) e
    ∙ sym (list_any_more (is_octet SYN) s i 0 l)

-- ---- squeezing

-- the octets other than SYN among the first i octets stand after the first ones
pub record SqueezedTo (first : List ℕ) (start count : ℕ) (buffer : List ℕ) (i : ℕ)
    (s : List ℕ) : Type 0 where
  pub long : length buffer ≡ UNIT_ROOM
  pub room : count ≤ start + i
  pub front : take count buffer ≡ take start first ++ filter is_other (take i s)

-- at first nothing is put after the first ones
pub squeeze_start : (buffer : List ℕ) (start : ℕ) (s : List ℕ) → length buffer ≡ UNIT_ROOM
    → SqueezedTo buffer start start buffer 0 s
squeeze_start buffer start s l =
    record { long = l; room = omega arith; front = sym (append-nil (take start buffer)) }

-- an octet is stored, and counted if it is not SYN
stored : (first : List ℕ) (start count : ℕ) (buffer : List ℕ) (x : ℕ) (i : ℕ) (s : List ℕ)
    → SqueezedTo first start count buffer i s → count < UNIT_ROOM → (b : Bool)
    → filter is_other (take (i + 1) s) ≡ filter is_other (take i s) ++ cond b (x ∷ []) []
    → SqueezedTo first start (count + cond b 1 0) (set buffer count x) (i + 1) s
stored first start count buffer x i s k less true e = record {
  long = omega (arith, k.long, length-set buffer count x);
  room = omega (arith, k.room);
  front = take_more_set buffer count x (omega (arith, k.long)) ∙ ap (λ z. z ++ x ∷ []) k.front
      ∙ append_assoc (take start first) (filter is_other (take i s)) (x ∷ [])
      ∙ ap (λ z. take start first ++ z) (sym e);
}
stored first start count buffer x i s k less false e =
    let same : count + 0 ≡ count = omega arith in
    record {
      long = omega (arith, k.long, length-set buffer count x);
      room = omega (arith, k.room);
      front = ap (λ n. take n (set buffer count x)) same ∙ take-set buffer count x ∙ k.front
          ∙ ap (λ z. take start first ++ z) (sym (e ∙ append-nil (filter is_other (take i s))));
    }

-- one octet more is squeezed
pub squeeze_more : (first : List ℕ) (start count : ℕ) (buffer : List ℕ) (i : ℕ) (s : List ℕ)
    → SqueezedTo first start count buffer i s → i < length s → length s ≤ PART → start ≤ TOO_MANY
    → SqueezedTo first start (count + cond (not (get_or s i 0 == SYN)) 1 0)
    (set buffer count (get_or s i 0)) (i + 1) s
squeeze_more first start count buffer i s k l part few =
    stored first start count buffer (get_or s i 0) i s k (omega (arith, k.room))
    (is_other (get_or s i 0)) (filter_more is_other s i 0 l)

-- at the end all octets without fill stand after the first ones
pub squeeze_all : (first : List ℕ) (start count : ℕ) (buffer : List ℕ) (i : ℕ) (s : List ℕ)
    → SqueezedTo first start count buffer i s → length s ≤ i
    → take count buffer ≡ take start first ++ filter is_other s
squeeze_all first start count buffer i s k l =
    k.front ∙ ap (λ z. take start first ++ filter is_other z) (take_all i s l)

-- ---- part by part

-- the octets up to a place were squeezed
pub record PartsTo (count : ℕ) (buffer : List ℕ) (at : ℕ) (s : List ℕ) : Type 0 where
  pub long : length buffer ≡ UNIT_ROOM
  pub within : at ≤ length s
  pub room : count < UNIT_ROOM
  pub front : take count buffer ≡ filter is_other (take at s)

-- at first no part is squeezed
pub part_start : (buffer : List ℕ) (s : List ℕ) → length buffer ≡ UNIT_ROOM → PartsTo 0 buffer 0 s
part_start buffer s l = record { long = l; within = omega arith; room = omega arith; front = refl }

-- a part without fill goes after the parts before it
filter_part : (n at : ℕ) (s : List ℕ)
    → filter is_other (take (at + n) s) ≡ filter is_other (take at s)
    ++ filter is_other (take n (drop at s))
filter_part n at s = ap (filter is_other) (take-add at n s)
    ∙ filter-append is_other (take at s) (take n (drop at s))

-- one part more is squeezed
pub part_more : (count new part : ℕ) (buffer after : List ℕ) (at : ℕ) (s : List ℕ)
    → PartsTo count buffer at s
    → PART ≤ length s - at → count < TOO_MANY
    → take new after ≡ take count buffer ++ filter is_other (take part (drop at s)) → part ≡ PART
    → new ≤ count + PART → length after ≡ UNIT_ROOM → PartsTo new after (at + PART) s
part_more count new part buffer after at s k l few e p n long = record {
  long = long;
  within = omega arith;
  room = omega arith;
  front = rw p at e ∙ ap (λ z. z ++ filter is_other (take PART (drop at s))) k.front
      ∙ sym (filter_part PART at s);
}

-- there are more octets without fill than a unit has
pub part_full : (count : ℕ) (buffer : List ℕ) (at : ℕ) (s : List ℕ) → PartsTo count buffer at s
    → TOO_MANY ≤ count → MAX_UNIT_CODES < length (filter is_other s)
part_full count buffer at s k full =
    let parts : filter is_other s ≡ filter is_other (take at s) ++ filter is_other (drop at s) =
    ap (filter is_other) (sym (take-append-drop at s))
    ∙ filter-append is_other (take at s) (drop at s) in
    let front : length (filter is_other (take at s)) ≡ count =
    ap length (sym k.front) ∙ length-take count buffer ∙ omega (arith, k.long, k.room) in
    omega (
      arith,
      ap length parts,
      length-append (filter is_other (take at s))
          (filter is_other (drop at s)),
    )

-- at the end all octets without fill stand at the front
pub part_last : (count new : ℕ) (buffer after : List ℕ) (at : ℕ) (s : List ℕ)
    → PartsTo count buffer at s
    → take new after ≡ take count buffer ++ filter is_other (take (length s - at) (drop at s))
    → take new after ≡ filter is_other s
part_last count new buffer after at s k e =
    let all : at + (length s - at) ≡ length s = omega (arith, k.within) in
    e ∙ ap (λ z. z ++ filter is_other (take (length s - at) (drop at s))) k.front
    ∙ sym (filter_part (length s - at) at s) ∙ ap (λ n. filter is_other (take n s)) all
    ∙ ap (filter is_other) (take_all (length s) s (le_refl (length s)))

-- ---- copying

-- the codes of the first i octets stand at the front, and whether all are record characters
pub record CopiedTo (chars : Bool) (buffer : List ℕ) (i : ℕ) (s : List ℕ) : Type 0 where
  pub long : length buffer ≡ MAX_CHARS
  pub front : take i buffer ≡ map code_in (take i s)
  pub all : chars ≡ list_all is_char_octet (take i s)

-- one code more is copied
pub codes_more : (chars : Bool) (buffer : List ℕ) (i : ℕ) (s : List ℕ) → CopiedTo chars buffer i s
    → i < length s → length s ≤ MAX_CHARS
    → CopiedTo (chars && is_char_octet (get_or s i 0)) (set buffer i (code_in (get_or s i 0)))
    (i + 1) s
codes_more chars buffer i s k l few =
    let x : ℕ = get_or s i 0 in
    let stored : take (i + 1) (set buffer i (code_in x)) ≡ take i buffer ++ code_in x ∷ [] =
    take_more_set buffer i (code_in x) (omega (arith, k.long)) in
    let next : map code_in (take (i + 1) s) ≡ map code_in (take i s) ++ code_in x ∷ [] =
    ap (map code_in) (take_more s i 0 l) ∙ map-append code_in (take i s) (x ∷ []) in
    record {
      long = omega (arith, k.long, length-set buffer i (code_in x));
      front = stored ∙ ap (λ z. z ++ code_in x ∷ []) k.front ∙ sym next;
      all = ap (λ b. b && is_char_octet x) k.all ∙ sym (list_all_more is_char_octet s i 0 l);
    }

-- at the end all codes are copied
pub codes_all : (chars : Bool) (buffer : List ℕ) (i : ℕ) (s : List ℕ) → CopiedTo chars buffer i s
    → length s ≤ i → i ≤ length s → take (length s) buffer ≡ map code_in s
codes_all chars buffer i s k l u =
    let same : length s ≡ i = omega arith in
    ap (λ n. take n buffer) same ∙ k.front ∙ ap (map code_in) (take_all i s l)

-- the steps of squeezing a part
pub ruleset part_steps = (part_start, part_more, part_full, part_last)

-- the steps of a loop over codes
pub ruleset code_steps = (codes_more, codes_all)
