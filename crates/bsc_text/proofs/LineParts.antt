-- A line from its parts.
use Rattle.std.proofs.Common.{◌≡◌, ◌<◌, ◌≤◌, ℕ, ◌+◌, ◌-◌, ◌==◌, List, [], ◌∷◌, ◌++◌, Bool, true}
use Rattle.std.proofs.Common.{false, not, cond, Option, Some, None, length, take, drop, refl, sym, ap}
use Rattle.std.proofs.Common.{subst, ◌∙◌, append_assoc, append-nil, arith, length-append, get_or}
use Rattle.std.proofs.Common.{take-append-drop, length-take-le, eqb-true, option_map, suc}
use Rattle.std.proofs.BufReadLemmas.{Consumes_shown}
use Rattle.std.proofs.KnownBytes.{Consumes-trans, starts_with_rest}
use Rattle.std.proofs.lemmas.Bool.{ltb-true}
use Rattle.std.proofs.lemmas.Grind.{common_steps}
use Rattle.std.proofs.lemmas.List.{take_all, take_more}
use Rattle.std.proofs.lemmas.List.Elements.{All-append, All-head, All-tail}
use Rattle.std.proofs.lemmas.List.Splits.{slice_split_at, slice_split_none}
use Rattle.std.proofs.lemmas.List.Sums.{fails_before_first, passes_at_first}
use Rattle.std.specs.Io.{StartsWith}
use Rattle.std.specs.Io.BufRead.{DropsConsumable}
use Rattle.std.specs.Io.KnownBytes.{Consumes, Keeps}
use Rattle.std.specs.List.{position, position_or_len}
use Rattle.std.specs.Prelude.{IfSome}
use Rattle.bsc_text.specs.InputLines.{parts_of}
use Rattle.bsc_text.specs.Parts.{after_octet, before_octet}
use Rattle.bsc_text.specs.Reading.{GrowsBy, HasNoFeed, IsTooLongAfter, ReadsLine, ReadsPart}
use Rattle.bsc_text.specs.declared.reading.LineEnd.{LineEnd}
use Rattle.bsc_text.specs.declared.reading.LineEnd.TheVariants.{LineFeed, InputEnd}
use Rattle.bsc_text.proofs.Splitting.{before_first_none, before_first_some, slice_split_finds_none}
use Rattle.bsc_text.proofs.Splitting.{slice_split_finds_some, test_of_some}

-- the octets before the first line feed have none
pub no_feed_before : (xs : List ℕ) → HasNoFeed (before_octet 10 xs)
no_feed_before xs k d below =
    let fails = fails_before_first (λ octet. octet == 10) xs k d (grind (arith, common_steps)) in
    grind (arith, common_steps)

-- the first of the elements taken, where the test fails at it
first_kept : (b : Bool) (x : ℕ) (l : List ℕ) (k : ℕ) → b ≡ false
    → take (cond (not b) (1 + k) 0) (x ∷ l) ≡ x ∷ take k l
first_kept true x l k e = cc
first_kept false x l k e =
    let one_more : 1 + k ≡ suc k = omega arith in
    ap (λ n. take n (x ∷ l)) one_more

-- octets without a line feed are before the first one of those after them
pub before_append : (xs ys : List ℕ) → HasNoFeed xs
    → before_octet 10 (xs ++ ys) ≡ xs ++ before_octet 10 ys
before_append [] ys none = refl
before_append (x ∷ xs) ys none =
    first_kept (x == 10) x (xs ++ ys) (position_or_len (λ octet. octet == 10) (xs ++ ys))
    (All-head (λ octet. (octet == 10) ≡ false) x xs none)
    ∙ ap (λ l. x ∷ l)
    (before_append xs ys (All-tail (λ octet. (octet == 10) ≡ false) x xs none))

-- what is before the first line feed of a text is not longer than in the text with more after it
before_le : (xs ys : List ℕ) → length (before_octet 10 xs) ≤ length (before_octet 10 (xs ++ ys))
before_le xs ys =
    let before = before_octet 10 xs in
    let after = drop (position_or_len (λ octet. octet == 10) xs) xs in
    let split : xs ++ ys ≡ before ++ (after ++ ys) =
    ap (λ l. l ++ ys) (sym (take-append-drop (position_or_len (λ octet. octet == 10) xs) xs))
    ∙ append_assoc before after ys in
    let longer : before_octet 10 (xs ++ ys) ≡ before ++ before_octet 10 (after ++ ys) =
    ap (before_octet 10) split ∙ before_append before (after ++ ys) (no_feed_before xs) in
    omega (arith, ap length longer, length-append before (before_octet 10 (after ++ ys)))

-- a line feed is after the octets before the first one
pub feed_at : (xs rest : List ℕ) → after_octet 10 xs ≡ Some rest
    → take (length (before_octet 10 xs) + 1) xs ≡ before_octet 10 xs ++ 10 ∷ []
feed_at xs rest = by (position (λ octet. octet == 10) xs) refl
  where
    by : (o : Option ℕ) → position (λ octet. octet == 10) xs ≡ o
        → option_map (λ place. drop (place + 1) xs) o ≡ Some rest
        → take (length (before_octet 10 xs) + 1) xs ≡ before_octet 10 xs ++ 10 ∷ []
    by None e h = cc
    by (Some i) e h =
        let place = position_or_len (λ octet. octet == 10) xs in
        let within : place < length xs = ltb-true _ _ (test_of_some _ place i e).0 in
        let feed : get_or xs place 0 ≡ 10 =
        eqb-true _ _ (passes_at_first (λ octet. octet == 10) xs 0 within) in
        ap (λ n. take (n + 1) xs) (length-take-le place xs (omega arith))
        ∙ take_more xs place 0 within ∙ ap (λ y. take place xs ++ y ∷ []) feed

-- without a line feed all octets are before the first one
pub all_before : (xs : List ℕ) → after_octet 10 xs ≡ None → before_octet 10 xs ≡ xs
all_before xs = by (position (λ octet. octet == 10) xs) refl
  where
    by : (o : Option ℕ) → position (λ octet. octet == 10) xs ≡ o
        → option_map (λ place. drop (place + 1) xs) o ≡ None → before_octet 10 xs ≡ xs
    by None e h = before_first_none (λ octet. octet == 10) xs e
    by (Some i) e h = cc

-- a piece of what is left shows that a line has too many octets
pub too_long_after : (a : Option (List ℕ)) (line piece : List ℕ) (count : ℕ)
    → IfSome a (λ xs. StartsWith xs piece) → count ≡ length (before_octet 10 piece)
    → 1048576 - length line < count → IfSome a (IsTooLongAfter line)
too_long_after None line piece count front e more = tt
too_long_after (Some xs) line piece count front e more =
    let rest = drop (length piece) xs in
    let whole : xs ≡ piece ++ rest = starts_with_rest xs piece front in
    let same = ap (λ l. length (before_octet 10 l)) whole in
    omega (arith, before_le piece rest, same)

-- the reader held this piece of what was left, and consumed this many octets of it
abbrev pub HasHeld : Option (List ℕ) → Option (List ℕ) → Option ℕ → List ℕ → ℕ → Type 0
HasHeld old new limit piece count =
    (held : Option (List ℕ)) × IfSome old (λ xs. StartsWith xs piece)
    × IfSome old (λ xs. length piece ≡ 0 → xs ≡ []) × Keeps old held
    × IfSome old (λ _. IfSome limit (λ k. length piece ≤ k))
    × DropsConsumable held new limit count

held_consumed : (a c : Option (List ℕ)) (limit : Option ℕ) (piece : List ℕ) (count : ℕ)
    → count ≤ length piece → HasHeld a c limit piece count → Consumes a c (take count piece)
held_consumed a c limit piece count within (b, front, end, kept, fits, drops) =
    (Consumes_shown a b c limit piece count within front end kept fits drops).0

-- the piece has the end of the line, with its line feed
pub feed_read : (a c : Option (List ℕ)) (limit : Option ℕ) (piece part rest : List ℕ)
    → part ≡ before_octet 10 piece → after_octet 10 piece ≡ Some rest
    → length part + 1 ≤ length piece → HasHeld a c limit piece (length part + 1)
    → HasNoFeed part × Consumes a c (part ++ 10 ∷ [])
feed_read a c limit piece part rest before after within held = (
  subst HasNoFeed (sym before) (no_feed_before piece),
  subst (Consumes a c) (ap (λ l. take (length l + 1) piece) before ∙ feed_at piece rest after
      ∙ ap (λ l. l ++ 10 ∷ []) (sym before))
      (held_consumed a c limit piece (length part + 1) within held),
)

-- the piece has no line feed
pub part_read : (a c : Option (List ℕ)) (limit : Option ℕ) (piece part : List ℕ)
    → part ≡ before_octet 10 piece → after_octet 10 piece ≡ None
    → HasHeld a c limit piece (length part) → HasNoFeed part × Consumes a c part
part_read a c limit piece part before after held =
    let whole : part ≡ piece = before ∙ all_before piece after in
    let long : length part ≡ length piece = ap length whole in (
      subst HasNoFeed (sym before) (no_feed_before piece),
      subst (Consumes a c) (ap (λ n. take n piece) long ∙ take_all (length piece) piece (omega arith)
          ∙ sym whole)
          (held_consumed a c limit piece (length part) (omega arith) held),
    )

-- the parts that were read are a line with a line feed, or the last line
pub line_of_parts : (a b c : Option (List ℕ)) (end : LineEnd) (before line : List ℕ)
    → Consumes a b before → HasNoFeed before → GrowsBy before line (ReadsPart b c (Some end))
    → ReadsLine a c end line
line_of_parts None b c end before line taken feedless grown = tt
line_of_parts (Some x) None c end before line taken feedless grown = absurd taken
line_of_parts (Some x) (Some y) None LineFeed before line taken feedless (part, e, (none, rest)) = absurd rest
line_of_parts (Some x) (Some y) None InputEnd before line taken feedless (part, e, (none, at_end, rest)) = absurd rest
line_of_parts (Some x) (Some y) (Some z) LineFeed before line taken feedless (part, e, (none, rest)) =
    let whole : x ≡ line ++ 10 ∷ z =
    taken ∙ ap (λ l. before ++ l) (rest ∙ append_assoc part (10 ∷ []) z)
    ∙ sym (append_assoc before part (10 ∷ z)) ∙ ap (λ l. l ++ 10 ∷ z) (sym e) in
    let feedless_line : HasNoFeed line =
    subst HasNoFeed (sym e) (All-append (λ octet. (octet == 10) ≡ false) before part feedless none) in
    ap parts_of whole ∙ slice_split_at (λ octet. octet == 10) line 10 z feedless_line refl
line_of_parts (Some x) (Some y) (Some z) InputEnd before line taken feedless (part, e, (none, at_end, rest)) =
    let alone : line ≡ before = e ∙ ap (λ l. before ++ l) none ∙ append-nil before in
    let whole : x ≡ line = taken ∙ ap (λ l. before ++ l) at_end ∙ append-nil before ∙ sym alone in (
      ap parts_of whole ∙ slice_split_none (λ octet. octet == 10) line (subst HasNoFeed (sym alone) feedless),
      sym rest ∙ at_end,
    )

-- one more part of a line was read
pub line_so_far : (a b c : Option (List ℕ)) (before line : List ℕ)
    → Consumes a b before → HasNoFeed before → GrowsBy before line (ReadsPart b c None)
    → Consumes a c line × HasNoFeed line × (length before < length line)
line_so_far a b c before line taken feedless (part, e, (none, some, rest)) = (
  subst (Consumes a c) (sym e) (Consumes-trans a b c before part taken rest),
  subst HasNoFeed (sym e) (All-append (λ octet. (octet == 10) ≡ false) before part feedless none),
  omega (arith, ap length e, length-append before part),
)

-- the whole line has too many octets
pub too_long_whole : (a b : Option (List ℕ)) (before : List ℕ) → Consumes a b before
    → HasNoFeed before → IfSome b (IsTooLongAfter before)
    → IfSome a (λ octets. 1048576 < length (before_octet 10 octets))
too_long_whole None b before taken feedless long = tt
too_long_whole (Some x) None before taken feedless long = absurd taken
too_long_whole (Some x) (Some y) before taken feedless long =
    let whole = ap (before_octet 10) taken ∙ before_append before y feedless in
    omega (arith, ap length whole, length-append before (before_octet 10 y))

-- what is before the first line feed of a text is its first line
pub first_part : (xs : List ℕ) → (left : List (List ℕ)) × (parts_of xs ≡ before_octet 10 xs ∷ left)
first_part xs = by (position (λ octet. octet == 10) xs) refl
  where
    by : (o : Option ℕ) → position (λ octet. octet == 10) xs ≡ o
        → (left : List (List ℕ)) × (parts_of xs ≡ before_octet 10 xs ∷ left)
    by None e = (
      [],
      slice_split_finds_none (λ octet. octet == 10) xs e
          ∙ ap (λ l. l ∷ []) (sym (before_first_none (λ octet. octet == 10) xs e)),
    )
    by (Some i) e = (
      parts_of (drop (i + 1) xs),
      slice_split_finds_some (λ octet. octet == 10) xs i e
          ∙ ap (λ l. l ∷ parts_of (drop (i + 1) xs)) (sym (before_first_some (λ octet. octet == 10) xs i e)),
    )
