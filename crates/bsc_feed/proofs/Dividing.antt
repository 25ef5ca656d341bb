-- All octets are lines and a half line, in one way, however they arrive.
use Rattle.std.proofs.Common.{◌≡◌, ℕ, ◌+◌, ◌==◌, List, [], ◌∷◌, ◌++◌, length, take, drop, Bool}
use Rattle.std.proofs.Common.{true, false, Some, None, refl, sym, ap, ap₂, ◌∙◌, subst, map, append_assoc}
use Rattle.std.proofs.Common.{append-nil, take-append-drop, arith, eqb-true}
use Rattle.std.proofs.Math.Seq.{drop-append_seam}
use Rattle.std.proofs.lemmas.List.Elements.{All-append, All-cons, All-head, All-nil, All-tail}
use Rattle.std.specs.List.{concat, flat_map}
use Rattle.bsc_text.specs.Parts.{after_octet, before_octet}
use Rattle.bsc_text.specs.Reading.{HasNoFeed}
use Rattle.bsc_carrier.proofs.Kept.{take_again}
use Rattle.bsc_text.proofs.LineParts.{all_before, before_append, feed_at, no_feed_before}
use Rattle.bsc_feed.specs.Lines.{AreLines, Divides, Fed, LinesValue, kept_of, with_feed}
use Rattle.bsc_feed.specs.Lines.{ended, ends_line, goes_on}

pub no_feed_append : (xs ys : List ℕ) → HasNoFeed xs → HasNoFeed ys → HasNoFeed (xs ++ ys)
no_feed_append xs ys a b = All-append (λ octet. (octet == 10) ≡ false) xs ys a b

-- the line before the first line feed, and what comes after it
first_line : (a b x y : List ℕ) → HasNoFeed a → HasNoFeed b → with_feed a ++ x ≡ with_feed b ++ y
    → (a ≡ b) × (x ≡ y)
first_line a b x y none_a none_b same =
    let seam : a ++ (10 ∷ x) ≡ b ++ (10 ∷ y) =
    sym (append_assoc a (10 ∷ []) x) ∙ same ∙ append_assoc b (10 ∷ []) y in
    let line : a ≡ b =
    sym (append-nil a) ∙ sym (before_append a (10 ∷ x) none_a) ∙ ap (before_octet 10) seam
    ∙ before_append b (10 ∷ y) none_b ∙ append-nil b in
    let rest : 10 ∷ x ≡ 10 ∷ y =
    sym (drop-append_seam a (10 ∷ x)) ∙ ap₂ drop (ap length line) seam
    ∙ drop-append_seam b (10 ∷ y) in
    (line, ap (drop 1) rest)

-- a half line does not begin with a line
no_line : (half a x : List ℕ) → HasNoFeed half → HasNoFeed a → half ≡ with_feed a ++ x → ⊥
no_line half a x none_half none_a same =
    let seam : half ≡ a ++ (10 ∷ x) = same ∙ append_assoc a (10 ∷ []) x in
    let rest : HasNoFeed (10 ∷ x) = no_feed_after a (10 ∷ x) (subst HasNoFeed seam none_half) in
    let wrong : true ≡ false = All-head (λ octet. (octet == 10) ≡ false) 10 x rest in
    cc
  where
    no_feed_after : (xs ys : List ℕ) → HasNoFeed (xs ++ ys) → HasNoFeed ys
    no_feed_after [] ys none = none
    no_feed_after (z ∷ xs) ys none =
        no_feed_after xs ys (All-tail (λ octet. (octet == 10) ≡ false) z (xs ++ ys) none)

pub one_division : (octets : List ℕ) (lines others : List (List ℕ)) (half other : List ℕ)
    → AreLines octets lines half → AreLines octets others other
    → (lines ≡ others) × (half ≡ other)
one_division octets [] [] half other p q = (refl, sym p.whole ∙ q.whole)
one_division octets [] (b ∷ others) half other p q =
    absurd
    (no_line half b (flat_map with_feed others ++ other) p.half_feedless q.feedless.0
    (sym p.whole ∙ q.whole ∙ append_assoc (with_feed b) (flat_map with_feed others) other))
one_division octets (a ∷ lines) [] half other p q =
    absurd
    (no_line other a (flat_map with_feed lines ++ half) q.half_feedless p.feedless.0
    (sym q.whole ∙ p.whole ∙ append_assoc (with_feed a) (flat_map with_feed lines) half))
one_division octets (a ∷ lines) (b ∷ others) half other p q =
    let same = sym (append_assoc (with_feed a) (flat_map with_feed lines) half)
    ∙ sym p.whole ∙ q.whole ∙ append_assoc (with_feed b) (flat_map with_feed others) other in
    let one =
    first_line a b (flat_map with_feed lines ++ half) (flat_map with_feed others ++ other)
    p.feedless.0 q.feedless.0 same in
    let tails = one_division (flat_map with_feed lines ++ half) lines others half other
    (record { whole = refl; feedless = p.feedless.1; half_feedless = p.half_feedless })
    (record { whole = one.1; feedless = q.feedless.1; half_feedless = q.half_feedless }) in
    (ap₂ (λ x xs. x ∷ xs) one.0 tails.0, tails.1)

-- one more octet before lines and a half line
more_lines : (x : ℕ) (feed : Bool) → (x == 10) ≡ feed → (xs : List ℕ) (lines : List (List ℕ))
    (half : List ℕ) → AreLines xs lines half
    → (all : List (List ℕ)) × (last : List ℕ) × AreLines (x ∷ xs) all last
more_lines x true e xs lines half p = (
  [] ∷ lines,
  half,
  record {
    whole = ap₂ (λ octet l. octet ∷ l) (eqb-true x 10 e) p.whole;
    feedless = (All-nil (λ octet. (octet == 10) ≡ false), p.feedless);
    half_feedless = p.half_feedless;
  },
)
more_lines x false e xs [] half p = (
  [],
  x ∷ half,
  record {
    whole = ap (λ l. x ∷ l) p.whole;
    feedless = tt;
    half_feedless = All-cons (λ octet. (octet == 10) ≡ false) x half e p.half_feedless;
  },
)
more_lines x false e xs (line ∷ lines) half p = (
  (x ∷ line) ∷ lines,
  half,
  record {
    whole = ap (λ l. x ∷ l) p.whole;
    feedless = (All-cons (λ octet. (octet == 10) ≡ false) x line e p.feedless.0, p.feedless.1);
    half_feedless = p.half_feedless;
  },
)

pub every_division : (octets : List ℕ)
    → (lines : List (List ℕ)) × (half : List ℕ) × AreLines octets lines half
every_division [] = (
  [],
  [],
  record {
    whole = refl;
    feedless = tt;
    half_feedless = All-nil (λ octet. (octet == 10) ≡ false);
  },
)
every_division (x ∷ xs) =
    let (lines, half, divided) = every_division xs in
    more_lines x (x == 10) refl xs lines half divided

-- a piece with a line feed
pub fed_line : (old new : LinesValue) (piece part rest : List ℕ)
    → part ≡ before_octet 10 piece → after_octet 10 piece ≡ Some rest
    → length part + 1 + length rest ≡ length piece → new.begun ≡ []
    → new.ended ≡ kept_of (old.begun ++ part) → Fed old piece (length part + 1, true) new
fed_line old new piece part rest before after long none line = (
  part,
  subst HasNoFeed (sym before) (no_feed_before piece),
  omega (arith, long),
  ap (λ l. take (length l + 1) piece) before ∙ feed_at piece rest after ∙ ap with_feed (sym before),
  ap₂ (λ b e. record { begun = b; ended = e }) none line,
)

-- The lines that end in pieces are those of all octets, after those of a half line.
pub lines_of_pieces : {old new : LinesValue} {pieces kept : List (List ℕ)} (half : List ℕ)
    → HasNoFeed half → old.begun ≡ kept_of half → Divides old pieces kept new
    → (lines : List (List ℕ)) × (last : List ℕ) × AreLines (half ++ concat pieces) lines last
    × (kept ≡ map kept_of lines) × (new.begun ≡ kept_of last)
lines_of_pieces half none begun ended = (
  [],
  half,
  record { whole = append-nil half; feedless = tt; half_feedless = none },
  refl,
  begun,
)
lines_of_pieces {old = old} half none begun
    (goes_on {mid = mid} {piece = piece} {pieces = pieces} taken fed more) =
    let held : mid.begun ≡ kept_of (half ++ piece) =
    ap (λ v. v.begun) fed.2 ∙ ap (λ l. kept_of (l ++ piece)) begun ∙ take_again 513 half piece in
    let (lines, last, divided, kept, begun_last) =
    lines_of_pieces (half ++ piece) (no_feed_append half piece none fed.1) held more in (
      lines,
      last,
      record {
        whole = sym (append_assoc half piece (concat pieces)) ∙ divided.whole;
        feedless = divided.feedless;
        half_feedless = divided.half_feedless;
      },
      kept,
      begun_last,
    )
lines_of_pieces {old = old} half none begun
    (ends_line {mid = mid} {piece = piece} {pieces = pieces} taken (part, feedless, within, front, is) more) =
    let line = half ++ part in
    let kept_line : mid.ended ≡ kept_of line =
    ap (λ v. v.ended) is ∙ ap (λ l. kept_of (l ++ part)) begun ∙ take_again 513 half part in
    let (lines, last, divided, kept, begun_last) =
    lines_of_pieces [] (All-nil (λ octet. (octet == 10) ≡ false)) (ap (λ v. v.begun) is) more in
    let rest = drop taken piece ++ concat pieces in
    let whole : half ++ (piece ++ concat pieces) ≡ (with_feed line ++ flat_map with_feed lines) ++ last =
    ap (λ l. half ++ (l ++ concat pieces)) (sym (take-append-drop taken piece) ∙ ap (λ l. l ++ drop taken piece) front)
    ∙ ap (λ l. half ++ l) (append_assoc (with_feed part) (drop taken piece) (concat pieces))
    ∙ sym (append_assoc half (with_feed part) rest)
    ∙ ap (λ l. l ++ rest) (sym (append_assoc half part (10 ∷ [])))
    ∙ ap (λ l. with_feed line ++ l) divided.whole
    ∙ sym (append_assoc (with_feed line) (flat_map with_feed lines) last) in (
      line ∷ lines,
      last,
      record {
        whole = whole;
        feedless = (no_feed_append half part none feedless, divided.feedless);
        half_feedless = divided.half_feedless;
      },
      ap₂ (λ l ls. l ∷ ls) kept_line kept,
      begun_last,
    )

-- a piece without a line feed
pub fed_part : (old new : LinesValue) (piece part : List ℕ) → part ≡ before_octet 10 piece
    → after_octet 10 piece ≡ None → new.begun ≡ kept_of (old.begun ++ part)
    → new.ended ≡ old.ended → Fed old piece (length part, false) new
fed_part old new piece part before after more same =
    let whole : part ≡ piece = before ∙ all_before piece after in (
      ap length whole,
      subst HasNoFeed (sym before ∙ whole) (no_feed_before piece),
      ap₂ (λ b e. record { begun = b; ended = e })
          (more ∙ ap (λ l. kept_of (old.begun ++ l)) whole) same,
    )
