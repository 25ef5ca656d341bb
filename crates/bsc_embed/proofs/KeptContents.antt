-- What is unchanged in a content.
use Rattle.std.proofs.Common.{◌≡◌, ℕ, zero, suc, ◌+◌, ◌<◌, ◌∙◌, refl, sym, ap, arith, List, [], ◌∷◌}
use Rattle.std.proofs.Common.{length}
use Rattle.std.proofs.Common.{drop, get_or, set}
use Rattle.std.proofs.lemmas.List.{drop-set-lt, drop-drop, get_or-drop}
use Rattle.bsc_embed.specs.Decoded.{KeepCharsAfter}
use Rattle.bsc_embed.specs.declared.content.StoredUnit.{StoredUnit}

pub keep_same : (ss : List StoredUnit) → KeepCharsAfter ss ss
keep_same [] = tt
keep_same (s ∷ ss) = (refl, keep_same ss)

-- To store a unit that keeps the characters after its length keeps those of all units.
keep_set : (os ns : List StoredUnit) (i : ℕ) (s d : StoredUnit) → i < length ns
    → KeepCharsAfter os ns
    → drop s.len s.chars ≡ drop s.len (get_or os i d).chars → KeepCharsAfter os (set ns i s)
keep_set [] [] i s d l k e = absurd (omega arith)
keep_set [] (n ∷ ns) i s d l k e = absurd k
keep_set (o ∷ os) [] i s d l k e = absurd k
keep_set (o ∷ os) (n ∷ ns) zero s d l k e = (e, k.1)
keep_set (o ∷ os) (n ∷ ns) (suc i) s d l k e = (k.0, keep_set os ns i s d (omega arith) k.1 e)

-- Lists that are equal from a place on have the same element at that place.
same_first : (ss ts : List StoredUnit) (i : ℕ) (d : StoredUnit) → drop i ss ≡ drop i ts
    → get_or ss i d ≡ get_or ts i d
same_first ss ts i d e =
    let z : i + 0 ≡ i = omega arith in
    let a : get_or (drop i ss) 0 d ≡ get_or ss i d = rw z at (get_or-drop i ss 0 d) in
    let b : get_or (drop i ts) 0 d ≡ get_or ts i d = rw z at (get_or-drop i ts 0 d) in
    sym a ∙ ap (λ l. get_or l 0 d) e ∙ b

-- To store a unit does not change the units after it.
pub rest_set : (ss ts : List StoredUnit) (i : ℕ) (s : StoredUnit) → drop i ss ≡ drop i ts
    → drop (i + 1) (set ss i s) ≡ drop (i + 1) ts
rest_set ss ts i s e =
    drop-set-lt (i + 1) ss i s (omega arith) ∙ sym (drop-drop 1 i ss) ∙ ap (drop 1) e
    ∙ drop-drop 1 i ts

-- The same for a unit that keeps the characters of the current units, which from its place on are
-- still the first ones.
pub keep_put : (os ns : List StoredUnit) (i : ℕ) (s d : StoredUnit) → i < length ns
    → KeepCharsAfter os ns
    → drop i ns ≡ drop i os
    → drop s.len s.chars ≡ drop s.len (get_or ns i d).chars → KeepCharsAfter os (set ns i s)
keep_put os ns i s d l k e h =
    keep_set os ns i s d l k (h ∙ ap (λ u. drop s.len u.chars) (same_first ns os i d e))
