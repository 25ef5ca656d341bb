-- The lines of a station that were printed so far.
use Rattle.std.proofs.Common.{◌≡◌, ℕ, List, [], ◌∷◌, ◌++◌, true, false, Option, Some, None, sym, ap, subst}
use Rattle.std.proofs.Common.{◌∙◌, ◌<◌, ◌==◌, append-nil, append_assoc, arith, length, refl}
use Rattle.std.proofs.KnownBytes.{Appends-nil, Appends-trans}
use Rattle.std.proofs.lemmas.Grind.{flat_map-append}
use Rattle.std.proofs.lemmas.List.Splits.{length-slice_split}
use Rattle.std.specs.Io.KnownBytes.{Appends}
use Rattle.std.specs.List.{AllByRecursion, flat_map}
use Rattle.bsc_text.specs.InputLines.{parts_of}
use Rattle.bsc_clients.specs.Answers.{EndsInFault, HasNoFault, Hears, HearsAll, HearsOne, HearsTo}
use Rattle.bsc_clients.specs.Answers.{IsAnswer}
use Rattle.bsc_clients.specs.Answers.{Prints, PrintsOne, TellsNoFault, is_fault, kind_of, whole_lines}
use Rattle.bsc_clients.specs.Answers.{line_shown, without_last}
use Rattle.bsc_clients.specs.declared.command.answers.Kind.{Kind}
use Rattle.bsc_clients.specs.declared.command.answers.Kind.TheVariants.{News}

-- Lines that are not answers were printed.
pub record TellsNews (old new : Option (List ℕ)) : Type 0 where
  pub news : List (List ℕ)
  pub others : AllByRecursion (λ line. kind_of line ≡ News) news
  pub printed : Prints old new news

pub appends_all : (shown : List ℕ → List ℕ) (a b c : Option (List ℕ)) (xs ys : List (List ℕ))
    → Appends a b (flat_map shown xs) → Appends b c (flat_map shown ys)
    → Appends a c (flat_map shown (xs ++ ys))
appends_all shown a b c xs ys p q =
    subst (Appends a c) (sym (flat_map-append shown xs ys))
    (Appends-trans a b c (flat_map shown xs) (flat_map shown ys) p q)

pub prints_append : (a b c : Option (List ℕ)) (xs ys : List (List ℕ)) → Prints a b xs
    → Prints b c ys → Prints a c (xs ++ ys)
prints_append = appends_all line_shown

pub all_append : {X : Type 0} (P : X → Type 0) (xs ys : List X) → AllByRecursion P xs
    → AllByRecursion P ys → AllByRecursion P (xs ++ ys)
all_append P [] ys h k = k
all_append P (x ∷ xs) ys h k = (h.0, all_append P xs ys h.1 k)

pub news_nil : (a : Option (List ℕ)) → TellsNews a a
news_nil a = record { news = []; others = tt; printed = Appends-nil a }

pub news_more : (a b c : Option (List ℕ)) → TellsNews a b → PrintsOne (Some News) b c
    → TellsNews a c
news_more a b c told (line, is, printed) = record {
  news = told.news ++ line ∷ [];
  others = all_append (λ l. kind_of l ≡ News) told.news (line ∷ []) told.others (is, tt);
  printed = prints_append a b c told.news (line ∷ []) told.printed printed;
}

pub news_answer : (kind : Kind) (a b c : Option (List ℕ)) → TellsNews a b
    → PrintsOne (Some kind) b c → IsAnswer kind a c
news_answer kind a b c told (line, is, printed) = record {
  news = told.news;
  last = line;
  others = told.others;
  answers = is;
  printed = prints_append a b c told.news (line ∷ []) told.printed printed;
}

pub told_nil : (a : Option (List ℕ)) → TellsNoFault a a
told_nil a = record { told = []; faultless = tt; printed = Appends-nil a }

pub told_more : (kind : Kind) (a b c : Option (List ℕ)) → TellsNoFault a b
    → PrintsOne (Some kind) b c → is_fault kind ≡ false → TellsNoFault a c
told_more kind a b c told (line, is, printed) other = record {
  told = told.told ++ line ∷ [];
  faultless =
      all_append (λ l. is_fault (kind_of l) ≡ false) told.told (line ∷ []) told.faultless
      (ap is_fault is ∙ other, tt);
  printed = prints_append a b c told.told (line ∷ []) told.printed printed;
}

pub told_fault : (kind : Kind) (a b c : Option (List ℕ)) → TellsNoFault a b
    → PrintsOne (Some kind) b c → is_fault kind ≡ true → EndsInFault a c
told_fault kind a b c told (line, is, printed) refused = record {
  told = told.told;
  last = line;
  faultless = told.faultless;
  fault = ap is_fault is ∙ refused;
  printed = prints_append a b c told.told (line ∷ []) told.printed printed;
}

pub told_end : (a b c : Option (List ℕ)) → TellsNoFault a b → PrintsOne None b c
    → TellsNoFault a c
told_end a b c told printed = record {
  told = told.told;
  faultless = told.faultless;
  printed =
      subst (Prints a c) (append-nil told.told)
      (prints_append a b c told.told [] told.printed printed);
}

-- The first lines of what was left to hear were heard and printed, and none of them is a fault.
pub record HasHeard (all left : List ℕ) (old new : Option (List ℕ)) : Type 0 where
  pub done : List (List ℕ)
  pub whole : parts_of all ≡ done ++ parts_of left
  pub faultless : HasNoFault done
  pub printed : Prints old new done

-- The same where it is known what was left and what is left.
abbrev pub HasHeardOf : Option (List ℕ) → Option (List ℕ) → Option (List ℕ) → Option (List ℕ)
    → Type 0
HasHeardOf None left old new = Unit {0}
HasHeardOf (Some all) None old new = ⊥
HasHeardOf (Some all) (Some left) old new = HasHeard all left old new

pub heard_first : (all a : Option (List ℕ)) → HasHeardOf all all a a
heard_first None a = tt
heard_first (Some all) a =
    record { done = []; whole = refl; faultless = tt; printed = Appends-nil a }

pub heard_more : (kind : Kind) (all heard left a b c : Option (List ℕ))
    → HasHeardOf all heard a b → HearsOne (Some kind) heard left b c → is_fault kind ≡ false
    → HasHeardOf all left a c
heard_more kind None heard left a b c has (line, is, reads, printed) other = tt
heard_more kind (Some all) None left a b c has (line, is, reads, printed) other = absurd has
heard_more kind (Some all) (Some heard) None a b c has (line, is, reads, printed) other =
    absurd reads
heard_more kind (Some all) (Some heard) (Some left) a b c has (line, is, reads, printed) other =
    record {
      done = has.done ++ line ∷ [];
      whole =
          has.whole ∙ ap (λ l. has.done ++ l) reads
          ∙ sym (append_assoc has.done (line ∷ []) (parts_of left));
      faultless =
          all_append (λ l. is_fault (kind_of l) ≡ false) has.done (line ∷ []) has.faultless
          (ap is_fault is ∙ other, tt);
      printed = prints_append a b c has.done (line ∷ []) has.printed printed;
    }

without_last_append : (done : List (List ℕ)) (part : List ℕ)
    → without_last (done ++ part ∷ []) ≡ done
without_last_append [] part = refl
without_last_append (line ∷ []) part = refl
without_last_append (line ∷ next ∷ lines) part =
    ap (λ l. line ∷ l) (without_last_append (next ∷ lines) part)

pub heard_end : (all heard left a b c : Option (List ℕ)) → HasHeardOf all heard a b
    → HearsOne None heard left b c → HearsAll all left a c
heard_end None heard left a b c has ((part, reads), printed) = tt
heard_end (Some all) None left a b c has ((part, reads), printed) = absurd has
heard_end (Some all) (Some heard) None a b c has ((part, reads), printed) = absurd reads
heard_end (Some all) (Some heard) (Some left) a b c has ((part, reads), printed) =
    let lines : whole_lines all ≡ has.done =
    ap without_last (has.whole ∙ ap (λ l. has.done ++ l) reads.0)
    ∙ without_last_append has.done part in (
      ap Some reads.1,
      subst HasNoFault (sym lines) has.faultless,
      subst (Prints a c) (append-nil has.done ∙ sym lines)
          (prints_append a b c has.done [] has.printed printed),
    )

pub hears_nil : (all a : Option (List ℕ)) → Hears all all a a
hears_nil None a = tt
hears_nil (Some all) a = record { told = []; whole = refl; printed = Appends-nil a }

pub hears_one : (kind : Kind) (heard left a b : Option (List ℕ))
    → HearsOne (Some kind) heard left a b → Hears heard left a b
hears_one kind None left a b hears = tt
hears_one kind (Some heard) None a b (line, is, reads, printed) = reads
hears_one kind (Some heard) (Some left) a b (line, is, reads, printed) =
    record { told = line ∷ []; whole = reads; printed = printed }

pub hears_trans : (all heard left a b c : Option (List ℕ)) → Hears all heard a b
    → Hears heard left b c → Hears all left a c
hears_trans None heard left a b c p q = tt
hears_trans (Some all) None left a b c p q = absurd p
hears_trans (Some all) (Some heard) None a b c p q = absurd q
hears_trans (Some all) (Some heard) (Some left) a b c p q = record {
  told = p.told ++ q.told;
  whole =
      p.whole ∙ ap (λ l. p.told ++ l) q.whole ∙ sym (append_assoc p.told q.told (parts_of left));
  printed = prints_append a b c p.told q.told p.printed q.printed;
}

pub hears_more : (kind : Kind) (all heard left a b c : Option (List ℕ)) → Hears all heard a b
    → HearsOne (Some kind) heard left b c → Hears all left a c
hears_more kind all heard left a b c p q =
    hears_trans all heard left a b c p (hears_one kind heard left b c q)

without_last_parts : (done parts : List (List ℕ)) → 0 < length parts
    → without_last (done ++ parts) ≡ done ++ without_last parts
without_last_parts [] parts h = refl
without_last_parts (line ∷ []) [] h = absurd (omega (arith, h))
without_last_parts (line ∷ []) (part ∷ parts) h = refl
without_last_parts (line ∷ next ∷ lines) parts h =
    ap (λ l. line ∷ l) (without_last_parts (next ∷ lines) parts h)

-- What is printed to the end after some lines.
pub hears_all : (all heard left a b c : Option (List ℕ)) → Hears all heard a b
    → HearsAll heard left b c → HearsTo true all a c
hears_all None heard left a b c p q = tt
hears_all (Some all) None left a b c p q = absurd p
hears_all (Some all) (Some heard) left a b c p q =
    let lines : whole_lines all ≡ p.told ++ whole_lines heard =
    ap without_last p.whole
    ∙ without_last_parts p.told (parts_of heard)
    (omega (arith, length-slice_split (λ octet. octet == 10) heard)) in
    subst (Prints a c) (sym lines)
    (prints_append a b c p.told (whole_lines heard) p.printed q.2)

-- The same of a reader that has all that was left to hear.
pub hears_left : (of left all a b : Option (List ℕ)) → of ≡ all
    → Hears of left a b → HearsTo false all a b
hears_left of left all a b same h = (left, subst (λ o. Hears o left a b) same h)

pub hears_ended : (of heard left all a b c : Option (List ℕ)) → of ≡ all
    → Hears of heard a b → HearsAll heard left b c → HearsTo true all a c
hears_ended of heard left all a b c same h ended =
    hears_all all heard left a b c (subst (λ o. Hears o heard a b) same h) ended
