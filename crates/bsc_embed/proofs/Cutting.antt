-- Octets are cut into pieces, a length after the other.
use Rattle.std.proofs.Common.{◌≡◌, ℕ, ◌+◌, ◌<◌, ◌≤◌, sym, ap, ◌∙◌, arith, add-one}
use Rattle.std.proofs.Common.{List, [], ◌∷◌, ◌++◌, length, take, drop, set, map, get_or, Option}
use Rattle.std.proofs.Common.{Result}
use Rattle.std.proofs.Common.{append_assoc, length-set, length-drop, drop-cons, sum_by}
use Rattle.std.proofs.lemmas.Bool.Decides.{nat_tests}
use Rattle.std.specs.Borrow.{Bor}
use Rattle.std.proofs.lemmas.List.{take_more_set, map-append, take_all, drop_all, append-nil}
use Rattle.std.proofs.lemmas.List.Sums.{sum_by_more, sum_by_more_le}
use Rattle.bsc_line_model.specs.Hearing.{octets_in}
use Rattle.bsc_bid.specs.declared.limits.TheConstants.{MAX_TERMINALS}
use Rattle.bsc_line_model.specs.declared.error.LineError.{LineError}
use Rattle.bsc_line_model.specs.declared.event.Event.TheVariants.{CarryEach}
use Rattle.bsc_line_model.specs.Line.{LineValue}
use Rattle.bsc_line_model.specs.Runs.{Does}
use Rattle.bsc_line_model.specs.StepLaws.{StepsAs}
use Rattle.bsc_embed.specs.declared.interface.fault.Fault.{Fault}
use Rattle.bsc_embed.specs.declared.line_calls.hearings.TheConstants.{LOST}
use Rattle.bsc_embed.specs.LineEvents.{as_told}
use Rattle.bsc_embed.specs.LineHearings.{taken, piece, pieces, AreLengths, HearsPieces}

-- the octets that items lend
abbrev pub lent : List (Option (Bor (List ℕ))) → List (Option (List ℕ))
lent items = map octets_in items

-- the first i items are cut, and the rest of the octets is to be cut by the rest of the lengths
pub record IsCutTo (octets lengths : List ℕ) (items : List (Option (Bor (List ℕ))))
    (rest : List ℕ) (i : ℕ) : Type 0 where
  pub sized : length items ≡ MAX_TERMINALS
  pub cut : lent (take i items) ++ pieces rest (drop i lengths) ≡ pieces octets lengths
  pub count : sum_by taken (take i lengths) + length rest ≡ length octets

-- one item more is cut
pub cut_more : (octets lengths : List ℕ) (items : List (Option (Bor (List ℕ)))) (rest : List ℕ)
    (i : ℕ) (item : Option (Bor (List ℕ))) (after : List ℕ)
    → IsCutTo octets lengths items rest i → i < length lengths → i < MAX_TERMINALS
    → octets_in item ≡ piece rest (get_or lengths i 0)
    → after ≡ drop (taken (get_or lengths i 0)) rest
    → taken (get_or lengths i 0) ≤ length rest
    → IsCutTo octets lengths (set items i item) after (i + 1)
cut_more octets lengths items rest i item after p within few is left fits =
    let len : ℕ = get_or lengths i 0 in
    let others : List ℕ = drop (i + 1) lengths in
    let front : List (Option (List ℕ)) = lent (take i items) in
    let there : i < length items = omega arith in
    let next : lent (take (i + 1) (set items i item)) ≡ front ++ octets_in item ∷ [] =
    ap lent (take_more_set items i item there)
    ∙ map-append octets_in (take i items) (item ∷ []) in
    let here : drop i lengths ≡ len ∷ others = rw (add-one, drop-cons lengths i 0) in
    let cut : lent (take (i + 1) (set items i item)) ++ pieces after others
    ≡ pieces octets lengths =
    ap (λ (xs : List (Option (List ℕ))). xs ++ pieces after others) next
    ∙ append_assoc front (octets_in item ∷ []) (pieces after others)
    ∙ ap (λ (x : Option (List ℕ)). front ++ x ∷ pieces after others) is
    ∙ ap (λ (xs : List ℕ). front ++ piece rest len ∷ pieces xs others) left
    ∙ ap (λ (xs : List ℕ). front ++ pieces rest xs) (sym here)
    ∙ p.cut in
    record {
      sized = length-set items i item ∙ p.sized;
      cut = cut;
      count =
          omega (
            arith,
            sum_by_more taken lengths i 0 within,
            length-drop (taken len) rest,
            ap length left,
          );
    }

-- the pieces are cut after the last of the lengths
pub all_cut : (octets lengths : List ℕ) (items : List (Option (Bor (List ℕ)))) (rest : List ℕ)
    (i : ℕ)
    → IsCutTo octets lengths items rest i → i ≡ length lengths
    → lent (take (length lengths) items) ≡ pieces octets lengths
all_cut octets lengths items rest i p last =
    let done : length lengths ≤ i = omega arith in
    ap (λ (n : ℕ). lent (take n items)) (sym last)
    ∙ sym (append-nil (lent (take i items)))
    ∙ ap (λ (xs : List ℕ). lent (take i items) ++ pieces rest xs) (sym (drop_all i lengths done))
    ∙ p.cut

-- a length that is no loss takes as many octets
pub taken_whole : (len : ℕ) → (len ≡ LOST → ⊥) → taken len ≡ len
taken_whole len whole = grind (arith, nat_tests)

-- the lengths are right if nothing is left after the last of them
pub all_right : (octets lengths : List ℕ) (items : List (Option (Bor (List ℕ)))) (rest : List ℕ)
    (i : ℕ)
    → IsCutTo octets lengths items rest i → length lengths ≤ i → length rest ≡ 0
    → length lengths ≤ MAX_TERMINALS → AreLengths octets lengths
all_right octets lengths items rest i p done none few =
    record {
      few = few;
      all = omega (arith, ap (sum_by taken) (take_all i lengths done), p.count);
    }

-- the lengths are wrong if one of them is greater than what is left
pub too_long : (octets lengths : List ℕ) (items : List (Option (Bor (List ℕ)))) (rest : List ℕ)
    (i : ℕ)
    → IsCutTo octets lengths items rest i → i < length lengths
    → length rest < taken (get_or lengths i 0) → AreLengths octets lengths → ⊥
too_long octets lengths items rest i p within long right =
    omega (arith, sum_by_more_le taken lengths i 0 within, p.count, right.all)

-- the event of items that lend the pieces, with its answer told
pub each_told : (octets lengths : List ℕ) (items : Bor (List (Option (Bor (List ℕ)))))
    (old new : LineValue) (result : Result (Unit {0}) LineError)
    (answer : Result (Unit {0}) Fault)
    → AreLengths octets lengths → lent items.now ≡ pieces octets lengths
    → Does (CarryEach items) old result new → StepsAs (CarryEach items) old result new
    → answer ≡ as_told result
    → HearsPieces octets lengths old new answer
each_told octets lengths items old new result answer right cut does steps told =
    record {
      right = right;
      items = items;
      cut = cut;
      done = record { result = result; does = does; steps = steps; told = told };
    }
