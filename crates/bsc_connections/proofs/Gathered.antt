-- What is kept of pieces that arrive without a gap, and how they are counted.
use Rattle.std.proofs.Common.{◌≡◌, ℕ, ◌+◌, ◌<◌, ◌≤◌, Bool, true, false, List, [], ◌∷◌, ◌++◌, length}
use Rattle.std.proofs.Common.{take, refl, sym, ◌∙◌, ap, append_assoc, append-nil}
use Rattle.std.proofs.Common.{length-append, arith}
use Rattle.std.proofs.lemmas.List.{take_all, length-take-le}
use Rattle.std.specs.List.{concat}
use Rattle.bsc_frame.specs.declared.limits.TheConstants.{MAX_HEARD}
use Rattle.bsc_frame.specs.Spells.{IsNoise}
use Rattle.bsc_carrier.proofs.Kept.{take_again}
use Rattle.bsc_connections.specs.declared.limits.TheConstants.{KEPT, MOST_WITHOUT_GAP}
use Rattle.bsc_connections.specs.Framings.{GapsValue, GathersAll, ArriveBetweenGaps, IsHeardOf}
use Rattle.bsc_connections.specs.Framings.{EndsAll}

begun_after_pieces : (all : List ℕ) (old new : GapsValue) (pieces : List (List ℕ)) → old.begun
    ≡ take KEPT all → GathersAll old pieces new → new.begun ≡ take KEPT (all ++ concat pieces)
begun_after_pieces all old new [] begun fed = ap (λ (v : GapsValue). v.begun) fed ∙ begun
    ∙ ap (take KEPT) (sym (append-nil all))
begun_after_pieces all old new (piece ∷ pieces) begun (mid, gathers, rest) =
    let here : mid.begun ≡ take KEPT (all ++ piece) =
    ap (λ (v : GapsValue). v.begun) gathers.3
    ∙ ap (λ (front : List ℕ). take KEPT (front ++ piece)) begun
    ∙ take_again KEPT all piece in
    begun_after_pieces (all ++ piece) mid new pieces here rest
    ∙ ap (take KEPT) (append_assoc all piece (concat pieces))

pub count_after_pieces : (old new : GapsValue) (pieces : List (List ℕ)) → GathersAll old pieces new
    → new.arrived ≡ old.arrived + length (concat pieces)
count_after_pieces old new [] fed = let same : new.arrived ≡ old.arrived =
    ap (λ (v : GapsValue). v.arrived) fed in omega (arith, same)
count_after_pieces old new (piece ∷ pieces) (mid, gathers, rest) =
    let here : mid.arrived ≡ old.arrived + length piece =
    ap (λ (v : GapsValue). v.arrived) gathers.3 in
    omega (arith, here, count_after_pieces mid new pieces rest, length-append piece (concat pieces))

pub count_stays_bounded : (old new : GapsValue) (pieces : List (List ℕ))
    → old.arrived ≤ MOST_WITHOUT_GAP
    → GathersAll old pieces new → old.arrived + length (concat pieces) ≤ MOST_WITHOUT_GAP
count_stays_bounded old new [] bound fed = omega (arith, bound)
count_stays_bounded old new (piece ∷ pieces) bound (mid, gathers, rest) =
    let here : mid.arrived ≡ old.arrived + length piece =
    ap (λ (v : GapsValue). v.arrived) gathers.3 in
    let later = count_stays_bounded mid new pieces (omega (arith, here, gathers.2)) rest in
    omega (arith, here, later, length-append piece (concat pieces))

complete_kept_by_pieces : (old new : GapsValue) (pieces : List (List ℕ)) → GathersAll old pieces new
    → new.complete ≡ old.complete
complete_kept_by_pieces old new [] fed = ap (λ (v : GapsValue). v.complete) fed
complete_kept_by_pieces old new (piece ∷ pieces) (mid, gathers, rest) =
    complete_kept_by_pieces mid new pieces rest ∙ ap (λ (v : GapsValue). v.complete) gathers.3

begun_after_pieces_from_nothing : (old held : GapsValue) (pieces : List (List ℕ)) → old.begun ≡ []
    → GathersAll old pieces held → held.begun ≡ take KEPT (concat pieces)
begun_after_pieces_from_nothing old held pieces none fed = begun_after_pieces [] old held pieces
    none fed

too_long_is_noise : (octets : List ℕ) → MAX_HEARD < length octets → IsNoise octets
too_long_is_noise octets many =
    (λ m spelled. omega (arith, many, spelled.small), λ failed. omega (arith, many, failed.small))

heard_of_complete : (pieces : List (List ℕ)) (complete : List ℕ)
    → complete ≡ take KEPT (concat pieces)
    → IsHeardOf pieces complete
heard_of_complete pieces complete first = record {
  first = first;
  all = λ few. first ∙ take_all KEPT (concat pieces) (omega (arith, few));
  noise =
      λ many. too_long_is_noise complete (let long : length complete ≡ KEPT = ap length first
      ∙ length-take-le KEPT (concat pieces) (omega (arith, many)) in omega (arith, long));
}

nothing_taken_of_nothing : (octets : List ℕ) → take KEPT octets ≡ [] → octets ≡ []
nothing_taken_of_nothing [] none = refl
nothing_taken_of_nothing (x ∷ octets) none = let clash : x ∷ take MAX_HEARD octets ≡ [] = none in
    absurd cc

pub gap_ends_all_pieces : (old new : GapsValue) (pieces : List (List ℕ)) (ended : Bool)
    → ArriveBetweenGaps old pieces ended new → EndsAll old pieces ended new
gap_ends_all_pieces old new pieces true a =
    let begun = begun_after_pieces_from_nothing old a.held pieces a.nothing_begun a.arrive in (
      λ none. a.gap.0 (begun ∙ ap (take KEPT) none),
      heard_of_complete pieces new.complete (ap (λ (v : GapsValue). v.complete) a.gap.1 ∙ begun),
    )
gap_ends_all_pieces old new pieces false a =
    let begun = begun_after_pieces_from_nothing old a.held pieces a.nothing_begun a.arrive in (
      nothing_taken_of_nothing (concat pieces) (sym begun ∙ a.gap.0),
      ap (λ (v : GapsValue). v.complete) a.gap.1 ∙ complete_kept_by_pieces old a.held pieces
          a.arrive,
    )
