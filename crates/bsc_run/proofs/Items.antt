-- Items that cross a cable one after another.
use Rattle.std.proofs.Common.{◌≡◌, ◌<◌, ℕ, ◌+◌, List, ◌∷◌, [], ◌++◌, length, take, map, Option}
use Rattle.std.proofs.Common.{get_or, refl, sym, ◌∙◌, ap, subst, arith, length-append}
use Rattle.std.proofs.lemmas.List.{take_more, length-take-le, map-append, length-map}
use Rattle.std.specs.Borrow.{Bor}
use Rattle.bsc_carrier.specs.Cable.{CableValue}
use Rattle.bsc_line_model.specs.Hearing.{octets_in}
use Rattle.bsc_run.specs.Crossing.{ItemCrosses, ItemsCross, none, one_more, Streams}

-- one more item crosses
pub items_cross_more : {S W : Type 0} (streams : Streams S)
    (octets : Option W → Option (List ℕ))
    (items : List (Option (List ℕ))) (words : List (Option W)) (t : ℕ) (item : Option (List ℕ))
    (word : Option W)
    (old mid new : CableValue S) → t < length items → item ≡ get_or items t item
    → ItemsCross streams (take t items) (map octets words) old mid
    → ItemCrosses streams t item (octets word) mid new
    → ItemsCross streams (take (t + 1) items) (map octets (words ++ word ∷ [])) old new
items_cross_more {S} streams octets items words t item word old mid new below is before
    crossed =
    let all : take (t + 1) items ≡ take t items ++ item ∷ [] =
    take_more items t item below ∙ ap (λ x. take t items ++ x ∷ []) (sym is) in
    let place : length (take t items) ≡ t = length-take-le t items (omega arith) in
    rw (all, map-append octets words (word ∷ []))
    (one_more item (octets word) before
    (subst (λ (k : ℕ). ItemCrosses streams k item (octets word) mid new) (sym place)
    crossed))

-- there are as many words as items
length_crossed : {S : Type 0} {streams : Streams S}
    {items heard : List (Option (List ℕ))} {old new : CableValue S}
    → ItemsCross streams items heard old new → length heard ≡ length items
length_crossed none = refl
length_crossed (one_more {items} {heard} item word before crossed) =
    length-append heard (word ∷ []) ∙ ap (λ (n : ℕ). n + 1) (length_crossed before)
    ∙ sym (length-append items (item ∷ []))

pub slices_count : {S W : Type 0} (streams : Streams S)
    (octets : Option W → Option (List ℕ))
    (items : List (Option (List ℕ))) (words : List (Option W))
    (slices : List (Option (Bor (List ℕ)))) (old new : CableValue S)
    → ItemsCross streams items (map octets words) old new → map octets_in slices
    ≡ map octets words
    → length slices ≡ length items
slices_count streams octets items words slices old new crossed same =
    sym (length-map slices octets_in) ∙ ap length same ∙ length_crossed crossed
