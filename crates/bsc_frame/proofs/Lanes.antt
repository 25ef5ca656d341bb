-- From the mask of 32 lanes to the octets at the front that pass a test.
use Rattle.std.proofs.Common.{◌≡◌, ℕ, ◌%◌, ◌^◌, ◌==◌, Bool, true, false, not, ◌||◌, cond, List, []}
use Rattle.std.proofs.Common.{◌∷◌, map}
use Rattle.std.proofs.Common.{length, refl, ap, ◌∙◌, arith, bit_or, bit_and}
use Rattle.std.specs.Int.{w64, trailing_zeros}
use Rattle.std.specs.List.{prefix_len}
use Rattle.std.specs.Simd.Lanes.{mask_l, top}
use Rattle.std.proofs.lemmas.Simd.{map-map, mask_l-mod, first_set_mask_l}
use Rattle.std.proofs.lemmas.List.{length-map}
use Rattle.bsc_frame.specs.declared.front.TheConstants.{LANES}

-- the first lane that is set in the mask is the first octet that stops the run
pub first_lane_is : (stops : ℕ → Bool) (f : ℕ → ℕ) (octets lanes : List ℕ) (r : ℕ)
    → ((x : ℕ) → top 7 (f x) ≡ stops x) → length octets ≡ LANES → lanes ≡ map f octets
    → r ≡ cond (mask_l (map (top 7) lanes) % 2 ^ 64 == 0) LANES
    (trailing_zeros w64 (mask_l (map (top 7) lanes) % 2 ^ 64))
    → r ≡ prefix_len (λ x. not (stops x)) octets
first_lane_is stops f octets lanes r e long by found =
    let each : map (top 7) lanes ≡ map stops octets =
    ap (map (top 7)) by ∙ map-map (top 7) f octets ∙ map_same octets in
    let mask : mask_l (map (top 7) lanes) % 2 ^ 64 ≡ mask_l (map stops octets) =
    ap (λ l. mask_l l % 2 ^ 64) each ∙ mask_l-mod (map stops octets) 64
    (omega (arith, length-map octets stops)) in
    found ∙ ap (λ m. cond (m == 0) LANES (trailing_zeros w64 m)) mask
    ∙ first_set_mask_l stops octets LANES long (omega arith)
  where
    map_same : (xs : List ℕ) → map (λ x. top 7 (f x)) xs ≡ map stops xs
    map_same [] = refl
    map_same (x ∷ xs) = rw (e x, map_same xs) refl

-- the lanes of a comparison are all ones or none
pub top_bit_of_any_lane_test : (a b c : Bool)
    → top 7 (bit_or (bit_or (cond a 255 0) (cond b 255 0)) (cond c 255 0)) ≡ (a || (b || c))
top_bit_of_any_lane_test true true true = refl
top_bit_of_any_lane_test true true false = refl
top_bit_of_any_lane_test true false true = refl
top_bit_of_any_lane_test true false false = refl
top_bit_of_any_lane_test false true true = refl
top_bit_of_any_lane_test false true false = refl
top_bit_of_any_lane_test false false true = refl
top_bit_of_any_lane_test false false false = refl

-- the highest bit of a lane is set if neither of two tests passes
pub top_bit_of_no_lane_test : (a b : Bool) → top 7 (bit_and (cond (not a) 255 0) (cond (not b) 255 0))
    ≡ not (a || b)
top_bit_of_no_lane_test true true = refl
top_bit_of_no_lane_test true false = refl
top_bit_of_no_lane_test false true = refl
top_bit_of_no_lane_test false false = refl

-- tests that agree pass the same front
pub prefix_len_same : (p q : ℕ → Bool) → ((x : ℕ) → p x ≡ q x) → (xs : List ℕ)
    → prefix_len p xs ≡ prefix_len q xs
prefix_len_same p q e [] = refl
prefix_len_same p q e (x ∷ xs) = rw (e x, prefix_len_same p q e xs) refl

-- a double negation has no effect
pub not_twice : (b : Bool) → not (not b) ≡ b
not_twice true = refl
not_twice false = refl
