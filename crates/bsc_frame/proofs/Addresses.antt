-- Codes that are an address, and the buffer that holds them.
use Rattle.std.proofs.Common.{◌≡◌, ℕ, ◌-◌, ◌≤◌, not, refl, sym, ap}
use Rattle.std.proofs.Common.{arith, List}
use Rattle.std.proofs.Common.{[], ◌∷◌, ◌++◌, length, take, drop, replicate, None}
use Rattle.std.proofs.Common.{position}
use Rattle.std.proofs.Math.Seq.{take-append_seam}
use Rattle.std.proofs.lemmas.List.{drop-replicate}
use Rattle.bsc_frame.specs.Addresses.{IsAddress, HoldsAddress}
use Rattle.bsc_octet.specs.Octet.{is_address_code}
use Rattle.bsc_frame.specs.declared.limits.TheConstants.{MAX_ADDRESS}
use Rattle.bsc_octet.proofs.Elements.{none_fails}

-- what is left of a buffer of zeros after n of them
zeros_left : (n : ℕ) → drop {A = ℕ} n (0 ∷ 0 ∷ 0 ∷ 0 ∷ 0 ∷ 0 ∷ 0 ∷ [])
    ≡ replicate (MAX_ADDRESS - n) 0
zeros_left n = drop-replicate n MAX_ADDRESS 0

-- the codes of an address, put to the front of a buffer of zeros, are held there
pub holds_address : (codes : List ℕ) → IsAddress codes
    → HoldsAddress (codes ++ drop {A = ℕ} (length codes) (0 ∷ 0 ∷ 0 ∷ 0 ∷ 0 ∷ 0 ∷ 0 ∷ []))
    (length codes)
holds_address codes h =
    let front : take (length codes) (codes
    ++ drop {A = ℕ} (length codes) (0 ∷ 0 ∷ 0 ∷ 0 ∷ 0 ∷ 0 ∷ 0 ∷ [])) ≡ codes =
    take-append_seam codes _ in
    record {
      address = rw front h;
      long = rw front refl;
      zeros = rw front (ap (λ z. codes ++ z) (sym (zeros_left (length codes))));
    }

-- codes that pass the tests of `read` are an address
pub is_address : (codes : List ℕ) → (length codes ≡ 0 → ⊥) → length codes ≤ MAX_ADDRESS
    → position (λ c. not (is_address_code c)) codes ≡ None → IsAddress codes
is_address codes some most none =
    record { some = omega arith; most = most; each = none_fails is_address_code codes none }
