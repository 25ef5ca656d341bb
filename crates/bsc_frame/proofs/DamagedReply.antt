-- Bodies of one and of two octets with one octet replaced by one of the other parity.
use Rattle.std.proofs.Common.{◌≡◌, ◌≢◌, inl, inr, ℕ, ◌<◌, sym, ap, subst, ◌∙◌, arith, List, [], ◌∷◌}
use Rattle.std.proofs.Common.{◌++◌}
use Rattle.std.proofs.Common.{length, map, length-append}
use Rattle.bsc_octet.specs.Octet.{IsOdd, odd_octet, HaveOtherParity}
use Rattle.bsc_frame.specs.Spells.{IsBody, AreAll}
use Rattle.bsc_frame.specs.declared.message.Message.{Message}
use Rattle.bsc_frame.specs.declared.message.Message.TheVariants.{Eot, Call, Enq, Reply, Text}
use Rattle.bsc_octet.specs.declared.controls.TheConstants.{DLE, ENQ, EOT, PAD, STX}
use Rattle.bsc_frame.proofs.Replies.{reply_form}
use Rattle.bsc_frame.proofs.Insides.{AfterFirst}
use Rattle.bsc_frame.proofs.DamagedText.{equal_lists_equal_heads, equal_lists_equal_tails}
use Rattle.bsc_frame.proofs.DamagedText.{not_both_odd, not_same}

-- a body of two octets begins with DLE or STX
no_more : (x : ℕ) (n : Message) (y : ℕ) → x ≢ DLE → x ≢ STX → IsBody n (x ∷ y ∷ []) → ⊥
no_more x Eot y p q h = omega (arith, ap length h)
no_more x (Call a) y p q h =
    omega (
      arith,
      ap length h.whole,
      h.address.some,
      length-append (EOT ∷ h.pads ++ h.syns ++ map odd_octet a) (ENQ ∷ []),
      length-append (EOT ∷ h.pads ++ h.syns) (map odd_octet a),
      some_codes a h.address.some,
    )
  where
    some_codes : (b : List ℕ) → 0 < length b → 0 < length (map odd_octet b)
    some_codes [] l = l
    some_codes (c ∷ b) l = omega arith
no_more x Enq y p q h = omega (arith, ap length h)
no_more x (Reply r) y p q h = elim (reply_form r) [
  | inl k ↦ omega (arith, ap length (h ∙ k))
  | inr k ↦ p (equal_lists_equal_heads (h ∙ k.whole))
]
no_more x (Text t) y p q h = q (equal_lists_equal_heads h.whole)

-- a message of one octet is lost if the PAD after it is changed to the other parity
pub lost_single : (x : ℕ) (n : Message) (before : List ℕ) (o : ℕ) (after : List ℕ) (new : ℕ)
    → x ≢ DLE → x ≢ STX
    → PAD ∷ [] ≡ before ++ o ∷ after → HaveOtherParity new o
    → AfterFirst x (before ++ new ∷ after) n → ⊥
lost_single x n (y ∷ before) o after new p q whole other b =
    omega (arith, ap length whole, length-append before (o ∷ after))
lost_single x n [] o after new p q whole other b =
    let was : o ≡ PAD = sym (equal_lists_equal_heads whole) in
    let none : after ≡ [] = sym (equal_lists_equal_tails whole) in
    by_body b.body b.trail (b.is_body) (sym (rw none at b.whole)) b.are_trail (rw was at other)
  where
    by_body : (body trail : List ℕ) → IsBody n (x ∷ body) → body ++ trail ≡ new ∷ []
        → AreAll PAD trail → HaveOtherParity new PAD → ⊥
    by_body [] [] h e k d = omega (arith, ap length e)
    by_body [] (t ∷ trail) h e k d = not_same new PAD d (sym (equal_lists_equal_heads e) ∙ k.0)
    by_body (z ∷ []) trail h e k d = no_more x n z p q h
    by_body (z ∷ w ∷ body) trail h e k d = omega (arith, ap length e)

-- the rest of a reply after DLE
record AfterDle (body : List ℕ) : Type 0 where
  second : ℕ
  whole : body ≡ second ∷ []
  odd : IsOdd second

-- the body of a message that begins with DLE is that of a reply of two octets
reply_body : (n : Message) (body : List ℕ) → IsBody n (DLE ∷ body) → AfterDle body
reply_body Eot body h = absurd (omega (arith, equal_lists_equal_heads h))
reply_body (Call a) body h = absurd (omega (arith, equal_lists_equal_heads h.whole))
reply_body Enq body h = absurd (omega (arith, equal_lists_equal_heads h))
reply_body (Reply r) body h = elim (reply_form r) [
  | inl k ↦ absurd (omega (arith, equal_lists_equal_heads (h ∙ k)))
  | inr k ↦ record { second = k.second; whole = equal_lists_equal_tails (h ∙ k.whole); odd = k.odd }
]
reply_body (Text t) body h = absurd (omega (arith, equal_lists_equal_heads h.whole))

-- a reply of two octets is lost if one octet after its DLE is changed to the other parity
pub lost_reply : (y : ℕ) (n : Message) (before : List ℕ) (o : ℕ) (after : List ℕ) (new : ℕ)
    → IsOdd y → y ∷ PAD ∷ [] ≡ before ++ o ∷ after → HaveOtherParity new o
    → AfterFirst DLE (before ++ new ∷ after) n
    → ⊥
lost_reply y n [] o after new odd whole other b =
    let r = reply_body n b.body b.is_body in
    let was : y ≡ o = equal_lists_equal_heads whole in
    let all : new ∷ after ≡ r.second ∷ b.trail = b.whole ∙ ap (λ z. z ++ b.trail) r.whole in
    not_both_odd new o other (subst IsOdd (sym (equal_lists_equal_heads all)) r.odd) (subst IsOdd was odd)
lost_reply y n (x ∷ []) o after new odd whole other b =
    let r = reply_body n b.body b.is_body in
    let was : PAD ≡ o = equal_lists_equal_heads (equal_lists_equal_tails whole) in
    let all : x ∷ new ∷ after ≡ r.second ∷ b.trail = b.whole ∙ ap (λ z. z ++ b.trail) r.whole in
    let pads : AreAll PAD (new ∷ after) = subst (AreAll PAD) (sym (equal_lists_equal_tails all)) b.are_trail in
    not_same new o other (pads.0 ∙ was)
lost_reply y n (x ∷ z ∷ before) o after new odd whole other b =
    omega (arith, ap length whole, length-append before (o ∷ after))
