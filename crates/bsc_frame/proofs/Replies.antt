-- The replies: the form that their octets have, that each is read from its octets, and that the
-- comparison of two replies decides whether they are the same.
use Rattle.std.proofs.Common.{◌≡◌, ◌⊎◌, inl, inr, ℕ, ◌==◌, true, false, refl, sym, subst, ◌∙◌}
use Rattle.std.proofs.Common.{arith, List, [], ◌∷◌, Some}
use Rattle.std.specs.Bool.{Decides}
use Rattle.std.specs.Int.Count.{ones}
use Rattle.std.specs.Str.{bytes_eq}
use mathlib.Core.Bool.{true≢false}
use Rattle.bsc_octet.specs.Octet.{IsOdd, odd_octet}
use Rattle.bsc_octet.proofs.OddOctets.{is_odd_odd_octet}
use Rattle.bsc_frame.specs.Reading.{control}
use Rattle.bsc_frame.specs.Replies.{reply_octets, reply_spelled}
use Rattle.bsc_octet.specs.declared.controls.TheConstants.{ACK0, ACK1, DLE, NAK, PAD, RVI, WACK}
use Rattle.bsc_frame.specs.declared.message.Message.TheVariants as m
use Rattle.bsc_frame.specs.declared.reply.Reply.{Reply}
use Rattle.bsc_frame.specs.declared.reply.Reply.TheVariants.{Ack0, Ack1, Nak, Wack, Rvi}
use Rattle.bsc_frame.specs.contracts.reply.ReplyPartialEq.TheImpl.{eq-value}
use Rattle.bsc_frame.proofs.ReadingSteps.{branch_of_test, equal_octets_are_same}

-- ---- the form of their octets

-- DLE and one octet more, of odd parity and not PAD
pub record IsPair (octets : List ℕ) : Type 0 where
  pub second : ℕ
  pub whole : octets ≡ DLE ∷ second ∷ []
  pub odd : IsOdd second
  pub no_pad : (second == PAD) ≡ false

-- the second octet of each reply of two octets is the octet of its code
ack0_odd : IsOdd 0xb0
unfolding odd_octet ones
ack0_odd = is_odd_odd_octet 0x30 (omega arith)

ack1_odd : IsOdd 0x31
unfolding odd_octet ones
ack1_odd = is_odd_odd_octet 0x31 (omega arith)

wack_odd : IsOdd 0x3b
unfolding odd_octet ones
wack_odd = is_odd_odd_octet 0x3b (omega arith)

rvi_odd : IsOdd 0xbc
unfolding odd_octet ones
rvi_odd = is_odd_odd_octet 0x3c (omega arith)

-- a reply is NAK, or a pair
pub reply_form : (r : Reply) → (reply_octets r ≡ NAK ∷ []) ⊎ IsPair (reply_octets r)
reply_form Ack0 = inr (record { second = 0xb0; whole = refl; odd = ack0_odd; no_pad = refl })
reply_form Ack1 = inr (record { second = 0x31; whole = refl; odd = ack1_odd; no_pad = refl })
reply_form Nak = inl refl
reply_form Wack = inr (record { second = 0x3b; whole = refl; odd = wack_odd; no_pad = refl })
reply_form Rvi = inr (record { second = 0xbc; whole = refl; odd = rvi_odd; no_pad = refl })

-- ---- reading

-- each reply is read from its octets
pub reply_read : (r : Reply) → control (reply_octets r) ≡ Some (m.Reply r)
unfolding control
reply_read Ack0 = refl
reply_read Ack1 = refl
reply_read Nak = refl
reply_read Wack = refl
reply_read Rvi = refl

-- two options that are the same hold the same reply
same_reply : {x y : Reply} → Some x ≡ Some y → x ≡ y
same_reply e = cc

-- octets that equal those of a reply are those of the reply that is read from them
those_of : (body : List ℕ) (r s : Reply) → bytes_eq body (reply_octets r) ≡ true
    → Some r ≡ Some s → body ≡ reply_octets s
those_of body r s b e =
    equal_octets_are_same body (reply_octets r) b ∙ subst (λ (z : Reply). reply_octets r ≡ reply_octets z)
    (same_reply e) refl

-- octets from which a reply is read are its octets
pub reply_reads : (body : List ℕ) (r : Reply) → reply_spelled body ≡ Some r → body ≡ reply_octets r
reply_reads body r e = elim (branch_of_test (bytes_eq body ACK0) _ _ _ e) [
  | inl h ↦ those_of body Ack0 r h.0 h.1
  | inr e ↦ elim (branch_of_test (bytes_eq body ACK1) _ _ _ e.1) [
    | inl h ↦ those_of body Ack1 r h.0 h.1
    | inr e ↦ elim (branch_of_test (bytes_eq body (NAK ∷ [])) _ _ _ e.1) [
      | inl h ↦ those_of body Nak r h.0 h.1
      | inr e ↦ elim (branch_of_test (bytes_eq body WACK) _ _ _ e.1) [
        | inl h ↦ those_of body Wack r h.0 h.1
        | inr e ↦ elim (branch_of_test (bytes_eq body RVI) _ _ _ e.1) [
          | inl h ↦ those_of body Rvi r h.0 h.1
          | inr e ↦ absurd (let h = e.1 in cc)
        ]
      ]
    ]
  ]
]

-- ---- equality

-- false is not true
false_is_not_true : false ≡ true → ⊥
false_is_not_true e = true≢false (sym e)

-- replies that compare as equal are the same
equal_replies_are_same : (r s : Reply) → eq-value.it r s ≡ true → r ≡ s
equal_replies_are_same Ack0 Ack0 e = refl
equal_replies_are_same Ack0 Ack1 e = absurd (false_is_not_true e)
equal_replies_are_same Ack0 Nak e = absurd (false_is_not_true e)
equal_replies_are_same Ack0 Wack e = absurd (false_is_not_true e)
equal_replies_are_same Ack0 Rvi e = absurd (false_is_not_true e)
equal_replies_are_same Ack1 Ack0 e = absurd (false_is_not_true e)
equal_replies_are_same Ack1 Ack1 e = refl
equal_replies_are_same Ack1 Nak e = absurd (false_is_not_true e)
equal_replies_are_same Ack1 Wack e = absurd (false_is_not_true e)
equal_replies_are_same Ack1 Rvi e = absurd (false_is_not_true e)
equal_replies_are_same Nak Ack0 e = absurd (false_is_not_true e)
equal_replies_are_same Nak Ack1 e = absurd (false_is_not_true e)
equal_replies_are_same Nak Nak e = refl
equal_replies_are_same Nak Wack e = absurd (false_is_not_true e)
equal_replies_are_same Nak Rvi e = absurd (false_is_not_true e)
equal_replies_are_same Wack Ack0 e = absurd (false_is_not_true e)
equal_replies_are_same Wack Ack1 e = absurd (false_is_not_true e)
equal_replies_are_same Wack Nak e = absurd (false_is_not_true e)
equal_replies_are_same Wack Wack e = refl
equal_replies_are_same Wack Rvi e = absurd (false_is_not_true e)
equal_replies_are_same Rvi Ack0 e = absurd (false_is_not_true e)
equal_replies_are_same Rvi Ack1 e = absurd (false_is_not_true e)
equal_replies_are_same Rvi Nak e = absurd (false_is_not_true e)
equal_replies_are_same Rvi Wack e = absurd (false_is_not_true e)
equal_replies_are_same Rvi Rvi e = refl

-- a reply compares as equal to itself
reply_equals_itself : (r : Reply) → eq-value.it r r ≡ true
reply_equals_itself Ack0 = refl
reply_equals_itself Ack1 = refl
reply_equals_itself Nak = refl
reply_equals_itself Wack = refl
reply_equals_itself Rvi = refl

-- the comparison decides whether two replies are the same
pub reply_decides : (r s : Reply) → Decides (eq-value.it r s) (r ≡ s)
reply_decides r s = (equal_replies_are_same r s, λ e. subst (λ (k : Reply). eq-value.it r k ≡ true) e (reply_equals_itself r))
