-- A call with one octet after its EOT replaced by one of the other parity is no message, unless the
-- new octet is fill.
use Rattle.std.proofs.Common.{◌≡◌, ◌⊎◌, inl, inr, ℕ, suc, refl, sym, ap, subst, ◌∙◌, arith, List}
use Rattle.std.proofs.Common.{[], ◌∷◌}
use Rattle.std.proofs.Common.{◌++◌, length, length-append, append_assoc, append-nil, map}
use Rattle.std.proofs.Common.{count_ones, IsTrue}
use Rattle.std.specs.List.{AllByRecursion}
use Rattle.std.specs.Int.Count.{ones-ones}
use Rattle.std.proofs.lemmas.Bool.{eqb-false}
use Rattle.bsc_octet.specs.Octet.{IsOdd, odd_octet, is_address_code, HaveOtherParity}
use Rattle.bsc_frame.specs.Addresses.{IsAddress}
use Rattle.bsc_frame.specs.Spells.{IsBody, AreAll}
use Rattle.bsc_frame.specs.TurnedBits.{IsCallFill}
use Rattle.bsc_frame.specs.declared.message.Message.{Message}
use Rattle.bsc_frame.specs.declared.message.Message.TheVariants.{Eot, Call, Enq, Reply, Text}
use Rattle.bsc_octet.specs.declared.controls.TheConstants.{ENQ, EOT, PAD, SYN}
use Rattle.bsc_frame.proofs.ControlSequences.{plain_address_code, plain_odd}
use Rattle.bsc_frame.proofs.Replies.{reply_form}
use Rattle.bsc_frame.proofs.OddTexts.{syn_odd}
use Rattle.bsc_frame.proofs.BodyParity.{called_odd, address_odd, enq_odd}
use Rattle.bsc_frame.proofs.Places.{in_first_or_second_list, all_here, all_after}
use Rattle.bsc_frame.proofs.Insides.{AfterFirst}
use Rattle.bsc_frame.proofs.DamagedText.{equal_lists_equal_heads, equal_lists_equal_tails}
use Rattle.bsc_frame.proofs.DamagedText.{not_both_odd, not_same}
use Rattle.bsc_octet.proofs.Elements.{all_append}

-- PAD has even parity
pub pad_even : IsOdd PAD → ⊥
pad_even h = let eight : count_ones PAD ≡ 8 = ones-ones 8 in omega (arith, eight, h)

-- ---- what is heard of a call after its EOT

-- no octet is ENQ
abbrev NoEnq : List ℕ → Type 0
NoEnq = AllByRecursion (λ x. x ≡ ENQ → ⊥)

-- PAD, then octets with odd parity of which the last is the only ENQ, then PAD
record Called (rest : List ℕ) : Type 0 where
  pads : List ℕ
  syns : List ℕ
  address : List ℕ
  trail : List ℕ
  whole : rest ≡ pads ++ ((syns ++ map odd_octet address ++ ENQ ∷ []) ++ trail)
  are_pads : AreAll PAD pads
  are_syns : AreAll SYN syns
  is_address : IsAddress address
  are_trail : AreAll PAD trail

-- after EOT a message continues as a call, or there is only PAD
called_or_end : (n : Message) (rest : List ℕ) → AfterFirst EOT rest n → Called rest
    ⊎ AreAll PAD rest
called_or_end n rest b = by_message n b.is_body
  where
    ended : b.body ≡ [] → AreAll PAD rest
    ended e = rw (b.whole, e) b.are_trail

    by_message : (k : Message) → IsBody k (EOT ∷ b.body) → Called rest ⊎ AreAll PAD rest
    by_message Eot h = inr (ended (equal_lists_equal_tails h))
    by_message (Call a) h = inl (record {
      pads = h.pads;
      syns = h.syns;
      address = a;
      trail = b.trail;
      whole =
          b.whole ∙ ap (λ z. z ++ b.trail)
          (equal_lists_equal_tails h.whole ∙ append_assoc (h.pads ++ h.syns) (map odd_octet a) (ENQ ∷ [])
          ∙ append_assoc h.pads h.syns (map odd_octet a ++ ENQ ∷ [])
          ∙ ap (λ z. h.pads ++ z) (sym (append_assoc h.syns (map odd_octet a) (ENQ ∷ []))))
          ∙ append_assoc h.pads (h.syns ++ map odd_octet a ++ ENQ ∷ []) b.trail;
      are_pads = h.are_pads;
      are_syns = h.are_syns;
      is_address = h.address;
      are_trail = b.are_trail;
    })
    by_message Enq h = absurd (omega (arith, equal_lists_equal_heads h))
    by_message (Reply r) h = elim (reply_form r) [
      | inl k ↦ absurd (omega (arith, equal_lists_equal_heads (h ∙ k)))
      | inr k ↦ absurd (omega (arith, equal_lists_equal_heads (h ∙ k.whole)))
    ]
    by_message (Text t) h = absurd (omega (arith, equal_lists_equal_heads h.whole))

-- the first octet after the PAD is odd
first_odd : (syns a trail : List ℕ) (o : ℕ) (rest : List ℕ) → AreAll SYN syns → IsAddress a
    → o ∷ rest ≡ (syns ++ map odd_octet a ++ ENQ ∷ []) ++ trail → IsOdd o
first_odd (s ∷ syns) a trail o rest k h e = rw (equal_lists_equal_heads e, k.0) syn_odd
first_odd [] [] trail o rest k h e = rw (equal_lists_equal_heads e) enq_odd
first_odd [] (c ∷ a) trail o rest k h e = rw (equal_lists_equal_heads e) (address_odd (c ∷ a) h.each).0

-- there is no ENQ among the octets of an address
no_enq : (a : List ℕ) → AllByRecursion (λ c. IsTrue (is_address_code c)) a → NoEnq (map odd_octet a)
no_enq [] h = tt
no_enq (c ∷ a) h =
    (eqb-false (odd_octet c) ENQ (plain_odd c ENQ (plain_address_code c h.0) (inl refl)), no_enq a h.1)

-- there is no ENQ among octets that are all SYN
syns_no_enq : (syns : List ℕ) → AreAll SYN syns → NoEnq syns
syns_no_enq [] h = tt
syns_no_enq (s ∷ syns) h = ((λ e. absurd (omega (arith, h.0, e))), syns_no_enq syns h.1)

-- one ENQ does not stand before another
one_enq : (xs front more : List ℕ) (o : ℕ) → NoEnq xs → xs ++ ENQ ∷ [] ≡ front ++ ENQ ∷ (o ∷ more)
    → ⊥
one_enq xs front more o h e = elim (in_first_or_second_list xs (ENQ ∷ []) front ENQ (o ∷ more) e) [
  | inl p ↦ all_here (λ x. x ≡ ENQ → ⊥) front ENQ p.more (rw p.first at h) refl
  | inr p ↦ omega (arith, ap length p.rest, length-append p.more (ENQ ∷ o ∷ more))
]

-- ---- in place of the PAD after EOT

-- the octet before a SYN, at the front of what follows the PAD of a call, is SYN
third_syn : (syns a trail : List ℕ) (o : ℕ) (rest : List ℕ) → AreAll SYN syns → IsAddress a
    → o ∷ SYN ∷ rest ≡ (syns ++ map odd_octet a ++ ENQ ∷ []) ++ trail → o ≡ SYN
third_syn (s ∷ syns) a trail o rest k h e = equal_lists_equal_heads e ∙ k.0
third_syn [] [] trail o rest k h e = absurd (omega (arith, h.some))
third_syn [] (c ∷ []) trail o rest k h e = absurd (omega (arith, equal_lists_equal_heads (equal_lists_equal_tails e)))
third_syn [] (c ∷ d ∷ a) trail o rest k h e =
    absurd (eqb-false (odd_octet d) SYN (plain_odd d SYN (plain_address_code d h.each.1.0) (inr (inl refl)))
    (sym (equal_lists_equal_heads (equal_lists_equal_tails e))))

-- the octet after EOT, of the other parity than PAD, is SYN if a SYN follows and it is a call
third_pads : (pads syns a trail : List ℕ) (o : ℕ) (rest : List ℕ) → AreAll PAD pads
    → AreAll SYN syns
    → IsAddress a → HaveOtherParity o PAD
    → o ∷ SYN ∷ rest ≡ pads ++ ((syns ++ map odd_octet a ++ ENQ ∷ []) ++ trail) → o ≡ SYN
third_pads [] syns a trail o rest p k h other e = third_syn syns a trail o rest k h e
third_pads (x ∷ pads) syns a trail o rest p k h other e =
    absurd (not_same o PAD other (equal_lists_equal_heads e ∙ p.0))

-- the octet after EOT is SYN, whatever message is read
octet_after_eot_is_syn : (new : ℕ) (rest : List ℕ) (n : Message) → HaveOtherParity new PAD
    → AfterFirst EOT (new ∷ SYN ∷ rest) n → new ≡ SYN
octet_after_eot_is_syn new rest n other b = elim (called_or_end n (new ∷ SYN ∷ rest) b) [
  | inl c ↦ third_pads c.pads c.syns c.address c.trail new rest c.are_pads c.are_syns c.is_address
      other c.whole
  | inr e ↦ absurd (omega (arith, e.1.0))
]

-- ---- in place of the SYN after that

-- the octet after PAD, of the other parity than SYN, is PAD if it is a call
fourth_pads : (pads syns a trail : List ℕ) (new : ℕ) (rest : List ℕ) → AreAll PAD pads
    → AreAll SYN syns
    → IsAddress a → HaveOtherParity new SYN
    → PAD ∷ new ∷ rest ≡ pads ++ ((syns ++ map odd_octet a ++ ENQ ∷ []) ++ trail) → new ≡ PAD
fourth_pads [] syns a trail new rest p k h other e =
    absurd (pad_even (first_odd syns a trail PAD (new ∷ rest) k h e))
fourth_pads (x ∷ []) syns a trail new rest p k h other e =
    absurd (not_both_odd new SYN other (first_odd syns a trail new rest k h (equal_lists_equal_tails e)) syn_odd)
fourth_pads (x ∷ y ∷ pads) syns a trail new rest p k h other e = equal_lists_equal_heads (equal_lists_equal_tails e) ∙ p.1.0

-- the octet after the PAD is PAD, whatever message is read
octet_after_pad_is_pad : (new : ℕ) (rest : List ℕ) (n : Message) → HaveOtherParity new SYN
    → AfterFirst EOT (PAD ∷ new ∷ SYN ∷ rest) n → new ≡ PAD
octet_after_pad_is_pad new rest n other b = elim (called_or_end n (PAD ∷ new ∷ SYN ∷ rest) b) [
  | inl c ↦ fourth_pads c.pads c.syns c.address c.trail new (SYN ∷ rest) c.are_pads c.are_syns
      c.is_address other c.whole
  | inr e ↦ absurd (omega (arith, e.1.1.0))
]

-- ---- after that

-- one PAD stands before the first SYN
one_pad : (pads syns a trail : List ℕ) (rest : List ℕ) → AreAll PAD pads → AreAll SYN syns
    → IsAddress a
    → PAD ∷ SYN ∷ rest ≡ pads ++ ((syns ++ map odd_octet a ++ ENQ ∷ []) ++ trail)
    → SYN ∷ rest ≡ (syns ++ map odd_octet a ++ ENQ ∷ []) ++ trail
one_pad [] syns a trail rest p k h e =
    absurd (pad_even (first_odd syns a trail PAD (SYN ∷ rest) k h e))
one_pad (x ∷ []) syns a trail rest p k h e = equal_lists_equal_tails e
one_pad (x ∷ y ∷ pads) syns a trail rest p k h e = absurd (omega (arith, equal_lists_equal_heads (equal_lists_equal_tails e), p.1.0))

-- the octets of a call after its first SYN, as they were sent and as they are heard
record Later (a front : List ℕ) (o : ℕ) (after : List ℕ) (new : ℕ) : Type 0 where
  sent : SYN ∷ map odd_octet a ++ ENQ ∷ PAD ∷ [] ≡ front ++ o ∷ after
  is_address : IsAddress a
  syns : List ℕ
  other_address : List ℕ
  trail : List ℕ
  heard : (syns ++ map odd_octet other_address ++ ENQ ∷ []) ++ trail ≡ SYN ∷ front ++ new ∷ after
  are_syns : AreAll SYN syns
  is_other : IsAddress other_address
  are_trail : AreAll PAD trail

-- the changed octet stood in the address, or was the SYN before it
later_address : (a front : List ℕ) (o : ℕ) (after : List ℕ) (new : ℕ) (more : List ℕ)
    → Later a front o after new → HaveOtherParity new o
    → SYN ∷ map odd_octet a ≡ front ++ o ∷ more → after ≡ more ++ ENQ ∷ PAD ∷ [] → ⊥
later_address a front o after new more l other first rest =
    let sent_odd : AllByRecursion IsOdd (SYN ∷ map odd_octet a) =
    (syn_odd, address_odd a l.is_address.each) in
    let was : IsOdd o =
    all_here IsOdd front o more (subst (λ z. AllByRecursion IsOdd z) first sent_odd) in
    elim (in_first_or_second_list (l.syns ++ map odd_octet l.other_address ++ ENQ ∷ []) l.trail (SYN ∷ front) new
    after l.heard) [
      | inl q ↦ not_both_odd new o other
          (all_here IsOdd (SYN ∷ front) new q.more
          (rw q.first at (called_odd l.syns l.other_address l.are_syns l.is_other.each))) was
      | inr q ↦
          let pads : AreAll PAD after =
          (all_after (λ x. x ≡ PAD) q.more (new ∷ after) (rw q.rest at l.are_trail)).1 in
          omega (arith, all_here (λ x. x ≡ PAD) more ENQ (PAD ∷ []) (rw rest at pads))
    ]

-- there is no ENQ before the end of the address of a call
line_no_enq : (syns a : List ℕ) → AreAll SYN syns → IsAddress a → NoEnq (syns ++ map odd_octet a)
line_no_enq syns a k h =
    all_append (λ x. x ≡ ENQ → ⊥) syns (map odd_octet a) (syns_no_enq syns k) (no_enq a h.each)

-- the changed octet was the ENQ
later_enq : (a front : List ℕ) (after : List ℕ) (new : ℕ) → Later a front ENQ after new
    → HaveOtherParity new ENQ → front ≡ SYN ∷ map odd_octet a → ⊥
later_enq a front after new l other first =
    elim (in_first_or_second_list (l.syns ++ map odd_octet l.other_address ++ ENQ ∷ []) l.trail (SYN ∷ front) new
    after l.heard) [
      | inl q ↦ not_both_odd new ENQ other
          (all_here IsOdd (SYN ∷ front) new q.more
          (rw q.first at (called_odd l.syns l.other_address l.are_syns l.is_other.each))) enq_odd
      | inr q ↦
          let all : NoEnq (SYN ∷ SYN ∷ map odd_octet a) =
          ((λ e. omega (arith, e)), ((λ e. omega (arith, e)), no_enq a l.is_address.each)) in
          let none : NoEnq (SYN ∷ front) = subst (λ z. NoEnq (SYN ∷ z)) (sym first) all in
          let there : SYN ∷ front ≡ (l.syns ++ map odd_octet l.other_address) ++ ENQ ∷ q.more =
          q.first ∙ append_assoc (l.syns ++ map odd_octet l.other_address) (ENQ ∷ []) q.more in
          all_here (λ x. x ≡ ENQ → ⊥) (l.syns ++ map odd_octet l.other_address) ENQ q.more
          (subst (λ z. NoEnq z) there none) refl
    ]

-- the changed octet was the PAD at the end
later_pad : (a front : List ℕ) (after : List ℕ) (new : ℕ) → Later a front PAD after new
    → HaveOtherParity new PAD → front ≡ SYN ∷ map odd_octet a ++ ENQ ∷ [] → ⊥
later_pad a front after new l other first =
    elim (in_first_or_second_list (l.syns ++ map odd_octet l.other_address ++ ENQ ∷ []) l.trail (SYN ∷ front) new
    after l.heard) [
      | inl q ↦
          let there : (l.syns ++ map odd_octet l.other_address) ++ ENQ ∷ []
          ≡ (SYN ∷ SYN ∷ map odd_octet a) ++ ENQ ∷ (new ∷ q.more) =
          q.first ∙ ap (λ z. SYN ∷ z ++ new ∷ q.more) first
          ∙ append_assoc (SYN ∷ SYN ∷ map odd_octet a) (ENQ ∷ []) (new ∷ q.more) in
          one_enq (l.syns ++ map odd_octet l.other_address) (SYN ∷ SYN ∷ map odd_octet a) q.more
          new (line_no_enq l.syns l.other_address l.are_syns l.is_other) there
      | inr q ↦ not_same new PAD other
          (all_here (λ x. x ≡ PAD) q.more new after (rw q.rest at l.are_trail))
    ]

-- a change in the ENQ of a call, or in the PAD after it, leaves no call
later_end : (a front : List ℕ) (o : ℕ) (after : List ℕ) (new : ℕ) (more : List ℕ)
    → Later a front o after new
    → HaveOtherParity new o
    → front ≡ (SYN ∷ map odd_octet a) ++ more → ENQ ∷ PAD ∷ [] ≡ more ++ o ∷ after → ⊥
later_end a front o after new [] l other first rest =
    let was : o ≡ ENQ = sym (equal_lists_equal_heads rest) in
    later_enq a front after new (rw was at l) (rw was at other)
    (first ∙ append-nil (SYN ∷ map odd_octet a))
later_end a front o after new (x ∷ []) l other first rest =
    let was : o ≡ PAD = sym (equal_lists_equal_heads (equal_lists_equal_tails rest)) in
    later_pad a front after new (rw was at l) (rw was at other)
    (first ∙ ap (λ z. (SYN ∷ map odd_octet a) ++ z ∷ []) (sym (equal_lists_equal_heads rest)))
later_end a front o after new (x ∷ y ∷ more) l other first rest =
    omega (arith, ap length rest, length-append more (o ∷ after))

-- a change after the first SYN of a call leaves no call
no_call_after_later_change : (a front : List ℕ) (o : ℕ) (after : List ℕ) (new : ℕ) → Later a front o after new
    → HaveOtherParity new o → ⊥
no_call_after_later_change a front o after new l other =
    elim (in_first_or_second_list (SYN ∷ map odd_octet a) (ENQ ∷ PAD ∷ []) front o after l.sent) [
      | inl p ↦ later_address a front o after new p.more l other p.first p.rest
      | inr p ↦ later_end a front o after new p.more l other p.first p.rest
    ]

-- ---- all

-- what is sent of a call after its EOT
abbrev pub call_tail : List ℕ → List ℕ
call_tail a = PAD ∷ SYN ∷ SYN ∷ (map odd_octet a ++ ENQ ∷ []) ++ PAD ∷ []

-- if a call with one octet of the other parity is read as a message, the octet is fill
pub spared_call : (a : List ℕ) (n : Message) (before : List ℕ) (o : ℕ) (after : List ℕ) (new : ℕ)
    → IsAddress a
    → call_tail a ≡ before ++ o ∷ after → HaveOtherParity new o
    → AfterFirst EOT (before ++ new ∷ after) n
    → IsCallFill (suc (suc (suc (length before)))) new
spared_call a n [] o after new h whole other b =
    let was : o ≡ PAD = sym (equal_lists_equal_heads whole) in
    let then : after ≡ SYN ∷ SYN ∷ (map odd_octet a ++ ENQ ∷ []) ++ PAD ∷ [] =
    sym (equal_lists_equal_tails whole) in
    inl (
      refl,
      octet_after_eot_is_syn new (SYN ∷ (map odd_octet a ++ ENQ ∷ []) ++ PAD ∷ []) n (rw was at other)
          (rw then at b),
    )
spared_call a n (x ∷ []) o after new h whole other b =
    let first : x ≡ PAD = sym (equal_lists_equal_heads whole) in
    let was : o ≡ SYN = sym (equal_lists_equal_heads (equal_lists_equal_tails whole)) in
    let then : after ≡ SYN ∷ (map odd_octet a ++ ENQ ∷ []) ++ PAD ∷ [] =
    sym (equal_lists_equal_tails (equal_lists_equal_tails whole)) in
    inr (
      refl,
      octet_after_pad_is_pad new ((map odd_octet a ++ ENQ ∷ []) ++ PAD ∷ []) n (rw was at other)
          (rw (first, then) at b),
    )
spared_call a n (x ∷ y ∷ front) o after new h whole other b =
    let first : x ≡ PAD = sym (equal_lists_equal_heads whole) in
    let second : y ≡ SYN = sym (equal_lists_equal_heads (equal_lists_equal_tails whole)) in
    let then : SYN ∷ (map odd_octet a ++ ENQ ∷ []) ++ PAD ∷ [] ≡ front ++ o ∷ after =
    equal_lists_equal_tails (equal_lists_equal_tails whole) in
    let heard : AfterFirst EOT (PAD ∷ SYN ∷ front ++ new ∷ after) n = rw (first, second) at b in
    elim (called_or_end n (PAD ∷ SYN ∷ front ++ new ∷ after) heard) [
      | inl c ↦ absurd (no_call_after_later_change a front o after new (record {
        sent = sym (append_assoc (SYN ∷ map odd_octet a) (ENQ ∷ []) (PAD ∷ [])) ∙ then;
        is_address = h;
        syns = c.syns;
        other_address = c.address;
        trail = c.trail;
        heard =
            sym (one_pad c.pads c.syns c.address c.trail (front ++ new ∷ after) c.are_pads
            c.are_syns c.is_address c.whole);
        are_syns = c.are_syns;
        is_other = c.is_address;
        are_trail = c.are_trail;
      }) other)
      | inr e ↦ absurd (omega (arith, e.1.0))
    ]
