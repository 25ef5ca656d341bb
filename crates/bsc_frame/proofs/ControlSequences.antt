-- Bodies that are not texts: what is read from left to right is such a body, and such a body is
-- read.
use Rattle.std.proofs.Common.{◌≡◌, ◌⊎◌, inl, inr, ℕ, ◌-◌, ◌<◌, ◌≤◌, ◌==◌, Bool, true, false}
use Rattle.std.proofs.Common.{not, cond}
use Rattle.std.proofs.Common.{refl, sym, ap, subst, ◌∙◌, arith, List, [], ◌∷◌, ◌++◌, length, drop}
use Rattle.std.proofs.Common.{map}
use Rattle.std.proofs.Common.{Option, Some, None, Result, Ok, Err, IsTrue, option_and_then, nat_lt}
use Rattle.std.proofs.Common.{nat_le}
use Rattle.std.proofs.Common.{◌&&◌, position, append_assoc, length-append}
use Rattle.std.specs.List.{AllByRecursion, position_or_len}
use Rattle.std.specs.Str.{bytes_eq}
use Rattle.std.proofs.lemmas.Bool.{eqb-true, eqb-false}
use Rattle.std.proofs.lemmas.Bool.Decides.{nat_tests}
use Rattle.bsc_octet.specs.Octet.{odd_octet, code_of, is_address_code}
use Rattle.bsc_octet.proofs.OddOctets.{odd_cases, code_of_some, code_of_odd_octet}
use Rattle.bsc_frame.specs.Addresses.{IsAddress}
use Rattle.bsc_frame.specs.Message.{read_address, first_wrong}
use Rattle.bsc_frame.specs.Spells.{AreAll, IsCall, IsBody}
use Rattle.bsc_frame.specs.Reading.{skip, is_octet, begins, called, at_end, with_code, call}
use Rattle.bsc_frame.specs.Reading.{call_to, control, reply_or_call}
use Rattle.bsc_frame.specs.Replies.{reply_spelled}
use Rattle.bsc_frame.specs.declared.reply.Reply.{Reply as ReplyValue}
use Rattle.bsc_frame.specs.declared.address.AddressError.{AddressError}
use Rattle.bsc_frame.specs.declared.message.Message.{Message}
use Rattle.bsc_frame.specs.declared.message.Message.TheVariants.{Eot, Call, Enq, Reply, Text}
use Rattle.bsc_frame.proofs.Addresses.{is_address}
use Rattle.bsc_frame.proofs.ReadingSteps.{test_false, has_room, branch_of_test}
use Rattle.bsc_frame.proofs.ReadingSteps.{equal_octets_are_same}
use Rattle.bsc_frame.proofs.Replies.{reply_read, reply_reads}
use Rattle.bsc_frame.proofs.Fronts.{front_and_rest_of_list, skip_pass, skip_none, pass_are}
use Rattle.bsc_frame.proofs.Fronts.{are_pass}
use Rattle.bsc_frame.specs.declared.limits.TheConstants.{MAX_ADDRESS}
use Rattle.bsc_octet.specs.declared.controls.TheConstants.{ENQ, EOT, PAD, SYN}

-- ---- the codes of a call

-- a code that passes the test of an address
pub record IsPlain (c : ℕ) : Type 0 where
  pub low : 33 ≤ c
  pub high : c ≤ 126

-- a code from 0x21 to 0x7e is plain
plain_from : (c : ℕ) (b : Bool) → nat_le 33 c ≡ b → (b && nat_le c 126) ≡ true → IsPlain c
plain_from c true e h = record { low = grind (arith, nat_tests); high = grind (arith, nat_tests) }
plain_from c false e h = cc

-- a code of an address is plain
pub plain_address_code : (c : ℕ) → IsTrue (is_address_code c) → IsPlain c
plain_address_code c h = plain_from c (nat_le 33 c) refl h

-- the octet of a plain code is no ENQ, SYN or PAD
pub plain_odd : (c o : ℕ) → IsPlain c → (o ≡ ENQ) ⊎ ((o ≡ SYN) ⊎ (o ≡ PAD)) → (odd_octet c == o)
    ≡ false
plain_odd c o p h = test_false (odd_octet c) o (λ e. elim (odd_cases c) [
  | inl k ↦ elim h [
    | inl u ↦ absurd (omega arith)
    | inr v ↦ elim v
        [ inl u ↦ absurd (omega arith) | inr u ↦ absurd (omega arith) ]
  ]
  | inr k ↦ elim h [
    | inl u ↦ absurd (omega arith)
    | inr v ↦ elim v
        [ inl u ↦ absurd (omega arith) | inr u ↦ absurd (omega arith) ]
  ]
])

-- what is sent for an address and ENQ is read as its codes
pub called_wire : (room : ℕ) (a : List ℕ) → length a ≤ room
    → AllByRecursion (λ c. IsTrue (is_address_code c)) a
    → called room (map odd_octet a ++ ENQ ∷ []) ≡ Some a
unfolding called
called_wire room [] h p = refl
called_wire room (c ∷ a) h p =
    let k : IsPlain c = plain_address_code c p.0 in
    let no : (odd_octet c == ENQ) ≡ false = plain_odd c ENQ k (inl refl) in
    let some : (room == 0) ≡ false = test_false room 0 (has_room (length a) room h) in
    let code : code_of (odd_octet c) ≡ Some c = code_of_odd_octet c (omega (arith, k.high)) in
    let rest : called (room - 1) (map odd_octet a ++ ENQ ∷ []) ≡ Some a =
    called_wire (room - 1) a (omega arith) p.1 in
    rw (no, some, code, rest) refl

-- if no octet is left, no code is read
no_code_at_end : (s codes : List ℕ) → at_end s ≡ Some codes → (s ≡ []) × (codes ≡ [])
no_code_at_end [] codes e = (refl, cc)
no_code_at_end (x ∷ s) codes e = cc

-- one octet more: the codes that are read up to an ENQ are those that the octets carry
codes_before_enq_with_one_more : (x : ℕ) (s codes : List ℕ) (room : ℕ) (o : Option ℕ) (r : Option (List ℕ)) → code_of x ≡ o
    → called room s ≡ r
    → ((cs : List ℕ) → called room s ≡ Some cs → s ≡ map odd_octet cs ++ ENQ ∷ [])
    → with_code o r ≡ Some codes → x ∷ s ≡ map odd_octet codes ++ ENQ ∷ []
codes_before_enq_with_one_more x s codes room None r k q f e = cc
codes_before_enq_with_one_more x s codes room (Some c) None k q f e = cc
codes_before_enq_with_one_more x s codes room (Some c) (Some cs) k q f e =
    let same : codes ≡ c ∷ cs = cc in
    let head : odd_octet c ≡ x = (code_of_some x c k).1 in
    rw (same, head) (ap (λ t. x ∷ t) (f cs q))

-- one code more before codes that are read
called_step : (room : ℕ) (x : ℕ) (s codes : List ℕ)
    → ((cs : List ℕ) → called (room - 1) s ≡ Some cs → s ≡ map odd_octet cs ++ ENQ ∷ [])
    → cond (x == ENQ) (at_end s) (cond (room == 0) None
    (with_code (code_of x) (called (room - 1) s))) ≡ Some codes
    → x ∷ s ≡ map odd_octet codes ++ ENQ ∷ []
called_step room x s codes f e = elim (branch_of_test (x == ENQ) _ _ _ e) [
  | inl h ↦
      let k = no_code_at_end s codes h.1 in
      rw (k.0, k.1, eqb-true x ENQ h.0) refl
  | inr h ↦ elim (branch_of_test (room == 0) _ _ _ h.1) [
    | inl q ↦ cc
    | inr q ↦ codes_before_enq_with_one_more x s codes (room - 1) (code_of x) (called (room - 1) s) refl refl f q.1
  ]
]

-- octets that are read as codes are these and ENQ
pub called_reads : (room : ℕ) (s : List ℕ) (codes : List ℕ) → called room s ≡ Some codes
    → s ≡ map odd_octet codes ++ ENQ ∷ []
unfolding called
called_reads room [] codes e = cc
called_reads room (x ∷ s) codes e = called_step room x s codes (called_reads (room - 1) s) e

-- ---- the address

-- codes without a wrong one are the address
address_without_wrong_code : (o : Option ℕ) (codes a : List ℕ) → first_wrong o codes ≡ Ok a → (o ≡ None) × (codes ≡ a)
address_without_wrong_code None codes a e = (refl, cc)
address_without_wrong_code (Some k) codes a e = cc

-- codes that are read as an address are it, within its limits
pub address_reads : (codes a : List ℕ) → read_address codes ≡ Ok a → (codes ≡ a) × IsAddress a
address_reads codes a e = elim (branch_of_test (length codes == 0) _ _ _ e) [
  | inl h ↦ cc
  | inr h ↦ elim (branch_of_test (nat_lt MAX_ADDRESS (length codes)) _ _ _ h.1) [
    | inl q ↦ cc
    | inr q ↦
        let k = address_without_wrong_code (position (λ c. not (is_address_code c)) codes) codes a q.1 in (
          k.1,
          subst IsAddress k.1 (is_address codes (eqb-false (length codes) 0 h.0)
              (grind (arith, nat_tests)) k.0),
        )
  ]
]

-- in an address a search for a wrong code passes all of them
none_wrong : (a : List ℕ) → AllByRecursion (λ c. IsTrue (is_address_code c)) a
    → position_or_len (λ c. not (is_address_code c)) a ≡ length a
none_wrong [] h = refl
none_wrong (c ∷ a) h = rw (h.0, none_wrong a h.1) (omega arith)

-- a search that passes the whole list finds nothing
not_found : (k n : ℕ) → k ≡ n → cond (nat_lt k n) (Some k) None ≡ None
not_found k n e = let t : nat_lt k n ≡ false = grind (arith, nat_tests) in rw t refl

-- at most as many codes as an address has are not too many
not_long : (n : ℕ) → n ≤ MAX_ADDRESS → nat_lt MAX_ADDRESS n ≡ false
not_long n h = grind (arith, nat_tests)

-- a number above 0 is not 0
not_empty : (n : ℕ) → 0 < n → n ≡ 0 → ⊥
not_empty n h e = omega arith

-- an address is read from its codes
pub address_read : (a : List ℕ) → IsAddress a → read_address a ≡ Ok a
address_read a h =
    let none : position (λ c. not (is_address_code c)) a ≡ None =
    not_found _ (length a) (none_wrong a h.each) in
    rw (test_false (length a) 0 (not_empty (length a) h.some), not_long (length a) h.most, none)
    refl

-- ---- a call after its EOT

-- a call that is read has codes that are read as an address
called_to : (o : Option (List ℕ)) (m : Message)
    → option_and_then (λ codes. call_to (read_address codes)) o ≡ Some m
    → (codes : List ℕ) × (o ≡ Some codes) × (call_to (read_address codes) ≡ Some m)
called_to None m e = cc
called_to (Some codes) m e = (codes, refl, e)

-- what is read as a call is the call of an address
to_call : (r : Result (List ℕ) AddressError) (m : Message) → call_to r ≡ Some m
    → (a : List ℕ) × (r ≡ Ok a) × (m ≡ Call a)
to_call (Ok a) m e = (a, refl, cc)
to_call (Err x) m e = cc

-- octets after EOT that are read as a call are one
pub call_reads : (rest : List ℕ) (m : Message) → call rest ≡ Some m
    → (a : List ℕ) × (m ≡ Call a) × IsCall a (EOT ∷ rest)
unfolding call
call_reads rest m e =
    let p = front_and_rest_of_list (is_octet PAD) rest in
    let q = front_and_rest_of_list (is_octet SYN) (skip (is_octet PAD) rest) in
    let u = called_to (called MAX_ADDRESS (skip (is_octet SYN) (skip (is_octet PAD) rest))) m e in
    let v = to_call (read_address u.0) m u.2 in
    let w = address_reads u.0 v.0 v.1 in
    let body : skip (is_octet SYN) (skip (is_octet PAD) rest) ≡ map odd_octet v.0 ++ ENQ ∷ [] =
    called_reads MAX_ADDRESS _ u.0 u.1 ∙ ap (λ x. map odd_octet x ++ ENQ ∷ []) w.0 in (
      v.0,
      v.2,
      record {
        pads = p.front;
        syns = q.front;
        whole =
            ap (λ x. EOT ∷ x) (p.whole ∙ ap (λ x. p.front ++ x)
            (q.whole ∙ ap (λ x. q.front ++ x) body)
            ∙ sym (append_assoc p.front q.front (map odd_octet v.0 ++ ENQ ∷ []))
            ∙ sym (append_assoc (p.front ++ q.front) (map odd_octet v.0) (ENQ ∷ [])));
        are_pads = pass_are PAD p.front p.passes;
        are_syns = pass_are SYN q.front q.passes;
        address = w.1;
      },
    )

-- an address begins with neither SYN nor PAD
begins_address : (o : ℕ) (a : List ℕ) → (o ≡ SYN) ⊎ (o ≡ PAD) → IsAddress a
    → begins (is_octet o) (map odd_octet a ++ ENQ ∷ []) ≡ false
begins_address o [] h p = absurd (omega (arith, p.some))
begins_address o (c ∷ a) h p = plain_odd c o (plain_address_code c p.each.0) (inr h)

-- SYN before an address is no PAD
begins_syns : (syns rest : List ℕ) → AreAll SYN syns → begins (is_octet PAD) rest ≡ false
    → begins (is_octet PAD) (syns ++ rest) ≡ false
begins_syns [] rest h e = e
begins_syns (x ∷ syns) rest h e = rw h.0 refl

-- from octets that are a call, that call is read
pub call_read : (rest a : List ℕ) → IsCall a (EOT ∷ rest) → call rest ≡ Some (Call a)
unfolding call
call_read rest a c =
    let tail : List ℕ = map odd_octet a ++ ENQ ∷ [] in
    let grouped : rest ≡ c.pads ++ (c.syns ++ tail) =
    ap (drop 1) c.whole ∙ append_assoc (c.pads ++ c.syns) (map odd_octet a) (ENQ ∷ [])
    ∙ append_assoc c.pads c.syns tail in
    let first : skip (is_octet PAD) rest ≡ c.syns ++ tail =
    ap (skip (is_octet PAD)) grouped ∙ skip_pass (is_octet PAD) c.pads (c.syns ++ tail)
    (are_pass PAD c.pads c.are_pads)
    ∙ skip_none (is_octet PAD) (c.syns ++ tail)
    (begins_syns c.syns tail c.are_syns (begins_address PAD a (inr refl) c.address)) in
    let second : skip (is_octet SYN) (c.syns ++ tail) ≡ tail =
    skip_pass (is_octet SYN) c.syns tail (are_pass SYN c.syns c.are_syns)
    ∙ skip_none (is_octet SYN) tail (begins_address SYN a (inl refl) c.address) in
    rw (
      first,
      second,
      called_wire MAX_ADDRESS a c.address.most c.address.each,
      address_read a c.address,
    ) refl

-- ---- all

-- two options that are the same hold the same value
pub some_is : {A : Type 0} (x y : A) → Some x ≡ Some y → x ≡ y
some_is x y e = cc

-- a body that begins with EOT and is read as a message is that of a call
by_eot : (body : List ℕ) (m : Message) → begins (is_octet EOT) body ≡ true → call (drop 1 body)
    ≡ Some m
    → IsBody m body
by_eot [] m h e = cc
by_eot (x ∷ rest) m h e =
    let k = call_reads rest m e in
    rw (k.1, eqb-true x EOT h) k.2

-- a body that is read as a reply or as a call is that of its message
body_of_reply_or_call : (body : List ℕ) (m : Message) (o : Option ReplyValue) → reply_spelled body ≡ o
    → reply_or_call o body ≡ Some m → IsBody m body
body_of_reply_or_call body m (Some r) s e =
    subst (λ k. IsBody k body) (some_is _ _ e) (reply_reads body r s)
body_of_reply_or_call body m None s e = elim (branch_of_test (begins (is_octet EOT) body) _ _ _ e) [
  | inl h ↦ by_eot body m h.0 h.1
  | inr e ↦ absurd (let h = e.1 in cc)
]

-- a body that is read as a control sequence is that of its message
pub control_reads : (body : List ℕ) (m : Message) → control body ≡ Some m → IsBody m body
unfolding control
control_reads body m e = elim (branch_of_test (bytes_eq body (EOT ∷ [])) _ _ _ e) [
  | inl h ↦ subst (λ k. IsBody k body) (some_is _ _ h.1) (equal_octets_are_same _ _ h.0)
  | inr e ↦ elim (branch_of_test (bytes_eq body (ENQ ∷ [])) _ _ _ e.1) [
    | inl h ↦ subst (λ k. IsBody k body) (some_is _ _ h.1) (equal_octets_are_same _ _ h.0)
    | inr e ↦ body_of_reply_or_call body m (reply_spelled body) refl e.1
  ]
]

-- a call is longer than EOT, so it is not read as EOT
call_control : (a rest : List ℕ) → IsCall a (EOT ∷ rest) → control (EOT ∷ rest) ≡ Some (Call a)
unfolding control
call_control a [] c =
    absurd (omega (
      arith,
      ap length c.whole,
      length-append (EOT ∷ c.pads ++ c.syns ++ map odd_octet a) (ENQ ∷ []),
    ))
call_control a (x ∷ xs) c = call_read (x ∷ xs) a c

-- the body of a call is read as that call
call_body : (a body : List ℕ) → IsCall a body → control body ≡ Some (Call a)
call_body a [] c = absurd (let h = c.whole in cc)
call_body a (o ∷ rest) c =
    let eot : o ≡ EOT = let h = c.whole in cc in
    rw eot (call_control a rest (rw eot at c))

-- a message that is not a text
abbrev pub IsControl : Message → Type 0
IsControl Eot = Unit {0}
IsControl (Call a) = Unit {0}
IsControl Enq = Unit {0}
IsControl (Reply r) = Unit {0}
IsControl (Text t) = ⊥

-- the body of each message without a text is read as that message
pub control_read : (body : List ℕ) (m : Message) → IsControl m → IsBody m body → control body
    ≡ Some m
unfolding control
control_read body Eot k h = rw h refl
control_read body (Call a) k h = call_body a body h
control_read body Enq k h = rw h refl
control_read body (Reply r) k h = rw h (reply_read r)
control_read body (Text t) k h = absurd k
