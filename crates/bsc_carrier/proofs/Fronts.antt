-- A stream begins with at most one of these: a whole record, a part of one, or a wrong length.
use Rattle.std.proofs.Common.{◌≡◌, ℕ, ◌+◌, ◌≤◌, List, [], ◌++◌, length, take, inl, inr, sym, ap}
use Rattle.std.proofs.Common.{◌∙◌, subst, append_assoc, arith, length-append}
use Rattle.std.proofs.lemmas.Nat.{from_be_bytes-to_be_bytes_2}
use Rattle.std.proofs.Math.Seq.{take-append_seam}
use Rattle.std.specs.Int.{w16, to_be_bytes, from_be_bytes}
use Rattle.bsc_carrier.specs.Record.{IsLength, IsWrongLength, IsCarried, socket_record}
use Rattle.bsc_carrier.specs.Front.{stated_length, BeginsRecord, IsPartial, HasWrongLength}
use Rattle.bsc_carrier.proofs.Wanted.{stated_length_append}

pub length_socket_record : (octets : List ℕ) → length (socket_record octets) ≡ 2 + length octets
length_socket_record octets = simp length-append (omega arith)

pub stated_length_record : (octets rest : List ℕ) → IsCarried octets
    → stated_length (socket_record octets ++ rest) ≡ length octets
stated_length_record octets rest carried =
    ap (from_be_bytes w16) (ap (take 2) (append_assoc (to_be_bytes w16 (length octets)) octets rest)
    ∙ take-append_seam (to_be_bytes w16 (length octets)) (octets ++ rest))
    ∙ from_be_bytes-to_be_bytes_2 (length octets) (omega (arith, carried.1))

pub not_wrong_and_right : (n : ℕ) → IsWrongLength n → IsLength n → ⊥
not_wrong_and_right n (inl none) right = omega (arith, none, right.0)
not_wrong_and_right n (inr many) right = omega (arith, many, right.1)

pub whole_length : (stream octets rest : List ℕ) → stream ≡ socket_record octets ++ rest
    → length stream ≡ 2 + length octets + length rest
whole_length stream octets rest is = ap length is ∙ length-append (socket_record octets) rest
    ∙ ap (λ n. n + length rest) (length_socket_record octets)

pub not_whole_and_partial : (stream : List ℕ) → BeginsRecord stream → IsPartial stream → ⊥
not_whole_and_partial stream (octets, rest, carried, is) partial =
    let long = whole_length stream octets rest is in
    let states : stated_length stream ≡ length octets = ap stated_length is
    ∙ stated_length_record octets rest carried in
    let two : 2 ≤ length stream = omega (arith, long) in
    omega (arith, long, states, (partial two).1)

pub not_whole_and_wrong : (stream : List ℕ) → BeginsRecord stream → HasWrongLength stream → ⊥
not_whole_and_wrong stream (octets, rest, carried, is) wrong =
    not_wrong_and_right (length octets)
    (subst IsWrongLength (ap stated_length is ∙ stated_length_record octets rest carried)
    wrong.1) carried

pub is_partial_nil : IsPartial []
is_partial_nil two = absurd (omega (arith, two))

pub has_wrong_length_append : (front rest : List ℕ) → HasWrongLength front
    → HasWrongLength (front ++ rest)
has_wrong_length_append front rest wrong = (
  omega (arith, length-append front rest, wrong.0),
  subst IsWrongLength (sym (stated_length_append front rest wrong.0)) wrong.1,
)
