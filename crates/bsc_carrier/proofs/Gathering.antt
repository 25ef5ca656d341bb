-- An assembler takes octets of a piece twice: up to the end of the length, and then up to the end
-- of the record.
use Rattle.std.proofs.Common.{◌≡◌, ℕ, ◌+◌, ◌-◌, ◌<◌, ◌≤◌, min, List, ◌++◌, length, take, drop, inl}
use Rattle.std.proofs.Common.{inr, sym, ap, ◌∙◌, subst, append_assoc, arith, length-append}
use Rattle.std.proofs.Common.{Bool, true, false, Ok, Err, take-append-drop}
use Rattle.std.proofs.lemmas.List.{length-take, length-drop}
use Rattle.std.proofs.lemmas.Bool.{cases_lt}
use Rattle.std.proofs.Math.Seq.{take-add, take-append-add, take-length}
use Rattle.bsc_carrier.specs.Record.{IsLength, IsWrongLength, socket_record}
use Rattle.bsc_carrier.specs.Front.{stated_length, IsPartial, HasWrongLength}
use Rattle.bsc_carrier.specs.Assembler.{wanted_after, IsBegun, IsWhole, Gathers}
use Rattle.bsc_carrier.specs.declared.error.CarrierError.{CarrierError}
use Rattle.bsc_carrier.specs.declared.error.CarrierError.TheVariants.{Length, Short, Device}
use Rattle.bsc_carrier.specs.declared.error.CarrierError.TheVariants.{Unequal}
use Rattle.std.specs.Int.{w16, to_be_bytes}
use Rattle.bsc_carrier.proofs.Fronts.{not_wrong_and_right}
use Rattle.bsc_carrier.proofs.Wanted.{stated_length_append, wanted_after_short, wanted_after_right}
use Rattle.bsc_carrier.proofs.Wanted.{wanted_after_wrong}

-- Octets of which the first two spell the number of the others are a record.
whole_record : (new : List ℕ) → to_be_bytes w16 (length (drop 2 new)) ≡ take 2 new → new
    ≡ socket_record (drop 2 new)
whole_record new spelled = sym (take-append-drop 2 new) ∙ ap (λ l. l ++ drop 2 new) (sym spelled)

-- Octets that are a whole record and no more.
pub is_whole_record : (new : List ℕ) → IsWhole new (Ok true) → length new ≤ 2 + stated_length new
    → IsLength (length (drop 2 new)) × (new ≡ socket_record (drop 2 new))
is_whole_record new (two, right, spelled, reached) top =
    let carried : length (drop 2 new) ≡ stated_length new = length-drop 2 new
    ∙ omega (arith, top, reached) in (
      subst IsLength (sym carried) right,
      whole_record new (ap (to_be_bytes w16) carried ∙ spelled),
    )

-- First `head` and then `body` octets of the piece were taken, each time as many as were wanted and
-- available.
pub record TakesTwice (begun piece rest mid new : List ℕ) (head body : ℕ) : Type 0 where
  pub head_is : head ≡ min (wanted_after begun) (length piece)
  pub mid_is : mid ≡ begun ++ take head piece
  pub rest_is : rest ≡ drop head piece
  pub body_is : body ≡ min (wanted_after mid) (length rest)
  pub new_is : new ≡ mid ++ take body rest

module _ {begun piece rest mid new : List ℕ} {head body : ℕ}
    (took : TakesTwice begun piece rest mid new head body) where
  -- Both together are a front of the piece.
  gathered_is_front_of_piece : new ≡ begun ++ take (head + body) piece
  gathered_is_front_of_piece = took.new_is ∙ ap (λ l. mid ++ take body l) took.rest_is
      ∙ ap (λ l. l ++ take body (drop head piece)) took.mid_is
      ∙ append_assoc begun (take head piece) (take body (drop head piece))
      ∙ ap (λ l. begun ++ l) (sym (take-add head body piece))

  rest_length : length rest ≡ length piece - head
  rest_length = ap length took.rest_is ∙ length-drop head piece

  taken_within_piece : head + body ≤ length piece
  taken_within_piece = omega (arith, rest_length)

  mid_length : length mid ≡ length begun + head
  mid_length = ap length took.mid_is ∙ simp (length-append, length-take) (omega arith)

  new_length : length new ≡ length begun + (head + body)
  new_length = ap length gathered_is_front_of_piece ∙ simp (length-append, length-take) (omega (arith, taken_within_piece))

  stated_new : 2 ≤ length mid → stated_length new ≡ stated_length mid
  stated_new two = ap stated_length took.new_is ∙ stated_length_append mid (take body rest) two

  stated_mid : 2 ≤ length begun → stated_length mid ≡ stated_length begun
  stated_mid two = ap stated_length took.mid_is ∙ stated_length_append begun (take head piece) two

  alone_at : length begun + (head + body) ≡ 2 → new ≡ take 2 (begun ++ piece)
  alone_at two = gathered_is_front_of_piece ∙ sym (take-append-add begun piece (head + body))
      ∙ ap (λ n. take n (begun ++ piece)) two

  -- If a length that a record may have was stated before, the same length is stated after.
  right_goes_on : 2 ≤ length begun → IsPartial begun → (IsLength (stated_length new))
      × (length new ≤ 2 + stated_length new)
      × (length new < 2 + stated_length new → head + body ≡ length piece)
  right_goes_on two partial =
      let right = partial two in
      let wanted = wanted_after_right begun two right.0 in
      let two_mid : 2 ≤ length mid = omega (arith, mid_length) in
      let same_mid = stated_mid two in
      let same_new = stated_new two_mid in
      let right_mid : IsLength (stated_length mid) =
      (omega (arith, same_mid, right.0.0), omega (arith, same_mid, right.0.1)) in
      let wanted_mid = wanted_after_right mid two_mid right_mid in (
        (
          omega (arith, same_mid, same_new, right.0.0),
          omega (arith, same_mid, same_new, right.0.1),
        ),
        omega (
          arith,
          same_mid,
          same_new,
          wanted,
          wanted_mid,
          mid_length,
          new_length,
          rest_length,
          right.1,
        ),
        λ less. omega (
          arith,
          same_mid,
          same_new,
          wanted,
          wanted_mid,
          mid_length,
          new_length,
          rest_length,
          right.1,
          less,
        ),
      )

  -- If the length was incomplete before and is complete after, the first take completes it.
  length_ends : length begun < 2 → 2 ≤ length new → (length mid ≡ 2)
      × (stated_length new ≡ stated_length mid)
  length_ends short two =
      let wanted = wanted_after_short begun short in
      let two_mid : length mid ≡ 2 = omega (arith, wanted, mid_length, new_length, rest_length) in
      (two_mid, stated_new (omega (arith, two_mid)))

  -- If a wrong length was stated before, nothing is taken.
  stopped_stays : HasWrongLength begun × (length begun ≡ 2) → (head + body ≡ 0)
      × (stated_length new ≡ stated_length begun)
  stopped_stays stopped =
      let two : 2 ≤ length begun = omega (arith, stopped.1) in
      let none = wanted_after_wrong begun stopped.0 in
      let two_mid : 2 ≤ length mid = omega (arith, mid_length, two) in
      let none_mid =
      wanted_after_wrong mid (
        two_mid,
        subst IsWrongLength (sym (stated_mid two)) stopped.0.1,
      ) in
      (omega (arith, none, none_mid), stated_new two_mid ∙ stated_mid two)

  -- After a wrong length there is nothing but the length.
  wrong_alone : IsBegun begun → HasWrongLength new → new ≡ take 2 (begun ++ piece)
  wrong_alone (inr stopped) wrong = alone_at (omega (arith, (stopped_stays stopped).0, stopped.1))
  wrong_alone (inl partial) wrong =
      elim (cases_lt (length begun) 2) [
        | inl short ↦
            let ends = length_ends short wrong.0 in
            let two_mid : 2 ≤ length mid = omega (arith, ends.0) in
            let none_mid = wanted_after_wrong mid (two_mid, subst IsWrongLength ends.1 wrong.1) in
            alone_at (omega (arith, ends.0, none_mid, mid_length))
        | inr two ↦ absurd (not_wrong_and_right (stated_length new) wrong.1
            (right_goes_on two partial).0)
      ]

  -- No more is taken than the record has.
  gathered_within_record : IsBegun begun → 2 ≤ length new → IsLength (stated_length new) → length new ≤ 2
      + stated_length new
  gathered_within_record (inr stopped) two right = omega (arith, (stopped_stays stopped).0, stopped.1, new_length)
  gathered_within_record (inl partial) two right =
      elim (cases_lt (length begun) 2) [
        | inl short ↦
            let ends = length_ends short two in
            let right_mid : IsLength (stated_length mid) = subst IsLength ends.1 right in
            let wanted_mid = wanted_after_right mid (omega (arith, ends.0)) right_mid in
            omega (arith, ends.0, ends.1, wanted_mid, mid_length, new_length, right.0)
        | inr whole ↦ (right_goes_on whole partial).1
      ]

  -- If the record is still incomplete, the whole piece is taken.
  piece_taken_while_incomplete : IsBegun begun → 2 ≤ length new → IsLength (stated_length new) → length new < 2
      + stated_length new → head + body ≡ length piece
  piece_taken_while_incomplete (inr stopped) two right less =
      absurd (not_wrong_and_right (stated_length new)
      (subst IsWrongLength (sym (stopped_stays stopped).1) stopped.0.1) right)
  piece_taken_while_incomplete (inl partial) two right less =
      elim (cases_lt (length begun) 2) [
        | inl short ↦
            let ends = length_ends short two in
            let right_mid : IsLength (stated_length mid) = subst IsLength ends.1 right in
            let wanted_mid = wanted_after_right mid (omega (arith, ends.0)) right_mid in
            omega (
              arith,
              ends.0,
              ends.1,
              wanted_mid,
              mid_length,
              new_length,
              rest_length,
              taken_within_piece,
              less,
            )
        | inr whole ↦ (right_goes_on whole partial).2 less
      ]

  -- If fewer than two octets have arrived, the whole piece is taken.
  exhausted_before_length : IsBegun begun → length new < 2 → head + body ≡ length piece
  exhausted_before_length (inr stopped) short = omega (arith, stopped.1, new_length, short)
  exhausted_before_length (inl partial) short =
      let wanted = wanted_after_short begun (omega (arith, new_length, short)) in
      let wanted_mid = wanted_after_short mid (omega (arith, mid_length, new_length, short)) in
      omega (arith, wanted, wanted_mid, mid_length, new_length, rest_length, taken_within_piece, short)

  all_gathered : IsBegun begun → IsPartial new → head + body ≡ length piece
  all_gathered has_begun partial =
      elim (cases_lt (length new) 2) [
        | inl short ↦ exhausted_before_length has_begun short
        | inr two ↦
            let right = partial two in piece_taken_while_incomplete has_begun two right.0 right.1
      ]

  -- What was taken completes the record, or is the whole piece.
  pub gathers_more : IsBegun begun → (is_whole : Bool) → IsWhole new (Ok is_whole) → Gathers begun
      piece (Ok (head + body, is_whole)) new
  gathers_more has_begun true whole =
      let is = is_whole_record new whole (gathered_within_record has_begun whole.0 whole.1) in
      (taken_within_piece, gathered_is_front_of_piece, is.0, is.1)
  gathers_more has_begun false partial =
      let all = all_gathered has_begun partial in (
        all,
        gathered_is_front_of_piece ∙ ap (λ n. begun ++ take n piece) all ∙ ap (λ l. begun ++ l) (take-length piece),
        partial,
      )

  -- Nothing is taken after a wrong length.
  pub gathers_wrong : IsBegun begun → (e : CarrierError) → IsWhole new (Err e) → Gathers begun piece
      (Err e) new
  gathers_wrong has_begun Length wrong = (wrong_alone has_begun wrong, wrong)
  gathers_wrong has_begun Short wrong = absurd wrong
  gathers_wrong has_begun (Device why) wrong = absurd wrong
  gathers_wrong has_begun Unequal wrong = absurd wrong
