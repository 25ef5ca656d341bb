-- Every stream splits into records and a rest.
use Rattle.std.proofs.Common.{◌≡◌, ℕ, zero, suc, ◌+◌, ◌*◌, ◌/◌, ◌%◌, ◌<◌, ◌≤◌, List, [], ◌∷◌, ◌++◌}
use Rattle.std.proofs.Common.{length, get_or, take, drop, ◌⊎◌, inl, inr, refl, sym, ap, ap₂, ◌∙◌}
use Rattle.std.proofs.Common.{append_assoc, take-append-drop, arith}
use Rattle.std.proofs.lemmas.List.{length-take-le}
use Rattle.std.proofs.lemmas.Bool.{cases_lt}
use Rattle.std.specs.List.{flat_map}
use Rattle.bsc_carrier.specs.declared.limits.TheConstants.{MAX_RECORD}
use Rattle.bsc_carrier.specs.Record.{socket_record}
use Rattle.bsc_carrier.specs.Front.{BeginsRecord}
use Rattle.bsc_carrier.specs.Stream.{Splits}
use Rattle.bsc_carrier.proofs.Fronts.{whole_length, not_whole_and_partial, not_whole_and_wrong}

-- The two octets of the length are below 256.
octets_of_length : (high low : ℕ) (octets : List ℕ) → BeginsRecord (high ∷ low ∷ octets)
    → (high < 256) × (low < 256)
octets_of_length high low octets (carried, rest, right, is) =
    let first : high ≡ length carried / 256 % 256 = ap (λ l. get_or l 0 0) is in
    let second : low ≡ length carried % 256 = ap (λ l. get_or l 1 0) is in
    (omega (arith, first), omega (arith, second))

begins_here : (high low : ℕ) (octets : List ℕ) → high < 256 → low < 256 → 1 ≤ high * 256 + low
    → high * 256 + low ≤ MAX_RECORD → high * 256 + low ≤ length octets
    → BeginsRecord (high ∷ low ∷ octets)
begins_here high low octets high_fits low_fits some many there =
    let n = high * 256 + low in
    let long : length (take n octets) ≡ n = length-take-le n octets there in
    let first : high ≡ length (take n octets) / 256 % 256 = omega (arith, long) in
    let second : low ≡ length (take n octets) % 256 = omega (arith, long) in (
      take n octets,
      drop n octets,
      (omega (arith, long), omega (arith, long)),
      ap₂ (λ x y. x ∷ y ∷ octets) first second
          ∙ ap (λ l. (length (take n octets) / 256 % 256) ∷ (length (take n octets) % 256) ∷ l)
          (sym (take-append-drop n octets)),
    )

-- A stream begins with a whole record or does not.
front_cases : (stream : List ℕ) → BeginsRecord stream ⊎ (BeginsRecord stream → ⊥)
front_cases [] = inr (λ whole. not_whole_and_partial [] whole (λ two. absurd (omega (arith, two))))
front_cases (high ∷ []) =
    inr (λ whole. not_whole_and_partial (high ∷ []) whole (λ two. absurd (omega (arith, two))))
front_cases (high ∷ low ∷ octets) =
    elim (cases_lt high 256) [
      | inr big ↦ inr (λ whole. omega (arith, big, (octets_of_length high low octets whole).0))
      | inl high_fits ↦ elim (cases_lt low 256) [
        | inr big ↦ inr (λ whole. omega (arith, big, (octets_of_length high low octets whole).1))
        | inl low_fits ↦ elim (cases_lt (high * 256 + low) 1) [
          | inl none ↦ inr (λ whole. not_whole_and_wrong (high ∷ low ∷ octets) whole
              (omega arith, inl (omega (arith, none))))
          | inr some ↦ elim (cases_lt MAX_RECORD (high * 256 + low)) [
            | inl many ↦ inr (λ whole. not_whole_and_wrong (high ∷ low ∷ octets) whole
                (omega arith, inr many))
            | inr right ↦ elim (cases_lt (length octets) (high * 256 + low)) [
              | inl lacks ↦ inr (λ whole. not_whole_and_partial (high ∷ low ∷ octets) whole
                  (λ two. ((some, right), omega (arith, lacks))))
              | inr there ↦ inl (begins_here high low octets high_fits low_fits some right there)
            ]
          ]
        ]
      ]
    ]

splits_within : (most : ℕ) (stream : List ℕ) → length stream ≤ most → (records : List (List ℕ))
    × (rest : List ℕ) × Splits stream records rest
splits_within zero stream fits =
    elim (front_cases stream) [
      | inr none ↦ ([], stream, record { whole = refl; carried = tt; rest_begins_none = none })
      | inl (octets, rest, carried, is) ↦ absurd
          (omega (arith, fits, whole_length stream octets rest is))
    ]
splits_within (suc most) stream fits =
    elim (front_cases stream) [
      | inr none ↦ ([], stream, record { whole = refl; carried = tt; rest_begins_none = none })
      | inl (octets, rest, carried, is) ↦
          let shorter : length rest ≤ most =
          omega (arith, fits, whole_length stream octets rest is) in
          let (records, last, split) = splits_within most rest shorter in
          let whole = is ∙ ap (λ l. socket_record octets ++ l) split.whole
          ∙ sym (append_assoc (socket_record octets) (flat_map socket_record records) last) in (
            octets ∷ records,
            last,
            record {
              whole = whole;
              carried = (carried, split.carried);
              rest_begins_none = split.rest_begins_none;
            },
          )
    ]

pub every_stream_splits : (stream : List ℕ) → (records : List (List ℕ)) × (rest : List ℕ)
    × Splits stream records rest
every_stream_splits stream = splits_within (length stream) stream (omega arith)
