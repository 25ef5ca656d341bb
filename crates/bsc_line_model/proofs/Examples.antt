-- The lines of `Examples` are as told there.
use Rattle.std.proofs.Common.{◌≡◌, ◌≢◌, ◌<◌, inl, inr, ℕ, zero, suc, false, List, [], ◌∷◌, length}
use Rattle.std.proofs.Common.{take, refl, ap, arith}
use Rattle.bsc_bid.specs.Channel.{Channel}
use Rattle.bsc_bid.specs.Sender.{is_in_doubt}
use Rattle.bsc_bid.specs.declared.way.Way.{Way}
use Rattle.bsc_bid.specs.declared.way.Way.TheVariants.{FromTerminal, ToTerminal}
use Rattle.bsc_line_model.specs.Line.{IsChannel, channel_of, phase_of}
use Rattle.bsc_line_model.specs.Rounds.{IsReadyForVisit, IsPolledEntry, entry_at}
use Rattle.bsc_line_model.specs.Examples.{record_a, record_b, both_records, before_arrivals}
use Rattle.bsc_line_model.specs.Examples.{after_arrivals, its_addresses, called_line}
use Rattle.bsc_line_model.specs.Examples.{NoDoubleLands, NoGapLands, NoOtherLands, NoTwoMove}
use Rattle.bsc_line_model.specs.Examples.{FirstLands, NoDoubleArrives, NoGapArrives}
use Rattle.bsc_line_model.specs.Examples.{NoOtherArrives, NoneIsKnownEarly, NoneReachesOther}
use Rattle.bsc_line_model.specs.Examples.{VisitBegins}

-- the two records are not the same
not_b : record_a ≢ record_b
not_b same = let counts = ap (λ (r : List ℕ). length r) same in absurd (omega arith)

-- what lands on the channel from the terminal is neither the first record twice, nor the second
-- one, nor nothing
no_double_front : (k : ℕ) → record_a ∷ record_a ∷ [] ≡ take k both_records → ⊥
no_double_front zero same = cc
no_double_front (suc zero) same = cc
no_double_front (suc (suc k)) same = not_b (let second : record_a ≡ record_b = cc in second)

no_gap_front : (k : ℕ) → record_b ∷ [] ≡ take k both_records → ⊥
no_gap_front zero same = cc
no_gap_front (suc k) same = not_b (let first : record_a ≡ record_b = cc in first)

no_empty_front : (k : ℕ) → 0 < k → [] ≡ take k both_records → ⊥
no_empty_front zero some same = absurd (omega arith)
no_empty_front (suc k) some same = cc

pub no_double_lands : NoDoubleLands
no_double_lands lands =
    no_double_front lands.count (ap (λ (c : Channel). c.spooled) lands.moves.this.landed)

pub no_gap_lands : NoGapLands
no_gap_lands lands =
    no_gap_front lands.count (ap (λ (c : Channel). c.spooled) lands.moves.this.landed)

pub no_other_lands : NoOtherLands
no_other_lands lands =
    no_empty_front lands.count (let some = lands.moves.this.some in omega arith)
    (ap (λ (c : Channel). c.spooled) lands.moves.this.landed)

-- the channel to the terminal exists, and is another one
to_it : IsChannel before_arrivals 0 (ToTerminal 0)
to_it = record { there = omega arith; its_way = omega arith }

pub no_two_move : NoTwoMove
no_two_move moves =
    let same : record_a ∷ [] ≡ [] =
    ap (λ (c : Channel). c.spooled) (moves.others 0 (ToTerminal 0) to_it (λ e way. cc)) in cc

others_stay : (u : ℕ) (other : Way) → IsChannel before_arrivals u other
    → (u ≡ 0 → other ≡ FromTerminal → ⊥)
    → channel_of (after_arrivals 0 (record_a ∷ []) []) u other ≡ channel_of before_arrivals u other
others_stay zero FromTerminal is apart = absurd (apart refl refl)
others_stay zero (ToTerminal s) is apart = refl
others_stay (suc u) other is apart = let there = is.there in absurd (omega arith)

pub first_lands : FirstLands
first_lands = record {
  count = 1;
  moves = record {
    this = record {
      some = omega arith;
      few = omega arith;
      all_known = refl;
      there = omega arith;
      landed = refl;
    };
    others = others_stay;
  };
}

pub no_double_arrives : NoDoubleArrives
no_double_arrives arrives = no_double_front 2 arrives.arrived

pub no_gap_arrives : NoGapArrives
no_gap_arrives arrives = no_gap_front 1 arrives.arrived

pub no_other_arrives : NoOtherArrives
no_other_arrives arrives = let same : record_a ∷ [] ≡ [] = arrives.arrived in cc

pub none_is_known_early : NoneIsKnownEarly
none_is_known_early arrives = let known = arrives.known in absurd (omega arith)

pub none_reaches_other : NoneReachesOther
none_reaches_other reaches =
    elim (reaches 0 (ToTerminal 0) to_it) [
      | inl same ↦ cc
      | inr addressed ↦
          (let mine : ℕ × Way = (0, FromTerminal) in
          let other : ℕ × Way = (0, ToTerminal 0) in
          let same : mine ≡ other = cc in
          let ways : FromTerminal ≡ ToTerminal 0 = ap (λ (c : ℕ × Way). c.1) same in cc)
    ]

-- the terminal is ready for a visit
no_doubt_there : (way : Way) → IsChannel called_line 0 way
    → is_in_doubt (phase_of called_line 0 way) ≡ false
no_doubt_there FromTerminal is = refl
no_doubt_there (ToTerminal zero) is = refl
no_doubt_there (ToTerminal (suc s)) is = refl

ready_there : (k : ℕ) → k < 1 → IsPolledEntry called_line k
    → IsReadyForVisit called_line (entry_at called_line k)
ready_there zero less polled =
    record { ready = refl; not_urgent_at = refl; not_urgent_for = refl; no_doubt = no_doubt_there }
ready_there (suc k) less polled = absurd (omega arith)

pub visit_begins : VisitBegins
visit_begins = record {
  address = 65 ∷ [];
  pending = refl;
  called = record {
    place = refl;
    called = record { terminal = its_addresses; there = refl; its_own = refl };
    task = refl;
  };
  polled = refl;
  trusted = refl;
  visit_ready = ready_there;
}
