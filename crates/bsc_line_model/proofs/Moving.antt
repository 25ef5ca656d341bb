-- Only the addressed channel moves: from what each channel does to what all do.
use Rattle.std.proofs.Common.{◌≡◌, ◌⊎◌, inl, inr, ℕ, ◌<◌, length, Option, None, Some, sym, ap}
use Rattle.std.proofs.Common.{subst, arith}
use Rattle.std.proofs.lemmas.Bool.{cases_lt}
use Rattle.bsc_bid.specs.Channel.{Channel, Land, Learn, Makes}
use Rattle.bsc_bid.specs.declared.way.Way.{Way}
use Rattle.bsc_bid.specs.declared.way.Way.TheVariants.{FromTerminal, ToTerminal}
use Rattle.bsc_line_model.specs.Line.{LineValue, terminal_at, terminal_count, IsWay, IsChannel}
use Rattle.bsc_line_model.specs.Line.{channel_of}
use Rattle.bsc_line_model.specs.ChannelSteps.{MovesNothing, MovesAddressed}

-- records arrived, or the sending end learnt that they arrived
abbrev pub IsMoved : Channel → Channel → Type 0
IsMoved old new = ((k : ℕ) × Makes (Land k) old new) ⊎ Makes Learn old new

-- a channel is unchanged, or it is the addressed one and moved
abbrev pub MovesIfAddressed : Option (ℕ × Way) → ℕ → Way → Channel → Channel → Type 0
MovesIfAddressed addressed t way old new = (new ≡ old)
    ⊎ ((addressed ≡ Some (t, way)) × IsMoved old new)

abbrev pub EachMoves : Option (ℕ × Way) → LineValue → LineValue → Type 0
EachMoves addressed old new = (t : ℕ) (way : Way) → IsChannel old t way
    → MovesIfAddressed addressed t way (channel_of old t way) (channel_of new t way)

-- a number is less than another or not
pub less_or_not : (a b : ℕ) → (a < b) ⊎ (a < b → ⊥)
less_or_not a b =
    elim (cases_lt a b) [ inl less ↦ inl less | inr far ↦ inr (λ less. omega (arith, less, far)) ]

way_or_not : (l : LineValue) (t : ℕ) (way : Way) → IsWay (terminal_at l t) way
    ⊎ (IsWay (terminal_at l t) way → ⊥)
way_or_not l t FromTerminal = inl tt
way_or_not l t (ToTerminal s) = less_or_not s (length (terminal_at l t).terminal.selects)

channel_or_not : (l : LineValue) (t : ℕ) (way : Way) → IsChannel l t way ⊎ (IsChannel l t way → ⊥)
channel_or_not l t way =
    elim (less_or_not t (terminal_count l)) [
      | inl there ↦
          elim (way_or_not l t way) [
            | inl its_way ↦ inl (record { there = there; its_way = its_way })
            | inr no_way ↦ inr (λ (is : IsChannel l t way). no_way is.its_way)
          ]
      | inr nowhere ↦ inr (λ (is : IsChannel l t way). nowhere is.there)
    ]

-- the addressed channel is this one
same_channel : (a b : ℕ × Way) → Some a ≡ Some b → a ≡ b
same_channel a b e = cc

-- the other channels stay
others_stay : (a : ℕ × Way) (old new : LineValue) → EachMoves (Some a) old new
    → (u : ℕ) (other : Way) → IsChannel old u other → (u ≡ a.0 → other ≡ a.1 → ⊥)
    → channel_of new u other ≡ channel_of old u other
others_stay a old new each u other is apart =
    elim (each u other is) [
      | inl same ↦ same
      | inr moved ↦
          (let e : a ≡ (u, other) = same_channel a (u, other) moved.0 in
          absurd (apart (sym (ap (λ (b : ℕ × Way). b.0) e)) (sym (ap (λ (b : ℕ × Way). b.1) e))))
    ]

none_moves : (old new : LineValue) → EachMoves None old new → MovesNothing old new
none_moves old new each t way is =
    elim (each t way is) [
      | inl same ↦ same
      | inr moved ↦ (let this : ℕ × Way = (t, way) in let never : None ≡ Some this = moved.0 in
          absurd (cc))
    ]

pub moves_addressed : (addressed : Option (ℕ × Way)) (old new : LineValue)
    → EachMoves addressed old new → MovesAddressed addressed old new
moves_addressed None old new each = none_moves old new each
moves_addressed (Some a) old new each =
    elim (channel_or_not old a.0 a.1) [
      | inl there ↦
          elim (each a.0 a.1 there) [
            | inl same ↦ inl (still_here same)
            | inr moved ↦
                elim moved.1 [
                  | inl lands ↦ inr
                      (inl (record {
                        count = lands.0;
                        moves =
                            record { this = lands.1; others = others_stay a old new each };
                      }))
                  | inr learns ↦ inr
                      (inr (record { this = learns; others = others_stay a old new each }))
                ]
          ]
      | inr nowhere ↦ inl (moves_nothing_without_channel nowhere)
    ]
  where
    still_here : channel_of new a.0 a.1 ≡ channel_of old a.0 a.1 → MovesNothing old new
    still_here same u other is =
        elim (each u other is) [
          | inl still ↦ still
          | inr moved ↦
              (let e : a ≡ (u, other) = same_channel a (u, other) moved.0 in
              subst (λ (b : ℕ × Way). channel_of new b.0 b.1 ≡ channel_of old b.0 b.1) e same)
        ]

    moves_nothing_without_channel : (IsChannel old a.0 a.1 → ⊥) → MovesNothing old new
    moves_nothing_without_channel nowhere u other is =
        elim (each u other is) [
          | inl still ↦ still
          | inr moved ↦
              (let e : a ≡ (u, other) = same_channel a (u, other) moved.0 in
              absurd (nowhere (subst (λ (b : ℕ × Way). IsChannel old b.0 b.1) (sym e) is)))
        ]
