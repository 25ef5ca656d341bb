-- Records reach the addressed channel only.
use Rattle.std.proofs.Common.{◌≡◌, ◌⊎◌, inl, inr, ℕ, Option, None, Some, sym, ◌∙◌, ap, subst}
use Rattle.bsc_bid.specs.Channel.{Channel, Move, Offer, Land, Learn}
use Rattle.bsc_bid.specs.declared.way.Way.{Way}
use Rattle.bsc_bid.specs.declared.way.Way.TheVariants.{FromTerminal, ToTerminal}
use Rattle.bsc_line_model.specs.declared.event.Event.{Event}
use Rattle.bsc_line_model.specs.declared.event.Event.TheVariants.{OfferAt, OfferFor, Carry}
use Rattle.bsc_line_model.specs.declared.event.Event.TheVariants.{CarryEach, CarrySent, Silence}
use Rattle.bsc_line_model.specs.declared.event.Event.TheVariants.{Ready, UrgentAt, UrgentFor}
use Rattle.bsc_line_model.specs.declared.event.Event.TheVariants.{Polled, Release, Restart}
use Rattle.bsc_line_model.specs.Line.{LineValue, IsChannel}
use Rattle.bsc_line_model.specs.ChannelSteps.{MovesOne, MovesAddressed, StepsChannels}
use Rattle.bsc_line_model.specs.Headline.{spooled_on, ReachesAddressed}
use Rattle.bsc_line_model.proofs.OfferedGrows.{same_channel_or_not}

-- if the channel that moves keeps the records that arrived, all channels do
all_keep_if_moved_keeps : (old new : LineValue) (t : ℕ) (mine : Way) (move : Move) → MovesOne t mine move old new
    → spooled_on new t mine ≡ spooled_on old t mine → (u : ℕ) (way : Way) → IsChannel old u way
    → spooled_on new u way ≡ spooled_on old u way
all_keep_if_moved_keeps old new t mine move moves same u way is =
    elim (same_channel_or_not u t way mine) [
      | inl this ↦
          subst (λ (n : ℕ). spooled_on new n way ≡ spooled_on old n way) (sym this.0)
          (subst (λ (v : Way). spooled_on new t v ≡ spooled_on old t v) (sym this.1) same)
      | inr apart ↦ ap (λ (c : Channel). c.spooled) (moves.others u way is apart)
    ]

-- records arrive on the addressed channel
lands_on_addressed_channel : (a : ℕ × Way) (old new : LineValue) (k : ℕ) → MovesOne a.0 a.1 (Land k) old new
    → (t : ℕ) (way : Way) → IsChannel old t way → (spooled_on new t way ≡ spooled_on old t way)
    ⊎ (Some a ≡ Some (t, way))
lands_on_addressed_channel a old new k moves t way is =
    elim (same_channel_or_not t a.0 way a.1) [
      | inl this ↦
          (let first : (n : ℕ) → Option (ℕ × Way) = λ n. Some (n, a.1) in
          let second : (v : Way) → Option (ℕ × Way) = λ v. Some (t, v) in
          inr (ap first (sym this.0) ∙ ap second (sym this.1)))
      | inr apart ↦ inl (ap (λ (c : Channel). c.spooled) (moves.others t way is apart))
    ]

addressed_reached : (addressed : Option (ℕ × Way)) (old new : LineValue)
    → MovesAddressed addressed old new → (t : ℕ) (way : Way) → IsChannel old t way
    → (spooled_on new t way ≡ spooled_on old t way) ⊎ (addressed ≡ Some (t, way))
addressed_reached None old new moves t way is =
    inl (ap (λ (c : Channel). c.spooled) (moves t way is))
addressed_reached (Some a) old new (inl nothing) t way is =
    inl (ap (λ (c : Channel). c.spooled) (nothing t way is))
addressed_reached (Some a) old new (inr (inl lands)) t way is =
    lands_on_addressed_channel a old new lands.count lands.moves t way is
addressed_reached (Some a) old new (inr (inr learns)) t way is =
    inl (all_keep_if_moved_keeps old new a.0 a.1 Learn learns (ap (λ (c : Channel). c.spooled) learns.this) t way
    is)

pub reaches : (event : Event) (old new : LineValue) → StepsChannels event old new
    → ReachesAddressed old new
reaches (OfferAt u r) old new moves t way is =
    inl (all_keep_if_moved_keeps old new u FromTerminal (Offer r.now) moves
    (ap (λ (c : Channel). c.spooled) moves.this) t way is)
reaches (OfferFor u k r) old new moves t way is =
    inl (all_keep_if_moved_keeps old new u (ToTerminal k) (Offer r.now) moves
    (ap (λ (c : Channel). c.spooled) moves.this) t way is)
reaches (Carry item) old new moves t way is = addressed_reached old.addressed old new moves t way is
reaches (CarryEach items) old new moves t way is =
    addressed_reached old.addressed old new moves t way is
reaches CarrySent old new moves t way is = addressed_reached old.addressed old new moves t way is
reaches Silence old new moves t way is = inl (ap (λ (c : Channel). c.spooled) (moves t way is))
reaches (Ready u ready) old new moves t way is =
    inl (ap (λ (c : Channel). c.spooled) (moves t way is))
reaches (UrgentAt u) old new moves t way is = inl (ap (λ (c : Channel). c.spooled) (moves t way is))
reaches (UrgentFor u) old new moves t way is =
    inl (ap (λ (c : Channel). c.spooled) (moves t way is))
reaches (Polled u polled) old new moves t way is =
    inl (ap (λ (c : Channel). c.spooled) (moves t way is))
reaches (Release u mine) old new moves t way is =
    inl (all_keep_if_moved_keeps old new u mine Learn moves (ap (λ (c : Channel). c.spooled) moves.this) t way is)
reaches (Restart party) old new moves t way is =
    inl (ap (λ (c : Channel). c.spooled) (moves t way is))
