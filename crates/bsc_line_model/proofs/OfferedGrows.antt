-- The offered records grow by the accepted offers, trusted or not, and a line keeps its channels.
use Rattle.std.proofs.Common.{◌≡◌, ◌≢◌, ◌⊎◌, ◌++◌, ◌&&◌, inl, inr, ℕ, ◌<◌, Bool, true, false}
use Rattle.std.proofs.Common.{nat_eq, List, [], ◌∷◌, length, slice_set, Option, None, Some, Ok}
use Rattle.std.proofs.Common.{refl, sym, ◌∙◌, ap, subst, arith, if◌then◌else◌}
use Rattle.std.proofs.lemmas.List.{append-nil, length-set}
use Rattle.std.proofs.lemmas.Bool.{eqb-true, eqb-false}
use Rattle.std.specs.Borrow.{Bor}
use Rattle.bsc_frame.specs.declared.message.Message.{Message}
use Rattle.bsc_frame.specs.declared.message.Heard.{Heard}
use Rattle.bsc_frame.specs.declared.message.Heard.TheVariants.{Whole}
use Rattle.bsc_bid.specs.Terminal.{TerminalValue}
use Rattle.bsc_bid.specs.Channel.{Channel, Offer, Learn}
use Rattle.bsc_tributary.specs.Tributary.{TributaryValue, after_release, restarted}
use Rattle.bsc_spool.specs.Queue.{with_offered}
use Rattle.bsc_bid.specs.declared.way.Way.{Way}
use Rattle.bsc_bid.specs.declared.way.Way.TheVariants.{FromTerminal, ToTerminal}
use Rattle.bsc_control.specs.Control.{ControlValue, peer_at}
use Rattle.bsc_control.specs.Kept.{outbound_of}
use Rattle.bsc_bid.specs.declared.speaker.Speaker.{Speaker}
use Rattle.bsc_bid.specs.declared.speaker.Speaker.TheVariants.{Control, Terminal}
use Rattle.bsc_line_model.specs.declared.transmission.Transmission.{Transmission}
use Rattle.bsc_line_model.specs.declared.event.Event.{Event}
use Rattle.bsc_line_model.specs.declared.event.Event.TheVariants.{OfferAt, OfferFor, Carry}
use Rattle.bsc_line_model.specs.declared.event.Event.TheVariants.{CarryEach, CarrySent, Silence}
use Rattle.bsc_line_model.specs.declared.event.Event.TheVariants.{Ready, UrgentAt, UrgentFor}
use Rattle.bsc_line_model.specs.declared.event.Event.TheVariants.{Polled, Release, Restart}
use Rattle.bsc_line_model.specs.Hearing.{heard_in, octets_in, heard_at}
use Rattle.bsc_line_model.specs.Line.{LineValue, terminal_in, terminal_at, terminal_count, IsWay}
use Rattle.bsc_line_model.specs.Line.{IsChannel}
use Rattle.bsc_line_model.specs.Terminals.{line_owner}
use Rattle.bsc_line_model.specs.Carries.{IsCarriedDown, IsCarriedBy, OwnerActs}
use Rattle.bsc_line_model.specs.Offers.{ReleasesWay}
use Rattle.bsc_line_model.specs.Runs.{CarriesAs, Does}
use Rattle.bsc_line_model.specs.Kept.{IsLine}
use Rattle.bsc_line_model.specs.ChannelSteps.{MovesOne, MovesNothing}
use Rattle.bsc_line_model.specs.StepLaws.{offered_on, offered_by}
use Rattle.bsc_line_model.proofs.Stations.{same_or_not, one_changed}
use Rattle.bsc_line_model.proofs.EventMoves.{offer_at_event, offer_for_event, ready_moves}
use Rattle.bsc_line_model.proofs.EventMoves.{urgent_at_moves, urgent_for_moves, polled_moves}
use Rattle.bsc_line_model.proofs.EventMoves.{silence_moves}
use Rattle.bsc_line_model.proofs.EventMoves.{release_moves}
use Rattle.bsc_line_model.proofs.RestartMoves.{restart_moves}

-- nothing is offered
none_offered : (old new : LineValue) (t : ℕ) (way : Way) → offered_on new t way
    ≡ offered_on old t way → offered_on new t way ≡ offered_on old t way ++ []
none_offered old new t way same = same ∙ sym (append-nil (offered_on old t way))

nothing_offered : (old new : LineValue) (t : ℕ) (way : Way) → MovesNothing old new
    → IsChannel old t way → offered_on new t way ≡ offered_on old t way ++ []
nothing_offered old new t way moves is =
    none_offered old new t way (ap (λ (c : Channel). c.offered) (moves t way is))

-- a record is offered at a terminal
at_this : (old new : LineValue) (u : ℕ) (r : List ℕ) (t : ℕ)
    → MovesOne u FromTerminal (Offer r) old new → IsChannel old t FromTerminal → (b : Bool)
    → nat_eq t u ≡ b →
    offered_on new t FromTerminal ≡ offered_on old t FromTerminal ++ (if b then r ∷ [] else [])
at_this old new u r t moves is true e =
    subst (λ (n : ℕ). offered_on new n FromTerminal ≡ offered_on old n FromTerminal ++ r ∷ [])
    (sym (eqb-true t u e)) (ap (λ (c : Channel). c.offered) moves.this)
at_this old new u r t moves is false e =
    let differ : t ≢ u = eqb-false t u e in
    none_offered old new t FromTerminal
    (ap (λ (c : Channel). c.offered) (moves.others t FromTerminal is (λ same way. differ same)))

-- a record is offered for a selection address
for_this : (old new : LineValue) (u k : ℕ) (r : List ℕ) (t s : ℕ)
    → MovesOne u (ToTerminal k) (Offer r) old new → IsChannel old t (ToTerminal s) → (b c : Bool)
    → nat_eq t u ≡ b → nat_eq s k ≡ c →
    offered_on new t (ToTerminal s) ≡ offered_on old t (ToTerminal s)
    ++ (if b && c then r ∷ [] else [])
for_this old new u k r t s moves is true true e f =
    subst (λ (n : ℕ). offered_on new n (ToTerminal s) ≡ offered_on old n (ToTerminal s) ++ r ∷ [])
    (sym (eqb-true t u e))
    (subst (λ (n : ℕ). offered_on new u (ToTerminal n) ≡ offered_on old u (ToTerminal n) ++ r ∷ [])
    (sym (eqb-true s k f)) (ap (λ (c : Channel). c.offered) moves.this))
for_this old new u k r t s moves is true false e f =
    let differ : s ≢ k = eqb-false s k f in
    none_offered old new t (ToTerminal s)
    (ap (λ (c : Channel). c.offered) (moves.others t (ToTerminal s) is
    (λ same way. differ (let n : s ≡ k = cc in n))))
for_this old new u k r t s moves is false c e f =
    let differ : t ≢ u = eqb-false t u e in
    none_offered old new t (ToTerminal s)
    (ap (λ (c : Channel). c.offered) (moves.others t (ToTerminal s) is
    (λ same way. differ same)))

at_offered : (old new : LineValue) (u : ℕ) (x : Bor (List ℕ)) (t : ℕ) (way : Way)
    → MovesOne u FromTerminal (Offer x.now) old new → IsChannel old t way → offered_on new t way
    ≡ offered_on old t way ++ offered_by (OfferAt u x) t way
at_offered old new u x t FromTerminal moves is =
    at_this old new u x.now t moves is (nat_eq t u) refl
at_offered old new u x t (ToTerminal s) moves is =
    none_offered old new t (ToTerminal s)
    (ap (λ (c : Channel). c.offered) (moves.others t (ToTerminal s) is
    (λ same way. let no : ToTerminal s ≡ FromTerminal = way in cc)))

for_offered : (old new : LineValue) (u k : ℕ) (x : Bor (List ℕ)) (t : ℕ) (way : Way)
    → MovesOne u (ToTerminal k) (Offer x.now) old new → IsChannel old t way → offered_on new t way
    ≡ offered_on old t way ++ offered_by (OfferFor u k x) t way
for_offered old new u k x t FromTerminal moves is =
    none_offered old new t FromTerminal
    (ap (λ (c : Channel). c.offered) (moves.others t FromTerminal is
    (λ same way. let no : FromTerminal ≡ ToTerminal k = way in cc)))
for_offered old new u k x t (ToTerminal s) moves is =
    for_this old new u k x.now t s moves is (nat_eq t u) (nat_eq s k) refl refl

-- a transmission is carried
down_offered : (old new : LineValue) (w : Message) (hears : ℕ → Heard) (t : ℕ) (way : Way)
    → IsCarriedDown w hears old new → t < terminal_count old → offered_on new t way
    ≡ offered_on old t way
down_offered old new w hears t FromTerminal k less = (k.kept t less).keeps.offered
down_offered old new w hears t (ToTerminal s) k less =
    ap (λ (c : ControlValue). (outbound_of c t s).queue.offered) k.control

carry_offered : (old new : LineValue) (speaker : Speaker) (w : Message) (h : Heard) (t : ℕ)
    (way : Way) → IsCarriedBy speaker w h old new → t < terminal_count old → offered_on new t way
    ≡ offered_on old t way
carry_offered old new Control w h t way k less = down_offered old new w (λ n. h) t way k less
carry_offered old new (Terminal n) w h t FromTerminal k less =
    ap (λ (ts : List TributaryValue). (terminal_in ts t).queue.offered) k.terminals
carry_offered old new (Terminal n) w h t (ToTerminal s) k less = k.kept.keeps.offered t s

carries_offered : (hear : Transmission → Heard) (old new : LineValue) (t : ℕ) (way : Way)
    → CarriesAs hear old new → IsChannel old t way → offered_on new t way ≡ offered_on old t way
    ++ []
carries_offered hear old new t way k is =
    none_offered old new t way (carry_offered old new k.sent.speaker k.sent.message (hear k.sent) t
    way k.carried is.there)

-- two ways are the same or not
same_way_or_not : (way mine : Way) → (way ≡ mine) ⊎ (way ≡ mine → ⊥)
same_way_or_not FromTerminal FromTerminal = inl refl
same_way_or_not FromTerminal (ToTerminal k) = inr (λ e. cc)
same_way_or_not (ToTerminal s) FromTerminal = inr (λ e. cc)
same_way_or_not (ToTerminal s) (ToTerminal k) =
    elim (same_or_not s k) [
      | inl same ↦ inl (ap (λ (n : ℕ). ToTerminal n) same)
      | inr differ ↦ inr (λ e. differ (let n : s ≡ k = cc in n))
    ]

pub same_channel_or_not : (t u : ℕ) (way mine : Way) → ((t ≡ u) × (way ≡ mine))
    ⊎ (t ≡ u → way ≡ mine → ⊥)
same_channel_or_not t u way mine =
    elim (same_or_not t u) [
      | inl same ↦
          elim (same_way_or_not way mine) [
            | inl this ↦ inl (same, this)
            | inr apart ↦ inr (λ e f. apart f)
          ]
      | inr differ ↦ inr (λ e f. differ e)
    ]

-- a doubt is ended
learn_offered : (old new : LineValue) (u : ℕ) (mine : Way) (t : ℕ) (way : Way)
    → MovesOne u mine Learn old new → IsChannel old t way → offered_on new t way
    ≡ offered_on old t way
learn_offered old new u mine t way moves is =
    elim (same_channel_or_not t u way mine) [
      | inl same ↦
          subst (λ (n : ℕ). offered_on new n way ≡ offered_on old n way) (sym same.0)
          (subst (λ (v : Way). offered_on new u v ≡ offered_on old u v) (sym same.1)
          (ap (λ (c : Channel). c.offered) moves.this))
      | inr apart ↦ ap (λ (c : Channel). c.offered) (moves.others t way is apart)
    ]

pub grows_by_offers : (event : Event) (old new : LineValue) → IsLine old
    → Does event old (Ok tt) new → (t : ℕ) (way : Way) → IsChannel old t way → offered_on new t way
    ≡ offered_on old t way ++ offered_by event t way
grows_by_offers (OfferAt u x) old new line d t way is =
    at_offered old new u x t way (offer_at_event old new u x.now d) is
grows_by_offers (OfferFor u k x) old new line d t way is =
    for_offered old new u k x t way (offer_for_event old new u k x.now line d) is
grows_by_offers (Carry item) old new line d t way is =
    carries_offered (λ sent. heard_in (octets_in item)) old new t way d is
grows_by_offers (CarryEach items) old new line d t way is =
    none_offered old new t way (down_offered old new d.sent.message (heard_at items.now) t way
    d.carried is.there)
grows_by_offers CarrySent old new line d t way is =
    carries_offered (λ sent. Whole sent.message) old new t way d is
grows_by_offers Silence old new line d t way is =
    nothing_offered old new t way (silence_moves old new (line_owner old.terminals) line d.acts) is
grows_by_offers (Ready u ready) old new line d t way is =
    nothing_offered old new t way (ready_moves old new u ready d) is
grows_by_offers (UrgentAt u) old new line d t way is =
    nothing_offered old new t way (urgent_at_moves old new u d) is
grows_by_offers (UrgentFor u) old new line d t way is =
    nothing_offered old new t way (urgent_for_moves old new u line d) is
grows_by_offers (Polled u polled) old new line d t way is =
    nothing_offered old new t way (polled_moves old new u polled line d) is
grows_by_offers (Release u mine) old new line d t way is =
    none_offered old new t way (learn_offered old new u mine t way
    (release_moves old new u mine line d) is)
grows_by_offers (Restart party) old new line d t way is =
    nothing_offered old new t way (restart_moves old new party line d) is

-- the terminals keep their addresses
pub record SameTerminals (old new : LineValue) : Type 0 where
  pub count : terminal_count new ≡ terminal_count old
  pub each : (t : ℕ) → t < terminal_count old → (terminal_at new t).terminal
      ≡ (terminal_at old t).terminal

pub all_same : (old new : LineValue) → new.terminals ≡ old.terminals → SameTerminals old new
all_same old new e =
    record {
      count = ap (λ (ts : List TributaryValue). length ts) e;
      each =
          λ t less. ap (λ (ts : List TributaryValue). (terminal_in ts t).terminal) e;
    }

one_same : (old new : LineValue) (t : ℕ) (u : TributaryValue) → t < terminal_count old → u.terminal
    ≡ (terminal_at old t).terminal → new.terminals ≡ slice_set old.terminals t u
    → SameTerminals old new
one_same old new t u there same e =
    record {
      count = ap (λ (ts : List TributaryValue). length ts) e ∙ length-set old.terminals t u;
      each = λ n less.
          let within : n < length (slice_set old.terminals t u) =
          omega (arith, length-set old.terminals t u) in
          ap (λ (ts : List TributaryValue). (terminal_in ts n).terminal) e
          ∙ one_changed (λ (i : ℕ) (x : TributaryValue). x.terminal ≡ (terminal_at old i).terminal)
          old.terminals t u there same (λ i inside. refl) n within;
    }

carry_same : (old new : LineValue) (speaker : Speaker) (w : Message) (h : Heard)
    → IsCarriedBy speaker w h old new → SameTerminals old new
carry_same old new Control w h k =
    record { count = k.terminals.count; each = λ t less. (k.kept t less).keeps.terminal }
carry_same old new (Terminal n) w h k = all_same old new k.terminals

silence_same : (old new : LineValue) (owner : Option ℕ) → OwnerActs owner old new
    → SameTerminals old new
silence_same old new None k = all_same old new (ap (λ (l : LineValue). l.terminals) k.becomes)
silence_same old new (Some t) k =
    one_same old new t (terminal_at new t) k.there k.kept.keeps.terminal
    (ap (λ (l : LineValue). l.terminals) k.becomes)

release_same : (old new : LineValue) (t : ℕ) (way : Way) → ReleasesWay old t way (Ok tt) new
    → SameTerminals old new
release_same old new t FromTerminal k =
    one_same old new t (after_release (terminal_at old t)
    (length (peer_at old.control t).spool.records)) k.there refl
    (ap (λ (l : LineValue). l.terminals) k.becomes)
release_same old new t (ToTerminal s) k =
    all_same old new (ap (λ (l : LineValue). l.terminals) k.becomes)

pub same_terminals : (event : Event) (old new : LineValue) → Does event old (Ok tt) new
    → SameTerminals old new
same_terminals (OfferAt t x) old new d =
    one_same old new t (record (terminal_at old t)
    { queue = with_offered (terminal_at old t).queue x.now }) d.0 refl
    (ap (λ (l : LineValue). l.terminals) d.2)
same_terminals (OfferFor t s x) old new d =
    all_same old new (ap (λ (l : LineValue). l.terminals) d.3)
same_terminals (Carry item) old new d =
    carry_same old new d.sent.speaker d.sent.message (heard_in (octets_in item)) d.carried
same_terminals (CarryEach items) old new d =
    record {
      count = d.carried.terminals.count;
      each =
          λ t less. (d.carried.kept t less).keeps.terminal;
    }
same_terminals CarrySent old new d =
    carry_same old new d.sent.speaker d.sent.message (Whole d.sent.message) d.carried
same_terminals Silence old new d = silence_same old new (line_owner old.terminals) d.acts
same_terminals (Ready t ready) old new d =
    one_same old new t (record (terminal_at old t) { ready = ready }) d.0 refl
    (ap (λ (l : LineValue). l.terminals) d.1)
same_terminals (UrgentAt t) old new d =
    one_same old new t (record (terminal_at old t) { urgent = true }) d.0 refl
    (ap (λ (l : LineValue). l.terminals) d.1)
same_terminals (UrgentFor t) old new d = all_same old new (ap (λ (l : LineValue). l.terminals) d.1)
same_terminals (Polled t polled) old new d =
    all_same old new (ap (λ (l : LineValue). l.terminals) d.1)
same_terminals (Release t way) old new d = release_same old new t way d
same_terminals (Restart Control) old new d =
    all_same old new (ap (λ (l : LineValue). l.terminals) d.1)
same_terminals (Restart (Terminal t)) old new d =
    one_same old new t (restarted (terminal_at old t)) d.0 refl
    (ap (λ (l : LineValue). l.terminals) d.1)

-- also over two events
pub same_terminals_in_turn : (old mid new : LineValue) → SameTerminals old mid
    → SameTerminals mid new → SameTerminals old new
same_terminals_in_turn old mid new x y = record {
  count = y.count ∙ x.count;
  each = λ t less.
      let on : t < terminal_count mid = omega (arith, less, x.count) in
      y.each t on ∙ x.each t less;
}

-- so a line keeps its channels
way_stays : (y z : TributaryValue) (way : Way) → z.terminal ≡ y.terminal → IsWay y way → IsWay z way
way_stays y z FromTerminal e w = tt
way_stays y z (ToTerminal s) e w = subst (λ (k : TerminalValue). s < length k.selects) (sym e) w

pub channel_stays_if_same : (old new : LineValue) (t : ℕ) (way : Way) → SameTerminals old new
    → IsChannel old t way → IsChannel new t way
channel_stays_if_same old new t way same is = record {
  there = subst (λ (n : ℕ). t < n) (sym same.count) is.there;
  its_way =
      way_stays (terminal_at old t) (terminal_at new t) way (same.each t is.there) is.its_way;
}

pub channel_stays : (event : Event) (old new : LineValue) (t : ℕ) (way : Way)
    → Does event old (Ok tt) new → IsChannel old t way → IsChannel new t way
channel_stays event old new t way d is =
    channel_stays_if_same old new t way (same_terminals event old new d) is

-- and gets no others
pub channel_was_if_same : (old new : LineValue) (t : ℕ) (way : Way) → SameTerminals old new
    → IsChannel new t way → IsChannel old t way
channel_was_if_same old new t way same is =
    let before : t < terminal_count old = subst (λ (n : ℕ). t < n) same.count is.there in
    record {
      there = before;
      its_way =
          way_stays (terminal_at new t) (terminal_at old t) way (sym (same.each t before))
          is.its_way;
    }

pub channel_was : (event : Event) (old new : LineValue) (t : ℕ) (way : Way)
    → Does event old (Ok tt) new → IsChannel new t way → IsChannel old t way
channel_was event old new t way d is =
    channel_was_if_same old new t way (same_terminals event old new d) is
