-- Fair hearing in terms of octets.
use Rattle.std.proofs.Common.{◌≡◌, ◌↔◌, inl, inr, ℕ, List, IsTrue, Option, None, Some, refl}
use Rattle.std.proofs.Common.{sym, subst}
use Rattle.bsc_frame.specs.declared.message.Message.{Message}
use Rattle.bsc_frame.specs.declared.message.Message.TheVariants as m
use Rattle.bsc_frame.specs.declared.message.Heard.{Heard}
use Rattle.bsc_frame.specs.declared.message.Heard.TheVariants.{Whole, Failed, Noise}
use Rattle.bsc_frame.specs.Reading.{heard}
use Rattle.bsc_frame.specs.Spells.{Spells, IsFailed, IsNoise}
use Rattle.bsc_bid.specs.Fair.{IsCallCutShort, IsFairlyHeard}
use Rattle.bsc_line_model.specs.Hearing.{heard_in}
use Rattle.bsc_line_model.specs.Trust.{EachOf, IsMissed, IsCallFair, is_call}
use Rattle.bsc_line_model.specs.Octets.{IsFairIn, FairInOctets, IsSpelledIn, IsMissedIn, AreFairIn}
use Rattle.bsc_line_model.specs.Octets.{AllFairInOctets}

-- octets decode as what they are
pub record Reads : Type 0 where
  pub whole : (octets : List ℕ) (w : Message) → (heard octets ≡ Whole w) ↔ Spells octets w
  pub failed : (octets : List ℕ) → (heard octets ≡ Failed) ↔ IsFailed octets
  pub noise : (octets : List ℕ) → (heard octets ≡ Noise) ↔ IsNoise octets

-- a message that is cut short is a call of which EOT is heard
cut_short : (sent w : Message) → IsCallCutShort sent w → IsTrue (is_call sent) × (w ≡ m.Eot)
cut_short (m.Call a) m.Eot c = (refl, refl)
cut_short _ _ c = absurd c

short_cut : (sent : Message) → IsTrue (is_call sent) → IsCallCutShort sent m.Eot
short_cut (m.Call a) c = tt
short_cut _ c = absurd (cc)

heard_fairly : (reads : Reads) (sent : Message) (octets : List ℕ) (h : Heard) → heard octets ≡ h
    → IsFairlyHeard sent h → IsFairIn sent (Some octets)
heard_fairly reads sent octets (Whole w) e (inl same) =
    inl ((reads.whole octets sent).0 (subst (λ (v : Message). heard octets ≡ Whole v) same e))
heard_fairly reads sent octets (Whole w) e (inr cut) =
    let both : IsTrue (is_call sent) × (w ≡ m.Eot) = cut_short sent w cut in
    inr (inl (
      both.0,
      (reads.whole octets m.Eot).0
          (subst (λ (v : Message). heard octets ≡ Whole v) both.1 e),
    ))
heard_fairly reads sent octets Failed e text = inr (inr (inr (text, (reads.failed octets).0 e)))
heard_fairly reads sent octets Noise e f = inr (inr (inl ((reads.noise octets).0 e)))

fairly_heard : (reads : Reads) (sent : Message) (octets : List ℕ) → IsFairIn sent (Some octets)
    → IsFairlyHeard sent (heard octets)
fairly_heard reads sent octets (inl spells) =
    subst (λ (h : Heard). IsFairlyHeard sent h) (sym ((reads.whole octets sent).1 spells))
    (inl refl)
fairly_heard reads sent octets (inr (inl cut)) =
    subst (λ (h : Heard). IsFairlyHeard sent h) (sym ((reads.whole octets m.Eot).1 cut.1))
    (inr (short_cut sent cut.0))
fairly_heard reads sent octets (inr (inr (inl noise))) =
    subst (λ (h : Heard). IsFairlyHeard sent h) (sym ((reads.noise octets).1 noise)) tt
fairly_heard reads sent octets (inr (inr (inr failed))) =
    subst (λ (h : Heard). IsFairlyHeard sent h) (sym ((reads.failed octets).1 failed.1)) failed.0

pub fair_in_octets : (reads : Reads) → FairInOctets
unfolding heard_in
fair_in_octets reads sent None = (λ f. tt, λ f. tt)
fair_in_octets reads sent (Some octets) =
    (heard_fairly reads sent octets (heard octets) refl, fairly_heard reads sent octets)

-- a message is heard whole exactly if the octets spell it
whole_if_spelled : (reads : Reads) (sent : Message) (item : Option (List ℕ))
    → IsSpelledIn sent item → heard_in item ≡ Whole sent
unfolding heard_in
whole_if_spelled reads sent None spells = absurd spells
whole_if_spelled reads sent (Some octets) spells = (reads.whole octets sent).1 spells

spelled_if_whole : (reads : Reads) (sent : Message) (item : Option (List ℕ))
    → heard_in item ≡ Whole sent → IsSpelledIn sent item
unfolding heard_in
spelled_if_whole reads sent None whole = absurd (cc)
spelled_if_whole reads sent (Some octets) whole = (reads.whole octets sent).0 whole

-- a call is missed exactly if the octets are those of a missed call
missed_heard : (reads : Reads) (octets : List ℕ) (h : Heard) → heard octets ≡ h → IsMissed h
    → IsMissedIn (Some octets)
missed_heard reads octets Noise e missed = inr ((reads.noise octets).0 e)
missed_heard reads octets (Whole m.Eot) e missed = inl ((reads.whole octets m.Eot).0 e)
missed_heard reads octets _ e missed = absurd missed

missed_in : (reads : Reads) (item : Option (List ℕ)) → IsMissed (heard_in item) → IsMissedIn item
unfolding heard_in
missed_in reads None missed = tt
missed_in reads (Some octets) missed = missed_heard reads octets (heard octets) refl missed

missed_if_in : (reads : Reads) (item : Option (List ℕ)) → IsMissedIn item → IsMissed (heard_in item)
unfolding heard_in
missed_if_in reads None missed = tt
missed_if_in reads (Some octets) (inl eot) =
    subst (λ (h : Heard). IsMissed h) (sym ((reads.whole octets m.Eot).1 eot)) tt
missed_if_in reads (Some octets) (inr noise) =
    subst (λ (h : Heard). IsMissed h) (sym ((reads.noise octets).1 noise)) tt

-- each terminal hears fairly exactly if its octets may be heard
each_fair_in_octets : (reads : Reads) (sent : Message) (n : ℕ) (items : ℕ → Option (List ℕ))
    → EachOf n (λ t. IsFairlyHeard sent (heard_in (items t)))
    ↔ EachOf n (λ t. IsFairIn sent (items t))
each_fair_in_octets reads sent n items = (
  λ fair t less. (fair_in_octets reads sent (items t)).0 (fair t less),
  λ fair t less. (fair_in_octets reads sent (items t)).1 (fair t less),
)

call_in_octets : (reads : Reads) (a : List ℕ) (n : ℕ) (items : ℕ → Option (List ℕ))
    → IsCallFair n (λ t. heard_in (items t)) (m.Call a) → AreFairIn (m.Call a) n items
call_in_octets reads a n items (inl whole) =
    inl (λ t less. spelled_if_whole reads (m.Call a) (items t) (whole t less))
call_in_octets reads a n items (inr missed) =
    inr (λ t less. missed_in reads (items t) (missed t less))

call_if_in_octets : (reads : Reads) (a : List ℕ) (n : ℕ) (items : ℕ → Option (List ℕ))
    → AreFairIn (m.Call a) n items → IsCallFair n (λ t. heard_in (items t)) (m.Call a)
call_if_in_octets reads a n items (inl spelled) =
    inl (λ t less. whole_if_spelled reads (m.Call a) (items t) (spelled t less))
call_if_in_octets reads a n items (inr missed) =
    inr (λ t less. missed_if_in reads (items t) (missed t less))

pub all_fair_in_octets : (reads : Reads) → AllFairInOctets
all_fair_in_octets reads (m.Call a) n items =
    (call_in_octets reads a n items, call_if_in_octets reads a n items)
all_fair_in_octets reads sent n items = each_fair_in_octets reads sent n items
