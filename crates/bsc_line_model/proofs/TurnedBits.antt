-- One turned bit is heard fairly, unless it is in a call that another terminal hears whole.
use Rattle.std.proofs.Common.{◌≡◌, ◌⊎◌, ◌↔◌, inl, inr, ℕ, ◌<◌, List, length, Option, None, Some}
use Rattle.std.proofs.Common.{refl, sym, ap, subst, ◌∙◌, arith}
use Rattle.std.proofs.lemmas.Bool.{cases_lt}
use Rattle.bsc_frame.specs.declared.message.Message.{Message}
use Rattle.bsc_frame.specs.declared.message.Message.TheVariants as m
use Rattle.bsc_frame.specs.declared.message.Heard.{Heard}
use Rattle.bsc_frame.specs.declared.message.Heard.TheVariants.{Whole, Failed, Noise}
use Rattle.bsc_frame.specs.Message.{IsMessage}
use Rattle.bsc_frame.specs.Wire.{wire}
use Rattle.bsc_frame.specs.Reading.{heard}
use Rattle.bsc_frame.specs.Spells.{Spells, IsFailed, IsNoise}
use Rattle.bsc_frame.specs.TurnedBits.{with_turned_bit, IsSomeText}
use Rattle.bsc_bid.specs.Fair.{IsTextMessage, IsFairlyHeard}
use Rattle.bsc_line_model.specs.Hearing.{heard_in}
use Rattle.bsc_line_model.specs.Trust.{IsMissed}
use Rattle.bsc_line_model.specs.TurnedBits.{IsTurned, IsSpoiled, TurnedIsFair, TurnedAlikeIsFair}
use Rattle.bsc_line_model.specs.TurnedBits.{TurnedEachIsFair, TurnedForSomeIsFair}
use Rattle.bsc_line_model.specs.TurnedBits.{SplitCallIsUnfair}
use Rattle.bsc_line_model.proofs.OctetsHeard.{Reads}

-- what is heard if one bit is turned
pub record Turns : Type 0 where
  pub sent : (w : Message) → IsMessage w → Spells (wire w) w
  pub failed : (w : Message) (place bit : ℕ) → IsMessage w → place < length (wire w) → bit < 8
      → IsFailed (with_turned_bit place bit (wire w)) ↔ ((2 < place) × IsSomeText w)
  pub noise : (w : Message) (place bit : ℕ) → IsMessage w → place < length (wire w) → bit < 8
      → ((2 < place) × IsSomeText w → ⊥) → IsNoise (with_turned_bit place bit (wire w))

module _ (reads : Reads) (turns : Turns) where
  -- such octets are heard as noise, unless the bit is turned after the STX of a text
  is_noise : (w : Message) (octets : List ℕ) → IsMessage w → (t : IsTurned w octets)
      → ((2 < t.place) × IsSomeText w → ⊥) → heard octets ≡ Noise
  is_noise w octets h t q = ap heard t.whole
      ∙ (reads.noise (with_turned_bit t.place t.bit (wire w))).1
      (turns.noise w t.place t.bit h t.within t.is_bit q)

  noise_is_fair : (w : Message) (h : Heard) → h ≡ Noise → IsFairlyHeard w h
  noise_is_fair w h e = subst (λ (x : Heard). IsFairlyHeard w x) (sym e) tt

  failed_is_fair : (w : Message) (h : Heard) → IsTextMessage w → h ≡ Failed → IsFairlyHeard w h
  failed_is_fair w h text e = subst (λ (x : Heard). IsFairlyHeard w x) (sym e) text

  octets_fair : (w : Message) (octets : List ℕ) → IsMessage w → IsTurned w octets
      → IsFairlyHeard w (heard octets)
  octets_fair (m.Text x) octets h t = elim (cases_lt 2 t.place) [
    | inl l ↦
        let e : heard octets ≡ Failed = ap heard t.whole
        ∙ (reads.failed (with_turned_bit t.place t.bit (wire (m.Text x)))).1
        ((turns.failed (m.Text x) t.place t.bit h t.within t.is_bit).1 (l, (x, refl))) in
        failed_is_fair (m.Text x) (heard octets) tt e
    | inr l ↦ noise_is_fair (m.Text x) (heard octets)
        (is_noise (m.Text x) octets h t (λ k. omega (arith, l, k.0)))
  ]
  octets_fair other octets h t =
      noise_is_fair other (heard octets) (is_noise other octets h t (λ k. let e = k.1.1 in cc))

  item_fair : (w : Message) (item : Option (List ℕ)) → IsMessage w → IsSpoiled w item
      → IsFairlyHeard w (heard_in item)
  unfolding heard_in
  item_fair w None h s = tt
  item_fair w (Some octets) h s = octets_fair w octets h s

  missed_by : (h : Heard) → h ≡ Noise → IsMissed h
  missed_by h e = subst (λ (x : Heard). IsMissed x) (sym e) tt

  call_missed : (a : List ℕ) (item : Option (List ℕ)) → IsMessage (m.Call a)
      → IsSpoiled (m.Call a) item → IsMissed (heard_in item)
  unfolding heard_in
  call_missed a None h s = tt
  call_missed a (Some octets) h s =
      missed_by (heard octets) (is_noise (m.Call a) octets h s (λ k. let e = k.1.1 in cc))

  pub turned_is_fair : TurnedIsFair
  turned_is_fair = item_fair

  pub turned_each_is_fair : TurnedEachIsFair
  turned_each_is_fair (m.Call a) n items h each =
      inr (λ t less. call_missed a (items t) h (each t less))
  turned_each_is_fair other n items h each = λ t less. item_fair other (items t) h (each t less)

  pub turned_alike_is_fair : TurnedAlikeIsFair
  turned_alike_is_fair w n item h s = turned_each_is_fair w n (λ t. item) h (λ t less. s)

  heard_whole : (w : Message) (item : Option (List ℕ)) → IsMessage w → item ≡ Some (wire w)
      → heard_in item ≡ Whole w
  unfolding heard_in
  heard_whole w item h e = ap heard_in e ∙ (reads.whole (wire w) w).1 (turns.sent w h)

  whole_or_item : (w : Message) (item : Option (List ℕ)) → IsMessage w → (item ≡ Some (wire w))
      ⊎ IsSpoiled w item → IsFairlyHeard w (heard_in item)
  unfolding heard_in
  whole_or_item w item h (inl e) =
      subst (λ (x : Heard). IsFairlyHeard w x) (sym (heard_whole w item h e)) (inl refl)
  whole_or_item w item h (inr s) = item_fair w item h s

  pub turned_for_some_is_fair : TurnedForSomeIsFair
  turned_for_some_is_fair (m.Call a) n items h is each = absurd cc
  turned_for_some_is_fair other n items h is each =
      λ t less. whole_or_item other (items t) h (each t less)

  pub split_call_is_unfair : SplitCallIsUnfair
  split_call_is_unfair (m.Call a) n t u items h is t_less u_less whole spoiled (inl all) =
      subst IsMissed (all u u_less) (call_missed a (items u) h spoiled)
  split_call_is_unfair (m.Call a) n t u items h is t_less u_less whole spoiled (inr missed) =
      subst IsMissed (heard_whole (m.Call a) (items t) h whole) (missed t t_less)
  split_call_is_unfair m.Eot n t u items h is t_less u_less whole spoiled fair = cc
  split_call_is_unfair (m.Text x) n t u items h is t_less u_less whole spoiled fair = cc
  split_call_is_unfair m.Enq n t u items h is t_less u_less whole spoiled fair = cc
  split_call_is_unfair (m.Reply r) n t u items h is t_less u_less whole spoiled fair = cc
