-- The kind and the content after something is heard.
use Rattle.std.proofs.Common.{◌≡◌, inl, inr, ◌↔◌, ℕ, ◌∙◌, refl, sym, ap, subst, List, Some, arith}
use Rattle.std.proofs.lemmas.Bool.Decides.{nat_tests}
use Rattle.bsc_frame.specs.declared.message.Message.{Message}
use Rattle.bsc_frame.specs.declared.message.Heard.{Heard}
use Rattle.bsc_frame.specs.declared.message.Heard.TheVariants.{Whole, Failed, Noise}
use Rattle.bsc_frame.specs.Spells.{Spells, IsFailed, IsNoise}
use Rattle.bsc_frame.specs.Short.{IsHeard, BeginsText}
use Rattle.bsc_frame.specs.Texts.{TextValue}
use Rattle.bsc_frame.specs.declared.message.Message.TheVariants.{Text}
use Rattle.bsc_embed.specs.Kinds.{kind_at}
use Rattle.bsc_embed.specs.Contents.{message_as, message_in}
use Rattle.bsc_embed.specs.Decoded.{StandsFor, KeepsRest, KeepsRestOfHeard, Tells}
use Rattle.bsc_embed.specs.declared.kind.Kind.{Kind}
use Rattle.bsc_embed.specs.declared.kind.Kind.TheVariants as kind
use Rattle.bsc_embed.specs.declared.content.Content.{Content}

not_failed : (k : Kind) (c : Content) (x : Message) → message_as k c ≡ Some x → k ≡ kind.Failed → ⊥
not_failed k c x s e = let r : message_as kind.Failed c ≡ Some x = rw e at s in cc

not_noise : (k : Kind) (c : Content) (x : Message) → message_as k c ≡ Some x → k ≡ kind.Noise → ⊥
not_noise k c x s e = let r : message_as kind.Noise c ≡ Some x = rw e at s in cc

-- The kind and the content tell what was heard.
pub kind_tells_heard : (octets : List ℕ) (h : Heard) (k : Kind) (old new : Content) → IsHeard octets h
    → StandsFor h k new → KeepsRestOfHeard h old new → Tells octets k old new
kind_tells_heard octets (Whole x) k old new w s n = record {
  whole = λ m. (
    λ q. let r : Some x ≡ Some m = sym s ∙ q in let same : x ≡ m = cc in
        (w.whole m).0 (ap Whole same),
    λ q. let r : Whole x ≡ Whole m = (w.whole m).1 q in let same : x ≡ m = cc in s ∙ ap Some same,
  );
  failed =
      (λ e. absurd (not_failed k new x s e), λ f. let r : Whole x ≡ Failed = w.failed.1 f in cc);
  noise = (λ e. absurd (not_noise k new x s e), λ f. let r : Whole x ≡ Noise = w.noise.1 f in cc);
  kept = λ m q. let r : Whole x ≡ Whole m = (w.whole m).1 q in let same : x ≡ m = cc in
      subst (λ z. KeepsRest z old new) same n;
  unspelled = λ e. absurd (e x ((w.whole x).0 refl));
}
kind_tells_heard octets Failed k old new w s n = record {
  whole =
      λ m. (
        λ q. let r : message_as kind.Failed new ≡ Some m = rw s at q in cc,
        λ q. let r : Failed
            ≡ Whole m = (w.whole m).1 q in cc,
      );
  failed = (λ e. w.failed.0 refl, λ f. s);
  noise = (λ e. cc, λ f. let r : Failed ≡ Noise = w.noise.1 f in cc);
  kept = λ m q. let r : Failed ≡ Whole m = (w.whole m).1 q in cc;
  unspelled = λ e. n;
}
kind_tells_heard octets Noise k old new w s n = record {
  whole =
      λ m. (
        λ q. let r : message_as kind.Noise new ≡ Some m = rw s at q in cc,
        λ q. let r : Noise
            ≡ Whole m = (w.whole m).1 q in cc,
      );
  failed = (λ e. cc, λ f. let r : Noise ≡ Failed = w.failed.1 f in cc);
  noise = (λ e. w.noise.0 refl, λ f. s);
  kept = λ m q. let r : Noise ≡ Whole m = (w.whole m).1 q in cc;
  unspelled = λ e. n;
}

-- A number stands for its kind.
pub by_kind : (number : ℕ) (k : Kind) (c : Content) → kind_at number ≡ Some k
    → message_in number c ≡ message_as k c
unfolding message_in
by_kind number k c e = rw e refl

pub failed_number : (number : ℕ) (k : Kind) → kind_at number ≡ Some k
    → (number ≡ 1) ↔ (k ≡ kind.Failed)
failed_number number k e = (
  λ n. let r : kind_at 1 ≡ Some k = rw n at e in cc,
  λ f. let r : kind_at number
      ≡ Some kind.Failed = rw f at e in grind (arith, nat_tests),
)

pub noise_number : (number : ℕ) (k : Kind) → kind_at number ≡ Some k
    → (number ≡ 0) ↔ (k ≡ kind.Noise)
noise_number number k e = (
  λ n. let r : kind_at 0 ≡ Some k = rw n at e in cc,
  λ f. let r : kind_at number
      ≡ Some kind.Noise = rw f at e in grind (arith, nat_tests),
)

-- Octets that begin as a text and spell a message spell a text.
pub only_text : (octets : List ℕ) (m : Message) → BeginsText octets → IsHeard octets (Whole m)
    → ((t : TextValue) → m ≡ Text t → ⊥) → ⊥
only_text octets m (inl (t, s)) w n =
    let r : Whole m ≡ Whole (Text t) = (w.whole (Text t)).1 s in
    n t cc
only_text octets m (inr f) w n =
    let r : Whole m ≡ Failed = w.failed.1 f in
    cc

-- What the decoder's contract says of its result holds of anything equal to it.
pub heard_is : (octets : List ℕ) (r h : Heard) → r ≡ h
    → ((m : Message) → (r ≡ Whole m) ↔ Spells octets m)
    → (r ≡ Failed) ↔ IsFailed octets → (r ≡ Noise) ↔ IsNoise octets
    → IsHeard octets h
heard_is octets r h e whole failed noise =
    let w : IsHeard octets r = record { whole = whole; failed = failed; noise = noise } in
    rw e at w
