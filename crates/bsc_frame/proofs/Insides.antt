-- What follows the SYN in octets that spell a message, or failed.
use Rattle.std.proofs.Common.{◌≡◌, ◌≢◌, ◌⊎◌, inl, inr, ℕ, ◌≤◌, ◌==◌, Bool, true, false, cond, refl}
use Rattle.std.proofs.Common.{sym, ap}
use Rattle.std.proofs.Common.{subst, ◌∙◌, List, [], ◌∷◌, ◌++◌, length, append-nil, map, nat_lt}
use Rattle.std.proofs.lemmas.Bool.{eqb-true}
use Rattle.bsc_octet.specs.Octet.{IsOdd, odd_octet, is_pad_octet}
use Rattle.bsc_frame.specs.Spells.{Spells, IsBody, Carries, AreAll, IsFailed}
use Rattle.bsc_frame.specs.Reading.{skip, is_octet, begins, heard, heard_body}
use Rattle.bsc_frame.specs.Reading.{trimmed}
use Rattle.bsc_frame.specs.declared.message.Message.{Message}
use Rattle.bsc_frame.specs.declared.message.Message.TheVariants.{Eot, Call, Enq, Reply, Text}
use Rattle.bsc_frame.specs.declared.message.Heard.{Heard}
use Rattle.bsc_frame.specs.declared.message.Heard.TheVariants.{Noise}
use Rattle.bsc_frame.proofs.Fronts.{heard_carried, trail_of}
use Rattle.bsc_frame.proofs.HeardMessages.{body_reads, heard_spelled, heard_failed, failed_begins}
use Rattle.bsc_frame.proofs.Replies.{reply_form}
use Rattle.bsc_frame.proofs.BodyParity.{eot_odd, enq_odd, nak_odd, dle_odd, stx_odd}
use Rattle.bsc_frame.specs.declared.limits.TheConstants.{MAX_HEARD}
use Rattle.bsc_octet.specs.declared.controls.TheConstants.{DLE, ENQ, EOT, NAK, PAD, STX, SYN}

-- a body and the PAD after it
pub record Inside (rest : List ℕ) (n : Message) : Type 0 where
  pub body : List ℕ
  pub trail : List ℕ
  pub whole : rest ≡ body ++ trail
  pub are_trail : AreAll PAD trail
  pub is_body : IsBody n body

-- a body after SYN without pads is heard as itself, without PAD at its end
heard_syns : (syns rest : List ℕ) → AreAll SYN syns → syns ≢ [] → begins (is_octet SYN) rest
    ≡ false
    → length (syns ++ rest) ≤ MAX_HEARD
    → heard (syns ++ rest) ≡ heard_body (trimmed rest)
heard_syns syns rest are some stops small =
    let c : Carries (syns ++ rest) rest = record {
      pads = [];
      syns = syns;
      trail = [];
      whole = sym (append-nil (syns ++ rest));
      are_pads = tt;
      are_syns = are;
      some_syn = some;
      are_trail = tt;
    } in
    heard_carried (syns ++ rest) rest c small
    (ap (begins (is_octet SYN)) (append-nil rest) ∙ stops)
    ∙ ap (λ z. heard_body (trimmed z)) (append-nil rest)

-- what is after SYN carries the body of the message that is spelled
pub inside_after_syns : (syns rest : List ℕ) (n : Message) → AreAll SYN syns → syns ≢ []
    → begins (is_octet SYN) rest ≡ false → Spells (syns ++ rest) n → Inside rest n
inside_after_syns syns rest n are some stops s =
    let t = trail_of rest in
    record {
      body = trimmed rest;
      trail = t.trail;
      whole = t.whole;
      are_trail = t.are;
      is_body =
          body_reads (trimmed rest) n (sym (heard_syns syns rest are some stops s.small)
          ∙ heard_spelled (syns ++ rest) n s);
    }

-- what failed has STX after its SYN
pub failed_inside : (syns rest : List ℕ) → AreAll SYN syns → syns ≢ []
    → begins (is_octet SYN) rest ≡ false
    → IsFailed (syns ++ rest) → (more : List ℕ) × (rest ≡ STX ∷ more)
failed_inside syns rest are some stops f =
    let t = trail_of rest in
    let k =
    failed_begins (trimmed rest) (sym (heard_syns syns rest are some stops f.small)
    ∙ heard_failed (syns ++ rest) f) in
    (k.0 ++ t.trail, t.whole ∙ ap (λ z. z ++ t.trail) k.1)

-- ---- the first octet

-- the first octet of a body
pub record First (body : List ℕ) : Type 0 where
  pub first : ℕ
  pub more : List ℕ
  pub whole : body ≡ first ∷ more
  pub odd : IsOdd first

-- a body has a first octet, and this has odd parity
pub first_of : (n : Message) (body : List ℕ) → IsBody n body → First body
first_of Eot body h = record { first = EOT; more = []; whole = h; odd = eot_odd }
first_of (Call a) body h =
    record {
      first = EOT;
      more = h.pads ++ h.syns ++ map odd_octet a ++ ENQ ∷ [];
      whole = h.whole;
      odd = eot_odd;
    }
first_of Enq body h = record { first = ENQ; more = []; whole = h; odd = enq_odd }
first_of (Reply r) body h = elim (reply_form r) [
  | inl k ↦ record { first = NAK; more = []; whole = h ∙ k; odd = nak_odd }
  | inr k ↦ record { first = DLE; more = k.second ∷ []; whole = h ∙ k.whole; odd = dle_odd }
]
first_of (Text t) body h = record { first = STX; more = h.rest; whole = h.whole; odd = stx_odd }

-- the rest of a body, after its first octet
pub record AfterFirst (x : ℕ) (rest : List ℕ) (n : Message) : Type 0 where
  pub body : List ℕ
  pub trail : List ℕ
  pub whole : rest ≡ body ++ trail
  pub are_trail : AreAll PAD trail
  pub is_body : IsBody n (x ∷ body)

-- what is left of the message after its first octet
pub after_first : (x : ℕ) (rest : List ℕ) (n : Message) → Inside (x ∷ rest) n → AfterFirst x rest n
after_first x rest n i =
    let f = first_of n i.body i.is_body in
    let all : x ∷ rest ≡ f.first ∷ (f.more ++ i.trail) = i.whole ∙ ap (λ z. z ++ i.trail) f.whole in
    let head : f.first ≡ x = cc in
    let tail : rest ≡ f.more ++ i.trail = cc in
    record {
      body = f.more;
      trail = i.trail;
      whole = tail;
      are_trail = i.are_trail;
      is_body = subst (λ b. IsBody n b) (f.whole ∙ ap (λ z. z ∷ f.more) head) i.is_body;
    }

-- the first octet after the SYN of a message is odd
pub first_is_odd : (o : ℕ) (rest : List ℕ) (n : Message) → Inside (o ∷ rest) n → IsOdd o
first_is_odd o rest n i =
    let f = first_of n i.body i.is_body in
    let all : o ∷ rest ≡ f.first ∷ (f.more ++ i.trail) = i.whole ∙ ap (λ z. z ++ i.trail) f.whole in
    let head : f.first ≡ o = cc in
    rw (← head) f.odd

-- ---- no pad and no SYN at the front

-- if both branches are noise, the whole is noise
either_noise : (b : Bool) (h : Heard) → h ≡ Noise → cond b Noise h ≡ Noise
either_noise true h e = refl
either_noise false h e = e

-- octets that begin with neither a pad nor SYN are noise
pub starts_wrong : (o : ℕ) (rest : List ℕ) → is_pad_octet o ≡ false → (o == SYN) ≡ false
    → heard (o ∷ rest) ≡ Noise
unfolding heard skip
starts_wrong o rest p s = rw p (either_noise (nat_lt MAX_HEARD (length (o ∷ rest))) _ (rw s refl))

-- an octet is one of the two leading pads, or is not a leading pad
pub pad_or_not : (o : ℕ) → ((o ≡ 0x55) ⊎ (o ≡ 0xaa)) ⊎ (is_pad_octet o ≡ false)
pad_or_not o = by_tests (o == 0x55) (o == 0xaa) refl refl
  where
    by_tests : (a b : Bool) → (o == 0x55) ≡ a → (o == 0xaa) ≡ b → ((o ≡ 0x55) ⊎ (o ≡ 0xaa))
        ⊎ (is_pad_octet o ≡ false)
    by_tests true b e f = inl (inl (eqb-true o 0x55 e))
    by_tests false true e f = inl (inr (eqb-true o 0xaa f))
    by_tests false false e f = inr (rw (e, f) refl)
