-- Phases at rest.
use Rattle.std.proofs.Common.{◌≡◌, false, refl}
use Rattle.bsc_bid.specs.declared.phase.Phase.{Phase}
use Rattle.bsc_bid.specs.declared.phase.Phase.TheVariants.{Idle, Unanswered, Held, InDoubt}
use Rattle.bsc_bid.specs.Ready.{IsAtRest}
use Rattle.bsc_bid.specs.Sender.{cut_phase, is_in_doubt}

-- a phase at rest that is not in doubt is idle
pub idle_at_rest : (phase : Phase) → IsAtRest phase → is_in_doubt phase ≡ false → phase ≡ Idle
idle_at_rest Idle rests sure = refl
idle_at_rest (InDoubt count) rests sure = absurd (cc)
idle_at_rest (Unanswered block) rests sure = absurd rests
idle_at_rest (Held end alternation) rests sure = absurd rests

-- a phase at rest is not cut
pub cut_at_rest : (phase : Phase) → IsAtRest phase → cut_phase phase ≡ phase
cut_at_rest Idle rests = refl
cut_at_rest (InDoubt count) rests = refl
cut_at_rest (Unanswered block) rests = absurd rests
cut_at_rest (Held end alternation) rests = absurd rests
