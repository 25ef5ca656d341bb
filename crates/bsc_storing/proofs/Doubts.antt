-- The release in a store is that of the bid, and what the counts of two stores say is by it.
use Rattle.std.proofs.Common.{◌≡◌, ◌+◌, ◌==◌, ◌||◌, not, false, inl, inr, ℕ, zero, suc, refl, arith}
use Rattle.std.proofs.lemmas.Bool.{cases_Bool, ne_eqb}
use Rattle.bsc_spool.specs.Queue.{QueueValue}
use Rattle.bsc_bid.specs.Sender.{SenderValue, release_step}
use Rattle.bsc_spool.specs.declared.channel.Channel.{Channel}
use Rattle.bsc_spool.specs.declared.store.Progress.{Progress}
use Rattle.bsc_storing.specs.Releases.{release_of, phase_at, Releases, IsReleaseOfBid}
use Rattle.bsc_storing.specs.Releases.{compared, is_apart, fits, FindsApart}

some_is_not_none : (n k : ℕ) → n ≡ suc k → (n == 0) ≡ false
some_is_not_none n k is = ne_eqb n 0 (λ none. omega (arith, is, none))

agrees : (s : SenderValue) (q : QueueValue) (channel : Channel) (it : Progress) (count d : ℕ)
    → it.in_doubt ≡ d → s.phase ≡ phase_at d → q.known ≡ it.known
    → Releases (release_step s q count) (release_of channel it count) channel
agrees s q channel it count zero is phase known = rw (phase, is) refl
agrees s q channel it count (suc k) is phase known =
    elim (cases_Bool ((count == it.known) || (count == (it.known + suc k)))) [
      | inl one ↦ rw (phase, known, some_is_not_none it.in_doubt k is, is, one) (refl, refl, refl)
      | inr none ↦ rw (phase, known, some_is_not_none it.in_doubt k is, is, none) refl
    ]

pub release_agrees : IsReleaseOfBid
release_agrees s q channel it count phase known = agrees s q channel it count it.in_doubt refl phase known

apart : (channel : Channel) (it : Progress) (arrived d : ℕ) → it.in_doubt ≡ d
    → is_apart (compared channel it arrived) ≡ not (fits it arrived)
apart channel it arrived zero is =
    let plain : it.known + 0 ≡ it.known = omega arith in
    elim (cases_Bool (arrived == it.known)) [
      | inl one ↦ rw (is, one) refl
      | inr none ↦ rw (is, plain, none) refl
    ]
apart channel it arrived (suc k) is =
    elim (cases_Bool ((arrived == it.known) || (arrived == (it.known + suc k)))) [
      | inl one ↦ rw (some_is_not_none it.in_doubt k is, is, one) refl
      | inr none ↦ rw (some_is_not_none it.in_doubt k is, is, none) refl
    ]

pub found_apart : FindsApart
found_apart channel it arrived = apart channel it arrived it.in_doubt refl
