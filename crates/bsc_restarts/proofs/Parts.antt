-- Changes of channels that differ are kept each on its own channel.
use Rattle.std.proofs.Common.{◌≡◌, ◌≢◌, ◌∙◌, List, [], ◌∷◌, ◌++◌, map, refl, sym, subst}
use Rattle.std.specs.List.{AllByRecursion, flat_map}
use Rattle.bsc_spool.specs.Contents.{Contents}
use Rattle.bsc_spool.specs.declared.change.Change.{Change}
use Rattle.bsc_spool.specs.declared.channel.Channel.{Channel}
use Rattle.bsc_restarts.specs.Crashes.{AllDiffer, HasChanged, KeepsEach, channel_in}

-- changes of one channel
pub record Part : Type 0 where
  pub channel : Channel
  pub changes : List Change

abbrev pub changes_in : Part → List Change
changes_in part = part.changes

abbrev pub channel_at : Part → Channel
channel_at part = part.channel

-- all of these changes are of this channel
abbrev pub AreOf : Channel → List Change → Type 0
AreOf its changes = AllByRecursion (λ (c : Change). channel_in c ≡ its) changes

-- what is had of a channel once these changes of it were kept
abbrev pub ChangesTo : List Change → Contents → Contents → Type 0
ChangesTo [] old new = new ≡ old
ChangesTo (change ∷ changes) old new =
    (mid : Contents) × HasChanged change old mid × ChangesTo changes mid new

-- changes, and then others
split_kept : (xs ys : List Change) (old new : Channel → Contents) → KeepsEach (xs ++ ys) old new
    → (mid : Channel → Contents) × KeepsEach xs old mid × KeepsEach ys mid new
split_kept [] ys old new keeps = (old, λ channel. refl, keeps)
split_kept (x ∷ xs) ys old new (mid, one, more) =
    let rest = split_kept xs ys mid new more in
    (rest.0, (mid, one, rest.1), rest.2)

-- all on one channel
kept_on_one : (its : Channel) (changes : List Change) (old new : Channel → Contents)
    → AreOf its changes → KeepsEach changes old new → ChangesTo changes (old its) (new its)
kept_on_one its [] old new all keeps = keeps its
kept_on_one its (c ∷ cs) old new (is, all) (mid, one, more) =
    (mid its, subst (λ i. HasChanged c (old i) (mid i)) is one.changed, kept_on_one its cs mid new all more)

kept_beside : (its channel : Channel) (changes : List Change) (old new : Channel → Contents)
    → AreOf its changes → KeepsEach changes old new → channel ≢ its → new channel ≡ old channel
kept_beside its channel [] old new all keeps other = keeps channel
kept_beside its channel (c ∷ cs) old new (is, all) (mid, one, more) other =
    kept_beside its channel cs mid new all more other
    ∙ one.others channel (subst (λ i. channel ≢ i) (sym is) other)

-- each part has changes of its channel only
abbrev pub AreParts : List Part → Type 0
AreParts parts = AllByRecursion (λ (p : Part). AreOf p.channel p.changes) parts

others_stay : (channel : Channel) (parts : List Part) (old new : Channel → Contents)
    → AreParts parts → AllByRecursion (λ (other : Channel). other ≢ channel) (map channel_at parts)
    → KeepsEach (flat_map changes_in parts) old new → new channel ≡ old channel
others_stay channel [] old new all beside keeps = keeps channel
others_stay channel (p ∷ ps) old new (of, all) (other, beside) keeps =
    let (mid, first, rest) = split_kept p.changes (flat_map changes_in ps) old new keeps in
    others_stay channel ps mid new all beside rest
    ∙ kept_beside p.channel channel p.changes old mid of first (λ is. other (sym is))

-- what was not changed before is as it was
from_before : (its : Channel) (changes : List Change) (qs : List Part)
    (old mid new : Channel → Contents) → AreOf its changes → KeepsEach changes old mid
    → AllByRecursion (λ (other : Channel). other ≢ its) (map channel_at qs)
    → AllByRecursion (λ (q : Part). ChangesTo q.changes (mid q.channel) (new q.channel)) qs
    → AllByRecursion (λ (q : Part). ChangesTo q.changes (old q.channel) (new q.channel)) qs
from_before its changes [] old mid new of first others all = tt
from_before its changes (q ∷ qs) old mid new of first (other, others) (one, all) = (
  subst (λ it. ChangesTo q.changes it (new q.channel))
      (kept_beside its q.channel changes old mid of first other) one,
  from_before its changes qs old mid new of first others all,
)

-- so each channel has its own changes
pub each_part : (parts : List Part) (old new : Channel → Contents) → AreParts parts
    → AllDiffer (map channel_at parts) → KeepsEach (flat_map changes_in parts) old new
    → AllByRecursion (λ (p : Part). ChangesTo p.changes (old p.channel) (new p.channel)) parts
each_part [] old new all differ keeps = tt
each_part (p ∷ ps) old new (of, all) (others, differ) keeps =
    let (mid, first, rest) = split_kept p.changes (flat_map changes_in ps) old new keeps in (
      subst (λ it. ChangesTo p.changes (old p.channel) it)
          (sym (others_stay p.channel ps mid new all others rest))
          (kept_on_one p.channel p.changes old mid of first),
      from_before p.channel p.changes ps old mid new of first others
          (each_part ps mid new all differ rest),
    )
