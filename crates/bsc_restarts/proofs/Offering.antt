-- Offers to a control station, and what it recalls, change one sending side at a time.
use Rattle.std.proofs.Common.{◌≡◌, ◌≢◌, ◌⊎◌, ◌∙◌, ℕ, List, [], ◌∷◌, ◌++◌, refl, sym, ap, append-nil}
use Rattle.std.proofs.Common.{append_assoc}
use Rattle.bsc_bid.specs.declared.kept.KeptSender.{KeptSender}
use Rattle.bsc_control.specs.declared.task.Task.{Task}
use Rattle.bsc_control.specs.declared.task.Task.TheVariants.{AtRest}
use Rattle.bsc_control.specs.Control.{ControlValue}
use Rattle.bsc_control.specs.Kept.{outbound_of}
use Rattle.bsc_control.specs.Peer.{OutboundValue, offered}
use Rattle.bsc_control.specs.Stored.{outbound_recalled, recalled_during}
use Rattle.bsc_spool.specs.Contents.{Contents}
use Rattle.bsc_spool.specs.declared.channel.Channel.{Channel}
use Rattle.bsc_spool.specs.declared.ends.Sending.{Sending}
use Rattle.bsc_keeping.specs.Filled.{offered_all, offered_each, recalled_each, recalled_of}
use Rattle.bsc_keeping.specs.Filled.{sent_again}
use Rattle.bsc_keeping.specs.Filling.{offered_at, recalled_at}
use Rattle.bsc_spool.specs.Queue.{queue_of}
use Rattle.bsc_restarts.proofs.Sides.{ChangesSide, HasSide, OnlySides, each, no_side, only_set}
use Rattle.bsc_restarts.proofs.Sides.{other_side, sides_then, still_has, this_side}

-- a sending side with more records
abbrev pub with_records : OutboundValue → List (List ℕ) → OutboundValue
with_records o rs =
    record o { queue = queue_of o.queue.format (o.queue.offered ++ rs) o.queue.known }

offers_only : (rs : List (List ℕ)) (t s : ℕ) (x : ControlValue)
    → OnlySides x (offered_all offered_at t s rs x)
offers_only [] t s x = no_side x x refl
offers_only (r ∷ rs) t s x =
    sides_then x (offered_at x t s r) (offered_all offered_at t s rs (offered_at x t s r))
    (only_set x t s (offered (outbound_of x t s) r))
    (offers_only rs t s (offered_at x t s r))

offers_others : (rs : List (List ℕ)) (t s : ℕ) (x : ControlValue) (i j : ℕ)
    → (i ≢ t) ⊎ (j ≢ s) → outbound_of (offered_all offered_at t s rs x) i j ≡ outbound_of x i j
offers_others [] t s x i j other = refl
offers_others (r ∷ rs) t s x i j other =
    offers_others rs t s (offered_at x t s r) i j other
    ∙ other_side x t s (offered (outbound_of x t s) r) i j other

offers_this : (rs : List (List ℕ)) (t s : ℕ) (x : ControlValue) → HasSide x t s
    → outbound_of (offered_all offered_at t s rs x) t s ≡ with_records (outbound_of x t s) rs
offers_this [] t s x has =
    let o = outbound_of x t s in
    ap (λ l. record o { queue = queue_of o.queue.format l o.queue.known })
    (sym (append-nil o.queue.offered))
offers_this (r ∷ rs) t s x has =
    let o = outbound_of x t s in
    let y = offered_at x t s r in
    offers_this rs t s y (still_has x y t s (only_set x t s (offered o r)) has)
    ∙ ap (λ p. with_records p rs) (this_side x t s (offered o r) has)
    ∙ ap (λ l. record o { queue = queue_of o.queue.format l o.queue.known })
    (append_assoc o.queue.offered (r ∷ []) rs)

-- the offers of what a store has for the channel of an end
abbrev pub offering : (Channel → Contents) → Sending → ControlValue → ControlValue
offering has e x = offered_all offered_at e.terminal e.select (sent_again (has e.channel)) x

pub offering_changes : (has : Channel → Contents)
    → ChangesSide (offering has) (λ its o. with_records o (sent_again (has its)))
offering_changes has = record {
  only = λ e x. offers_only (sent_again (has e.channel)) e.terminal e.select x;
  others = λ e x. offers_others (sent_again (has e.channel)) e.terminal e.select x;
  this = λ e x there rest. offers_this (sent_again (has e.channel)) e.terminal e.select x there;
}

pub each_offering : (has : Channel → Contents) (ends : List Sending) (x : ControlValue)
    → offered_each offered_at has ends x ≡ each (offering has) ends x
each_offering has [] x = refl
each_offering has (e ∷ es) x = each_offering has es (offering has e x)

recalls_only : (x : ControlValue) (task : Task) (t s : ℕ) (k : KeptSender)
    → OnlySides x (recalled_during x task t s k)
recalls_only x AtRest t s k = only_set x t s (outbound_recalled (outbound_of x t s) k)
recalls_only x task t s k = no_side x x refl

recalls_others : (x : ControlValue) (task : Task) (t s : ℕ) (k : KeptSender) (i j : ℕ)
    → (i ≢ t) ⊎ (j ≢ s) → outbound_of (recalled_during x task t s k) i j ≡ outbound_of x i j
recalls_others x AtRest t s k i j other =
    other_side x t s (outbound_recalled (outbound_of x t s) k) i j other
recalls_others x task t s k i j other = refl

-- the recall of what a store has of the channel of an end
abbrev pub recalling : (Channel → Contents) → Sending → ControlValue → ControlValue
recalling has e x = recalled_at x e.terminal e.select (recalled_of (has e.channel))

pub recalling_changes : (has : Channel → Contents)
    → ChangesSide (recalling has) (λ its o. outbound_recalled o (recalled_of (has its)))
recalling_changes has = record {
  only = λ e x. recalls_only x x.task e.terminal e.select (recalled_of (has e.channel));
  others = λ e x. recalls_others x x.task e.terminal e.select (recalled_of (has e.channel));
  this = λ e x there rest.
      let k = recalled_of (has e.channel) in
      ap (λ task. outbound_of (recalled_during x task e.terminal e.select k) e.terminal e.select)
      rest
      ∙ this_side x e.terminal e.select
      (outbound_recalled (outbound_of x e.terminal e.select) k) there;
}

pub each_recalling : (has : Channel → Contents) (ends : List Sending) (x : ControlValue)
    → recalled_each recalled_at has ends x ≡ each (recalling has) ends x
each_recalling has [] x = refl
each_recalling has (e ∷ es) x = each_recalling has es (recalling has e x)
