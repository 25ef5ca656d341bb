-- A new control station stays one while it recalls what was kept, and while records are added to
-- its spools.
use Rattle.std.proofs.Common.{◌≡◌, ℕ, ◌<◌, length, refl, sym, ◌∙◌, ap, subst, arith}
use Rattle.std.proofs.lemmas.List.{set-get_or}
use Rattle.std.specs.Prelude.{Result, Ok, Err}
use Rattle.std.specs.Result.{OnErr}
use Rattle.bsc_spool.specs.Spool.{SpoolValue}
use Rattle.bsc_bid.specs.Ready.{IsAtRest}
use Rattle.bsc_control.specs.declared.task.Task.{Task}
use Rattle.bsc_control.specs.declared.task.Task.TheVariants.{AtRest}
use Rattle.bsc_control.specs.Control.{ControlValue, HasEntries, peer, peer_at, with_peer}
use Rattle.bsc_control.specs.Kept.{SuitsTask, IsControl, IsOrderly, outbound_of, phase_of}
use Rattle.bsc_control.specs.Peer.{OutboundValue, PeerValue, IsOutbound, IsPeer, no_outbound}
use Rattle.bsc_control.specs.Peer.{no_peer, outbound_at, with_outbound}
use Rattle.bsc_control.proofs.Controls.{StaysControl, control_kept_by_setup, keeps_setup_with_peer}
use Rattle.bsc_control.proofs.Entries.{peer_with_outbound, entries_with_peer}
use Rattle.bsc_control.proofs.PeerLists.{holds_after_set}
use Rattle.bsc_control.proofs.Reached.{IsPeerReached, IsReached, replaced_is}
use Rattle.bsc_control.proofs.Replacing.{replaced, orderly_flags, settings_replaced}

-- the sending side x stays at rest, with the settings of o
pub record KeepsRest (o x : OutboundValue) : Type 0 where
  pub rests : IsAtRest o.sender.phase → IsAtRest x.sender.phase
  pub setup : x.sender.setup ≡ o.sender.setup
  pub format : x.queue.format ≡ o.queue.format

-- no bid is in progress at a station at rest
all_rest : (c : ControlValue) → IsOrderly c → c.task ≡ AtRest → (t s : ℕ)
    → IsAtRest (phase_of c t s)
all_rest c h rest t s = h.rests t s (λ used. absurd (cc (rest, used.1)))

-- nor once a sending side is replaced by one at rest
all_rest_replaced : (c : ControlValue) (t s : ℕ) (x : OutboundValue) → t < length c.peers
    → s < length (peer_at c t).outbounds → IsAtRest x.sender.phase
    → ((j k : ℕ) → IsAtRest (phase_of c j k))
    → (j k : ℕ) → IsAtRest (phase_of (replaced c t s x) j k)
all_rest_replaced c t s x within there rest all j k =
    holds_after_set (λ (i : ℕ) (p : PeerValue). (n : ℕ) → IsAtRest (outbound_at p n).sender.phase)
    c.peers t (with_outbound (peer_at c t) s x) no_peer
    (holds_after_set (λ (n : ℕ) (o : OutboundValue). IsAtRest o.sender.phase)
    (peer_at c t).outbounds s x no_outbound rest (λ le. absurd (omega (arith, le, there)))
    (λ n ne. all t n))
    (λ le. absurd (omega (arith, le, within)))
    (λ i ne n. all i n)
    j k

-- a sending side of a station at rest is replaced by one at rest
stays_recalled : (c : ControlValue) (t s : ℕ) (x : OutboundValue) → IsControl c → c.task ≡ AtRest
    → t < length c.peers → s < length (peer_at c t).outbounds → IsOutbound x
    → KeepsRest (outbound_of c t s) x → StaysControl c (replaced c t s x)
stays_recalled c t s x h rest within there ready keeps =
    let p : PeerValue = with_outbound (peer_at c t) s x in
    let entries : HasEntries (replaced c t s x) =
    entries_with_peer c t p (peer_with_outbound (peer_at c t) s x ready
    (h.entries.peers t no_peer within)) h.entries in
    let all = all_rest c h.orderly rest in
    let setup = keeps_setup_with_peer c t p refl in
    record {
      control =
          control_kept_by_setup c (replaced c t s x) h setup entries
          (record {
            suits = subst (λ (task : Task). SuitsTask task (peer (replaced c t s x))) (sym rest) tt;
            rests =
                λ j k unused. all_rest_replaced c t s x within there (keeps.rests (all t s)) all
                j k;
            settings = settings_replaced c t s x keeps.setup keeps.format h.orderly.settings;
          });
      same = setup.terminals;
    }

pub recalled_reached : {c d : ControlValue} {t s : ℕ} {p : PeerValue} {o x : OutboundValue}
    → IsControl c → c.task ≡ AtRest → IsReached c d t s p o → IsOutbound x → KeepsRest o x
    → StaysControl c (with_peer d t (with_outbound p s x))
recalled_reached {c} {d} {t} {s} {p} {o} {x} h rest reached ready keeps =
    let kept : KeepsRest (outbound_of c t s) x =
    subst (λ (y : OutboundValue). KeepsRest y x) reached.outbound keeps in
    subst (StaysControl c) (sym (replaced_is c d t s p x reached.reached))
    (stays_recalled c t s x h rest reached.reached.within reached.there ready kept)

-- a spool is replaced
peer_with_spool : (p : PeerValue) (x : SpoolValue) → IsPeer p → IsPeer (record p { spool = x })
peer_with_spool p x h = record { terminal = h.terminal; outbounds = h.outbounds; ready = h.ready }

stays_spool : (c : ControlValue) (t : ℕ) (x : SpoolValue) → IsControl c → t < length c.peers
    → StaysControl c (with_peer c t (record (peer_at c t) { spool = x }))
stays_spool c t x h within =
    let p : PeerValue = record (peer_at c t) { spool = x } in
    let setup = keeps_setup_with_peer c t p refl in
    let entries : HasEntries (with_peer c t p) =
    entries_with_peer c t p (peer_with_spool (peer_at c t) x (h.entries.peers t no_peer within))
    h.entries in
    record {
      control =
          control_kept_by_setup c (with_peer c t p) h setup entries
          (orderly_flags c t p refl refl h.orderly);
      same = setup.terminals;
    }

spool_is : (c d : ControlValue) (t : ℕ) (p : PeerValue) (x : SpoolValue) → IsPeerReached c d t p
    → with_peer d t (record p { spool = x }) ≡ with_peer c t (record (peer_at c t) { spool = x })
spool_is c d t p x reached = cc (reached.station, reached.peer)

pub spool_reached : {c d : ControlValue} {t : ℕ} {p : PeerValue} (x : SpoolValue) → IsControl c
    → IsPeerReached c d t p → StaysControl c (with_peer d t (record p { spool = x }))
spool_reached {c} {d} {t} {p} x h reached =
    subst (StaysControl c) (sym (spool_is c d t p x reached)) (stays_spool c t x h reached.within)

-- a record that is given back leaves the station as it is
pub not_gained_left : {E : Type 0} (answer : Result (Unit {0}) E) (c d e : ControlValue) (t : ℕ)
    (p : PeerValue) (x : SpoolValue) → IsPeerReached c d t p → c ≡ e
    → OnErr answer (x ≡ p.spool) → OnErr answer (with_peer d t (record p { spool = x }) ≡ e)
not_gained_left (Ok u) c d e t p x reached same is = tt
not_gained_left (Err f) c d e t p x reached same is =
    let put_back : with_peer c t (peer_at c t) ≡ c =
    ap (λ ps. record c { peers = ps }) (set-get_or c.peers t no_peer) in
    let all : with_peer d t (record p { spool = x }) ≡ with_peer c t (peer_at c t) =
    ap (λ (y : SpoolValue). with_peer d t (record p { spool = y })) is
    ∙ ap (with_peer d t) reached.peer
    ∙ ap (λ (y : ControlValue). with_peer y t (peer_at c t)) reached.station in
    all ∙ put_back ∙ same
