-- A control station stays one.
use Rattle.std.proofs.Common.{◌≡◌, ℕ, ◌+◌, ◌≤◌, ◌<◌, ◌==◌, ◌||◌, Bool, true, List, [], ◌∷◌, ◌++◌}
use Rattle.std.proofs.Common.{length, drop, Option, refl, sym, ◌∙◌, ap, subst, arith, length-drop}
use Rattle.std.proofs.Common.{length-append}
use Rattle.std.proofs.lemmas.List.{length-set}
use Rattle.bsc_frame.specs.declared.message.Message.{Message}
use Rattle.bsc_frame.specs.declared.message.Heard.{Heard}
use Rattle.bsc_spool.specs.Queue.{QueueValue, waiting}
use Rattle.bsc_bid.specs.declared.phase.Phase.{Phase}
use Rattle.bsc_bid.specs.declared.phase.Phase.TheVariants.{Idle, Unanswered, Held, InDoubt}
use Rattle.bsc_bid.specs.Ready.{IsGoing, IsAtRest}
use Rattle.bsc_bid.specs.Sender.{ReleaseStep, release_in}
use Rattle.std.specs.Result.{OnOk, OnErr}
use Rattle.std.specs.Prelude.{Result, Ok, Err}
use Rattle.bsc_bid.specs.declared.limits.TheConstants.{MAX_TERMINALS, MAX_ENTRIES}
use Rattle.bsc_bid.specs.declared.way.Way.{Way}
use Rattle.bsc_bid.specs.declared.way.Way.TheVariants.{FromTerminal, ToTerminal}
use Rattle.bsc_bid.specs.Addresses.{AreDistinct}
use Rattle.bsc_control.specs.Control.{ControlValue, HasEntries, terminals, peer_at, with_peer}
use Rattle.bsc_control.specs.Kept.{IsOrderly, IsControl, Keeps, AfterHearing, AfterSilence}
use Rattle.bsc_control.specs.Kept.{outbound_of}
use Rattle.bsc_control.specs.Peer.{OutboundValue, PeerValue, IsOutbound, IsPeer, no_peer}
use Rattle.bsc_control.specs.Peer.{with_outbound, offered, sent_forgotten, outbound_released}
use Rattle.bsc_control.specs.Table.{Hears, ActsOnSilence}
use Rattle.bsc_bid.specs.Ways.{IsSelection, select_of}
use Rattle.bsc_control.proofs.Noise.{noise_changes_nothing}
use Rattle.bsc_control.proofs.Entries.{peer_with_outbound, peer_with_flag, peer_with_polled}
use Rattle.bsc_control.proofs.Entries.{entries_with_peer}
use Rattle.bsc_control.proofs.PeerLists.{map_kept_by_set}
use Rattle.bsc_control.proofs.Replacing.{replaced, Follows, orderly_replaced, orderly_flags}
use Rattle.bsc_bid.proofs.Choice.{either_branch}
use Rattle.bsc_control.proofs.Steps.{HearingKeeps, SilenceKeeps, hearing_keeps, silence_keeps}

-- the settings, the poll list and the addresses stay
pub record KeepsSetup (old new : ControlValue) : Type 0 where
  pub poll_list : new.poll_list ≡ old.poll_list
  pub terminals : terminals new ≡ terminals old
  pub peers : length new.peers ≡ length old.peers

pub control_kept_by_setup : (old new : ControlValue) → IsControl old → KeepsSetup old new → HasEntries new
    → IsOrderly new → IsControl new
control_kept_by_setup old new h keeps entries orderly =
    record {
      some = subst (λ (n : ℕ). 1 ≤ n) (sym keeps.peers) h.some;
      few = subst (λ (n : ℕ). n ≤ MAX_TERMINALS) (sym keeps.peers) h.few;
      list = subst (λ (xs : List ℕ). length xs ≤ MAX_ENTRIES) (sym keeps.poll_list) h.list;
      distinct = subst AreDistinct (sym keeps.terminals) h.distinct;
      entries = entries;
      orderly = orderly;
    }

setup_kept : (old new : ControlValue) → Keeps old new → KeepsSetup old new
setup_kept old new k = record { poll_list = k.poll_list; terminals = k.terminals; peers = k.peers }

-- a control station after it heard a transmission
pub after_hearing_is : (old : ControlValue) (h : Heard) (new : ControlValue) (sent : Option Message)
    → IsControl old → HasEntries new → Hears old h new sent → AfterHearing old h new sent
after_hearing_is old h new sent is entries heard =
    let well : HearingKeeps old h (record { control = new; sent = sent }) =
    hearing_keeps old h new sent is.entries is.orderly heard in
    record {
      control = control_kept_by_setup old new is (setup_kept old new well.keeps) entries well.orderly;
      keeps = well.keeps;
      calls = well.calls;
      spools = well.spools;
      noise =
          λ e. noise_changes_nothing old new sent
          (subst (λ (x : Heard). Hears old x new sent) e heard);
    }

-- a control station after a silence
pub after_silence_is : (old new : ControlValue) (sent : Option Message) → IsControl old
    → HasEntries new → ActsOnSilence old new sent → AfterSilence old new sent
after_silence_is old new sent is entries row =
    let well : SilenceKeeps old (record { control = new; sent = sent }) =
    silence_keeps old new sent is.entries is.orderly row in
    record {
      control = control_kept_by_setup old new is (setup_kept old new well.keeps) entries well.orderly;
      keeps = well.keeps;
      calls = well.calls;
      spools = well.spools;
    }

pub keeps_setup_with_peer : (c : ControlValue) (t : ℕ) (p : PeerValue) → p.terminal
    ≡ (peer_at c t).terminal → KeepsSetup c (with_peer c t p)
keeps_setup_with_peer c t p same =
    record {
      poll_list = refl;
      terminals =
          map_kept_by_set (λ (x : PeerValue). x.terminal) c.peers t p no_peer same;
      peers =
          length-set c.peers t p;
    }

-- a sending side is replaced by one that follows it
control_replaced : (c : ControlValue) (t s : ℕ) (o : OutboundValue) → IsControl c → t
    < length c.peers → s < length (peer_at c t).outbounds → o.sender.setup
    ≡ (outbound_of c t s).sender.setup → o.queue.format ≡ (outbound_of c t s).queue.format
    → Follows (outbound_of c t s) o → HasEntries (replaced c t s o) → IsControl (replaced c t s o)
control_replaced c t s o h within there setup format follows entries =
    control_kept_by_setup c (replaced c t s o) h
    (keeps_setup_with_peer c t (with_outbound (peer_at c t) s o) refl) entries
    (orderly_replaced c t s o within there setup format follows h.orderly)

waiting_kept_by_offer : (q : QueueValue) (r : List ℕ) → 1 ≤ length (waiting q) → 1
    ≤ length (drop q.known (q.offered ++ r ∷ []))
waiting_kept_by_offer q r h =
    omega (
      arith,
      h,
      length-drop q.known q.offered,
      length-drop q.known (q.offered ++ r ∷ []),
      length-append q.offered (r ∷ []),
    )

-- the settings and the format stay, and the task finds what it found
pub record KeepsOutbound (o x : OutboundValue) : Type 0 where
  pub setup : x.sender.setup ≡ o.sender.setup
  pub format : x.queue.format ≡ o.queue.format
  pub follows : Follows o x

outbound_keeps_itself : (o : OutboundValue) → KeepsOutbound o o
outbound_keeps_itself o =
    record {
      setup = refl;
      format = refl;
      follows =
          record { rests = λ x. x; goes = λ x. x; idle = λ x. x; some = λ e x. x };
    }

-- a record is offered
keeps_outbound_offered : (o : OutboundValue) (r : List ℕ) → KeepsOutbound o (offered o r)
keeps_outbound_offered o r =
    record {
      setup = refl;
      format = refl;
      follows =
          record {
            rests = λ x. x;
            goes = λ x. x;
            idle = λ x. x;
            some =
                λ e x. waiting_kept_by_offer o.queue r x;
          };
    }

pub keeps_outbound_offer : {E : Type 0} (answer : Result (Unit {0}) E) (o x : OutboundValue)
    (r : List ℕ) → OnOk answer (x ≡ offered o r) → OnErr answer (x ≡ o) → KeepsOutbound o x
keeps_outbound_offer (Ok u) o x r ok err =
    subst (KeepsOutbound o) (sym ok) (keeps_outbound_offered o r)
keeps_outbound_offer (Err e) o x r ok err = subst (KeepsOutbound o) (sym err) (outbound_keeps_itself o)

-- the first records are forgotten, and the same records wait as before
pub keeps_outbound_forget : (o x : OutboundValue) (count : ℕ) → x ≡ sent_forgotten o count
    → waiting x.queue ≡ waiting o.queue → KeepsOutbound o x
keeps_outbound_forget o x count is waits =
    let phase : x.sender.phase ≡ o.sender.phase = ap (λ (y : OutboundValue). y.sender.phase) is in
    record {
      setup = ap (λ (y : OutboundValue). y.sender.setup) is;
      format = ap (λ (y : OutboundValue). y.queue.format) is;
      follows =
          record {
            rests = subst IsAtRest (sym phase);
            goes = subst IsGoing (sym phase);
            idle = λ h. phase ∙ h;
            some = λ e h. subst (λ (rs : List (List ℕ)). 1 ≤ length rs) (sym waits) h;
          };
    }

-- a release changes only a sending side in doubt
abbrev pub after_release : ReleaseStep → OutboundValue
after_release step = record { sender = step.sender; queue = step.queue }

keeps_release_in : (o : OutboundValue) (phase : Phase) (count : ℕ) → o.sender.phase ≡ phase
    → KeepsOutbound o (after_release (release_in o.sender o.queue phase count))
keeps_release_in o Idle count e = outbound_keeps_itself o
keeps_release_in o (Unanswered b) count e = outbound_keeps_itself o
keeps_release_in o (Held end alternation) count e = outbound_keeps_itself o
keeps_release_in o (InDoubt k) count e =
    either_branch (λ (x : ReleaseStep). KeepsOutbound o (after_release x))
    ((count == o.queue.known) || (count == (o.queue.known + k))) _ _
    (record {
      setup = refl;
      format = refl;
      follows =
          record {
            rests = λ x. tt;
            goes = λ x. absurd (subst IsGoing e x);
            idle = λ x. refl;
            some = λ idle x. absurd (cc);
          };
    })
    (outbound_keeps_itself o)

pub keeps_outbound_release : (o x : OutboundValue) (count : ℕ) → x ≡ outbound_released o count
    → KeepsOutbound o x
keeps_outbound_release o x count e =
    subst (KeepsOutbound o) (sym e) (keeps_release_in o o.sender.phase count refl)

-- what an event at one terminal leaves: still a control station, with the same addresses
pub record StaysControl (old new : ControlValue) : Type 0 where
  pub control : IsControl new
  pub same : terminals new ≡ terminals old

-- the part of a terminal that is left when only its flags change
pub record IsFlagged (old new : PeerValue) : Type 0 where
  pub terminal : new.terminal ≡ old.terminal
  pub receiver : new.receiver ≡ old.receiver
  pub outbounds : new.outbounds ≡ old.outbounds
  pub peer : IsPeer old → IsPeer new

pub urgent_is_flagged : (p : PeerValue) → IsFlagged p (record p { urgent = true })
urgent_is_flagged p =
    record {
      terminal = refl;
      receiver = refl;
      outbounds = refl;
      peer = peer_with_flag p true;
    }

pub polled_is_flagged : (p : PeerValue) (polled : Bool)
    → IsFlagged p (record p { polled = polled })
polled_is_flagged p polled =
    record {
      terminal = refl;
      receiver = refl;
      outbounds = refl;
      peer = peer_with_polled p polled;
    }

-- the flags of a terminal change
pub stays_flagged : (c : ControlValue) (t : ℕ) (p : PeerValue) → IsControl c → t < length c.peers
    → IsFlagged (peer_at c t) p → StaysControl c (with_peer c t p)
stays_flagged c t p h within flagged =
    let keeps : KeepsSetup c (with_peer c t p) = keeps_setup_with_peer c t p flagged.terminal in
    let entries : HasEntries (with_peer c t p) =
    entries_with_peer c t p (flagged.peer (h.entries.peers t no_peer within)) h.entries in
    record {
      control =
          control_kept_by_setup c (with_peer c t p) h keeps entries
          (orderly_flags c t p flagged.receiver flagged.outbounds h.orderly);
      same = keeps.terminals;
    }

-- the sending side of a selection address is replaced
pub stays_replaced : (c : ControlValue) (t s : ℕ) (x : OutboundValue) → IsControl c → t
    < length c.peers → s < length (peer_at c t).outbounds → IsOutbound x
    → KeepsOutbound (outbound_of c t s) x → StaysControl c (replaced c t s x)
stays_replaced c t s x h within there ready keeps =
    let p : PeerValue = with_outbound (peer_at c t) s x in
    let entries : HasEntries (replaced c t s x) =
    entries_with_peer c t p (peer_with_outbound (peer_at c t) s x ready
    (h.entries.peers t no_peer within)) h.entries in
    record {
      control =
          control_replaced c t s x h within there keeps.setup keeps.format keeps.follows entries;
      same = (keeps_setup_with_peer c t p refl).terminals;
    }

pub selection_within_outbounds : (way : Way) (n : ℕ) → IsSelection way n → select_of way < n
selection_within_outbounds FromTerminal n h = absurd h
selection_within_outbounds (ToTerminal s) n h = h
