-- A line keeps its invariant when a transmission is heard or a silence passes.
use Rattle.std.proofs.Common.{◌≡◌, ℕ, ◌<◌, Bool, true, false, IsTrue, List, length, Option}
use Rattle.std.proofs.Common.{None, Some, get_or, slice_set, refl, sym, ◌∙◌, ap, subst, arith, inl}
use Rattle.std.proofs.Common.{inr, ◌≢◌, get_or-set_other, get_or-set_same}
use Rattle.std.proofs.lemmas.List.{get_or_default}
use Rattle.bsc_frame.specs.declared.message.Message.{Message}
use Rattle.bsc_frame.specs.declared.message.Heard.{Heard}
use Rattle.bsc_tributary.specs.Tributary.{TributaryValue}
use Rattle.bsc_tributary.specs.Kept.{AfterSilence, KeepsSetupAndMode}
use Rattle.bsc_tributary.proofs.Addresses.{none_passes_without_position}
use Rattle.bsc_bid.specs.declared.way.Way.{Way}
use Rattle.bsc_control.specs.Control.{ControlValue, terminals as addresses_of}
use Rattle.bsc_control.specs.Kept.{IsControl, Keeps as ControlKeeps}
use Rattle.bsc_bid.specs.declared.speaker.Speaker.{Speaker}
use Rattle.bsc_bid.specs.declared.speaker.Speaker.TheVariants.{Control, Terminal}
use Rattle.bsc_line_model.specs.declared.transmission.Transmission.{Transmission}
use Rattle.bsc_line_model.specs.Line.{line_of, no_terminal, terminal_in}
use Rattle.bsc_line_model.specs.Terminals.{EachHears, EachKeeps, line_owner}
use Rattle.bsc_line_model.specs.Trust.{IsHeardFairly, IsTrustAfter, IsAddressedAfter}
use Rattle.bsc_line_model.specs.Kept.{AreStations, IsLine}
use Rattle.bsc_line_model.proofs.Stations.{terminal_in_directory, stations_down, stations_up}
use Rattle.bsc_line_model.proofs.Stations.{stations_at}
use Rattle.bsc_line_model.proofs.Stations.{stations_set, tuned_at}
use Rattle.bsc_line_model.proofs.Tuning.{NamesOwn, down_tuned}
use Rattle.bsc_line_model.specs.BidLaws.{BidLaws}
use Rattle.bsc_line_model.specs.Together.{InTask}
use Rattle.bsc_line_model.specs.Transmission.{sent_by}
use Rattle.bsc_line_model.specs.Terminals.{first_answer}
use Rattle.bsc_line_model.specs.Kept.{IsMember}
use Rattle.bsc_bid.specs.Fair.{IsFairlyHeard}
use Rattle.bsc_tributary.specs.declared.mode.Mode.{Mode}
use Rattle.bsc_tributary.specs.declared.mode.Mode.TheVariants.{Control as ControlMode, Receiving}
use Rattle.bsc_tributary.specs.declared.mode.Mode.TheVariants.{Sending}
use Rattle.bsc_tributary.specs.Tributary.{holds, ActsOnSilence as TerminalActs}
use Rattle.bsc_control.specs.Kept.{AfterHearing as ControlAfter}
use Rattle.bsc_control.specs.Table.{Hears as ControlHears, ActsOnSilence as ControlActs}
use Rattle.bsc_control.specs.Control.{peer_at, with_peer}
use Rattle.bsc_control.specs.Peer.{PeerValue, no_peer, outbound_at}
use Rattle.std.proofs.lemmas.List.{length-set}
use Rattle.std.proofs.lemmas.List.Quantifiers.{position-Some}
use Rattle.bsc_line_model.proofs.Stations.{same_or_not, current_terminal_there}
use Rattle.bsc_line_model.proofs.AllHear.{together_after_hearing_control}
use Rattle.bsc_line_model.proofs.AnswersHeard.{together_after_hearing_terminal}
use Rattle.bsc_line_model.proofs.Silences.{silent_control, silent_terminal}
use Rattle.bsc_line_model.proofs.Likeness.{IsLike, together_like, terminal_like, peer_like}
use Rattle.bsc_block.specs.Format.{FormatValue}
use Rattle.bsc_bid.specs.Setup.{SetupValue}

-- the terminals heard the control station's transmission
pub line_kept_by_hearing_control : (laws : NamesOwn) (bids : BidLaws) (c : ControlValue) (ts : List TributaryValue)
    (pending next : Option Transmission) (trusted trusts : Bool) (old new : Option (ℕ × Way))
    (w : Message) (hears : ℕ → Heard) (us : List TributaryValue) →
    IsLine (line_of c ts pending trusted old) → pending
    ≡ Some (record { speaker = Control; message = w }) → next
    ≡ first_answer ts hears us (length ts) → EachHears ts hears us → EachKeeps ts hears us
    → IsAddressedAfter (addresses_of c) (length ts) hears old new
    → IsTrustAfter trusted (IsHeardFairly w (length ts) hears) trusts →
    IsLine (line_of c us next trusts new)
line_kept_by_hearing_control laws bids c ts pending next trusted trusts old new w hears us l sent first e k a f =
    record {
      stations = stations_down c ts hears us l.stations e k;
      tuned = λ now t less.
          let was : IsTrue trusted × IsHeardFairly w (length ts) hears = f.0 now in
          let before : t < length ts = omega (arith, e.count) in
          let x : TributaryValue = terminal_in ts t in
          down_tuned laws w (addresses_of c) (length ts) hears old new t x (terminal_in us t).mode
          before was.1 a
          (record {
            there = terminal_in_directory c ts t l.stations before;
            distinct =
                (l.stations.members t before).tributary.distinct;
            tuned = l.tuned was.0 t before;
          })
          (k t before).mode;
      together = λ now.
          let was : IsTrue trusted × IsHeardFairly w (length ts) hears = f.0 now in
          subst (λ (o : Option Transmission). InTask c.task o c us) (sym first)
          (together_after_hearing_control laws bids c ts old new w hears us l.stations (l.tuned was.0)
          (subst (λ (o : Option Transmission). InTask c.task o c ts) sent (l.together was.0))
          was.1 a e k);
    }

-- the control station heard a terminal's transmission
together_after_carry_up : (bids : BidLaws) (c d : ControlValue) (ts : List TributaryValue) (speaker : Speaker)
    (w : Message) (h : Heard) (out : Option Message) → speaker ≢ Control → AreStations c ts
    → InTask c.task (Some (record { speaker = speaker; message = w })) c ts → IsFairlyHeard w h →
    ControlHears c h d out → ControlAfter c h d out → InTask d.task (sent_by Control out) d ts
together_after_carry_up bids c d ts Control w h out never s k f row after = absurd (never refl)
together_after_carry_up bids c d ts (Terminal t) w h out never s k f row after =
    together_after_hearing_terminal bids c d ts t w h out s k f row after

pub line_kept_by_hearing_terminal : (bids : BidLaws) (c d : ControlValue) (ts : List TributaryValue)
    (pending next : Option Transmission) (trusted trusts : Bool) (addressed : Option (ℕ × Way))
    (sent : Transmission) (h : Heard) (out : Option Message) →
    IsLine (line_of c ts pending trusted addressed) → pending ≡ Some sent → sent.speaker ≢ Control
    → next ≡ sent_by Control out → ControlHears c h d out → ControlAfter c h d out
    → IsTrustAfter trusted (IsFairlyHeard sent.message h) trusts →
    IsLine (line_of d ts next trusts addressed)
line_kept_by_hearing_terminal bids c d ts pending next trusted trusts addressed sent h out l is never made row after f =
    record {
      stations = stations_up c d ts l.stations after.control after.keeps;
      tuned = λ now. l.tuned (f.0 now).0;
      together = λ now.
          subst (λ (o : Option Transmission). InTask d.task o d ts) (sym made)
          (together_after_carry_up bids c d ts sent.speaker sent.message h out never l.stations
          (subst (λ (o : Option Transmission). InTask c.task o c ts) is
          (l.together (f.0 now).0)) (f.0 now).1 row after);
    }

-- a terminal that holds the line sends
owner_sends : (mode : Mode) → holds mode ≡ true → mode ≡ Sending
owner_sends Sending h = refl
owner_sends ControlMode h = absurd (cc)
owner_sends (Receiving s) h = absurd (cc)

-- the control station acted on a silence
pub nobody_sends : (ts : List TributaryValue) → line_owner ts ≡ None → (t : ℕ) → t < length ts
    → (terminal_in ts t).mode ≢ Sending
nobody_sends ts none t less sends =
    let no : holds (terminal_in ts t).mode ≡ false =
    none_passes_without_position (λ (x : TributaryValue). holds x.mode) ts t no_terminal none less in
    let yes : holds (terminal_in ts t).mode ≡ true = ap holds sends in
    let both : true ≡ false = sym yes ∙ no in cc

pub line_silent : (bids : BidLaws) (c d : ControlValue) (ts : List TributaryValue)
    (pending next : Option Transmission) (trusted : Bool) (addressed : Option (ℕ × Way))
    (out : Option Message) →
    IsLine (line_of c ts pending trusted addressed) → pending ≡ None → line_owner ts ≡ None → next
    ≡ sent_by Control out → ControlActs c d out → IsControl d → ControlKeeps c d →
    IsLine (line_of d ts next trusted addressed)
line_silent bids c d ts pending next trusted addressed out l nothing nobody made row is k =
    record {
      stations = stations_up c d ts l.stations is k;
      tuned = l.tuned;
      together = λ now.
          subst (λ (o : Option Transmission). InTask d.task o d ts) (sym made)
          (silent_control bids c d ts out l.stations (nobody_sends ts nobody)
          (subst (λ (o : Option Transmission). InTask c.task o c ts) nothing (l.together now))
          row);
    }

-- the element at this place is the terminal
pub is_terminal : (ts : List TributaryValue) (t : ℕ) (x : TributaryValue) → t < length ts → x
    ≡ get_or ts t x → terminal_in ts t ≡ x
is_terminal ts t x less is = get_or_default ts t no_terminal x less ∙ sym is

-- a terminal acted on a silence
pub line_kept_by_terminal_silence : (bids : BidLaws) (c : ControlValue) (ts : List TributaryValue)
    (pending next : Option Transmission) (trusted : Bool) (addressed : Option (ℕ × Way)) (t : ℕ)
    (x u : TributaryValue) (out : Option Message) →
    IsLine (line_of c ts pending trusted addressed) → pending ≡ None → t < length ts
    → terminal_in ts t ≡ x → line_owner ts ≡ Some t → next ≡ sent_by (Terminal t) out
    → TerminalActs x u out → AfterSilence x u out
    → IsLine (line_of c (slice_set ts t u) next trusted addressed)
line_kept_by_terminal_silence bids c ts pending next trusted addressed t x u out l nothing less is owner made row after =
    let here : AfterSilence (terminal_in ts t) u out =
    subst (λ (y : TributaryValue). AfterSilence y u out) (sym is) after in
    record {
      stations = stations_at c ts t u l.stations less here.tributary here.keeps;
      tuned = λ now. tuned_at addressed ts t u less here.mode (l.tuned now);
      together = λ now.
          subst (λ (o : Option Transmission). InTask c.task o c (slice_set ts t u)) (sym made)
          (silent_terminal bids c ts addressed t u out l.stations less (l.tuned now)
          (owner_sends (terminal_in ts t).mode
          (position-Some (λ (y : TributaryValue). holds y.mode) ts t no_terminal owner).1)
          (subst (λ (o : Option Transmission). InTask c.task o c ts) nothing (l.together now))
          (subst (λ (y : TributaryValue). TerminalActs y u out) (sym is) row));
    }

-- one terminal was replaced
pub line_set : (c : ControlValue) (ts : List TributaryValue) (pending : Option Transmission)
    (trusted : Bool) (addressed : Option (ℕ × Way)) (t : ℕ) (x u : TributaryValue) →
    IsLine (line_of c ts pending trusted addressed) → t < length ts → x ≡ get_or ts t x
    → KeepsSetupAndMode x u → IsLike (peer_at c t) x (peer_at c t) u
    → IsLine (line_of c (slice_set ts t u) pending trusted addressed)
line_set c ts pending trusted addressed t x u l less is same like =
    let here : terminal_in ts t ≡ x = is_terminal ts t x less is in
    let s : KeepsSetupAndMode (terminal_in ts t) u =
    subst (λ (y : TributaryValue). KeepsSetupAndMode y u) (sym here) same in
    let k : IsLike (peer_at c t) (terminal_in ts t) (peer_at c t) u =
    subst (λ (y : TributaryValue). IsLike (peer_at c t) y (peer_at c t) u) (sym here) like in
    record {
      stations = stations_set c ts t u l.stations less s.tributary s.addresses s.setup;
      tuned = λ now. tuned_at addressed ts t u less (inr s.mode) (l.tuned now);
      together =
          λ now. together_like c ts c (slice_set ts t u) c.task pending
          (current_terminal_there c ts l.stations) (terminal_like c ts t u less k) (l.together now);
    }

-- what the control station keeps for one terminal was replaced
stations_peer : (c : ControlValue) (ts : List TributaryValue) (t : ℕ) (q : PeerValue)
    → AreStations c ts → t < length c.peers → IsControl (with_peer c t q) → q.terminal
    ≡ (peer_at c t).terminal → AreStations (with_peer c t q) ts
stations_peer c ts t q s there is terminal =
    record {
      control = is;
      count = length-set c.peers t q ∙ s.count;
      members = λ n less.
          let was : IsMember c n (terminal_in ts n) = s.members n less in
          record {
            tributary = was.tributary;
            addresses = elim (same_or_not n t) [
              | inl same ↦
                  was.addresses ∙ ap (λ (j : ℕ). (peer_at c j).terminal) same ∙ sym terminal
                  ∙ ap (λ (z : PeerValue). z.terminal)
                  (sym (get_or-set_same c.peers t q no_peer there))
                  ∙ ap (λ (j : ℕ). (peer_at (with_peer c t q) j).terminal) (sym same)
              | inr differ ↦ was.addresses ∙ ap (λ (z : PeerValue). z.terminal)
                  (sym (get_or-set_other c.peers t n q no_peer differ))
            ];
            setup = was.setup;
          };
    }

pub line_peer : (c d : ControlValue) (ts : List TributaryValue) (pending : Option Transmission)
    (trusted : Bool) (addressed : Option (ℕ × Way)) (t : ℕ) (q : PeerValue) →
    IsLine (line_of c ts pending trusted addressed) → t < length c.peers → d ≡ with_peer c t q
    → IsControl d → IsLike (peer_at c t) (terminal_in ts t) q (terminal_in ts t)
    → IsLine (line_of d ts pending trusted addressed)
line_peer c d ts pending trusted addressed t q l there becomes is like =
    subst (λ (z : ControlValue). IsLine (line_of z ts pending trusted addressed)) (sym becomes)
    (record {
      stations = stations_peer c ts t q l.stations there (subst IsControl becomes is) like.terminal;
      tuned = l.tuned;
      together =
          λ now. together_like c ts (with_peer c t q) ts c.task pending
          (current_terminal_there c ts l.stations) (peer_like c ts t q there like) (l.together now);
    })

-- the full length at a terminal, and for a selection address
pub terminal_full : (c : ControlValue) (ts : List TributaryValue) (t : ℕ) → AreStations c ts → t
    < length ts → (terminal_in ts t).queue.format.full ≡ c.setup.format.full
terminal_full c ts t s less =
    let was : IsMember c t (terminal_in ts t) = s.members t less in
    ap (λ (f : FormatValue). f.full) (was.tributary.format
    ∙ ap (λ (u : SetupValue). u.format) was.setup)

pub outbound_full : (c : ControlValue) (ts : List TributaryValue) (t s : ℕ) → AreStations c ts → s
    < length (peer_at c t).outbounds → (outbound_at (peer_at c t) s).queue.format.full
    ≡ c.setup.format.full
outbound_full c ts t s stations less =
    ap (λ (f : FormatValue). f.full) (stations.control.orderly.settings t s less).format
