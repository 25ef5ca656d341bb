-- The stations of a line stay its stations, whatever happens.
use Rattle.std.proofs.Common.{◌≡◌, ◌≢◌, ◌⊎◌, inl, inr, ℕ, ◌<◌, Bool, List, length, Option, Some}
use Rattle.std.proofs.Common.{get_or, slice_get, slice_set, refl, sym, ◌∙◌, ap, subst, arith}
use Rattle.std.proofs.Common.{get_or-set_other, get_or-set_same, nat_eq, true, false}
use Rattle.std.proofs.lemmas.Bool.Decides.{nat_tests}
use Rattle.std.proofs.lemmas.List.{get_or-map, length-map, length-set}
use Rattle.std.proofs.lemmas.Option.{slice_get-get_or}
use Rattle.bsc_frame.specs.declared.message.Heard.{Heard}
use Rattle.bsc_bid.specs.Terminal.{TerminalValue}
use Rattle.bsc_tributary.specs.declared.mode.Mode.{Mode}
use Rattle.bsc_tributary.specs.declared.mode.Mode.TheVariants.{Control, Receiving, Sending}
use Rattle.bsc_tributary.specs.Tributary.{TributaryValue}
use Rattle.bsc_tributary.specs.Kept.{IsTributary, SuitsMode, Keeps as TerminalKeeps, AfterHearing}
use Rattle.bsc_bid.specs.declared.way.Way.{Way}
use Rattle.bsc_control.specs.Peer.{PeerValue, no_peer}
use Rattle.bsc_control.specs.Control.{ControlValue, terminals, peer_at, current}
use Rattle.bsc_control.specs.Kept.{IsControl, Keeps as ControlKeeps}
use Rattle.bsc_control.proofs.Calls.{places, current_within_peers}
use Rattle.bsc_line_model.specs.Line.{no_terminal, terminal_in}
use Rattle.bsc_line_model.specs.Terminals.{EachHears, EachKeeps}
use Rattle.bsc_line_model.specs.Kept.{IsMember, AreStations, IsTuned, AreTuned}
use Rattle.bsc_bid.specs.declared.phase.Phase.{Phase}
use Rattle.bsc_bid.specs.Ready.{IsAtRest}

-- the addresses of a peer are those of its terminal
pub peer_terminal : (c : ControlValue) (t : ℕ) → t < length c.peers
    → get_or (terminals c) t no_peer.terminal ≡ (peer_at c t).terminal
peer_terminal c t less =
    get_or-map (λ (p : PeerValue). p.terminal) c.peers t no_peer no_peer.terminal less

-- the terminal of the present entry is one of the line
pub current_terminal_there : (c : ControlValue) (ts : List TributaryValue) → AreStations c ts
    → current c < length ts
current_terminal_there c ts s =
    subst (λ (n : ℕ). current c < n) s.count (current_within_peers c (places c s.control.entries))

-- the addresses of a terminal are in the control station's list
pub terminal_in_directory : (c : ControlValue) (ts : List TributaryValue) (t : ℕ) → AreStations c ts → t
    < length ts → slice_get (terminals c) t ≡ Some (terminal_in ts t).terminal
terminal_in_directory c ts t s less =
    let before : t < length c.peers = omega (arith, s.count) in
    let there : t < length (terminals c) =
    rw (length-map c.peers (λ (p : PeerValue). p.terminal)) before in
    slice_get-get_or (terminals c) t no_peer.terminal there
    ∙ ap (λ (x : TerminalValue). Some x)
    (peer_terminal c t before ∙ sym (s.members t less).addresses)

-- the terminals have heard
pub stations_down : (c : ControlValue) (ts : List TributaryValue) (hears : ℕ → Heard)
    (us : List TributaryValue) → AreStations c ts → EachHears ts hears us → EachKeeps ts hears us
    → AreStations c us
stations_down c ts hears us s e k =
    record {
      control = s.control;
      count = s.count ∙ sym e.count;
      members = λ t less.
          let before : t < length ts = omega (arith, e.count) in
          let after : AfterHearing (terminal_in ts t) (hears t) (terminal_in us t) _ = k t before in
          let was : IsMember c t (terminal_in ts t) = s.members t before in
          record {
            tributary = after.tributary;
            addresses = after.keeps.terminal ∙ was.addresses;
            setup = after.keeps.setup ∙ was.setup;
          };
    }

-- the control station has heard, or acted
pub stations_up : (c d : ControlValue) (ts : List TributaryValue) → AreStations c ts → IsControl d
    → ControlKeeps c d → AreStations d ts
stations_up c d ts s is k =
    record {
      control = is;
      count = k.peers ∙ s.count;
      members = λ t less.
          let was : IsMember c t (terminal_in ts t) = s.members t less in
          let before : t < length c.peers = omega (arith, s.count) in
          let after : t < length d.peers = omega (arith, k.peers) in
          let same : (peer_at c t).terminal ≡ (peer_at d t).terminal =
          sym (peer_terminal c t before)
          ∙ ap (λ (xs : List TerminalValue). get_or xs t no_peer.terminal) (sym k.terminals)
          ∙ peer_terminal d t after in
          record {
            tributary = was.tributary;
            addresses = was.addresses ∙ same;
            setup = was.setup
                ∙ sym k.setup;
          };
    }

-- two numbers are equal or not
pub same_or_not : (a b : ℕ) → (a ≡ b) ⊎ (a ≢ b)
same_or_not a b = same_or_other_number (nat_eq a b) refl
  where
    same_or_other_number : (same : Bool) → nat_eq a b ≡ same → (a ≡ b) ⊎ (a ≢ b)
    same_or_other_number true is = inl (grind (arith, nat_tests))
    same_or_other_number false is = inr (grind (arith, nat_tests))

-- what holds of one terminal that changed, and of the others, which did not
pub one_changed : (P : ℕ → TributaryValue → Type 0) (ts : List TributaryValue) (e : ℕ)
    (u : TributaryValue) → e < length ts → P e u
    → ((t : ℕ) → t < length ts → P t (terminal_in ts t)) → (t : ℕ) → t < length (slice_set ts e u)
    → P t (terminal_in (slice_set ts e u) t)
one_changed P ts e u there new others t less =
    elim (same_or_not t e) [
      | inl same ↦
          subst (λ (n : ℕ). P n (terminal_in (slice_set ts e u) n)) (sym same)
          (subst (λ (x : TributaryValue). P e x) (sym (get_or-set_same ts e u no_terminal there))
          new)
      | inr differ ↦
          (let before : t < length ts = omega (arith, length-set ts e u) in
          subst (λ (x : TributaryValue). P t x) (sym (get_or-set_other ts e t u no_terminal differ))
          (others t before))
    ]

-- a terminal was replaced by one with the same addresses and settings
pub stations_set : (c : ControlValue) (ts : List TributaryValue) (e : ℕ) (u : TributaryValue)
    → AreStations c ts → e < length ts → IsTributary u → u.terminal ≡ (terminal_in ts e).terminal
    → u.sender.setup ≡ (terminal_in ts e).sender.setup → AreStations c (slice_set ts e u)
stations_set c ts e u s there is terminal setup =
    let was : IsMember c e (terminal_in ts e) = s.members e there in
    record {
      control = s.control;
      count = s.count ∙ sym (length-set ts e u);
      members =
          one_changed (IsMember c) ts e u there
          (record {
            tributary = is;
            addresses = terminal ∙ was.addresses;
            setup = setup
                ∙ was.setup;
          }) s.members;
    }

pub stations_at : (c : ControlValue) (ts : List TributaryValue) (e : ℕ) (u : TributaryValue)
    → AreStations c ts → e < length ts → IsTributary u → TerminalKeeps (terminal_in ts e) u
    → AreStations c (slice_set ts e u)
stations_at c ts e u s there is k = stations_set c ts e u s there is k.terminal k.setup

-- after a silence a terminal is in control mode, or its mode is unchanged
pub tuned_at : (addressed : Option (ℕ × Way)) (ts : List TributaryValue) (e : ℕ)
    (u : TributaryValue) → e < length ts → ((u.mode ≡ Control) ⊎ (u.mode ≡ (terminal_in ts e).mode))
    → AreTuned addressed ts → AreTuned addressed (slice_set ts e u)
tuned_at addressed ts e u there mode tuned =
    one_changed (λ t x. IsTuned addressed t x.mode) ts e u there (still_tuned mode) tuned
  where
    still_tuned : ((u.mode ≡ Control) ⊎ (u.mode ≡ (terminal_in ts e).mode))
        → IsTuned addressed e u.mode
    still_tuned (inl m) = subst (λ (n : Mode). IsTuned addressed e n) (sym m) tt
    still_tuned (inr m) = subst (λ (n : Mode). IsTuned addressed e n) (sym m) (tuned e there)

-- a terminal that does not send is at rest
pub at_rest_in : (mode : Mode) (phase : Phase) (n : ℕ) → mode ≢ Sending → SuitsMode mode phase n
    → IsAtRest phase
at_rest_in Control phase n ne k = k
at_rest_in (Receiving s) phase n ne k = k.0
at_rest_in Sending phase n ne k = absurd (ne refl)

-- a terminal receives into one of its spools
pub receiving_into : (mode : Mode) (phase : Phase) (spools s : ℕ) → mode ≡ Receiving s
    → SuitsMode mode phase spools → s < spools
receiving_into mode phase spools s is k = (subst (λ (n : Mode). SuitsMode n phase spools) is k).1
