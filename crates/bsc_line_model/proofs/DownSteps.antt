-- A selection address is called and sent blocks, on a line on which all is heard: the terminal's
-- answers.
use Rattle.std.proofs.Common.{◌≡◌, ◌≢◌, inl, inr, ℕ, ◌^◌, ◌-◌, ◌<◌, false, IsTrue, List, length}
use Rattle.std.proofs.Common.{Option, None, Some, slice_get, refl, sym, ◌∙◌, ap, subst}
use Rattle.std.proofs.lemmas.List.Elements.{All-get_or}
use Rattle.std.proofs.lemmas.Option.{slice_get-get_or}
use Rattle.bsc_frame.specs.declared.message.Message.{Message}
use Rattle.bsc_frame.specs.declared.message.Message.TheVariants as m
use Rattle.bsc_frame.specs.declared.reply.Reply.TheVariants.{Ack0}
use Rattle.bsc_frame.specs.declared.message.Heard.{Heard}
use Rattle.bsc_frame.specs.declared.message.Heard.TheVariants.{Whole}
use Rattle.bsc_frame.specs.Texts.{TextValue}
use Rattle.bsc_bid.specs.declared.phase.SentBlock.{SentBlock}
use Rattle.bsc_bid.specs.declared.phase.Phase.{Phase}
use Rattle.bsc_bid.specs.declared.phase.Phase.TheVariants.{Unanswered}
use Rattle.bsc_bid.specs.Ready.{IsAtRest}
use Rattle.bsc_bid.specs.Answer.{ack, other}
use Rattle.bsc_bid.specs.Sender.{text_of}
use Rattle.bsc_bid.specs.Agreement.{Flight, Outward, Agree}
use Rattle.bsc_bid.specs.Terminal.{TerminalValue}
use Rattle.bsc_tributary.specs.declared.called.Called.{Called}
use Rattle.bsc_tributary.specs.declared.called.Called.TheVariants.{Polling, Selection, Other}
use Rattle.bsc_tributary.specs.declared.mode.Mode.{Mode}
use Rattle.bsc_tributary.specs.declared.mode.Mode.TheVariants.{Control, Receiving}
use Rattle.bsc_tributary.specs.Called.{called_as}
use Rattle.bsc_tributary.specs.Tributary.{TributaryValue, TributaryStep, Hears, mode_step}
use Rattle.bsc_tributary.specs.Tributary.{quiet_step, rooms_after, spool_at}
use Rattle.bsc_tributary.specs.Kept.{IsNoCall}
use Rattle.bsc_control.specs.declared.task.Task.{Task}
use Rattle.bsc_control.specs.declared.task.Task.TheVariants as k
use Rattle.bsc_bid.specs.declared.way.Way.{Way}
use Rattle.bsc_bid.specs.declared.way.Way.TheVariants.{FromTerminal, ToTerminal}
use Rattle.bsc_bid.specs.Addresses.{IsAddressOf}
use Rattle.bsc_control.specs.Peer.{PeerValue, IsPeer, no_peer, outbound_at}
use Rattle.bsc_control.specs.Control.{ControlValue, peer, current, terminals}
use Rattle.bsc_control.specs.Table.{select_address}
use Rattle.bsc_tributary.proofs.InMode.{hear_step_no_call}
use Rattle.bsc_bid.specs.declared.speaker.Speaker.TheVariants as sp
use Rattle.bsc_line_model.specs.declared.transmission.Transmission.{Transmission}
use Rattle.bsc_line_model.specs.Transmission.{sent_by}
use Rattle.bsc_line_model.specs.Line.{LineValue, terminal_at}
use Rattle.bsc_line_model.specs.Carries.{IsCarriedDown}
use Rattle.bsc_line_model.specs.Kept.{IsTuned, AreTuned}
use Rattle.bsc_line_model.specs.Terminals.{answer_of}
use Rattle.bsc_line_model.specs.Together.{InTask, IsSelecting, IsSending, IsInBidDown, FliesDown}
use Rattle.bsc_line_model.specs.Rounds.{SameDelays}
use Rattle.bsc_control.proofs.Calls.{current_within_peers}
use Rattle.bsc_line_model.proofs.Stations.{same_or_not, terminal_in_directory, at_rest_in}
use Rattle.bsc_line_model.proofs.Stations.{receiving_into, current_terminal_there}
use Rattle.bsc_line_model.proofs.Tuning.{NamesOwn}
use Rattle.bsc_line_model.proofs.SendingDown.{others_in_control, first_answer_is, place_of}
use Rattle.bsc_line_model.proofs.Staying.{TerminalStays, TerminalsStay, terminal_same}
use Rattle.bsc_line_model.proofs.DownControl.{IsInBlock}
use Rattle.bsc_line_model.proofs.DownTerminals.{takes_block, terminal_hears_other_call}
use Rattle.bsc_line_model.proofs.DownTerminals.{hears_selection}
use Rattle.bsc_line_model.proofs.Walking.{IsGood, good_places}

-- what a terminal answers, and that nothing else moves
pub record Answers (e : ℕ) (way : Way) (t : ℕ) (old new : TributaryValue)
    (out said : Option Message) : Type 0 where
  pub says : out ≡ said
  pub stays : TerminalStays e way t old new

-- only terminal e answers
pub record OneAnswers (e : ℕ) (way : Way) (w : Message) (old new : LineValue) : Type 0 where
  pub control : new.control ≡ old.control
  pub pending : new.pending ≡ Some (record { speaker = sp.Terminal e; message = w })
  pub terminals : TerminalsStay e way old.terminals new.terminals

pub answered_by_one : (e : ℕ) (way : Way) (v w : Message) (old new : LineValue) → e
    < length old.terminals → IsCarriedDown v (λ t. Whole v) old new →
    ((t : ℕ) → t < length old.terminals → t ≢ e
    → Answers e way t (terminal_at old t) (terminal_at new t)
    (answer_of old.terminals (λ z. Whole v) new.terminals t) None) →
    Answers e way e (terminal_at old e) (terminal_at new e)
    (answer_of old.terminals (λ z. Whole v) new.terminals e) (Some w)
    → OneAnswers e way w old new
answered_by_one e way v w old new there h others this =
    record {
      control = h.control;
      pending =
          h.pending ∙ first_answer_is old.terminals (λ z. Whole v) new.terminals e
          (length old.terminals) there (λ t less differ. (others t less differ).says)
          ∙ ap (λ (o : Option Message). sent_by (sp.Terminal e) o) this.says;
      terminals = record {
        count = h.terminals.count;
        terminals = λ t less.
            elim (same_or_not t e) [
              | inl same ↦ subst (λ (n : ℕ). TerminalStays e way n (terminal_at old n)
                  (terminal_at new n)) (sym same) this.stays
              | inr differ ↦ (others t less differ).stays
            ];
      };
    }

-- a terminal in control mode does nothing with a transmission that is neither a call nor EOT
pub answers_nothing : (e : ℕ) (way : Way) (t : ℕ) (x u : TributaryValue) (out : Option Message)
    (h : Heard) → x.mode ≡ Control → IsNoCall h → Hears x h u out → Answers e way t x u out None
answers_nothing e way t x u out h mode never heard =
    let row : record { tributary = u; sent = out } ≡ quiet_step x = heard.row
    ∙ hear_step_no_call x h (rooms_after h u) never
    ∙ ap (λ (n : Mode). mode_step x n h (rooms_after h u)) mode in
    record {
      says = ap (λ (o : TributaryStep). o.sent) row;
      stays =
          terminal_same e way t x u (ap (λ (o : TributaryStep). o.tributary) row);
    }

-- the records of the pending text have not arrived yet
not_landed : (pending : Option Transmission) (p : PeerValue) (e s : ℕ) (x : TributaryValue)
    (b : SentBlock) (t : TextValue) → pending
    ≡ Some (record { speaker = sp.Control; message = m.Text t }) → (outbound_at p s).sender.phase
    ≡ Unanswered b →
    IsInBidDown pending p e s x → x.receiver.alternation ≡ other b.alternation
not_landed pending p e s x b t is phase h =
    let flies : h.flight ≡ Outward (m.Text t) =
    subst (λ (o : Option Transmission). FliesDown o e h.flight) is h.flies in
    let agree : Agree (Unanswered b) (outbound_at p s).queue x.receiver.alternation x.receiver.last
    (spool_at x.spools s).records (Outward (m.Text t)) =
    subst (λ (f : Flight). Agree (Unanswered b) (outbound_at p s).queue x.receiver.alternation
    x.receiver.last (spool_at x.spools s).records f) flies
    (subst (λ (z : Phase). Agree z (outbound_at p s).queue x.receiver.alternation x.receiver.last
    (spool_at x.spools s).records h.flight) phase h.bid.agree) in
    elim agree [
      | inl n ↦ n.counted
      | inr n ↦ absurd n.flight
    ]

-- a terminal that takes the next text to selection address s, and does not ask for the line
pub record TakesBlocks (x : TributaryValue) (s : ℕ) : Type 0 where
  pub mode : x.mode ≡ Receiving s
  pub not_urgent : x.urgent ≡ false

-- a text to selection address s is acknowledged
pub text_down_is_acknowledged : (l new : LineValue) (s n : ℕ) (b : SentBlock) → IsGood l → IsInBlock l.control s n b
    → TakesBlocks (terminal_at l (current l.control)) s → SameDelays l new →
    let t : TextValue = text_of (outbound_at (peer l.control) s).queue b in
    (l.pending ≡ Some (record { speaker = sp.Control; message = m.Text t })
    → IsCarriedDown (m.Text t) (λ z. Whole (m.Text t)) l new
    → OneAnswers (current l.control) (ToTerminal s) (m.Reply (ack b.alternation)) l new)
text_down_is_acknowledged l new s n b g i visit_ready delays is h =
    let c : ControlValue = l.control in
    let e : ℕ = current c in
    let x : TributaryValue = terminal_at l e in
    let t : TextValue = text_of (outbound_at (peer c) s).queue b in
    let there : e < length l.terminals =
    current_terminal_there l.control l.terminals g.line.stations in
    let sending : IsSending l.pending c l.terminals s =
    subst (λ (z : Task). InTask z l.pending c l.terminals) i.task g.together in
    let bid : IsInBidDown l.pending (peer c) e s x =
    elim sending.present [
      | inl b ↦ b
      | inr left ↦ (let both : Receiving s ≡ Control = sym visit_ready.mode ∙ left.modes e there in
          absurd (cc))
    ] in
    let tuned : AreTuned l.addressed l.terminals = g.line.tuned g.trusted in
    let addressed : l.addressed ≡ Some (e, ToTerminal s) =
    subst (λ (z : Mode). IsTuned l.addressed e z) bid.mode (tuned e there) in
    let into : s < length x.spools =
    receiving_into x.mode x.sender.phase (length x.spools) s bid.mode
    (g.line.stations.members e there).tributary.bid in
    let counted : x.receiver.alternation ≡ other b.alternation =
    not_landed l.pending (peer c) e s x b t is i.phase bid in
    let selects : s < length x.terminal.selects =
    subst (λ (z : ℕ). s < z) (g.line.stations.members e there).tributary.spools into in
    let same : ((spool_at (terminal_at new e).spools s).delays ≡ (spool_at x.spools s).delays)
    × ((spool_at x.spools s).delays < 2 ^ 64 - 1) =
    delays.terminals e s (record { there = there; its_way = selects }) in
    let taken : (answer_of l.terminals (λ z. Whole (m.Text t)) new.terminals e
    ≡ Some (m.Reply (ack b.alternation)))
    × TerminalStays e (ToTerminal s) e x (terminal_at new e) =
    takes_block e x (terminal_at new e)
    (answer_of l.terminals (λ z. Whole (m.Text t)) new.terminals e) s t b.alternation bid.mode
    into visit_ready.not_urgent counted same.0 same.1 (h.terminals.each e there) in
    answered_by_one e (ToTerminal s) (m.Text t) (m.Reply (ack b.alternation)) l new there h
    (λ z less differ.
    answers_nothing e (ToTerminal s) z (terminal_at l z) (terminal_at new z)
    (answer_of l.terminals (λ y. Whole (m.Text t)) new.terminals z) (Whole (m.Text t))
    (others_in_control l.addressed e z (ToTerminal s) (terminal_at l z).mode addressed differ
    (tuned z less)) tt (h.terminals.each z less))
    (record { says = taken.0; stays = taken.1 })

-- a call does not name an address of any terminal but the one that is then addressed
pub call_names_no_other_terminal : (laws : NamesOwn) (l new : LineValue) (e : ℕ) (way : Way) (a : List ℕ) (t : ℕ)
    → IsGood l → IsCarriedDown (m.Call a) (λ z. Whole (m.Call a)) l new
    → IsAddressOf (terminals l.control) e way a → t < length l.terminals → t ≢ e →
    called_as (terminal_at l t).terminal a ≡ Other
call_names_no_other_terminal laws l new e way a t g h its less differ =
    by_called (called_as (terminal_at l t).terminal a) refl
  where
    is_named : (other_way : Way) → IsAddressOf (terminals l.control) t other_way a → ⊥
    is_named other_way one =
        let this : new.addressed ≡ Some (e, way) =
        (h.addressed.called a (λ z there. refl) e way).1 its in
        let that : new.addressed ≡ Some (t, other_way) =
        (h.addressed.called a (λ z there. refl) t other_way).1 one in
        differ (ap place_of (sym that ∙ this))

    by_called : (z : Called) → called_as (terminal_at l t).terminal a ≡ z → z ≡ Other
    by_called Other is = refl
    by_called Polling is =
        absurd
        (is_named FromTerminal (record {
          terminal = (terminal_at l t).terminal;
          there =
              terminal_in_directory l.control l.terminals t g.line.stations less;
          its_own =
              ap (λ (y : List ℕ). Some y) (sym ((laws.polling (terminal_at l t).terminal a).0 is));
        }))
    by_called (Selection s) is =
        absurd (is_named (ToTerminal s) (record {
          terminal = (terminal_at l t).terminal;
          there = terminal_in_directory l.control l.terminals t g.line.stations less;
          its_own =
              (laws.selection (terminal_at l t).terminal a s
              (g.line.stations.members t less).tributary.distinct).0 is;
        }))

-- selection address s is called: ACK0
pub selection_call_is_answered : (laws : NamesOwn) (l new : LineValue) (s : ℕ) → IsGood l → l.control.task
    ≡ k.Selecting s false → s < length (peer l.control).outbounds
    → IsTrue (terminal_at l (current l.control)).ready → SameDelays l new →
    let a : List ℕ = select_address (peer l.control).terminal s in
    (IsCarriedDown (m.Call a) (λ z. Whole (m.Call a)) l new
    → OneAnswers (current l.control) (ToTerminal s) (m.Reply Ack0) l new)
selection_call_is_answered laws l new s g task select ready delays h =
    let c : ControlValue = l.control in
    let e : ℕ = current c in
    let x : TributaryValue = terminal_at l e in
    let a : List ℕ = select_address (peer c).terminal s in
    let there : e < length l.terminals =
    current_terminal_there l.control l.terminals g.line.stations in
    let selecting : IsSelecting l.pending c l.terminals s false =
    subst (λ (z : Task). InTask z l.pending c l.terminals) task g.together in
    let peer_is : IsPeer (peer c) =
    All-get_or IsPeer c.peers e no_peer (current_within_peers c (good_places l g))
    g.line.stations.control.entries.peers in
    let addresses : x.terminal ≡ (peer c).terminal = (g.line.stations.members e there).addresses in
    let within : s < length (peer c).terminal.selects =
    subst (λ (z : ℕ). s < z) peer_is.outbounds select in
    let selects : s < length x.terminal.selects =
    subst (λ (z : TerminalValue). s < length z.selects) (sym addresses) within in
    let into : s < length x.spools =
    subst (λ (z : ℕ). s < z) (sym (g.line.stations.members e there).tributary.spools) selects in
    let is_own : slice_get (peer c).terminal.selects s ≡ Some a =
    slice_get-get_or (peer c).terminal.selects s (peer c).terminal.poll within in
    let own : slice_get x.terminal.selects s ≡ Some a =
    ap (λ (z : TerminalValue). slice_get z.selects s) addresses ∙ is_own in
    let its : IsAddressOf (terminals c) e (ToTerminal s) a =
    record {
      terminal = x.terminal;
      there =
          terminal_in_directory c l.terminals e g.line.stations there;
      its_own = own;
    } in
    let rests : (t : ℕ) → t < length l.terminals → IsAtRest (terminal_at l t).sender.phase =
    λ t less. at_rest_in (terminal_at l t).mode (terminal_at l t).sender.phase
    (length (terminal_at l t).spools) (selecting.no_bids t less).mode
    (g.line.stations.members t less).tributary.bid in
    let same : ((spool_at (terminal_at new e).spools s).delays ≡ (spool_at x.spools s).delays)
    × ((spool_at x.spools s).delays < 2 ^ 64 - 1) =
    delays.terminals e s (record { there = there; its_way = selects }) in
    let named : called_as x.terminal a ≡ Selection s =
    (laws.selection x.terminal a s (g.line.stations.members e there).tributary.distinct).1
    own in
    let taken : (answer_of l.terminals (λ z. Whole (m.Call a)) new.terminals e ≡ Some (m.Reply Ack0))
    × TerminalStays e (ToTerminal s) e x (terminal_at new e) =
    hears_selection e x (terminal_at new e)
    (answer_of l.terminals (λ z. Whole (m.Call a)) new.terminals e) s a into ready
    (rests e there) named same.0 same.1 (h.terminals.each e there) in
    answered_by_one e (ToTerminal s) (m.Call a) (m.Reply Ack0) l new there h
    (λ t less differ.
    let quiet : (answer_of l.terminals (λ y. Whole (m.Call a)) new.terminals t ≡ None)
    × TerminalStays e (ToTerminal s) t (terminal_at l t) (terminal_at new t) =
    terminal_hears_other_call e (ToTerminal s) t (terminal_at l t) (terminal_at new t)
    (answer_of l.terminals (λ y. Whole (m.Call a)) new.terminals t) a (rests t less)
    (call_names_no_other_terminal laws l new e (ToTerminal s) a t g h its less differ)
    (h.terminals.each t less) in
    record { says = quiet.0; stays = quiet.1 })
    (record { says = taken.0; stays = taken.1 })
