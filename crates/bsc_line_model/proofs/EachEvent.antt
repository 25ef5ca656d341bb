-- Every event keeps the invariant of a line: the laws, from the lemmas on values.
use Rattle.std.proofs.Common.{◌≡◌, ℕ, ◌<◌, ◌≤◌, List, length, Option, None, Some, refl, sym, ◌∙◌}
use Rattle.std.proofs.Common.{ap, subst}
use Rattle.std.proofs.lemmas.List.{get_or_default}
use Rattle.bsc_tributary.specs.Tributary.{TributaryValue}
use Rattle.bsc_tributary.specs.Kept.{IsTributary, KeepsSetupAndMode}
use Rattle.bsc_bid.specs.declared.way.Way.TheVariants.{ToTerminal}
use Rattle.bsc_control.specs.Control.{ControlValue, peer_at}
use Rattle.bsc_control.specs.Peer.{PeerValue}
use Rattle.bsc_bid.specs.declared.speaker.Speaker.{Speaker}
use Rattle.bsc_line_model.specs.declared.transmission.Transmission.{Transmission}
use Rattle.bsc_line_model.specs.BidLaws.{BidLaws}
use Rattle.bsc_line_model.specs.Line.{LineValue, terminal_at, terminal_count, no_terminal}
use Rattle.bsc_line_model.specs.Line.{with_terminal}
use Rattle.bsc_line_model.specs.Carries.{OwnerActs}
use Rattle.bsc_line_model.specs.Offers.{select_count}
use Rattle.bsc_line_model.specs.Terminals.{line_owner}
use Rattle.bsc_line_model.specs.Kept.{IsLine}
use Rattle.bsc_line_model.specs.Stays.{NewLineStays, DownStays, UpStays, SilenceStays, OfferAtStays}
use Rattle.bsc_line_model.specs.Stays.{ReadyStays, UrgentAtStays, ReleaseFromStays, OfferForStays}
use Rattle.bsc_line_model.specs.Stays.{UrgentForStays, PolledStays, ReleaseToStays}
use Rattle.bsc_line_model.proofs.Carrying.{line_kept_by_hearing_control}
use Rattle.bsc_line_model.proofs.Carrying.{line_kept_by_hearing_terminal, line_silent}
use Rattle.bsc_line_model.proofs.Carrying.{line_kept_by_terminal_silence, line_set}
use Rattle.bsc_line_model.proofs.Carrying.{line_peer, terminal_full, outbound_full}
use Rattle.bsc_line_model.proofs.Likeness.{IsLike, flags_like, polled_flag_like}
use Rattle.bsc_line_model.proofs.Likeness.{offer_at_like, offer_for_like, release_from_like}
use Rattle.bsc_line_model.proofs.Likeness.{release_to_like}
use Rattle.bsc_line_model.proofs.Making.{new_line}
use Rattle.bsc_line_model.proofs.Soundness.{peer_has_way}
use Rattle.bsc_line_model.proofs.Tuning.{NamesOwn}

pub new_line_stays : NewLineStays
new_line_stays setup given poll_list l new control =
    subst (λ (o : Option Transmission). IsLine (record l { pending = o })) (sym new.pending)
    (subst (λ a. IsLine (record l { pending = None; addressed = a })) (sym new.addressed)
    (new_line setup given poll_list l.control l.terminals l.trusted new.control control
    new.terminals))

pub setups_kept_by_carry_down : NamesOwn → BidLaws → DownStays
setups_kept_by_carry_down laws bids sent hears old new line pending speaker d =
    subst (λ (c : ControlValue). IsLine (record new { control = c })) (sym d.control)
    (line_kept_by_hearing_control laws bids old.control old.terminals old.pending new.pending old.trusted new.trusted
    old.addressed new.addressed sent.message hears new.terminals line
    (pending ∙ ap (λ (p : Speaker). Some (record { speaker = p; message = sent.message })) speaker)
    d.pending d.terminals d.kept d.addressed d.trusted)

pub setups_kept_by_carry_up : BidLaws → UpStays
setups_kept_by_carry_up bids sent heard old new line pending speaker u =
    subst (λ (ts : List TributaryValue). IsLine (record new { terminals = ts })) (sym u.terminals)
    (subst (λ a. IsLine (record new { terminals = old.terminals; addressed = a })) (sym u.addressed)
    (line_kept_by_hearing_terminal bids old.control new.control old.terminals old.pending new.pending old.trusted
    new.trusted old.addressed sent heard u.sent line pending speaker u.pending u.control u.kept
    u.trusted))

owner_stays : (bids : BidLaws) (old new : LineValue) (owner : Option ℕ) → IsLine old → old.pending
    ≡ None → line_owner old.terminals ≡ owner → OwnerActs owner old new → IsLine new
owner_stays bids old new None line nothing nobody a =
    subst IsLine (sym a.becomes)
    (line_silent bids old.control new.control old.terminals old.pending _ old.trusted old.addressed
    a.sent line nothing nobody refl a.row a.kept.control a.kept.keeps)
owner_stays bids old new (Some t) line nothing owner a =
    subst IsLine (sym a.becomes)
    (line_kept_by_terminal_silence bids old.control old.terminals old.pending _ old.trusted old.addressed t
    (terminal_at old t) (terminal_at new t) a.sent line nothing a.there refl owner refl a.row
    a.kept)

pub silence_stays : BidLaws → SilenceStays
silence_stays bids old new line s =
    owner_stays bids old new (line_owner old.terminals) line s.nothing refl s.acts

-- one terminal is replaced by one that differs only in what the channels do not depend on
set_stays : (l : LineValue) (t : ℕ) (x : TributaryValue) → IsLine l → t < terminal_count l
    → KeepsSetupAndMode (terminal_at l t) x
    → IsLike (peer_at l.control t) (terminal_at l t) (peer_at l.control t) x
    → IsLine (with_terminal l t x)
set_stays l t x line there same like =
    line_set l.control l.terminals l.pending l.trusted l.addressed t (terminal_at l t) x line there
    (get_or_default l.terminals t no_terminal (terminal_at l t) there) same like

-- what is read of a terminal that was replaced
setup_and_mode_of_replaced : (x u v : TributaryValue) → IsTributary u → u ≡ v → v.terminal ≡ x.terminal
    → v.sender.setup ≡ x.sender.setup → v.mode ≡ x.mode → KeepsSetupAndMode x u
setup_and_mode_of_replaced x u v is e addresses setup mode =
    record {
      tributary = is;
      addresses = ap (λ (y : TributaryValue). y.terminal) e ∙ addresses;
      setup = ap (λ (y : TributaryValue). y.sender.setup) e ∙ setup;
      mode = ap (λ (y : TributaryValue). y.mode) e ∙ mode;
    }

like_replaced_terminal : (p : PeerValue) (x u v : TributaryValue) → u ≡ v → IsLike p x p v → IsLike p x p u
like_replaced_terminal p x u v e like = subst (λ (y : TributaryValue). IsLike p x p y) (sym e) like

pub offer_at_stays : BidLaws → OfferAtStays
offer_at_stays bids l t r x line there short is e =
    set_stays l t x line there (setup_and_mode_of_replaced (terminal_at l t) x _ is e refl refl refl)
    (like_replaced_terminal (peer_at l.control t) (terminal_at l t) x _ e
    (offer_at_like bids (peer_at l.control t) (terminal_at l t) r
    (subst (λ (n : ℕ). length r ≤ n)
    (sym (terminal_full l.control l.terminals t line.stations there)) short)))

pub ready_stays : ReadyStays
ready_stays l t ready x line there is e =
    set_stays l t x line there (setup_and_mode_of_replaced (terminal_at l t) x _ is e refl refl refl)
    (like_replaced_terminal (peer_at l.control t) (terminal_at l t) x _ e
    (flags_like (peer_at l.control t) (terminal_at l t) _ ready _))

pub urgent_at_stays : UrgentAtStays
urgent_at_stays l t x line there is e =
    set_stays l t x line there (setup_and_mode_of_replaced (terminal_at l t) x _ is e refl refl refl)
    (like_replaced_terminal (peer_at l.control t) (terminal_at l t) x _ e
    (flags_like (peer_at l.control t) (terminal_at l t) _ _ _))

pub release_from_stays : BidLaws → ReleaseFromStays
release_from_stays bids l t x line there same e =
    set_stays l t x line there same
    (like_replaced_terminal (peer_at l.control t) (terminal_at l t) x _ e
    (release_from_like bids (peer_at l.control t) (terminal_at l t)))

-- the control station has a part for each terminal, and each part has the terminal's selection
-- addresses
pub peer_of_terminal : (l : LineValue) (t : ℕ) → IsLine l → t < terminal_count l
    → t < length l.control.peers
peer_of_terminal l t line there = subst (λ (n : ℕ). t < n) (sym line.stations.count) there

outbound_of_select : (l : LineValue) (t s : ℕ) → IsLine l → t < terminal_count l → s < select_count l t
    → s < length (peer_at l.control t).outbounds
outbound_of_select l t s line there select =
    peer_has_way l.control l.terminals t (ToTerminal s) line.stations there select

pub offer_for_stays : BidLaws → OfferForStays
offer_for_stays bids l t s r c line there select short is e =
    let within : s < length (peer_at l.control t).outbounds =
    outbound_of_select l t s line there select in
    line_peer l.control c l.terminals l.pending l.trusted l.addressed t _ line
    (peer_of_terminal l t line there) e is
    (offer_for_like bids (peer_at l.control t) (terminal_at l t) s r within
    (subst (λ (n : ℕ). length r ≤ n)
    (sym (outbound_full l.control l.terminals t s line.stations within)) short))

pub urgent_for_stays : UrgentForStays
urgent_for_stays l t c line there is e =
    line_peer l.control c l.terminals l.pending l.trusted l.addressed t _ line
    (peer_of_terminal l t line there) e is
    (flags_like (peer_at l.control t) (terminal_at l t) _ _ _)

pub polled_stays : PolledStays
polled_stays l t polled c line there is e =
    line_peer l.control c l.terminals l.pending l.trusted l.addressed t _ line
    (peer_of_terminal l t line there) e is
    (polled_flag_like (peer_at l.control t) (terminal_at l t) polled)

pub release_to_stays : BidLaws → ReleaseToStays
release_to_stays bids l t s c line there select is e =
    line_peer l.control c l.terminals l.pending l.trusted l.addressed t _ line
    (peer_of_terminal l t line there) e is
    (release_to_like bids (peer_at l.control t) (terminal_at l t) s
    (outbound_of_select l t s line there select))
