-- What each accepted event does to the channels of a line.
use Rattle.std.proofs.Common.{◌≡◌, ℕ, ◌<◌, Bool, true, List, length, IsTrue, Option, None, Some, Ok}
use Rattle.std.proofs.Common.{refl, sym, ◌∙◌, ap, subst}
use Rattle.bsc_frame.specs.declared.message.Message.{Message}
use Rattle.bsc_frame.specs.declared.message.Heard.{Heard}
use Rattle.bsc_frame.specs.declared.message.Heard.TheVariants.{Whole}
use Rattle.bsc_spool.specs.Queue.{QueueValue}
use Rattle.bsc_spool.specs.Spool.{SpoolValue}
use Rattle.bsc_bid.specs.Channel.{channel, Offer, Learn}
use Rattle.bsc_tributary.specs.Tributary.{TributaryValue, spool_at}
use Rattle.bsc_bid.specs.declared.way.Way.{Way}
use Rattle.bsc_bid.specs.declared.way.Way.TheVariants.{FromTerminal, ToTerminal}
use Rattle.bsc_control.specs.Control.{peer_at}
use Rattle.bsc_control.specs.Kept.{outbound_of}
use Rattle.bsc_bid.specs.declared.speaker.Speaker.{Speaker}
use Rattle.bsc_bid.specs.declared.speaker.Speaker.TheVariants.{Control, Terminal}
use Rattle.bsc_line_model.specs.declared.transmission.Transmission.{Transmission}
use Rattle.bsc_line_model.specs.declared.event.Event.{Event}
use Rattle.bsc_line_model.specs.declared.event.Event.TheVariants.{OfferAt, OfferFor, Carry}
use Rattle.bsc_line_model.specs.declared.event.Event.TheVariants.{CarryEach, CarrySent, Silence}
use Rattle.bsc_line_model.specs.declared.event.Event.TheVariants.{Ready, UrgentAt, UrgentFor}
use Rattle.bsc_line_model.specs.declared.event.Event.TheVariants.{Polled, Release, Restart}
use Rattle.bsc_line_model.specs.Line.{LineValue, terminal_at}
use Rattle.bsc_line_model.specs.Line.{with_terminal}
use Rattle.bsc_line_model.specs.Terminals.{line_owner}
use Rattle.bsc_line_model.specs.Hearing.{heard_in, heard_at, octets_in}
use Rattle.bsc_line_model.specs.Carries.{IsCarriedBy, TerminalActsAlone, ControlActsAlone}
use Rattle.bsc_line_model.specs.Carries.{OwnerActs}
use Rattle.bsc_line_model.specs.Offers.{OffersAt, OffersFor, Sets, ready_set, urgent_set_at}
use Rattle.bsc_line_model.specs.Offers.{urgent_set_for, polled_set, ReleasesWay}
use Rattle.bsc_line_model.specs.Runs.{CarriesAs, Does}
use Rattle.bsc_line_model.specs.Kept.{IsLine}
use Rattle.bsc_line_model.specs.ChannelSteps.{MovesOne, MovesNothing, MovesAddressed, StepsChannels}
use Rattle.bsc_line_model.specs.BidLaws.{BidLaws}
use Rattle.bsc_line_model.proofs.Soundness.{peer_has_way}
use Rattle.bsc_line_model.proofs.ChannelMoves.{no_move_of_same_terminal, no_move_of_same_peer}
use Rattle.bsc_line_model.proofs.ChannelMoves.{offer_at_moves, same_channels_of_same_stations}
use Rattle.bsc_line_model.proofs.ChannelMoves.{offer_for_moves, release_from_moves}
use Rattle.bsc_line_model.proofs.ChannelMoves.{release_to_moves}
use Rattle.bsc_line_model.proofs.QueueSteps.{terminal_silent_queue}
use Rattle.bsc_line_model.proofs.OutboundSteps.{outbound_silent_queue}
use Rattle.bsc_line_model.proofs.Moving.{moves_addressed}
use Rattle.bsc_line_model.proofs.RestartMoves.{restart_moves}
use Rattle.bsc_line_model.proofs.DownMoves.{channels_move_by_carry_down}
use Rattle.bsc_line_model.proofs.UpMoves.{up_moves}
use Rattle.bsc_line_model.proofs.EachEvent.{peer_of_terminal}

-- a transmission is carried
carry_moves : (laws : BidLaws) (old new : LineValue) (speaker : Speaker) (w : Message) (h : Heard)
    → IsLine old → old.pending ≡ Some (record { speaker = speaker; message = w })
    → IsCarriedBy speaker w h old new → IsTrue new.trusted → MovesAddressed old.addressed old new
carry_moves laws old new Control w h is pending carried trusted =
    moves_addressed old.addressed old new
    (channels_move_by_carry_down laws old new w (λ t. h)
    (record { line = is; pending = pending; carried = carried; trusted = trusted }))
carry_moves laws old new (Terminal t) w h is pending carried trusted =
    moves_addressed old.addressed old new
    (up_moves laws old new t w h (record {
      line = is;
      pending = pending;
      carried = carried;
      trusted = trusted;
    }))

pub carries_moves : (laws : BidLaws) (hear : Transmission → Heard) (old new : LineValue)
    → IsLine old → CarriesAs hear old new → IsTrue new.trusted
    → MovesAddressed old.addressed old new
carries_moves laws hear old new is k trusted =
    carry_moves laws old new k.sent.speaker k.sent.message (hear k.sent) is k.pending k.carried
    trusted

-- a silence passes
control_silent : (old new : LineValue) → IsLine old → ControlActsAlone old new
    → MovesNothing old new
control_silent old new is k t FromTerminal there =
    let same : terminal_at new t ≡ terminal_at old t =
    ap (λ (l : LineValue). terminal_at l t) k.becomes in
    ap (λ (x : TributaryValue). channel x.queue (peer_at new.control t).spool.records) same
    ∙ ap (λ (z : SpoolValue). channel (terminal_at old t).queue z.records) (k.kept.spools t)
control_silent old new is k t (ToTerminal s) there =
    let same : terminal_at new t ≡ terminal_at old t =
    ap (λ (l : LineValue). terminal_at l t) k.becomes in
    ap (λ (x : TributaryValue). channel (outbound_of new.control t s).queue
    (spool_at x.spools s).records) same
    ∙ ap (λ (q : QueueValue). channel q (spool_at (terminal_at old t).spools s).records)
    (outbound_silent_queue old.control new.control k.sent t s is.stations.control k.row)

terminal_silent : (old new : LineValue) (t : ℕ) → TerminalActsAlone t old new → MovesNothing old new
terminal_silent old new t k u way there =
    same_channels_of_same_stations (with_terminal old t (terminal_at new t)) new u way
    (ap (λ (l : LineValue). l.control) k.becomes, ap (λ (l : LineValue). l.terminals) k.becomes)
    ∙ no_move_of_same_terminal old t (terminal_at new t) k.there
    (terminal_silent_queue (terminal_at old t) (terminal_at new t) k.sent k.row) k.kept.spools u
    way there

pub silence_moves : (old new : LineValue) (owner : Option ℕ) → IsLine old → OwnerActs owner old new
    → MovesNothing old new
silence_moves old new None is k = control_silent old new is k
silence_moves old new (Some t) is k = terminal_silent old new t k

-- a doubt is ended
pub release_moves : (old new : LineValue) (t : ℕ) (way : Way) → IsLine old
    → ReleasesWay old t way (Ok tt) new → MovesOne t way Learn old new
release_moves old new t FromTerminal is k =
    subst (λ (l : LineValue). MovesOne t FromTerminal Learn old l) (sym k.becomes)
    (release_from_moves old t tt k.there k.answer)
release_moves old new t (ToTerminal s) is k =
    let select : s < length (peer_at old.control t).outbounds =
    peer_has_way old.control old.terminals t (ToTerminal s) is.stations k.there k.select in
    subst (λ (l : LineValue). MovesOne t (ToTerminal s) Learn old l) (sym k.becomes)
    (release_to_moves old t s tt (peer_of_terminal old t is k.there) select k.answer)

-- an offer and a flag
nothing_moves : (old new : LineValue) (set : LineValue) → new ≡ set → MovesNothing old set
    → MovesNothing old new
nothing_moves old new set e k = subst (λ (l : LineValue). MovesNothing old l) (sym e) k

pub offer_at_event : (old new : LineValue) (t : ℕ) (r : List ℕ) → OffersAt old t r (Ok tt) new
    → MovesOne t FromTerminal (Offer r) old new
offer_at_event old new t r d =
    subst (λ (l : LineValue). MovesOne t FromTerminal (Offer r) old l) (sym d.2)
    (offer_at_moves old t r d.0)

pub offer_for_event : (old new : LineValue) (t s : ℕ) (r : List ℕ) → IsLine old
    → OffersFor old t s r (Ok tt) new → MovesOne t (ToTerminal s) (Offer r) old new
offer_for_event old new t s r is d =
    let select : s < length (peer_at old.control t).outbounds =
    peer_has_way old.control old.terminals t (ToTerminal s) is.stations d.0 d.1 in
    subst (λ (l : LineValue). MovesOne t (ToTerminal s) (Offer r) old l) (sym d.3)
    (offer_for_moves old t s r (peer_of_terminal old t is d.0) select)

pub ready_moves : (old new : LineValue) (t : ℕ) (ready : Bool)
    → Sets old t (ready_set old t ready) (Ok tt) new → MovesNothing old new
ready_moves old new t ready d =
    nothing_moves old new (ready_set old t ready) d.1
    (no_move_of_same_terminal old t (record (terminal_at old t) { ready = ready }) d.0 refl refl)

pub urgent_at_moves : (old new : LineValue) (t : ℕ) → Sets old t (urgent_set_at old t) (Ok tt) new
    → MovesNothing old new
urgent_at_moves old new t d =
    nothing_moves old new (urgent_set_at old t) d.1
    (no_move_of_same_terminal old t (record (terminal_at old t) { urgent = true }) d.0 refl refl)

pub urgent_for_moves : (old new : LineValue) (t : ℕ) → IsLine old
    → Sets old t (urgent_set_for old t) (Ok tt) new → MovesNothing old new
urgent_for_moves old new t is d =
    nothing_moves old new (urgent_set_for old t) d.1
    (no_move_of_same_peer old t (record (peer_at old.control t) { urgent = true })
    (peer_of_terminal old t is d.0) refl refl)

pub polled_moves : (old new : LineValue) (t : ℕ) (polled : Bool) → IsLine old
    → Sets old t (polled_set old t polled) (Ok tt) new → MovesNothing old new
polled_moves old new t polled is d =
    nothing_moves old new (polled_set old t polled) d.1
    (no_move_of_same_peer old t (record (peer_at old.control t) { polled = polled })
    (peer_of_terminal old t is d.0) refl refl)

pub event_moves : (laws : BidLaws) (event : Event) (old new : LineValue) → IsLine old
    → Does event old (Ok tt) new → IsTrue new.trusted → StepsChannels event old new
event_moves laws (OfferAt t r) old new is d now = offer_at_event old new t r.now d
event_moves laws (OfferFor t s r) old new is d now = offer_for_event old new t s r.now is d
event_moves laws (Carry item) old new is d now =
    carries_moves laws (λ sent. heard_in (octets_in item)) old new is d now
event_moves laws (CarryEach items) old new is d now =
    let sent : old.pending ≡ Some (record { speaker = Control; message = d.sent.message }) =
    d.pending ∙ ap (λ (p : Speaker). Some (record { speaker = p; message = d.sent.message }))
    d.control in
    moves_addressed old.addressed old new
    (channels_move_by_carry_down laws old new d.sent.message (heard_at items.now)
    (record { line = is; pending = sent; carried = d.carried; trusted = now }))
event_moves laws CarrySent old new is d now =
    carries_moves laws (λ sent. Whole sent.message) old new is d now
event_moves laws Silence old new is d now =
    silence_moves old new (line_owner old.terminals) is d.acts
event_moves laws (Ready t ready) old new is d now = ready_moves old new t ready d
event_moves laws (UrgentAt t) old new is d now = urgent_at_moves old new t d
event_moves laws (UrgentFor t) old new is d now = urgent_for_moves old new t is d
event_moves laws (Polled t polled) old new is d now = polled_moves old new t polled is d
event_moves laws (Release t way) old new is d now = release_moves old new t way is d
event_moves laws (Restart party) old new is d now = restart_moves old new party is d
