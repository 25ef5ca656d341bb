-- The length of a visit, also if no record waits for its terminal.
use Rattle.std.proofs.Common.{◌≡◌, ℕ, zero, suc, ◌+◌, ◌<◌, ◌≤◌, true, List, ◌∷◌, length, drop, sum_by}
use Rattle.std.proofs.Common.{slice_get, Some, refl, sym, ◌∙◌, ap, subst, arith}
use Rattle.std.proofs.Math.Seq.{drop-cons}
use Rattle.std.proofs.lemmas.List.{drop_all}
use Rattle.std.proofs.lemmas.List.Sums.{sum_by-cons}
use Rattle.std.proofs.lemmas.Option.{slice_get-get_or}
use Rattle.bsc_frame.specs.declared.message.Message.TheVariants as m
use Rattle.bsc_bid.specs.Terminal.{TerminalValue}
use Rattle.bsc_bid.specs.declared.way.Way.{Way}
use Rattle.bsc_bid.specs.declared.way.Way.TheVariants.{FromTerminal, ToTerminal}
use Rattle.bsc_bid.specs.Addresses.{address_for}
use Rattle.bsc_control.specs.Peer.{PeerValue, OutboundValue, no_outbound, outbound_at}
use Rattle.bsc_control.specs.Control.{peer_at, peer, current, terminals}
use Rattle.bsc_control.specs.Table.{select_address}
use Rattle.bsc_bid.specs.declared.speaker.Speaker.TheVariants as sp
use Rattle.bsc_line_model.specs.Line.{LineValue, terminal_at}
use Rattle.bsc_line_model.specs.Rounds.{block_count, poll_length, visit_length}
use Rattle.bsc_line_model.specs.Rounds.{HasMadeCall, outbound_length}
use Rattle.bsc_line_model.proofs.Stations.{terminal_in_directory, current_terminal_there}
use Rattle.bsc_line_model.proofs.DownControl.{address_at}
use Rattle.bsc_line_model.proofs.Walking.{IsGood}
use Rattle.bsc_line_model.proofs.Selections.{Calls}
use Rattle.bsc_line_model.proofs.Visits.{selections_length}
use Rattle.bsc_frame.proofs.ControlSequences.{some_is}

sum_from : (p : PeerValue) (from k : ℕ) → from + k ≡ length p.outbounds
    → sum_by outbound_length (drop from p.outbounds) ≡ selections_length p from k
sum_from p from zero is =
    ap (λ (os : List OutboundValue). sum_by outbound_length os)
    (drop_all from p.outbounds (omega (arith, is)))
sum_from p from (suc k) is =
    let inside : from < length p.outbounds = omega (arith, is) in
    let first : drop from p.outbounds ≡ outbound_at p from ∷ drop (suc from) p.outbounds =
    drop-cons p.outbounds from no_outbound inside in
    let next : suc from ≡ from + 1 = omega arith in
    let rest : sum_by outbound_length (drop (suc from) p.outbounds)
    ≡ selections_length p (from + 1) k =
    ap (λ (j : ℕ). sum_by outbound_length (drop j p.outbounds)) next
    ∙ sum_from p (from + 1) k (omega (arith, is)) in
    ap (λ (os : List OutboundValue). sum_by outbound_length os) first
    ∙ sum_by-cons outbound_length (outbound_at p from) (drop (suc from) p.outbounds)
    ∙ ap (λ (j : ℕ). outbound_length (outbound_at p from) + j) rest

-- the length is that of the visit
pub visit_is : (l : LineValue) (t : ℕ) → visit_length l t
    ≡ selections_length (peer_at l.control t) 0 (length (peer_at l.control t).outbounds)
    + poll_length (block_count (terminal_at l t).queue)
visit_is l t =
    ap (λ (n : ℕ). n + poll_length (block_count (terminal_at l t).queue))
    (sum_from (peer_at l.control t) 0 (length (peer_at l.control t).outbounds) (omega arith))

-- if no record waits, no address is called
pub no_selections : (p : PeerValue) (from k : ℕ) → from + k ≤ length p.outbounds
    → ((s : ℕ) → s < length p.outbounds → block_count (outbound_at p s).queue ≡ 0)
    → selections_length p from k ≡ 0
no_selections p from zero within none = refl
no_selections p from (suc k) within none =
    rw (
      none from (omega (arith, within)),
      no_selections p (from + 1) k (omega (arith, within)) none,
    ) refl

address_is : (x : TerminalValue) (way : Way) (a : List ℕ) → address_for x way ≡ Some a
    → ((s : ℕ) → way ≡ ToTerminal s → s < length x.selects) → a ≡ address_at x way
address_is x FromTerminal a e within = some_is a x.poll (sym e)
address_is x (ToTerminal s) a e within =
    some_is a (select_address x s) (sym e ∙ slice_get-get_or x.selects s x.poll (within s refl))

-- a call that was made and is pending is the call of the entry
pub calls_where_made : (l : LineValue) (place : ℕ) (address : List ℕ) (way : Way) → IsGood l
    → HasMadeCall l.control (record { place = place; way = way }) address → l.pending
    ≡ Some (record { speaker = sp.Control; message = m.Call address }) →
    (peer l.control).polled ≡ true →
    ((s : ℕ) → way ≡ ToTerminal s → s < length (peer l.control).terminal.selects)
    → Calls l place way
calls_where_made l place address way g h is polled within =
    let e : ℕ = current l.control in
    let there : slice_get (terminals l.control) e ≡ Some (terminal_at l e).terminal =
    terminal_in_directory l.control l.terminals e g.line.stations
    (current_terminal_there l.control l.terminals g.line.stations) in
    let both : Some h.called.terminal ≡ Some (peer l.control).terminal = sym h.called.there ∙ there
    ∙ ap (λ (x : TerminalValue). Some x)
    (g.line.stations.members e
    (current_terminal_there l.control l.terminals g.line.stations)).addresses in
    let same : h.called.terminal ≡ (peer l.control).terminal = cc in
    let own : address_for (peer l.control).terminal way ≡ Some address =
    subst (λ (x : TerminalValue). address_for x way ≡ Some address) same h.called.its_own in
    record {
      sent = Some (m.Call address);
      pending = is;
      called =
          record {
            place_is = h.place;
            task = h.task;
            call =
                ap (λ (a : List ℕ). Some (m.Call a))
                (address_is (peer l.control).terminal way address own within);
            polled = polled;
          };
    }
