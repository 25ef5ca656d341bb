-- What keeps the records of a station that has begun, and what its store has of it.
use Rattle.std.proofs.Common.{◌≡◌, ◌∙◌, ◌<◌, ◌≤◌, ℕ, zero, suc, nat_lt, ◌&&◌, Bool, true, false}
use Rattle.std.proofs.Common.{List, [], ◌∷◌, ◌++◌, map, length, Option, None, Some, refl, sym, ap}
use Rattle.std.proofs.Common.{subst, arith, slice_get}
use Rattle.std.proofs.lemmas.Bool.{lt-ltb}
use Rattle.std.proofs.lemmas.List.{length-map, map-append}
use Rattle.std.specs.List.{AllByRecursion}
use Rattle.std.specs.Prelude.{if◌then◌else◌, slice_index_or}
use Rattle.bsc_block.specs.Records.{forgotten}
use Rattle.bsc_block.proofs.Forgotten.{drop_forgotten}
use Rattle.bsc_spool.specs.Queue.{QueueValue, waiting, with_forgotten}
use Rattle.bsc_bid.specs.Sender.{SenderValue, cut_phase, restarted_sender}
use Rattle.bsc_bid.specs.Stored.{FitsOffered, doubt_of, kept_of}
use Rattle.bsc_bid.specs.Terminal.{TerminalValue}
use Rattle.bsc_bid.specs.declared.kept.KeptSender.{KeptSender}
use Rattle.bsc_bid.specs.declared.phase.Phase.{Phase}
use Rattle.bsc_bid.specs.declared.phase.Phase.TheVariants.{Held, Idle, InDoubt, Unanswered}
use Rattle.bsc_tributary.specs.Tributary.{TributaryValue, spool_at}
use Rattle.bsc_control.specs.Control.{ControlValue, peer_at, restarted, terminals}
use Rattle.bsc_control.specs.Kept.{outbound_of}
use Rattle.bsc_control.specs.Peer.{OutboundValue, PeerValue, restarted_outbound, restarted_peer}
use Rattle.bsc_control.specs.Peer.{no_outbound, sent_forgotten}
use Rattle.bsc_control.specs.Stored.{kept_of_side, without_records}
use Rattle.bsc_spool.specs.Contents.{Contents, records_from}
use Rattle.bsc_spool.specs.declared.channel.Channel.{Channel}
use Rattle.bsc_spool.specs.declared.channel.Channel.TheVariants.{From}
use Rattle.bsc_spool.specs.declared.ends.Receiving.{Receiving}
use Rattle.bsc_spool.specs.declared.ends.Sending.{Sending}
use Rattle.bsc_keeping.specs.Changes.{in_doubt_of}
use Rattle.bsc_station.specs.Feeding.{kept_at_control}
use Rattle.bsc_keeping.specs.Filled.{KeepsFrom, forgotten_of, receiving_from, sending_from}
use Rattle.bsc_keeping.specs.Own.{channel_to, each_of, polled_at, receiving_of, receives_at}
use Rattle.bsc_keeping.specs.Own.{selection_of, selections_at, sending_of, sends_from, spool_of}
use Rattle.bsc_keeping.specs.Own.{terminal_at}
use Rattle.bsc_keeping.specs.declared.keeper.Keeper.{Keeper}
use Rattle.bsc_bid.specs.declared.speaker.Speaker.{Speaker}
use Rattle.bsc_bid.specs.declared.speaker.Speaker.TheVariants.{Control, Terminal}
use Rattle.bsc_restarts.specs.AfterCrash.{ControlBeginsAfterCrash, TerminalBeginsAfterCrash}
use Rattle.bsc_restarts.specs.AfterCrash.{arrived_at_control, arrived_at_terminal, kept_at_terminal}
use Rattle.bsc_restarts.specs.AfterCrash.{waiting_at_control, waiting_at_terminal}
use Rattle.bsc_restarts.specs.Begun.{ControlKeptOnceBegun, TerminalKeptOnceBegun}
use Rattle.bsc_restarts.specs.Kept.{HasAllReceived, HasAllSent, HasReceivedOn, HasSentIf, HasSentOn}
use Rattle.bsc_restarts.specs.Kept.{Knows, KnowsReceived, KnowsSent, bare_receiving, bare_sending}
use Rattle.bsc_restarts.proofs.Lists.{all_of_each}
use Rattle.bsc_restarts.proofs.WholeControls.{side_left}

-- an end of which nothing is kept yet is itself whatever is kept of it
abbrev IsBareSending : List Sending → Type 0
IsBareSending ends = map bare_sending ends ≡ ends

abbrev IsBareReceiving : List Receiving → Type 0
IsBareReceiving ends = map bare_receiving ends ≡ ends

bare_each_sending : (f : ℕ → List Sending) → ((i : ℕ) → IsBareSending (f i)) → (n : ℕ)
    → IsBareSending (each_of f n)
bare_each_sending f bare zero = refl
bare_each_sending f bare (suc n) =
    map-append bare_sending (each_of f n) (f n)
    ∙ (λ i. bare_each_sending f bare n i ++ bare n i)

bare_each_receiving : (f : ℕ → List Receiving) → ((i : ℕ) → IsBareReceiving (f i)) → (n : ℕ)
    → IsBareReceiving (each_of f n)
bare_each_receiving f bare zero = refl
bare_each_receiving f bare (suc n) =
    map-append bare_receiving (each_of f n) (f n)
    ∙ (λ i. bare_each_receiving f bare n i ++ bare n i)

bare_sends : (t : Option TerminalValue) → IsBareSending (sends_from t)
bare_sends None = refl
bare_sends (Some t) = refl

bare_receives : (t : Option TerminalValue) → IsBareReceiving (receives_at t)
bare_receives None = refl
bare_receives (Some t) = bare_each_receiving (spool_of t) (λ i. refl) (length t.selects)

bare_sending_of : (ts : List TerminalValue) (owner : Speaker) → IsBareSending (sending_of ts owner)
bare_sending_of ts Control =
    bare_each_sending (selections_at ts)
    (λ t. bare_each_sending (selection_of (terminal_at ts t) t) (λ s. refl)
    (length (terminal_at ts t).selects)) (length ts)
bare_sending_of ts (Terminal number) = bare_sends (slice_get ts number)

bare_receiving_of : (ts : List TerminalValue) (owner : Speaker)
    → IsBareReceiving (receiving_of ts owner)
bare_receiving_of ts Control = bare_each_receiving (polled_at ts) (λ t. refl) (length ts)
bare_receiving_of ts (Terminal number) = bare_receives (slice_get ts number)

-- what is known of the ends of a new keeper
sending_as : (has : Channel → Contents) (ends : List Sending)
    → map bare_sending (map (sending_from has) ends) ≡ map bare_sending ends
sending_as has [] = refl
sending_as has (end ∷ ends) = ap (λ es. bare_sending end ∷ es) (sending_as has ends)

receiving_as : (has : Channel → Contents) (ends : List Receiving)
    → map bare_receiving (map (receiving_from has) ends) ≡ map bare_receiving ends
receiving_as has [] = refl
receiving_as has (end ∷ ends) = ap (λ es. bare_receiving end ∷ es) (receiving_as has ends)

knows_sent : (has : Channel → Contents) (ends : List Sending)
    → AllByRecursion (KnowsSent has) (map (sending_from has) ends)
knows_sent has [] = tt
knows_sent has (end ∷ ends) = ((refl, refl), knows_sent has ends)

knows_received : (has : Channel → Contents) (ends : List Receiving)
    → AllByRecursion (KnowsReceived has) (map (receiving_from has) ends)
knows_received has [] = tt
knows_received has (end ∷ ends) = (refl, knows_received has ends)

pub known_once_begun : {K : Type 0} (has : Channel → Contents) (ts : List TerminalValue)
    (owner : Speaker) (keeper : Keeper K)
    → KeepsFrom has (sending_of ts owner) (receiving_of ts owner) keeper
    → Knows has (sending_of ts owner) (receiving_of ts owner) keeper
known_once_begun has ts owner keeper keeps =
    record {
      sends =
          ap (map bare_sending) keeps.sends ∙ sending_as has (sending_of ts owner)
          ∙ bare_sending_of ts owner;
      receives =
          ap (map bare_receiving) keeps.receives ∙ receiving_as has (receiving_of ts owner)
          ∙ bare_receiving_of ts owner;
      sent =
          subst (AllByRecursion (KnowsSent has)) (sym keeps.sends)
          (knows_sent has (sending_of ts owner));
      received =
          subst (AllByRecursion (KnowsReceived has)) (sym keeps.receives)
          (knows_received has (receiving_of ts owner));
    }

-- what is in doubt of a sender stays so when it begins again
pub cut_doubt : (phase : Phase) → doubt_of (cut_phase phase) ≡ doubt_of phase
cut_doubt Idle = refl
cut_doubt (Unanswered b) = refl
cut_doubt (Held end alternation) = refl
cut_doubt (InDoubt count) = refl

-- what the store has of a sending side that begins again
sent_again : (it : Contents) (s t : SenderValue) (q r : QueueValue)
    → FitsOffered (kept_of s q) (length q.offered) → t ≡ restarted_sender s
    → r ≡ with_forgotten q q.known → HasAllSent it (kept_of s q) (waiting q)
    → HasAllSent it (kept_of t r) (waiting r)
sent_again it s t q r fits sender queue has =
    record {
      few = has.few;
      known = has.known ∙ ap (λ (x : QueueValue). x.known) (sym queue);
      in_doubt =
          has.in_doubt
          ∙ ap in_doubt_of
          (sym (ap (λ (x : SenderValue). doubt_of x.phase) sender ∙ cut_doubt s.phase));
      rest =
          has.rest
          ∙ sym (ap waiting queue ∙ drop_forgotten q.known q.known q.offered (omega arith) fits.known);
    }

-- and of what arrived
few_forgotten : (forgets_printed : Bool) (it : Contents) → it.printed ≤ length it.arrived
    → forgotten_of forgets_printed it ≤ length it.arrived
few_forgotten true it few = few
few_forgotten false it few = omega arith

received_again : (it : Contents) (forgets_printed : Bool) (records : List (List ℕ))
    → it.printed ≤ length it.arrived
    → records ≡ forgotten (forgotten_of forgets_printed it) (records_from 0 it.arrived)
    → HasAllReceived it records
received_again it forgets_printed records few same =
    record {
      places = forgotten_of forgets_printed it;
      few = few_forgotten forgets_printed it few;
      same = same;
    }

pub terminal_kept_begun : TerminalBeginsAfterCrash → TerminalKeptOnceBegun
terminal_kept_begun begins left forgets_printed l new filled is fits is_new printed has made =
    let (whole, is_whole, begun) =
    begins left forgets_printed l new filled is fits is_new has made in
    let t = l.tributary in
    let n = filled.tributary in
    let sender : n.sender ≡ restarted_sender t.sender =
    ap (λ (x : TributaryValue). x.sender) begun.others
    ∙ ap (λ (x : TributaryValue). restarted_sender x.sender) is_whole.others in
    let queue : n.queue ≡ with_forgotten t.queue t.queue.known =
    begun.queue
    ∙ ap (λ (x : TributaryValue). with_forgotten x.queue x.queue.known) is_whole.others in
    let its : whole.terminal ≡ t.terminal =
    ap (λ (x : TributaryValue). x.terminal) is_whole.others in
    let own : n.terminal ≡ t.terminal =
    ap (λ (x : TributaryValue). x.terminal) begun.others ∙ its in
    record {
      sent = (
        sent_again (left (From t.terminal.poll)) t.sender n.sender t.queue n.queue fits sender
            queue has.sent.0,
        tt,
      );
      received =
          all_of_each
          (HasReceivedOn kept_at_terminal waiting_at_terminal arrived_at_terminal left filled)
          (spool_of t.terminal) (length t.terminal.selects)
          (λ s few. (
            received_again (left (channel_to t.terminal s)) forgets_printed
                (arrived_at_terminal filled s) (printed (channel_to t.terminal s))
                (ap (λ b. if b then (spool_at n.spools s).records else [])
                (lt-ltb s (length n.terminal.selects)
                (omega (arith, few, ap (λ (x : TerminalValue). length x.selects) own)))
                ∙ begun.arrived s
                (omega (arith, few, ap (λ (x : TerminalValue). length x.selects) its))
                ∙ (λ i. forgotten (forgotten_of forgets_printed (left (channel_to (its i) s)))
                (is_whole.all s few i))),
            tt,
          ));
    }

-- what the store has of a side that may be there
sent_if_any : (b : Bool) (it : Contents) (k : KeptSender) (rest : List (List ℕ))
    → HasAllSent it k rest → HasSentIf it (if b then Some k else None) rest
sent_if_any true it k rest has = has
sent_if_any false it k rest has = tt

pub control_kept_begun : ControlBeginsAfterCrash → ControlKeptOnceBegun
control_kept_begun begins left forgets_printed c new filled is sides fits is_new apart printed has
    made =
    let (whole, is_whole, begun) =
    begins left forgets_printed c new filled is sides fits is_new apart has made in
    let ts = terminals c in
    let count : length ts ≡ length c.peers =
    length-map c.peers (λ (p : PeerValue). p.terminal) in
    let peers : length filled.peers ≡ length c.peers =
    omega (
      arith,
      ap (λ (x : ControlValue). length x.peers) begun.others,
      length-map filled.peers without_records,
      length-map (restarted whole).peers without_records,
      length-map whole.peers restarted_peer,
      is_whole.peers,
    ) in
    let outbounds : (t : ℕ) → t < length c.peers
    → (peer_at whole t).outbounds ≡ (peer_at c t).outbounds =
    λ t few. ap (λ (p : PeerValue). p.outbounds) (is_whole.each t few).others in
    record {
      sent =
          all_of_each
          (λ end. HasSentOn kept_at_control waiting_at_control arrived_at_control left filled end)
          (selections_at ts) (length ts)
          (λ t few.
          all_of_each
          (λ end. HasSentOn kept_at_control waiting_at_control arrived_at_control left filled end)
          (selection_of (terminal_at ts t) t) (length (terminal_at ts t).selects)
          (λ s its.
          let was : t < length c.peers = omega (arith, few, count) in
          let within : s < length (peer_at c t).outbounds = omega (arith, its, sides t) in
          let it = left (channel_to (terminal_at ts t) s) in
          let o = outbound_of c t s in
          let n = outbound_of filled t s in
          let side : n ≡ sent_forgotten (restarted_outbound o) o.queue.known =
          begun.sides t s (omega (arith, within, ap (λ os. length os) (outbounds t was)))
          ∙ ap (λ os. let x = slice_index_or os s no_outbound in
          sent_forgotten (restarted_outbound x) x.queue.known) (outbounds t was) in (
            sent_if_any
                (nat_lt t (length filled.peers) && nat_lt s (length (peer_at filled t).outbounds))
                it (kept_of_side n) (waiting n.queue)
                (sent_again it o.sender n.sender o.queue n.queue (fits t s within)
                (ap (λ (x : OutboundValue). x.sender) side)
                (ap (λ (x : OutboundValue). x.queue) side)
                (side_left left c has sides t s within)),
            tt,
          )));
      received =
          all_of_each
          (λ end. HasReceivedOn kept_at_control waiting_at_control arrived_at_control left filled
          end)
          (polled_at ts) (length ts)
          (λ t few.
          let was : t < length c.peers = omega (arith, few, count) in
          let its = λ (x : List TerminalValue). left (From (terminal_at x t).poll) in (
            received_again (its ts) forgets_printed (arrived_at_control filled t)
                (printed (From (terminal_at ts t).poll))
                (ap (λ b. if b then (peer_at filled t).spool.records else [])
                (lt-ltb t (length filled.peers) (omega (arith, was, peers)))
                ∙ begun.arrived t (omega (arith, was, is_whole.peers))
                ∙ (λ i. forgotten (forgotten_of forgets_printed (its (is_whole.addresses i)))
                ((is_whole.each t was).all i))),
            tt,
          ));
    }
