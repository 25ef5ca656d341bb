-- A control station with all records that arrived, and the one that begins again as it.
use Rattle.std.proofs.Common.{◌≡◌, ◌∙◌, ◌<◌, ◌≤◌, ◌+◌, ℕ, zero, suc, nat_lt, ◌&&◌, true, List, []}
use Rattle.std.proofs.Common.{◌∷◌, map, length, None, Some, refl, sym, ap, subst, arith}
use Rattle.std.proofs.lemmas.Bool.{and_from, lt-ltb}
use Rattle.std.proofs.lemmas.List.{length-map}
use Rattle.std.specs.List.{All}
use Rattle.std.specs.Prelude.{if◌then◌else◌, slice_index_or}
use Rattle.bsc_block.specs.Records.{forgotten}
use Rattle.bsc_spool.specs.Queue.{waiting}
use Rattle.bsc_bid.specs.Stored.{FitsOffered}
use Rattle.bsc_bid.specs.Ready.{IsAtRest, IsGoing}
use Rattle.bsc_bid.specs.declared.phase.Phase.TheVariants.{Idle}
use Rattle.bsc_bid.specs.Terminal.{TerminalValue}
use Rattle.bsc_bid.specs.Addresses.{AreDistinct}
use Rattle.bsc_control.specs.Control.{ControlValue, HasEntries, current, peer, peer_at, terminals}
use Rattle.bsc_control.specs.Kept.{HasSettings, IsControl, IsNewControl, IsOrderly, SuitsTask}
use Rattle.bsc_control.specs.Kept.{outbound_of}
use Rattle.bsc_control.specs.Peer.{IsPeer, OutboundValue, PeerValue, no_outbound, no_peer}
use Rattle.bsc_control.specs.Stored.{kept_of_side}
use Rattle.bsc_control.specs.declared.task.Replied.TheVariants.{Interrupted, Nothing, Uninterrupted}
use Rattle.bsc_control.specs.declared.task.Task.{Task}
use Rattle.bsc_control.specs.declared.task.Task.TheVariants.{AtRest, Polling, Selecting, Sending}
use Rattle.bsc_spool.specs.Contents.{Contents, records_from}
use Rattle.bsc_spool.specs.declared.channel.Channel.{Channel}
use Rattle.bsc_spool.specs.declared.channel.Channel.TheVariants.{From}
use Rattle.bsc_station.specs.Feeding.{kept_at_control}
use Rattle.bsc_keeping.specs.Filled.{IsControlFilledFrom}
use Rattle.bsc_keeping.specs.Own.{channel_to, polled_at, receiving_of, selection_of, selections_at}
use Rattle.bsc_keeping.specs.Own.{sending_of, terminal_at}
use Rattle.bsc_bid.specs.declared.speaker.Speaker.TheVariants.{Control}
use Rattle.bsc_restarts.specs.AfterCrash.{ControlBeginsAfterCrash, LeavesControl}
use Rattle.bsc_restarts.specs.AfterCrash.{arrived_at_control, waiting_at_control}
use Rattle.bsc_restarts.specs.BegunAgain.{ControlBeginsAgain, HasControl, HasReceived, HasSent}
use Rattle.bsc_restarts.specs.BegunAgain.{HasSides, SidesFit}
use Rattle.bsc_restarts.specs.Kept.{HasAllReceived, HasAllSent, HasReceivedOn, HasSentIf, HasSentOn}
use Rattle.bsc_restarts.proofs.Controls.{peer_of_side}
use Rattle.bsc_restarts.proofs.Lists.{all_each}
use Rattle.bsc_restarts.proofs.WholeTerminals.{received_whole, sent_if_fits}

-- a peer with these records in its spool
abbrev with_records : PeerValue → List (List ℕ) → PeerValue
with_records p rs = record p { spool = record p.spool { records = rs } }

abbrev filled_peers : (ℕ → List (List ℕ)) → ℕ → List PeerValue → List PeerValue
filled_peers f n [] = []
filled_peers f n (p ∷ ps) = with_records p (f n) ∷ filled_peers f (suc n) ps

as_many_peers : (f : ℕ → List (List ℕ)) (n : ℕ) (ps : List PeerValue)
    → length (filled_peers f n ps) ≡ length ps
as_many_peers f n [] = refl
as_many_peers f n (p ∷ ps) = ap suc (as_many_peers f (suc n) ps)

same_terminals : (f : ℕ → List (List ℕ)) (n : ℕ) (ps : List PeerValue)
    → map (λ (p : PeerValue). p.terminal) (filled_peers f n ps)
    ≡ map (λ (p : PeerValue). p.terminal) ps
same_terminals f n [] = refl
same_terminals f n (p ∷ ps) = ap (λ ts. p.terminal ∷ ts) (same_terminals f (suc n) ps)

peer_filled : (f : ℕ → List (List ℕ)) (n : ℕ) (ps : List PeerValue) (i : ℕ) (d : PeerValue)
    → i < length ps
    → slice_index_or (filled_peers f n ps) i d ≡ with_records (slice_index_or ps i d) (f (n + i))
peer_filled f n [] i d within = absurd (omega (arith, within))
peer_filled f n (p ∷ ps) zero d within =
    let at : n ≡ n + 0 = omega arith in ap (λ k. with_records p (f k)) at
peer_filled f n (p ∷ ps) (suc i) d within =
    let at : suc n + i ≡ n + suc i = omega arith in
    peer_filled f (suc n) ps i d (omega (arith, within))
    ∙ ap (λ k. with_records (slice_index_or ps i d) (f k)) at

same_outbounds : (f : ℕ → List (List ℕ)) (n : ℕ) (ps : List PeerValue) (i : ℕ)
    → (slice_index_or (filled_peers f n ps) i no_peer).outbounds
    ≡ (slice_index_or ps i no_peer).outbounds
same_outbounds f n [] i = refl
same_outbounds f n (p ∷ ps) zero = refl
same_outbounds f n (p ∷ ps) (suc i) = same_outbounds f (suc n) ps i

same_receiver : (f : ℕ → List (List ℕ)) (n : ℕ) (ps : List PeerValue) (i : ℕ)
    → (slice_index_or (filled_peers f n ps) i no_peer).receiver
    ≡ (slice_index_or ps i no_peer).receiver
same_receiver f n [] i = refl
same_receiver f n (p ∷ ps) zero = refl
same_receiver f n (p ∷ ps) (suc i) = same_receiver f (suc n) ps i

-- what a task requires of a peer, it requires of its sending sides and its receiver
suits_same : (task : Task) (p q : PeerValue) → q.outbounds ≡ p.outbounds
    → q.receiver ≡ p.receiver → SuitsTask task p → SuitsTask task q
suits_same AtRest p q outbounds receiver suits = tt
suits_same (Selecting s enquired) p q outbounds receiver suits =
    record {
      there = subst (λ os. s < length os) (sym outbounds) suits.there;
      idle =
          subst (λ os. (slice_index_or os s no_outbound).sender.phase ≡ Idle) (sym outbounds)
          suits.idle;
      some =
          subst (λ os. 1 ≤ length (waiting (slice_index_or os s no_outbound).queue))
          (sym outbounds) suits.some;
    }
suits_same (Sending s) p q outbounds receiver suits =
    record {
      there = subst (λ os. s < length os) (sym outbounds) suits.there;
      going =
          subst (λ os. IsGoing (slice_index_or os s no_outbound).sender.phase) (sym outbounds)
          suits.going;
    }
suits_same (Polling Nothing) p q outbounds receiver suits = receiver ∙ suits
suits_same (Polling Uninterrupted) p q outbounds receiver suits = tt
suits_same (Polling Interrupted) p q outbounds receiver suits = tt

-- what the store has of each channel of a control station
module _ (left : Channel → Contents) (c : ControlValue) (has : LeavesControl left c) where
  abbrev ts : List TerminalValue
  ts = terminals c

  -- there is this terminal
  arrived_from : (t : ℕ) → t < length c.peers
      → HasAllReceived (left (From (terminal_at ts t).poll)) (peer_at c t).spool.records
  arrived_from t few =
      subst (HasAllReceived (left (From (terminal_at ts t).poll)))
      (ap (λ b. if b then (peer_at c t).spool.records else []) (lt-ltb t (length c.peers) few))
      (all_each (HasReceivedOn kept_at_control waiting_at_control arrived_at_control left c)
      (polled_at ts) (length ts) t
      (omega (arith, few, length-map c.peers (λ (p : PeerValue). p.terminal))) has.received).0

  -- and this selection address
  pub side_left : HasSides c → (t s : ℕ) → s < length (peer_at c t).outbounds
      → HasAllSent (left (channel_to (terminal_at ts t) s)) (kept_of_side (outbound_of c t s))
      (waiting (outbound_of c t s).queue)
  side_left sides t s within =
      let few = peer_of_side c t s within in
      let o = outbound_of c t s in
      let there : (nat_lt t (length c.peers) && nat_lt s (length (peer_at c t).outbounds)) ≡ true =
      and_from (nat_lt t (length c.peers)) (nat_lt s (length (peer_at c t).outbounds))
      (lt-ltb t (length c.peers) few) (lt-ltb s (length (peer_at c t).outbounds) within) in
      let one =
      (all_each (HasSentOn kept_at_control waiting_at_control arrived_at_control left c)
      (selection_of (terminal_at ts t) t) (length (terminal_at ts t).selects) s
      (omega (arith, within, sides t))
      (all_each (HasSentOn kept_at_control waiting_at_control arrived_at_control left c)
      (selections_at ts) (length ts) t
      (omega (arith, few, length-map c.peers (λ (p : PeerValue). p.terminal))) has.sent)).0 in
      subst
      (λ b. HasSentIf (left (channel_to (terminal_at ts t) s))
      (if b then Some (kept_of_side o) else None) (waiting o.queue))
      there one

  sent_to : HasSides c → SidesFit c → (t s : ℕ) → s < length (peer_at c t).outbounds
      → HasSent (left (channel_to (terminal_at ts t) s)) (kept_of_side (outbound_of c t s))
      (waiting (outbound_of c t s).queue)
  sent_to sides fits t s within =
      let o = outbound_of c t s in
      sent_if_fits (left (channel_to (terminal_at ts t) s)) (kept_of_side o) (waiting o.queue)
      (length o.queue.offered) (fits t s within) (side_left sides t s within)

-- a control station whose spools have other records
module _ (c : ControlValue) (f : ℕ → List (List ℕ)) where
  abbrev whole : ControlValue
  whole = record c { peers = filled_peers f 0 c.peers }

  pub its_terminals : terminals whole ≡ terminals c
  its_terminals = same_terminals f 0 c.peers

  pub its_peers : length whole.peers ≡ length c.peers
  its_peers = as_many_peers f 0 c.peers

  pub its_outbounds : (t : ℕ) → (peer_at whole t).outbounds ≡ (peer_at c t).outbounds
  its_outbounds t = same_outbounds f 0 c.peers t

  pub its_side : (t s : ℕ) → outbound_of whole t s ≡ outbound_of c t s
  its_side t s = ap (λ os. slice_index_or os s no_outbound) (its_outbounds t)

  pub its_peer : (t : ℕ) → t < length c.peers → peer_at whole t ≡ with_records (peer_at c t) (f t)
  its_peer t few =
      let at : 0 + t ≡ t = omega arith in
      peer_filled f 0 c.peers t no_peer few ∙ ap (λ k. with_records (peer_at c t) (f k)) at

  orderly : IsOrderly c → IsOrderly whole
  orderly is =
      record {
        suits =
            suits_same c.task (peer c) (peer whole) (its_outbounds (current c))
            (same_receiver f 0 c.peers (current c)) is.suits;
        rests = λ t s unused.
            subst (λ (o : OutboundValue). IsAtRest o.sender.phase) (sym (its_side t s))
            (is.rests t s unused);
        settings = λ t s there.
            subst (HasSettings whole) (sym (its_side t s))
            (let had =
            is.settings t s (omega (arith, there, ap (λ os. length os) (its_outbounds t))) in
            record { setup = had.setup; format = had.format });
      }

  entries : HasEntries c → HasEntries whole
  entries has =
      record {
        place = has.place;
        entries =
            subst (λ n. All (λ t. t < n) c.poll_list) (sym its_peers) has.entries;
        peers = λ i d within.
            let was : i < length c.peers = omega (arith, within, its_peers) in
            let it = slice_index_or c.peers i d in
            let peer_is : IsPeer it = has.peers i d was in
            subst IsPeer (sym (peer_filled f 0 c.peers i d was))
            (record {
              terminal = peer_is.terminal;
              outbounds = peer_is.outbounds;
              ready = peer_is.ready;
            });
      }

  pub is_control : IsControl c → IsControl whole
  is_control is =
      record {
        some = subst (λ n. 1 ≤ n) (sym its_peers) is.some;
        few = omega (arith, its_peers, is.few);
        list = is.list;
        distinct = subst AreDistinct (sym its_terminals) is.distinct;
        entries = entries is.entries;
        orderly = orderly is.orderly;
      }

pub control_after_crash : ControlBeginsAgain → ControlBeginsAfterCrash
control_after_crash begins left forgets_printed c new filled is sides fits is_new apart has made =
    let its : ℕ → Contents = λ t. left (From (terminal_at (terminals c) t).poll) in
    let all : ℕ → List (List ℕ) = λ t. records_from 0 (its t).arrived in
    let w = whole c all in
    let at : terminals w ≡ terminals c = its_terminals c all in
    let in_spool : (t : ℕ) → t < length c.peers → (peer_at w t).spool.records ≡ all t =
    λ t few. ap (λ (p : PeerValue). p.spool.records) (its_peer c all t few) in
    let its_sides : HasSides w =
    λ t.
    ap (λ os. length os) (its_outbounds c all t) ∙ sides t
    ∙ ap (λ ts. length (terminal_at ts t).selects) (sym at) in
    let within : (t s : ℕ) → s < length (peer_at w t).outbounds
    → s < length (peer_at c t).outbounds =
    λ t s few. omega (arith, few, ap (λ os. length os) (its_outbounds c all t)) in
    let its_fit : SidesFit w =
    λ t s few.
    subst (λ (o : OutboundValue). FitsOffered (kept_of_side o) (length o.queue.offered))
    (sym (its_side c all t s)) (fits t s (within t s few)) in
    let keeps : HasControl left forgets_printed w =
    record {
      sent = λ t s few.
          subst
          (λ ts. HasSent (left (channel_to (terminal_at ts t) s)) (kept_of_side (outbound_of w t s))
          (waiting (outbound_of w t s).queue))
          (sym at)
          (subst
          (λ (o : OutboundValue). HasSent (left (channel_to (terminal_at (terminals c) t) s))
          (kept_of_side o) (waiting o.queue))
          (sym (its_side c all t s)) (sent_to left c has sides fits t s (within t s few)));
      received = λ t few.
          let was : t < length c.peers = omega (arith, few, its_peers c all) in
          subst
          (λ ts. HasReceived (left (From (terminal_at ts t).poll)) forgets_printed
          (peer_at w t).spool.records)
          (sym at)
          (subst (HasReceived (its t) forgets_printed) (sym (in_spool t was))
          (received_whole (its t) forgets_printed));
    } in (
      w,
      record {
        others = refl;
        peers = its_peers c all;
        addresses = at;
        each = λ t few.
            let got = arrived_from left c has t few in
            record {
              others =
                  ap (λ (p : PeerValue). record p { spool = (peer_at c t).spool })
                  (its_peer c all t few);
              all = in_spool t few;
              places = got.places;
              same = got.same ∙ ap (forgotten got.places) (sym (in_spool t few));
            };
      },
      begins left forgets_printed w new filled (is_control c all is) its_sides its_fit
          (subst (λ ts. IsNewControl c.setup ts c.poll_list new) (sym at) is_new) apart keeps
          (subst
          (λ ts. IsControlFilledFrom left forgets_printed (sending_of ts Control)
          (receiving_of ts Control) new filled)
          (sym at) made),
    )
