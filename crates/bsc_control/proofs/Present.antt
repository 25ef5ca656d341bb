-- What the calls of the present entry leave when the station and the peer are read by their fields.
use Rattle.std.proofs.Common.{◌≡◌, ℕ, ◌+◌, ◌<◌, ◌≤◌, Bool, true, false, List, length, drop}
use Rattle.std.proofs.Common.{Option, None, Some, refl, sym, ap, ◌∙◌, subst, arith, length-drop}
use Rattle.std.proofs.lemmas.Bool.Decides.{nat_tests}
use Rattle.std.proofs.lemmas.List.Quantifiers.{position-Some}
use Rattle.std.specs.Prelude.{nat_lt, position, slice_set, slice_get, if◌then◌else◌}
use Rattle.bsc_frame.specs.declared.message.Message.{Message}
use Rattle.bsc_frame.specs.declared.message.Message.TheVariants as m
use Rattle.bsc_bid.specs.declared.outcome.Outcome.{Outcome}
use Rattle.bsc_bid.specs.Act.{message_for, outcome_of}
use Rattle.bsc_bid.specs.Receiver.{ReceiverValue, new_receiver}
use Rattle.bsc_bid.specs.Sender.{SenderStep}
use Rattle.bsc_control.specs.declared.task.Replied.TheVariants.{Nothing}
use Rattle.bsc_control.specs.declared.task.Task.TheVariants.{Selecting, Polling}
use Rattle.bsc_bid.specs.declared.way.Way.TheVariants.{ToTerminal}
use Rattle.bsc_control.specs.CallOrder.{After, Selection, way_at, way_from}
use Rattle.bsc_control.specs.Control.{ControlValue, peer_at}
use Rattle.bsc_control.specs.Control.{terminal_of_entry, current, peer, answer_step, with_peer}
use Rattle.bsc_control.specs.Peer.{OutboundValue, PeerValue, IsPeer, outbound_at, with_outbound}
use Rattle.bsc_control.specs.Peer.{no_outbound, outbound_after, is_selectable}
use Rattle.bsc_control.specs.Table.{poll_call_step, selection_call_step, select_address}
use Rattle.bsc_control.specs.Table.{next_call_step, silence_in, repeated, performed, bid_step}
use Rattle.bsc_control.proofs.Calls.{select_address_at}
use Rattle.bsc_control.proofs.Reached.{IsPeerReached, IsReached}

-- a selection address of the peer is one of its terminal
pub select_reached : (c d : ControlValue) (t e s : ℕ) (p : PeerValue) → IsPeerReached c d t p
    → t ≡ e → s < length (peer_at c e).outbounds → IsPeer p → s < length p.terminal.selects
select_reached c d t e s p reached same there is =
    let own : p ≡ peer_at c e = reached.peer ∙ ap (peer_at c) same in
    subst (λ (n : ℕ). s < n) (ap (λ (x : PeerValue). length x.outbounds) (sym own) ∙ is.outbounds)
    there

-- the polling address of the entry is called
pub polling_address_is_called : (c d : ControlValue) (t place failures : ℕ) (p : PeerValue) (receiver : ReceiverValue)
    (address : List ℕ) → IsPeerReached c d t p → t ≡ terminal_of_entry c place → receiver
    ≡ new_receiver true → address ≡ p.terminal.poll
    → record {
      control = record d {
        place = place;
        task = Polling Nothing;
        failures = failures;
        wacks = 0;
        peers = slice_set d.peers t (record p { receiver = receiver });
      };
      sent = Some (m.Call address);
    } ≡ poll_call_step c place failures
polling_address_is_called c d t place failures p receiver address reached entry new is =
    cc (reached.station, reached.peer, entry, new, is)

-- a selection address of the entry is called
pub selection_address_is_called : (c d : ControlValue) (t place s : ℕ) (p : PeerValue) (address : List ℕ)
    → IsPeerReached c d t p → t ≡ terminal_of_entry c place → s < length p.terminal.selects
    → slice_get p.terminal.selects s ≡ Some address
    → record {
      control = record d {
        place = place;
        task = Selecting s false;
        failures = 0;
        wacks = 0;
        peers = slice_set d.peers t (record p { urgent = false });
      };
      sent = Some (m.Call address);
    } ≡ selection_call_step c place s
selection_address_is_called c d t place s p address reached entry there is =
    cc (reached.station, reached.peer, entry, is, select_address_at p.terminal s there)

-- after as many failures as there are tries, the limit is passed
over_limit_after_tries : (n k : ℕ) → n ≤ k → nat_lt n (k + 1) ≡ true
over_limit_after_tries n k most = grind (arith, nat_tests)

not_over : (n k : ℕ) → k < n → nat_lt n (k + 1) ≡ false
not_over n k less = grind (arith, nat_tests)

-- the call after the last try
pub next_call_after_last_try : (c : ControlValue) (tries failures s : ℕ) (enquired : Bool) → tries ≡ c.setup.tries
    → failures ≡ c.failures → tries ≤ failures
    → next_call_step c (Selection s) ≡ silence_in c (Selecting s enquired)
next_call_after_last_try c tries failures s enquired tries_is failures_is most =
    let test : nat_lt c.setup.tries (c.failures + 1) ≡ true =
    over_limit_after_tries c.setup.tries c.failures (rw (← tries_is, ← failures_is) most) in
    sym (ap (λ b. if b then next_call_step c (Selection s)
    else answer_step (record c { failures = c.failures + 1 }) (repeated c s enquired)) test)

-- another try, by what was sent last
pub tried_again : (c d : ControlValue) (tries s : ℕ) (enquired : Bool) (message : Message) → d ≡ c
    → tries ≡ c.setup.tries → d.failures < tries → message ≡ repeated c s enquired
    → record { control = record d { failures = d.failures + 1 }; sent = Some message }
    ≡ silence_in c (Selecting s enquired)
tried_again c d tries s enquired message same tries_is less message_is =
    let test : nat_lt c.setup.tries (c.failures + 1) ≡ false =
    not_over c.setup.tries c.failures
    (rw (← tries_is) (subst (λ (x : ControlValue). x.failures < tries) same less)) in
    let again : record { control = record d { failures = d.failures + 1 }; sent = Some message }
    ≡ answer_step (record c { failures = c.failures + 1 }) (repeated c s enquired) =
    cc (same, message_is) in
    again ∙ sym (ap (λ b. if b then next_call_step c (Selection s)
    else answer_step (record c { failures = c.failures + 1 }) (repeated c s enquired)) test)

-- the call to a selection address of the present terminal
pub call_again : (c d : ControlValue) (t s : ℕ) (p : PeerValue) (enquired : Bool)
    (address : List ℕ) → IsPeerReached c d t p → t ≡ current c → enquired ≡ false
    → s < length p.terminal.selects → slice_get p.terminal.selects s ≡ Some address
    → m.Call address ≡ repeated c s enquired
call_again c d t s p enquired address reached entry not_enquired there is =
    let own : p ≡ peer c = reached.peer ∙ ap (peer_at c) entry in
    let same : address ≡ select_address p.terminal s =
    cc (is, select_address_at p.terminal s there) in
    ap m.Call (same ∙ ap (λ (x : PeerValue). select_address x.terminal s) own)
    ∙ ap (repeated c s) (sym not_enquired)

found_select_within_outbounds : (p : PeerValue) (from s : ℕ) (found : Option ℕ)
    → position is_selectable (drop from p.outbounds) ≡ found → ToTerminal s ≡ way_at from found
    → s < length p.outbounds
found_select_within_outbounds p from s None e is = absurd (cc)
found_select_within_outbounds p from s (Some i) e is =
    let at : from + i ≡ s = cc in
    let there = position-Some is_selectable (drop from p.outbounds) i no_outbound e in
    omega (arith, at, there.0, length-drop from p.outbounds)

-- a way to the terminal leads to one of its selection addresses
pub way_within_outbounds : (p : PeerValue) (from s : ℕ) → ToTerminal s ≡ way_from p from
    → s < length p.outbounds
way_within_outbounds p from s is =
    found_select_within_outbounds p from s (position is_selectable (drop from p.outbounds)) refl is

-- a step of the sender to this address, and what is done after it
pub step_made : (c d : ControlValue) (t s : ℕ) (p : PeerValue) (o x : OutboundValue)
    (outcome : Outcome) (message : Option Message) (step : OutboundValue → SenderStep)
    (next after : After) → IsReached c d t s p o → t ≡ current c → x ≡ outbound_after (step o)
    → outcome ≡ outcome_of (step o).act → message ≡ message_for (step o).act → next ≡ after
    → performed (with_peer d t (with_outbound p s x)) s outcome message next
    ≡ bid_step c s (step (outbound_at (peer c) s)) after
step_made c d t s p o x outcome message step next after reached present x_is outcome_is message_is same =
    cc (
      reached.reached.station,
      reached.reached.peer,
      reached.outbound,
      present,
      x_is,
      outcome_is,
      message_is,
      same,
    )
