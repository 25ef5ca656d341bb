-- What each row of the table keeps.
use Rattle.std.proofs.Common.{◌≡◌, ◌⊎◌, inl, inr, ℕ, ◌+◌, ◌<◌, nat_lt, Bool, true, false, List}
use Rattle.std.proofs.Common.{length, get_or, set, Option, option_map, None, Some, refl, sym, ◌∙◌}
use Rattle.std.proofs.Common.{ap, subst, arith, if◌then◌else◌}
use Rattle.bsc_frame.specs.declared.message.Message.{Message}
use Rattle.bsc_frame.specs.declared.message.Message.TheVariants as m
use Rattle.bsc_frame.specs.declared.message.Heard.{Heard}
use Rattle.bsc_frame.specs.declared.message.Heard.TheVariants.{Whole, Failed, Noise}
use Rattle.bsc_bid.specs.Act as a
use Rattle.bsc_frame.specs.declared.reply.Reply.{Reply}
use Rattle.bsc_frame.specs.declared.reply.Reply.TheVariants.{Ack0, Ack1, Nak, Wack, Rvi}
use Rattle.bsc_bid.specs.Receiver.{ReceiverStep, Rooms, new_receiver, heard_step, sends_interrupt}
use Rattle.bsc_frame.specs.Replies.{reply_in}
use Rattle.bsc_bid.specs.Sender.{SenderStep, begin_step, reply_step, silence_step}
use Rattle.bsc_control.specs.declared.task.Replied.{Replied}
use Rattle.bsc_control.specs.declared.task.Replied.TheVariants.{Nothing, Uninterrupted, Interrupted}
use Rattle.bsc_control.specs.declared.task.Task.{Task}
use Rattle.bsc_control.specs.declared.task.Task.TheVariants.{AtRest, Selecting, Sending, Polling}
use Rattle.std.specs.List.{slice_get}
use Rattle.bsc_bid.specs.declared.way.Way.TheVariants.{ToTerminal}
use Rattle.bsc_bid.specs.Addresses.{IsAddressOf}
use Rattle.bsc_control.specs.CallOrder.{After, Start, Selection, Interruption, Poll, next_call}
use Rattle.bsc_control.specs.Control.{ControlValue, ControlStep, HasEntries, terminals, peer_at}
use Rattle.bsc_control.specs.Control.{peer, current, quiet_step, answer_step}
use Rattle.bsc_control.specs.Kept.{SuitsTask, IsSelected, IsInBid, outbound_of, IsOrderly, Keeps}
use Rattle.bsc_control.specs.Kept.{IsCalled, IsRepeated, GrowsByText, after_hearing, after_silence}
use Rattle.bsc_control.specs.Kept.{way_of}
use Rattle.bsc_control.specs.Peer.{PeerValue, no_peer}
use Rattle.bsc_control.specs.Table.{poll_call_step, next_call_step, bid_step, after_bid}
use Rattle.bsc_control.specs.Table.{selecting_step, receive_step, replied_after, is_interrupted}
use Rattle.bsc_control.specs.Table.{polling_step, task_step, repeated, silence_in, rooms_after}
use Rattle.bsc_control.specs.Table.{Hears, ActsOnSilence, select_address}
use Rattle.bsc_control.proofs.Bids.{OthersRest, keeps_spools_bid_step, calls_bid_step}
use Rattle.bsc_control.proofs.Calls.{IsWithoutBid, KeepsSpools, IsSamePeer, shape_of_entries}
use Rattle.bsc_control.proofs.Calls.{places}
use Rattle.bsc_control.proofs.Calls.{current_within_peers}
use Rattle.bsc_control.proofs.Calls.{keeps_moved, rests_moved, settings_moved}
use Rattle.bsc_control.proofs.Calls.{keeps_spools_poll_call_step, keeps_spools_next_call_step}
use Rattle.bsc_control.proofs.Calls.{next_is_called, terminal_of_peer, select_address_at}
use Rattle.bsc_control.proofs.PeerLists.{map_kept_by_set, value_at_set_place, holds_after_set}
use Rattle.bsc_bid.proofs.ReceiverSteps.{TakesText, Grows, grows_heard_step, silent_heard_step}
use Rattle.bsc_bid.proofs.Choice.{either_branch}
use Rattle.bsc_control.proofs.SenderSteps.{KeepsAndLeaves, keeps_begin_step}
use Rattle.bsc_control.proofs.SenderSteps.{keeps_reply_step, keeps_silence_step}
use Rattle.bsc_bid.proofs.Fitting.{begin_not_quiet}

-- what hearing a transmission keeps
pub record HearingKeeps (old : ControlValue) (h : Heard) (step : ControlStep) : Type 0 where
  pub keeps : Keeps old step.control
  pub orderly : IsOrderly step.control
  pub spools : (t : ℕ)
      → GrowsByText old h t (peer_at old t).spool.records (peer_at step.control t).spool.records
  pub calls : (address : List ℕ) → step.sent ≡ Some (m.Call address)
      → IsCalled step.control (next_call old (after_hearing old.task h)) address

-- what a silence keeps
pub record SilenceKeeps (old : ControlValue) (step : ControlStep) : Type 0 where
  pub keeps : Keeps old step.control
  pub orderly : IsOrderly step.control
  pub spools : (t : ℕ) → (peer_at step.control t).spool ≡ (peer_at old t).spool
  pub calls : (address : List ℕ) → step.sent ≡ Some (m.Call address)
      → IsCalled step.control (next_call old (after_silence old.task)) address
      ⊎ IsRepeated old step.control address

control_keeps_itself : (c : ControlValue) → Keeps c c
control_keeps_itself c =
    record {
      setup = refl;
      poll_list = refl;
      terminals = refl;
      peers = refl;
      polled = λ t. refl;
      outbounds = λ t. refl;
      offered = λ t s. refl;
    }

-- while the station selects or polls, no bid is in progress
without_bid_while : (c : ControlValue) → IsOrderly c → ((s : ℕ) → c.task ≡ Sending s → ⊥) → IsWithoutBid c
without_bid_while c h idle =
    record { rests = λ t s. h.rests t s (λ used. idle s used.1); settings = h.settings }

-- while it sends, only that bid is in progress
others_rest_while_sending : (c : ControlValue) (s : ℕ) → HasEntries c → IsOrderly c → c.task ≡ Sending s → s
    < length (peer c).outbounds → OthersRest c s
others_rest_while_sending c s entries h e there =
    record {
      entries = entries;
      there = there;
      rests = λ t k other. h.rests t k (λ used. other (used.0, cc));
      settings = h.settings;
    }

others_rest_without_bid : (c : ControlValue) (s : ℕ) → HasEntries c → IsWithoutBid c → s < length (peer c).outbounds
    → OthersRest c s
others_rest_without_bid c s entries without_bid there =
    record {
      entries = entries;
      there = there;
      rests = λ t k other. without_bid.rests t k;
      settings =
          without_bid.settings;
    }

hears_quiet : (c : ControlValue) (h : Heard) → IsOrderly c → HearingKeeps c h (quiet_step c)
hears_quiet c h o =
    record {
      keeps = control_keeps_itself c;
      orderly = o;
      spools = λ t. inl refl;
      calls =
          λ address sent. absurd (cc);
    }

-- the next call is made
next_call_after_hearing : (c : ControlValue) (h : Heard) (after : After) → HasEntries c → IsWithoutBid c
    → after_hearing c.task h ≡ after → HearingKeeps c h (next_call_step c after)
next_call_after_hearing c h after entries without_bid e =
    let f : KeepsSpools c (next_call_step c after).control =
    keeps_spools_next_call_step c after without_bid in
    record {
      keeps = f.keeps;
      orderly = f.orderly;
      spools = λ t. inl (ap (λ x. x.records) (f.spools t));
      calls =
          λ address sent. subst (λ (x : After). IsCalled (next_call_step c after).control
          (next_call c x) address) (sym e)
          (next_is_called c after address (shape_of_entries c entries) without_bid sent);
    }

next_call_after_silence : (c : ControlValue) (after : After) → HasEntries c → IsWithoutBid c → after_silence c.task
    ≡ after → SilenceKeeps c (next_call_step c after)
next_call_after_silence c after entries without_bid e =
    let f : KeepsSpools c (next_call_step c after).control =
    keeps_spools_next_call_step c after without_bid in
    record {
      keeps = f.keeps;
      orderly = f.orderly;
      spools = f.spools;
      calls =
          λ address sent. inl
          (subst (λ (x : After). IsCalled (next_call_step c after).control (next_call c x)
          address) (sym e) (next_is_called c after address (shape_of_entries c entries) without_bid sent));
    }

-- a step of the sender, and the act that it leads to
hears_bid_step : (c : ControlValue) (h : Heard) (s : ℕ) (step : SenderStep) (after : After)
    → OthersRest c s
    → KeepsAndLeaves (outbound_of c (current c) s).sender (outbound_of c (current c) s).queue step
    → (step.act ≡ a.Quiet → c.task ≡ Sending s) → (after ≡ Selection s) ⊎ (after ≡ Interruption)
    → after_hearing c.task h ≡ after → HearingKeeps c h (bid_step c s step after)
hears_bid_step c h s step after others keeps quiet which e =
    let f : KeepsSpools c (bid_step c s step after).control =
    keeps_spools_bid_step c s step after others keeps quiet in
    record {
      keeps = f.keeps;
      orderly = f.orderly;
      spools = λ t. inl (ap (λ x. x.records) (f.spools t));
      calls =
          λ address sent. subst (λ (x : After). IsCalled (bid_step c s step after).control
          (next_call c x) address) (sym e)
          (calls_bid_step c s step after address others keeps which sent);
    }

-- a selection is answered
hears_selecting : (c : ControlValue) (h : Heard) (s : ℕ) (r : Option Reply) → HasEntries c
    → IsOrderly c → IsWithoutBid c → IsSelected (peer c) s → after_hearing c.task h ≡ Selection s
    → HearingKeeps c h (selecting_step c s r)
hears_selecting c h s (Some Ack0) entries o without_bid selected e =
    let k = outbound_of c (current c) s in
    hears_bid_step c h s (begin_step k.sender k.queue) (Selection s)
    (others_rest_without_bid c s entries without_bid selected.there) (keeps_begin_step k.sender k.queue)
    (λ q. absurd (begin_not_quiet k.sender k.queue q)) (inl refl) e
hears_selecting c h s (Some Nak) entries o without_bid selected e =
    next_call_after_hearing c h (Selection s) entries without_bid e
hears_selecting c h s (Some Wack) entries o without_bid selected e =
    either_branch (HearingKeeps c h) (nat_lt c.setup.waits (c.wacks + 1)) (next_call_step c (Selection s))
    (answer_step (record c { task = Selecting s true; failures = 0; wacks = c.wacks + 1 }) m.Enq)
    (next_call_after_hearing c h (Selection s) entries without_bid e)
    (record {
      keeps =
          record {
            setup = refl;
            poll_list = refl;
            terminals = refl;
            peers = refl;
            polled = λ t. refl;
            outbounds =
                λ t. refl;
            offered = λ t k. refl;
          };
      orderly =
          record {
            suits = selected;
            rests = λ t k unused. without_bid.rests t k;
            settings =
                λ t k there. record {
                  setup = (without_bid.settings t k there).setup;
                  format =
                      (without_bid.settings t k there).format;
                };
          };
      spools = λ t. inl refl;
      calls = λ address sent. absurd (cc);
    })
hears_selecting c h s (Some Ack1) entries o without_bid selected e = hears_quiet c h o
hears_selecting c h s (Some Rvi) entries o without_bid selected e = hears_quiet c h o
hears_selecting c h s None entries o without_bid selected e = hears_quiet c h o

which_after_bid : (s : ℕ) (r : Option Reply) → (after_bid s r ≡ Selection s)
    ⊎ (after_bid s r ≡ Interruption)
which_after_bid s (Some Rvi) = inr refl
which_after_bid s (Some Ack0) = inl refl
which_after_bid s (Some Ack1) = inl refl
which_after_bid s (Some Nak) = inl refl
which_after_bid s (Some Wack) = inl refl
which_after_bid s None = inl refl

-- no reply is a call
pub reply_is_no_call : (r : Option Reply) (address : List ℕ) → option_map m.Reply r ≡ Some (m.Call address)
    → ⊥
reply_is_no_call None address e = cc
reply_is_no_call (Some r) address e = cc

-- while nothing was replied in a poll, the receiver is as new
task_suits_after_reply : (c : ControlValue) (p : PeerValue) (replied : Replied) (r : Option Reply)
    → (r ≡ None → p.receiver ≡ (peer c).receiver) → SuitsTask (Polling replied) (peer c)
    → SuitsTask (Polling (replied_after replied r))
    (get_or (set c.peers (current c) p) (current c) no_peer)
task_suits_after_reply c p Nothing None same suits =
    let is : p.receiver ≡ new_receiver true = same refl ∙ suits in
    value_at_set_place (λ (x : PeerValue). x.receiver) c.peers (current c) p no_peer (sym is) ∙ is
task_suits_after_reply c p Uninterrupted None same suits = tt
task_suits_after_reply c p Interrupted None same suits = tt
task_suits_after_reply c p Nothing (Some Ack0) same suits = tt
task_suits_after_reply c p Nothing (Some Ack1) same suits = tt
task_suits_after_reply c p Nothing (Some Nak) same suits = tt
task_suits_after_reply c p Nothing (Some Wack) same suits = tt
task_suits_after_reply c p Nothing (Some Rvi) same suits = tt
task_suits_after_reply c p Uninterrupted (Some Ack0) same suits = tt
task_suits_after_reply c p Uninterrupted (Some Ack1) same suits = tt
task_suits_after_reply c p Uninterrupted (Some Nak) same suits = tt
task_suits_after_reply c p Uninterrupted (Some Wack) same suits = tt
task_suits_after_reply c p Uninterrupted (Some Rvi) same suits = tt
task_suits_after_reply c p Interrupted (Some Ack0) same suits = tt
task_suits_after_reply c p Interrupted (Some Ack1) same suits = tt
task_suits_after_reply c p Interrupted (Some Nak) same suits = tt
task_suits_after_reply c p Interrupted (Some Wack) same suits = tt
task_suits_after_reply c p Interrupted (Some Rvi) same suits = tt

text_grows_spool : (c : ControlValue) (h : Heard) (replied : Replied) (old new : List (List ℕ)) → c.task
    ≡ Polling replied → (new ≡ old) ⊎ TakesText h old new → GrowsByText c h (current c) old new
text_grows_spool c h replied old new e (inl same) = inl same
text_grows_spool c h replied old new e (inr x) =
    inr (record {
      text = x.text;
      heard = x.heard;
      replied = replied;
      polling = e;
      polled = refl;
      becomes = x.becomes;
    })

-- the receiver replies
hears_receiving_step : (c : ControlValue) (h : Heard) (replied : Replied) (step : ReceiverStep)
    → HasEntries c → IsOrderly c → IsWithoutBid c → c.task ≡ Polling replied
    → SuitsTask (Polling replied) (peer c)
    → Grows h (peer c).spool step → (step.reply ≡ None → step.receiver ≡ (peer c).receiver)
    → HearingKeeps c h (receive_step c replied step)
hears_receiving_step c h replied step entries o without_bid e suits grows silent =
    let t : ℕ = current c in
    let p : PeerValue =
    record (peer c) {
      receiver = step.receiver;
      spool = step.spool;
      urgent =
          if sends_interrupt step.reply then false else (peer c).urgent;
    } in
    let same : IsSamePeer c t p = record { terminal = refl; polled = refl; outbounds = refl } in
    let task : Task = Polling (replied_after replied step.reply) in
    record {
      keeps = keeps_moved c t p c.place task c.failures c.wacks same;
      orderly =
          record {
            suits = task_suits_after_reply c p replied step.reply silent suits;
            rests = λ j k unused. rests_moved c t p same j k (without_bid.rests j k);
            settings = settings_moved c t p c.place task c.failures c.wacks same without_bid.settings;
          };
      spools =
          holds_after_set (λ (j : ℕ) (x : PeerValue). GrowsByText c h j (peer_at c j).spool.records
          x.spool.records) c.peers t p no_peer
          (text_grows_spool c h replied (peer c).spool.records step.spool.records e grows)
          (λ le. absurd (omega (arith, le, current_within_peers c (places c entries))))
          (λ j ne. inl refl);
      calls = λ address sent. absurd (reply_is_no_call step.reply address sent);
    }

hears_heard : (c : ControlValue) (h : Heard) (replied : Replied) (rooms : Rooms) → HasEntries c
    → IsOrderly c → IsWithoutBid c → c.task ≡ Polling replied → SuitsTask (Polling replied) (peer c)
    → HearingKeeps c h (receive_step c replied
    (heard_step (peer c).receiver (peer c).spool h (peer c).urgent rooms))
hears_heard c h replied rooms entries o without_bid e suits =
    hears_receiving_step c h replied (heard_step (peer c).receiver (peer c).spool h (peer c).urgent
    rooms) entries o without_bid e suits
    (grows_heard_step (peer c).receiver (peer c).spool h (peer c).urgent rooms)
    (silent_heard_step (peer c).receiver (peer c).spool h (peer c).urgent rooms)

-- a poll is answered
hears_polling : (c : ControlValue) (h : Heard) (replied : Replied) (rooms : Rooms) → HasEntries c
    → IsOrderly c → IsWithoutBid c → c.task ≡ Polling replied → SuitsTask (Polling replied) (peer c)
    → HearingKeeps c h (polling_step c replied h rooms)
hears_polling c (Whole m.Eot) replied rooms entries o without_bid e suits =
    next_call_after_hearing c (Whole m.Eot) (Poll (is_interrupted replied)) entries without_bid
    (ap (λ (task : Task). after_hearing task (Whole m.Eot)) e)
hears_polling c Noise replied rooms entries o without_bid e suits =
    hears_heard c Noise replied rooms entries o without_bid e suits
hears_polling c Failed replied rooms entries o without_bid e suits =
    hears_heard c Failed replied rooms entries o without_bid e suits
hears_polling c (Whole (m.Call x)) replied rooms entries o without_bid e suits =
    hears_heard c (Whole (m.Call x)) replied rooms entries o without_bid e suits
hears_polling c (Whole m.Enq) replied rooms entries o without_bid e suits =
    hears_heard c (Whole m.Enq) replied rooms entries o without_bid e suits
hears_polling c (Whole (m.Reply r)) replied rooms entries o without_bid e suits =
    hears_heard c (Whole (m.Reply r)) replied rooms entries o without_bid e suits
hears_polling c (Whole (m.Text x)) replied rooms entries o without_bid e suits =
    hears_heard c (Whole (m.Text x)) replied rooms entries o without_bid e suits

hears_task : (c : ControlValue) (task : Task) (h : Heard) (rooms : Rooms) → HasEntries c
    → IsOrderly c → c.task ≡ task → HearingKeeps c h (task_step c task h rooms)
hears_task c AtRest h rooms entries o e = hears_quiet c h o
hears_task c (Selecting s enquired) h rooms entries o e =
    let selected : IsSelected (peer c) s =
    subst (λ (task : Task). SuitsTask task (peer c)) e o.suits in
    hears_selecting c h s (reply_in h) entries o (without_bid_while c o (λ k used. absurd (cc)))
    selected (ap (λ (task : Task). after_hearing task h) e)
hears_task c (Sending s) h rooms entries o e =
    let bid : IsInBid (peer c) s = subst (λ (task : Task). SuitsTask task (peer c)) e o.suits in
    let k = outbound_of c (current c) s in
    hears_bid_step c h s (reply_step k.sender k.queue (reply_in h)) (after_bid s (reply_in h))
    (others_rest_while_sending c s entries o e bid.there)
    (keeps_reply_step k.sender k.queue (reply_in h) bid.going) (λ q. e)
    (which_after_bid s (reply_in h)) (ap (λ (task : Task). after_hearing task h) e)
hears_task c (Polling replied) h rooms entries o e =
    hears_polling c h replied rooms entries o (without_bid_while c o (λ k used. absurd (cc))) e
    (subst (λ (task : Task). SuitsTask task (peer c)) e o.suits)

-- what hearing a transmission keeps, by the table
pub hearing_keeps : (old : ControlValue) (h : Heard) (new : ControlValue) (sent : Option Message)
    → HasEntries old → IsOrderly old → Hears old h new sent
    → HearingKeeps old h (record { control = new; sent = sent })
hearing_keeps old h new sent entries o heard =
    subst (HearingKeeps old h) (sym heard.row)
    (hears_task old old.task h (rooms_after old h new) entries o refl)

-- a selection is called again, or ENQ is sent again
selection_or_enq_repeated : (c : ControlValue) (s : ℕ) (enquired : Bool) (address : List ℕ) → HasEntries c → c.task
    ≡ Selecting s enquired → IsSelected (peer c) s → repeated c s enquired ≡ m.Call address
    → IsRepeated c (record c { failures = c.failures + 1 }) address
selection_or_enq_repeated c s true address entries e selected sent = absurd (cc)
selection_or_enq_repeated c s false address entries e selected sent =
    let within = current_within_peers c (places c entries) in
    let select : s < length (peer c).terminal.selects =
    subst (λ (n : ℕ). s < n) (entries.peers (current c) no_peer within).outbounds
    selected.there in
    let own : slice_get (peer c).terminal.selects s ≡ Some (select_address (peer c).terminal s) =
    select_address_at (peer c).terminal s select in
    let called : IsAddressOf (terminals c) (current c) (ToTerminal s) address =
    record {
      terminal = (peer c).terminal;
      there = terminal_of_peer c (current c) within;
      its_own =
          cc;
    } in
    record {
      place = refl;
      task = refl;
      called =
          subst (λ (task : Task). IsAddressOf (terminals c) (current c) (way_of task) address)
          (sym e) called;
      failures = refl;
    }

repeats_poll : (c : ControlValue) (address : List ℕ) → HasEntries c → c.task ≡ Polling Nothing
    → (poll_call_step c c.place (c.failures + 1)).sent ≡ Some (m.Call address)
    → IsRepeated c (poll_call_step c c.place (c.failures + 1)).control address
repeats_poll c address entries e sent =
    let t : ℕ = current c in
    let p : PeerValue = record (peer c) { receiver = new_receiver true } in
    record {
      place = refl;
      task = sym e;
      called =
          record {
            terminal = (peer c).terminal;
            there =
                rw (map_kept_by_set (λ (x : PeerValue). x.terminal) c.peers t p no_peer refl)
                (terminal_of_peer c t (current_within_peers c (places c entries)));
            its_own = cc;
          };
      failures = refl;
    }

silent_selecting : (c : ControlValue) (s : ℕ) (enquired : Bool) → HasEntries c → IsOrderly c
    → IsWithoutBid c → c.task ≡ Selecting s enquired → IsSelected (peer c) s
    → SilenceKeeps c (silence_in c (Selecting s enquired))
silent_selecting c s enquired entries o without_bid e selected =
    either_branch (SilenceKeeps c) (nat_lt c.setup.tries (c.failures + 1)) (next_call_step c (Selection s))
    (answer_step (record c { failures = c.failures + 1 }) (repeated c s enquired))
    (next_call_after_silence c (Selection s) entries without_bid (ap after_silence e))
    (record {
      keeps =
          record {
            setup = refl;
            poll_list = refl;
            terminals = refl;
            peers = refl;
            polled = λ t. refl;
            outbounds =
                λ t. refl;
            offered = λ t k. refl;
          };
      orderly =
          record {
            suits = o.suits;
            rests = λ t k unused. without_bid.rests t k;
            settings =
                λ t k there. record {
                  setup = (without_bid.settings t k there).setup;
                  format =
                      (without_bid.settings t k there).format;
                };
          };
      spools = λ t. refl;
      calls = λ address sent. inr (selection_or_enq_repeated c s enquired address entries e selected cc);
    })

silent_task : (c : ControlValue) (task : Task) → HasEntries c → IsOrderly c → c.task ≡ task
    → SilenceKeeps c (silence_in c task)
silent_task c AtRest entries o e =
    next_call_after_silence c Start entries (without_bid_while c o (λ k used. absurd (cc))) (ap after_silence e)
silent_task c (Selecting s enquired) entries o e =
    silent_selecting c s enquired entries o (without_bid_while c o (λ k used. absurd (cc))) e
    (subst (λ (task : Task). SuitsTask task (peer c)) e o.suits)
silent_task c (Sending s) entries o e =
    let bid : IsInBid (peer c) s = subst (λ (task : Task). SuitsTask task (peer c)) e o.suits in
    let k = outbound_of c (current c) s in
    let others = others_rest_while_sending c s entries o e bid.there in
    let step = silence_step k.sender k.queue in
    let keeps = keeps_silence_step k.sender k.queue bid.going in
    let f : KeepsSpools c (bid_step c s step (Selection s)).control =
    keeps_spools_bid_step c s step (Selection s) others keeps (λ q. e) in
    record {
      keeps = f.keeps;
      orderly = f.orderly;
      spools = f.spools;
      calls = λ address sent.
          inl (subst (λ (x : After). IsCalled (bid_step c s step (Selection s)).control
          (next_call c x) address) (sym (ap after_silence e))
          (calls_bid_step c s step (Selection s) address others keeps (inl refl) sent));
    }
silent_task c (Polling Nothing) entries o e =
    let without_bid = without_bid_while c o (λ k used. absurd (cc)) in
    let f : KeepsSpools c (poll_call_step c c.place (c.failures + 1)).control =
    keeps_spools_poll_call_step c c.place (c.failures + 1) without_bid in
    either_branch (SilenceKeeps c) (nat_lt c.setup.tries (c.failures + 1)) (next_call_step c (Poll false))
    (poll_call_step c c.place (c.failures + 1))
    (next_call_after_silence c (Poll false) entries without_bid (ap after_silence e))
    (record {
      keeps = f.keeps;
      orderly = f.orderly;
      spools = f.spools;
      calls =
          λ address sent. inr (repeats_poll c address entries e sent);
    })
silent_task c (Polling Uninterrupted) entries o e =
    next_call_after_silence c (Poll false) entries (without_bid_while c o (λ k used. absurd (cc))) (ap after_silence e)
silent_task c (Polling Interrupted) entries o e =
    next_call_after_silence c (Poll true) entries (without_bid_while c o (λ k used. absurd (cc))) (ap after_silence e)

-- what a silence keeps, by the table
pub silence_keeps : (old new : ControlValue) (sent : Option Message) → HasEntries old
    → IsOrderly old → ActsOnSilence old new sent
    → SilenceKeeps old (record { control = new; sent = sent })
silence_keeps old new sent entries o row =
    subst (SilenceKeeps old) (sym row) (silent_task old old.task entries o refl)
