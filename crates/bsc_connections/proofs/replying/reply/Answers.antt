-- `reply` sends the answer on all connections or withholds it, and tells the monitor of it, or does
-- nothing.
use Rattle.std.proofs.Common.{rules, ◌≡◌, ◌∙◌, ◌&&◌, Bool, Result, Ok, Err, Some, None, true, false}
use Rattle.std.proofs.Common.{sym, ap}
use Rattle.bsc_frame.specs.Wire.{wire}
use Rattle.bsc_connections.specs.declared.awaited.LiveError.{LiveError}
use Rattle.bsc_connections.specs.Parts.{connection_parts}
use Rattle.bsc_connections.specs.Attending.{both_go_on}
use Rattle.bsc_connections.proofs.Sending.{replies_message, replies_none, replies_nothing}
use Rattle.bsc_connections.proofs.replying.reply.Goals as goal

-- The monitor goes on after the second as well, or does not.
goes_on_if_later : (goes_on later : Bool) (told : Result Bool LiveError) → told ≡ Ok later
    → later ≡ true → Ok goes_on ≡ both_go_on (Ok goes_on) told
goes_on_if_later goes_on later told is on =
    sym (ap (λ (r : Result Bool LiveError). both_go_on (Ok goes_on) r) is
    ∙ ap (λ (b : Bool). Ok (b && goes_on)) on)

ends_if_not_later : (goes_on later : Bool) (told : Result Bool LiveError) → told ≡ Ok later
    → later ≡ false → Ok later ≡ both_go_on (Ok goes_on) told
ends_if_not_later goes_on later told is off =
    ap (λ (b : Bool). Ok b) off
    ∙ sym (ap (λ (r : Result Bool LiveError). both_go_on (Ok goes_on) r) is
    ∙ ap (λ (b : Bool). Ok (b && goes_on)) off)

pub returns-in-Err-clause-replies : goal.returns-in-Err-clause-replies
returns-in-Err-clause-replies g c =
    replies_nothing
    (connection_parts g.R.Read g.W.Write g.F.Framing) g.M.Monitor.is_told g.T.Waiter.permits
    c.args.told c.in-Err.error c.in-Err.is c.args.answer.now c.args.station.now _ _

pub returns-in_default-clause-replies : goal.returns-in_default-clause-replies
returns-in_default-clause-replies g c =
    let none : c.args.answer.now ≡ None = search rules in
    replies_none (connection_parts g.R.Read g.W.Write g.F.Framing) g.M.Monitor.is_told
    g.T.Waiter.permits c.args.told c.in-Ok.goes_on c.in-Ok.is c.args.answer.now none
    c.args.station.now _ _

pub returns-then-goes_on_later-clause-replies : goal.returns-then-goes_on_later-clause-replies
returns-then-goes_on_later-clause-replies g c =
    let (in_time, permits, writes, told) = c.send_in_time.ensures.sends in
    let some : c.args.answer.now ≡ Some c.in-Some.message = search rules in
    let same : c.sent.result ≡ wire c.in-Some.message = search rules in
    replies_message (connection_parts g.R.Read g.W.Write g.F.Framing) g.M.Monitor.is_told
    g.T.Waiter.permits c.args.told c.in-Ok.goes_on c.in-Ok.is in_time c.args.answer.now
    c.in-Some.message some c.sent.result same c.args.station.now _ _ _ _ c.send_in_time.result
    (Ok c.in-Ok.goes_on) permits writes told
    (goes_on_if_later c.in-Ok.goes_on c.in-Ok-send_in_time.goes_on_later c.send_in_time.result
    c.in-Ok-send_in_time.is c.if-goes_on_later.true)

pub returns-else-goes_on_later-clause-replies : goal.returns-else-goes_on_later-clause-replies
returns-else-goes_on_later-clause-replies g c =
    let (in_time, permits, writes, told) = c.send_in_time.ensures.sends in
    let some : c.args.answer.now ≡ Some c.in-Some.message = search rules in
    let same : c.sent.result ≡ wire c.in-Some.message = search rules in
    replies_message (connection_parts g.R.Read g.W.Write g.F.Framing) g.M.Monitor.is_told
    g.T.Waiter.permits c.args.told c.in-Ok.goes_on c.in-Ok.is in_time c.args.answer.now
    c.in-Some.message some c.sent.result same c.args.station.now _ _ _ _ c.send_in_time.result
    (Ok c.in-Ok-send_in_time.goes_on_later) permits writes told
    (ends_if_not_later c.in-Ok.goes_on c.in-Ok-send_in_time.goes_on_later c.send_in_time.result
    c.in-Ok-send_in_time.is c.if-goes_on_later.false)

pub returns-in-Err-send_in_time-clause-replies : goal.returns-in-Err-send_in_time-clause-replies
returns-in-Err-send_in_time-clause-replies g c =
    let (in_time, permits, writes, told) = c.send_in_time.ensures.sends in
    let some : c.args.answer.now ≡ Some c.in-Some.message = search rules in
    let same : c.sent.result ≡ wire c.in-Some.message = search rules in
    replies_message (connection_parts g.R.Read g.W.Write g.F.Framing) g.M.Monitor.is_told
    g.T.Waiter.permits c.args.told c.in-Ok.goes_on c.in-Ok.is in_time c.args.answer.now
    c.in-Some.message some c.sent.result same c.args.station.now _ _ _ _ c.send_in_time.result
    (Err c.in-Err-send_in_time.error) permits writes told
    (sym (ap (λ (r : Result Bool LiveError). both_go_on (Ok c.in-Ok.goes_on) r)
    c.in-Err-send_in_time.is))
