-- A call is heard: each answer is the row of the table for the address that the call names.
use Rattle.std.proofs.Common.{◌≡◌, ◌∙◌, ◌⊎◌, inl, inr, ◌<◌, ℕ, sym, ap, refl, Bool, true, false}
use Rattle.std.proofs.Common.{List, length, nat_eq, Option, None, Some}
use Rattle.std.proofs.lemmas.Option.{slice_get_within}
use Rattle.bsc_frame.specs.declared.message.Message.{Message}
use Rattle.bsc_frame.specs.declared.message.Message.TheVariants as m
use Rattle.bsc_frame.specs.declared.message.Heard.TheVariants.{Whole}
use Rattle.bsc_spool.specs.declared.queue.Next.{Next}
use Rattle.bsc_spool.specs.Queue.{QueueValue, waiting, next_block}
use Rattle.bsc_bid.specs.declared.alternation.Alternation.{Alternation}
use Rattle.bsc_bid.specs.declared.alternation.Alternation.TheVariants.{Odd}
use Rattle.bsc_bid.specs.Sender.{SenderValue, begin_step, sent_next, is_in_doubt}
use Rattle.bsc_bid.specs.Terminal.{TerminalValue}
use Rattle.bsc_bid.proofs.Choice.{either_branch}
use Rattle.bsc_tributary.specs.declared.called.Called.{Called}
use Rattle.bsc_tributary.specs.declared.called.Called.TheVariants.{Polling, Selection, Other}
use Rattle.bsc_tributary.specs.declared.mode.Mode.{Mode}
use Rattle.bsc_tributary.specs.declared.mode.Mode.TheVariants.{Control, Receiving, Sending}
use Rattle.bsc_tributary.specs.Called.{called_as}
use Rattle.bsc_tributary.specs.Tributary.{TributaryValue, TributaryStep, spool_at, spool_in}
use Rattle.bsc_tributary.specs.Tributary.{rooms_after, quiet_step, answer_step, without_line}
use Rattle.bsc_tributary.specs.Tributary.{mode_after, act_step, poll_step, selection_step}
use Rattle.bsc_tributary.specs.Tributary.{call_step, Hears}
use Rattle.bsc_tributary.proofs.Acts.{not_receiving}
use Rattle.bsc_tributary.proofs.Addresses.{selection_is}

-- after a poll the terminal is in control mode, or sends
pub begun_mode : (s : SenderValue) (q : QueueValue) (alternation : Alternation) (next : Option Next)
    →
    (mode_after (sent_next s q alternation next).act Control ≡ Control) ⊎ (mode_after
    (sent_next s q alternation next).act Control ≡ Sending)
begun_mode s q alternation None = inl refl
begun_mode s q alternation (Some n) = inr refl

pub mode_poll_step : (t : TributaryValue) → ((poll_step t).tributary.mode ≡ Control)
    ⊎ ((poll_step t).tributary.mode ≡
    Sending)
mode_poll_step t =
    let d : TributaryValue = record (without_line t) { urgent = false } in
    let P : TributaryStep → Type 0 = λ o. (o.tributary.mode ≡ Control)
    ⊎ (o.tributary.mode ≡ Sending) in
    either_branch P (is_in_doubt d.sender.phase) (answer_step d m.Eot) _ (inl refl)
    (either_branch P (nat_eq (length (waiting d.queue)) 0) (answer_step d m.Eot)
    (act_step d (begin_step d.sender d.queue)) (inl refl)
    (begun_mode d.sender d.queue Odd (next_block d.queue)))

pub hears_polling : (t new : TributaryValue) (address : List ℕ) (sent : Option Message) →
    Polling ≡ called_as t.terminal address → record { tributary = new; sent = sent } ≡ poll_step t →
    Hears t (Whole (m.Call address)) new sent
hears_polling t new address sent called row =
    record {
      row =
          row ∙ ap (λ (c : Called). call_step t c (rooms_after (Whole (m.Call address)) new))
          called;
      room = λ s is had. absurd (not_receiving (poll_step t).tributary.mode s (mode_poll_step t)
          (sym (ap (λ (o : TributaryStep). o.tributary.mode) row) ∙ is));
    }

-- a terminal that is not ready is left in control mode, whether there is room or not
selected_row : (t new : TributaryValue) (s : ℕ) (sent : Option Message) (ready : Bool) →
    record { tributary = new; sent = sent } ≡ selection_step (record t { ready = ready }) s
    (spool_at new.spools s).room →
    record { tributary = new; sent = sent } ≡ selection_step (record t { ready = ready }) s
    (spool_in new.mode new.spools).room
selected_row t new s sent true row =
    let mode : new.mode ≡ Receiving s = ap (λ (o : TributaryStep). o.tributary.mode) row in
    row ∙ ap (λ (mode : Mode). selection_step (record t { ready = true }) s
    (spool_in mode new.spools).room) (sym mode)
selected_row t new s sent false row = row

selected_mode : (t new : TributaryValue) (s r : ℕ) (room ready : Bool) →
    new.mode ≡ (selection_step (record t { ready = ready }) s room).tributary.mode → new.mode
    ≡ Receiving r → r ≡ s
selected_mode t new s r room true e is = cc
selected_mode t new s r room false e is = absurd (cc)

pub hears_selection : (t new : TributaryValue) (address : List ℕ) (s : ℕ) (sent : Option Message) →
    Selection s ≡ called_as t.terminal address → record { tributary = new; sent = sent }
    ≡ selection_step t s
    (spool_at new.spools s).room →
    ((spool_at t.spools s).room ≡ true → (spool_at new.spools s).room ≡ true) →
    Hears t (Whole (m.Call address)) new sent
hears_selection t new address s sent called row room =
    record {
      row = selected_row t new s sent t.ready row ∙ ap (λ (c : Called). call_step t c
          (rooms_after (Whole (m.Call address)) new)) called;
      room = λ r is had.
          let same : r ≡ s = selected_mode t new s r (spool_at new.spools s).room t.ready
          (ap (λ (o : TributaryStep). o.tributary.mode) row) is in
          ap (λ (mode : Mode). (spool_in mode new.spools).room) is
          ∙ ap (λ n. (spool_at new.spools n).room) same
          ∙ room (ap (λ n. (spool_at t.spools n).room) (sym same) ∙ had);
    }

pub other_call_is_heard : (t new : TributaryValue) (address : List ℕ) → Other ≡ called_as t.terminal address
    →
    new ≡ without_line t → Hears t (Whole (m.Call address)) new None
other_call_is_heard t new address called row =
    record {
      row =
          ap quiet_step row
          ∙ ap (λ (c : Called). call_step t c (rooms_after (Whole (m.Call address)) new))
          called;
      room =
          λ s is had. absurd (let control : new.mode ≡ Control =
          ap (λ (v : TributaryValue). v.mode) row in cc);
    }

-- the address of a selection is one of the terminal's
pub within_selects : (t : TerminalValue) (address : List ℕ) (s : ℕ) → Selection s
    ≡ called_as t address →
    s < length t.selects
within_selects t address s called =
    slice_get_within t.selects s address (selection_is t address s (sym called))

-- the address that the code found, as that of the terminal before the call
pub called_from : (t old : TributaryValue) (address : List ℕ) (found called : Called) → t ≡ old
    → found ≡ called →
    found ≡ called_as t.terminal address → called ≡ called_as old.terminal address
called_from t old address found called view is found_is =
    sym is ∙ found_is ∙ ap (λ (v : TributaryValue). called_as v.terminal address) view
