-- An answer of the station is sent on all connections if the monitor accepts and it is in time. It is
-- sent on none if it is late, or if there is none.
use Rattle.std.proofs.Common.{◌≡◌, ℕ, Bool, true, false, List, [], Option, None, Some, Result}
use Rattle.std.proofs.Common.{Ok, Err, refl, sym, ◌∙◌, ap, subst}
use Rattle.bsc_frame.specs.declared.message.Message.{Message}
use Rattle.bsc_frame.specs.Wire.{wire}
use Rattle.bsc_connections.specs.declared.awaited.LiveError.{LiveError}
use Rattle.bsc_connections.specs.Parts.{ConnectionParts}
use Rattle.bsc_connections.specs.Connections.{ConnectionValue}
use Rattle.bsc_connections.specs.Histories.{Happening, sent_if_in_time, sent_where_some}
use Rattle.bsc_connections.specs.Attending.{SendsAll, TellsSent, AsksWaiter, WritesIfInTime}
use Rattle.bsc_connections.specs.Attending.{Replies, Around, both_go_on, due_if_accepted}

module _ {S R W F M T : Type 0} (parts : ConnectionParts R W F)
    (is_told : M → S → Happening → Result Bool LiveError → M → Type 0)
    (permits : T → Bool → T → Type 0) where
  abbrev Now : Type 0
  Now = Around (ConnectionValue R W F) M

  -- ---- an answer, by what the monitor returned

  -- The monitor refused what happened.
  pub replies_nothing : (told : Result Bool LiveError) (error : LiveError) → told ≡ Err error
      → (answer : Option Message) (station : S) (now : Now) (waiter : T)
      → (happened : List Happening)
      × Replies parts is_told permits told answer station now waiter happened (Err error) now waiter
  replies_nothing told error is answer station now waiter = (
    [],
    record {
      due = None;
      accepted = sym (ap (λ (r : Result Bool LiveError). due_if_accepted r answer) is);
      in_time = true;
      asks = refl;
      sends = refl;
      told_later = Ok true;
      tells_sent = (refl, refl);
      result_is = sym (ap (λ (r : Result Bool LiveError). both_go_on r (Ok true)) is);
      happens = refl;
    },
  )

  -- The monitor accepted what happened.
  pub replies_if_accepted : (told : Result Bool LiveError) (goes_on : Bool) → told ≡ Ok goes_on
      → (in_time : Bool) (answer : Option Message) (station : S) (old new : Now) (before after : T)
      (later result : Result Bool LiveError)
      → AsksWaiter parts is_told permits answer before in_time after
      → SendsAll parts in_time answer old.connections new.connections
      → TellsSent parts is_told permits in_time answer station old.monitor later new.monitor
      → result ≡ both_go_on (Ok goes_on) later
      → (happened : List Happening)
      × Replies parts is_told permits told answer station old before happened result new after
  replies_if_accepted told goes_on is in_time answer station old new before after later result asks
      sends tells_sent result_is = (
        sent_where_some in_time answer,
        record {
          due = answer;
          accepted = sym (ap (λ (r : Result Bool LiveError). due_if_accepted r answer) is);
          in_time = in_time;
          asks = asks;
          sends = sends;
          told_later = later;
          tells_sent = tells_sent;
          result_is = result_is
              ∙ sym (ap (λ (r : Result Bool LiveError). both_go_on r later) is);
          happens = refl;
        },
      )

  -- It accepted it, and there is no answer.
  pub replies_none : (told : Result Bool LiveError) (goes_on : Bool) → told ≡ Ok goes_on
      → (answer : Option Message) → answer ≡ None → (station : S) (now : Now) (waiter : T)
      → (happened : List Happening)
      × Replies parts is_told permits told answer station now waiter happened (Ok goes_on) now waiter
  replies_none told goes_on is answer none station now waiter =
      replies_if_accepted told goes_on is true answer station now now waiter waiter (Ok true)
      (Ok goes_on)
      (subst (λ (a : Option Message). AsksWaiter parts is_told permits a waiter true waiter) (sym none)
      refl)
      (subst (λ (a : Option Message). SendsAll parts true a now.connections now.connections)
      (sym none) refl)
      (subst
      (λ (a : Option Message).
      TellsSent parts is_told permits true a station now.monitor (Ok true) now.monitor)
      (sym none) (refl, refl))
      refl

  -- It accepted it, and there is an answer.
  pub replies_message : (told : Result Bool LiveError) (goes_on : Bool) → told ≡ Ok goes_on
      → (in_time : Bool) (answer : Option Message) (m : Message) → answer ≡ Some m
      → (octets : List ℕ) → octets ≡ wire m → (station : S) (old new : Now) (before after : T)
      (later result : Result Bool LiveError) → permits before in_time after
      → WritesIfInTime parts in_time octets old.connections new.connections
      → is_told old.monitor station (sent_if_in_time in_time octets) later new.monitor
      → result ≡ both_go_on (Ok goes_on) later
      → (happened : List Happening)
      × Replies parts is_told permits told answer station old before happened result new after
  replies_message told goes_on is in_time answer m some octets same station old new before after
      later result permitted writes told_of result_is =
      replies_if_accepted told goes_on is in_time answer station old new before after later result
      (subst (λ (a : Option Message). AsksWaiter parts is_told permits a before in_time after)
      (sym some) permitted)
      (subst (λ (a : Option Message). SendsAll parts in_time a old.connections new.connections)
      (sym some)
      (subst (λ (o : List ℕ). WritesIfInTime parts in_time o old.connections new.connections) same
      writes))
      (subst
      (λ (a : Option Message).
      TellsSent parts is_told permits in_time a station old.monitor later new.monitor)
      (sym some)
      (subst
      (λ (o : List ℕ). is_told old.monitor station (sent_if_in_time in_time o) later new.monitor)
      same told_of))
      result_is
