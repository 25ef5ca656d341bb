-- `step` tells the monitor of a peer that the system could not accept, of one that may not connect,
-- which is turned away, and of a station that is asked to end. It tells of a connection that is
-- closed without a wait. It tells nobody if there may be work beside the line.
use Rattle.std.proofs.Common.{◌≡◌, ℕ, Bool, Option, [], ◌∷◌, None, Some, Ok, inl, refl, sym, ◌∙◌, subst}
use Rattle.bsc_connections.specs.declared.awaited.Awaited.{Awaited}
use Rattle.bsc_connections.specs.declared.awaited.Awaited.TheVariants.{NotAccepted, NotAllowed, Octets}
use Rattle.bsc_connections.specs.declared.awaited.Awaited.TheVariants.{Stopped, Client}
use Rattle.bsc_connections.specs.declared.monitor.Refusal.TheVariants as refusal
use Rattle.bsc_connections.specs.Attending.{BeginsWith}
use Rattle.bsc_connections.specs.Histories.{WasRefused, WasStopped}
use Rattle.bsc_connections.specs.Parts.{SessionParts, session_parts}
use Rattle.bsc_connections.proofs.attending.step.Goals as goal

module _ {S R W F M T : Type 0} (parts : SessionParts S R W F M T) where
  begins_with_wait : (untold : Option ℕ) (reached is_reached : Bool) (before : T)
      (awaited : Awaited) (after : T) → untold ≡ None → reached ≡ is_reached
      → parts.waiter.waits before reached (Ok awaited) after
      → BeginsWith parts untold is_reached before awaited after
  begins_with_wait untold reached is_reached before awaited after none same waits =
      subst (λ (o : Option ℕ). BeginsWith parts o is_reached before awaited after) (sym none)
      (subst (λ (b : Bool). parts.waiter.waits before b (Ok awaited) after) same waits)

  begins_with_untold : (untold : Option ℕ) (is_reached : Bool) (place : ℕ) (before : T)
      → untold ≡ Some place → BeginsWith parts untold is_reached before (Octets place) before
  begins_with_untold untold is_reached place before is =
      subst (λ (o : Option ℕ). BeginsWith parts o is_reached before (Octets place) before) (sym is)
      (refl, refl)

pub returns-in-Ok-NotAccepted-clause-steps : goal.returns-in-Ok-NotAccepted-clause-steps
returns-in-Ok-NotAccepted-clause-steps g c =
    inl (
      WasRefused None refusal.NotAccepted ∷ [],
      record {
        awaited = NotAccepted;
        waiter = c.wait.new.self;
        begins = begins_with_wait (session_parts g.S.Station g.R.Read g.W.Write g.F.Framing
            g.M.Monitor.is_told g.M.Monitor.admits g.M.Monitor.may_answer g.M.Monitor.paces g.T.Waiter) _
            c.is_any_reached.result _ _ NotAccepted _ (sym c.first_untold.ensures ∙ c.in_default.is)
            c.is_any_reached.ensures
            (subst (λ (a : Awaited). g.T.Waiter.waits c.args.waiter.now c.is_any_reached.result
            (Ok a) c.wait.new.self)
            c.in-Ok-NotAccepted.field-0-is c.in-Ok-NotAccepted.ensures);
        does = (refl, refl, (refl, c.note.ensures.told), refl);
      },
    )

pub returns-in-Ok-NotAllowed-clause-steps : goal.returns-in-Ok-NotAllowed-clause-steps
returns-in-Ok-NotAllowed-clause-steps g c =
    inl (
      WasRefused c.newcomer-peer.result refusal.NotAllowed ∷ [],
      record {
        awaited = NotAllowed;
        waiter = c.wait.new.self;
        begins = begins_with_wait (session_parts g.S.Station g.R.Read g.W.Write g.F.Framing
            g.M.Monitor.is_told g.M.Monitor.admits g.M.Monitor.may_answer g.M.Monitor.paces g.T.Waiter) _
            c.is_any_reached.result _ _ NotAllowed _ (sym c.first_untold.ensures ∙ c.in_default.is)
            c.is_any_reached.ensures
            (subst (λ (a : Awaited). g.T.Waiter.waits c.args.waiter.now c.is_any_reached.result
            (Ok a) c.wait.new.self)
            c.in-Ok-NotAllowed.field-0-is c.in-Ok-NotAllowed.ensures);
        does = (
          refl,
          (
            refl,
            c.turn_away.ensures,
            c.newcomer-peer.result,
            c.newcomer-peer.ensures,
            (refl, c.note-in-Ok-NotAllowed.ensures.told),
          ),
        );
      },
    )

pub returns-in-Ok-Stopped-clause-steps : goal.returns-in-Ok-Stopped-clause-steps
returns-in-Ok-Stopped-clause-steps g c =
    inl (
      WasStopped ∷ [],
      record {
        awaited = Stopped;
        waiter = c.wait.new.self;
        begins = begins_with_wait (session_parts g.S.Station g.R.Read g.W.Write g.F.Framing
            g.M.Monitor.is_told g.M.Monitor.admits g.M.Monitor.may_answer g.M.Monitor.paces g.T.Waiter) _
            c.is_any_reached.result _ _ Stopped _ (sym c.first_untold.ensures ∙ c.in_default.is)
            c.is_any_reached.ensures
            (subst (λ (a : Awaited). g.T.Waiter.waits c.args.waiter.now c.is_any_reached.result
            (Ok a) c.wait.new.self)
            c.in-Ok-Stopped.field-0-is c.in-Ok-Stopped.ensures);
        does = (refl, refl, (refl, c.note-in-Ok-Stopped.ensures.told), refl);
      },
    )

pub returns-in-Ok-Client-clause-steps : goal.returns-in-Ok-Client-clause-steps
returns-in-Ok-Client-clause-steps g c =
    inl (
      [],
      record {
        awaited = Client;
        waiter = c.wait.new.self;
        begins = begins_with_wait (session_parts g.S.Station g.R.Read g.W.Write g.F.Framing
            g.M.Monitor.is_told g.M.Monitor.admits g.M.Monitor.may_answer g.M.Monitor.paces g.T.Waiter) _
            c.is_any_reached.result _ _ Client _ (sym c.first_untold.ensures ∙ c.in_default.is)
            c.is_any_reached.ensures
            (subst (λ (a : Awaited). g.T.Waiter.waits c.args.waiter.now c.is_any_reached.result
            (Ok a) c.wait.new.self)
            c.in-Ok-Client.field-0-is c.in-Ok-Client.ensures);
        does = (refl, refl, refl);
      },
    )

pub returns-in-Some-clause-steps : goal.returns-in-Some-clause-steps
returns-in-Some-clause-steps g c =
    let (happened, does) = c.read_at.ensures.does in
    inl (
      happened,
      record {
        awaited = Octets c.in-Some.connection;
        waiter = c.args.waiter.now;
        begins =
            begins_with_untold (session_parts g.S.Station g.R.Read g.W.Write g.F.Framing
            g.M.Monitor.is_told g.M.Monitor.admits g.M.Monitor.may_answer g.M.Monitor.paces g.T.Waiter) _ _ c.in-Some.connection _
            (sym c.first_untold.ensures ∙ c.in-Some.is);
        does = does;
      },
    )
