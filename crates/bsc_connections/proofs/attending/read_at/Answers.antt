-- `read_at` tells the monitor of a connection that is closed, and otherwise of nothing that it read
-- unless the station hears it.
use Rattle.std.proofs.Common.{◌∷◌, [], Bool, None, refl, sym, ◌∙◌, subst}
use Rattle.bsc_connections.specs.declared.connection.Taken.{Taken}
use Rattle.bsc_connections.specs.declared.connection.Taken.TheVariants.{Nothing, Interrupted, Part}
use Rattle.bsc_connections.specs.declared.connection.Taken.TheVariants.{Closed}
use Rattle.bsc_connections.specs.Parts.{connection_parts, session_parts}
use Rattle.bsc_connections.specs.Histories.{HasClosed}
use Rattle.bsc_connections.specs.Attending.{IsTakenAt, WaitsOn}
use Rattle.bsc_connections.proofs.attending.read_at.Goals as goal

pub returns-in-Nothing-clause-does : goal.returns-in-Nothing-clause-does
returns-in-Nothing-clause-does g c = (
  [],
  (
    Nothing,
    record {
      is_taken = subst (λ (t : Taken). IsTakenAt (connection_parts g.R.Read g.W.Write g.F.Framing)
          c.args.connection c.args.connections.now t c.take_at.new.connections) c.in-Nothing.is
          c.take_at.ensures;
      station = refl;
      peer = None;
      named = tt;
      tells = (refl, refl, refl);
      waits_on = c.nothing_left.ensures;
    },
  ),
)

pub returns-in-Interrupted-clause-does : goal.returns-in-Interrupted-clause-does
returns-in-Interrupted-clause-does g c = (
  [],
  (
    Interrupted,
    record {
      is_taken = subst (λ (t : Taken). IsTakenAt (connection_parts g.R.Read g.W.Write g.F.Framing)
          c.args.connection c.args.connections.now t c.take_at.new.connections) c.in-Interrupted.is
          c.take_at.ensures;
      station = refl;
      peer = None;
      named = tt;
      tells = (refl, refl, refl);
      waits_on = refl;
    },
  ),
)

pub returns-then-awaits_gap_at-clause-does : goal.returns-then-awaits_gap_at-clause-does
returns-then-awaits_gap_at-clause-does g c = (
  [],
  (
    Part,
    record {
      is_taken = subst (λ (t : Taken). IsTakenAt (connection_parts g.R.Read g.W.Write g.F.Framing)
          c.args.connection c.args.connections.now t c.take_at.new.connections) c.in-Part.is
          c.take_at.ensures;
      station = refl;
      peer = None;
      named = tt;
      tells = (refl, refl, refl);
      waits_on = subst (λ (b : Bool). WaitsOn
          (session_parts g.S.Station g.R.Read g.W.Write g.F.Framing g.M.Monitor.is_told g.M.Monitor.admits g.M.Monitor.may_answer g.M.Monitor.paces g.T.Waiter)
          Part c.args.connection b c.args.waiter.now c.begin_gap.new.self)
          (sym c.if-awaits_gap_at.true ∙ c.awaits_gap_at.ensures.value) c.begin_gap.ensures;
    },
  ),
)

pub returns-else-awaits_gap_at-clause-does : goal.returns-else-awaits_gap_at-clause-does
returns-else-awaits_gap_at-clause-does g c = (
  [],
  (
    Part,
    record {
      is_taken = subst (λ (t : Taken). IsTakenAt (connection_parts g.R.Read g.W.Write g.F.Framing)
          c.args.connection c.args.connections.now t c.take_at.new.connections) c.in-Part.is
          c.take_at.ensures;
      station = refl;
      peer = None;
      named = tt;
      tells = (refl, refl, refl);
      waits_on = subst (λ (b : Bool). WaitsOn
          (session_parts g.S.Station g.R.Read g.W.Write g.F.Framing g.M.Monitor.is_told g.M.Monitor.admits g.M.Monitor.may_answer g.M.Monitor.paces g.T.Waiter)
          Part c.args.connection b c.args.waiter.now c.args.waiter.now)
          (sym c.if-awaits_gap_at.false ∙ c.awaits_gap_at.ensures.value) refl;
    },
  ),
)

pub returns-in-Closed-clause-does : goal.returns-in-Closed-clause-does
returns-in-Closed-clause-does g c = (
  HasClosed c.args.connection c.peer-peer.result c.in-Closed.why ∷ [],
  (
    Closed c.in-Closed.why,
    record {
      is_taken = subst (λ (t : Taken). IsTakenAt (connection_parts g.R.Read g.W.Write g.F.Framing)
          c.args.connection c.args.connections.now t c.take_at.new.connections) c.in-Closed.is
          c.take_at.ensures;
      station = refl;
      peer = c.peer-peer.result;
      named = c.peer-peer.ensures;
      tells = (refl, c.note.ensures.told);
      waits_on = c.nothing_left-in-Closed.ensures;
    },
  ),
)
