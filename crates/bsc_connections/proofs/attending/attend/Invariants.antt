-- The loop invariant of `attend`.
use Rattle.std.specs.Prelude.{List}
use Rattle.bsc_connections.specs.Parts.{session_parts}
use Rattle.bsc_connections.specs.Histories.{Happening}
use Rattle.bsc_connections.specs.Connections.{ConnectionValue}
use Rattle.bsc_connections.specs.Attending.{Session, Attends, GoesOn}
use Rattle.bsc_connections.proofs.attending.attend.Given as goal

-- Any sequence of steps from the current state extends to one from the state at the call; and as
-- many steps as were counted led here, after each of which the station is attended further.
abbrev pub invariant-steps : goal.invariant-steps
invariant-steps g l = record {
  extends : (history : List Happening) (last : Session g.row.S.Denot
      (ConnectionValue g.row.R.Denot g.row.W.Denot g.row.F.Denot) g.row.M.Denot g.row.T.Denot)
      → Attends
      (session_parts g.S.Station g.R.Read g.W.Write g.F.Framing g.M.Monitor.is_told g.M.Monitor.admits g.M.Monitor.may_answer g.M.Monitor.paces g.T.Waiter)
      (record {
        station = l.station;
        connections = l.connections;
        monitor = l.monitor;
        waiter = l.waiter;
      }) history last
      → (whole : List Happening)
      × Attends
      (session_parts g.S.Station g.R.Read g.W.Write g.F.Framing g.M.Monitor.is_told g.M.Monitor.admits g.M.Monitor.may_answer g.M.Monitor.paces g.T.Waiter)
      (record {
        station = l.fn.station;
        connections = l.fn.connections;
        monitor = l.fn.monitor;
        waiter = l.fn.waiter;
      }) whole last;
  counted : GoesOn
      (session_parts g.S.Station g.R.Read g.W.Write g.F.Framing g.M.Monitor.is_told g.M.Monitor.admits g.M.Monitor.may_answer g.M.Monitor.paces g.T.Waiter)
      l.count
      (record {
        station = l.fn.station;
        connections = l.fn.connections;
        monitor = l.fn.monitor;
        waiter = l.fn.waiter;
      })
      (record {
        station = l.station;
        connections = l.connections;
        monitor = l.monitor;
        waiter = l.waiter;
      });
}
