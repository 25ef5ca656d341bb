-- If a transmission has begun at this place that a gap would end, `gap_at` ends it, and it arrives.
use Rattle.std.proofs.Common.{◌≡◌, ◌<◌, ℕ, Bool, true, Option, Some, [], length, slice_get, get_or}
use Rattle.std.proofs.Common.{Ok, refl, sym, ◌∙◌, ap, subst}
use Rattle.std.proofs.lemmas.Option.{slice_get-get_or}
use Rattle.bsc_connections.specs.Parts.{session_parts}
use Rattle.bsc_connections.specs.Connections.{ConnectionValue}
use Rattle.bsc_connections.specs.Attending.{GapPasses, awaits_gap}
use Rattle.bsc_connections.proofs.attending.gap_at.Goals as goal

pub returns-then-not-awaits_gap_at-clause-does : goal.returns-then-not-awaits_gap_at-clause-does
returns-then-not-awaits_gap_at-clause-does g c = (
  [],
  subst (λ (b : Bool). GapPasses
      (session_parts g.S.Station g.R.Read g.W.Write g.F.Framing g.M.Monitor.is_told g.M.Monitor.admits g.M.Monitor.may_answer g.M.Monitor.paces g.T.Waiter)
      c.args.connection b
      (record {
        station = c.args.station.now;
        connections = c.args.connections.now;
        monitor = c.args.monitor.now;
        waiter = c.args.waiter.now;
      }) [] (Ok true) (record {
        station = c.args.station.now;
        connections = c.args.connections.now;
        monitor = c.args.monitor.now;
        waiter = c.args.waiter.now;
      })) (sym c.if-not-awaits_gap_at.true ∙ c.awaits_gap_at.ensures.value) (refl, refl, refl),
)

pub returns-clause-does : goal.returns-clause-does
returns-clause-does g c =
    let place : ℕ = c.args.connection in
    let there : place < length c.args.connections.now =
    c.awaits_gap_at.ensures.within c.if-not-awaits_gap_at.false in
    let one = get_or c.args.connections.now place c.index-connections-connection.result in
    let at : slice_get c.args.connections.now place ≡ Some one =
    slice_get-get_or c.args.connections.now place c.index-connections-connection.result there in
    let awaits : true ≡ awaits_gap g.F.Framing.awaits (slice_get c.args.connections.now place) =
    sym c.if-not-awaits_gap_at.false ∙ c.awaits_gap_at.ensures.value in
    let it_awaits : true ≡ g.F.Framing.awaits one.framing =
    awaits ∙ ap (λ (o : Option (ConnectionValue g.row.R.Denot g.row.W.Denot g.row.F.Denot)).
    awaits_gap g.F.Framing.awaits o) at in
    let ended : c.gap.result ≡ true = c.gap.ensures.ended ∙ sym it_awaits in
    let (happened, arrives) = c.arrive_at.ensures.arrives in (
      happened,
      subst (λ (b : Bool). GapPasses
          (session_parts g.S.Station g.R.Read g.W.Write g.F.Framing g.M.Monitor.is_told g.M.Monitor.admits g.M.Monitor.may_answer g.M.Monitor.paces g.T.Waiter)
          place b
          (record {
            station = c.args.station.now;
            connections = c.args.connections.now;
            monitor = c.args.monitor.now;
            waiter = c.args.waiter.now;
          })
          happened c.arrive_at.result (record {
            station = c.arrive_at.new.station;
            connections = c.arrive_at.new.connections;
            monitor = c.arrive_at.new.monitor;
            waiter = c.arrive_at.new.waiter;
          })) awaits
          (record {
            between = _;
            ended = (
              _,
              c.gap.new.self,
              at,
              refl,
              (
                c.gap.ensures.kept,
                c.gap.ensures.written,
                subst (λ (b : Bool). g.F.Framing.ends one.framing b c.gap.new.self.framing) ended
                    c.gap.ensures.ends,
              ),
            );
            arrives = arrives;
          }),
    )
