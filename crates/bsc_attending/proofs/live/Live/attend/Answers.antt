-- Shows that each turn of the loop goes on with the run of the station.
use Rattle.std.proofs.Common.{rules, ◌≡◌, ◌∙◌, ◌%◌, ◌==◌, true, false, is_some, ap, sym, subst, refl}
use Rattle.std.proofs.Common.{Result, Ok, Err}
use Rattle.bsc_connections.specs.declared.awaited.LiveError.{LiveError}
use Rattle.bsc_keeping.specs.LiveRuns.{begins, course_of, ended, failed, goes, kept_again}
use Rattle.bsc_keeping.specs.LiveRuns.{stopped, unless_failed}
use Rattle.bsc_keeping.specs.FedRuns.{RunsFed}
use Rattle.bsc_attending.specs.Live.{state}
use Rattle.bsc_attending.proofs.GoingOn.{as_fed, once_stepped, once_tidied, run_then}
use Rattle.bsc_attending.proofs.live.Live.attend.Goals as goal
use Rattle.bsc_attending.proofs.live.Live.attend.Goals.{then-not-goes_on-via-then-not-goes_on}
use Rattle.bsc_attending.proofs.live.Live.attend.Goals.{then-not-goes_on-via-else-not-goes_on+in_ok-serve+then-not-branch}

pub steps-init : goal.steps-init
steps-init g c = (begins refl, refl)

pub returns-in_err-goes_on : goal.returns-in_err-goes_on
returns-in_err-goes_on g c =
    let fed = is_some c.args.self.now.programs in
    let first = state c.args.station.now c.args.kept.now in
    let why = c.in_err-goes_on.field-0.0 in
    let is_error : c.from_residual.result ≡ Err why = search rules in
    let stepped = once_stepped g.S.Station g.S.LineStation g.Q.Keeps fed first (g.M.Presences.wants c.steps.watch)
    (g.S.Party.count c.steps.station) c.steps.station c.steps.kept (Err why)
    (state c.step.new.station c.step.new.kept) c.steps.invariant.0 c.in_err-goes_on.ensures.steps in
    subst (λ r. RunsFed g.S.Station g.S.LineStation g.Q.Keeps fed (unless_failed r ended) first
    (state c.step.new.station c.step.new.kept)) (sym is_error) stepped

pub returns-in_err-serve : goal.returns-in_err-serve
returns-in_err-serve g c =
    let fed = is_some c.args.self.now.programs in
    let first = state c.args.station.now c.args.kept.now in
    let stepped = once_stepped g.S.Station g.S.LineStation g.Q.Keeps fed first (g.M.Presences.wants c.steps.watch)
    (g.S.Party.count c.steps.station) c.steps.station c.steps.kept (Ok c.in_ok-goes_on.goes_on)
    (state c.step.new.station c.step.new.kept) c.steps.invariant.0 c.in_ok-goes_on.ensures.steps in
    let tidied = once_tidied g.S.Station g.S.LineStation g.Q.Keeps fed first c.in_ok-goes_on.goes_on c.step.new.station
    c.step.new.kept c.print.new.self g.S.Party.receives (g.Q.Keeps.printed c.print.new.self)
    (c.steps.count % 1024 == 0) c.step.new.self.forgets_printed c.forget_at_times.new.station
    stepped c.print.ensures c.forget_at_times.ensures in
    let on : c.in_ok-goes_on.goes_on ≡ true = search rules in
    let so_far : RunsFed g.S.Station g.S.LineStation g.Q.Keeps fed goes first
    (state c.forget_at_times.new.station c.print.new.self)
    = subst (λ b. RunsFed g.S.Station g.S.LineStation g.Q.Keeps fed (course_of (Ok b)) first
    (state c.forget_at_times.new.station c.print.new.self)) on tidied in
    let same : is_some c.step.new.self.programs ≡ fed =
    ap is_some c.step.ensures.programs ∙ c.steps.invariant.1 in
    let why = c.in_err-serve.field-0.0 in
    let is_error : c.from_residual-in_err-serve.result ≡ Err why = search rules in
    let served = run_then g.S.Station g.S.LineStation g.Q.Keeps fed so_far
    (as_fed g.S.Station g.S.LineStation g.Q.Keeps (is_some c.step.new.self.programs) fed same c.in_err-serve.ensures.ran) in
    subst (λ r. RunsFed g.S.Station g.S.LineStation g.Q.Keeps fed (unless_failed r ended) first
    (state c.serve.new.station c.serve.new.kept)) (sym is_error) served

pub steps-preserved : goal.steps-preserved
steps-preserved g c =
    let fed = is_some c.args.self.now.programs in
    let first = state c.args.station.now c.args.kept.now in
    let stepped = once_stepped g.S.Station g.S.LineStation g.Q.Keeps fed first (g.M.Presences.wants c.steps.watch)
    (g.S.Party.count c.steps.station) c.steps.station c.steps.kept (Ok c.in_ok-goes_on.goes_on)
    (state c.step.new.station c.step.new.kept) c.steps.invariant.0 c.in_ok-goes_on.ensures.steps in
    let tidied = once_tidied g.S.Station g.S.LineStation g.Q.Keeps fed first c.in_ok-goes_on.goes_on c.step.new.station
    c.step.new.kept c.print.new.self g.S.Party.receives (g.Q.Keeps.printed c.print.new.self)
    (c.steps.count % 1024 == 0) c.step.new.self.forgets_printed c.forget_at_times.new.station
    stepped c.print.ensures c.forget_at_times.ensures in
    let on : c.in_ok-goes_on.goes_on ≡ true = search rules in
    let so_far : RunsFed g.S.Station g.S.LineStation g.Q.Keeps fed goes first
    (state c.forget_at_times.new.station c.print.new.self)
    = subst (λ b. RunsFed g.S.Station g.S.LineStation g.Q.Keeps fed (course_of (Ok b)) first
    (state c.forget_at_times.new.station c.print.new.self)) on tidied in
    let same : is_some c.step.new.self.programs ≡ fed =
    ap is_some c.step.ensures.programs ∙ c.steps.invariant.1 in
    let branch : c.in_ok-serve.field-0 ≡ true = search rules in
    let served = run_then g.S.Station g.S.LineStation g.Q.Keeps fed so_far
    (as_fed g.S.Station g.S.LineStation g.Q.Keeps (is_some c.step.new.self.programs) fed same c.in_ok-serve.ensures.ran) in (
      subst (λ b. RunsFed g.S.Station g.S.LineStation g.Q.Keeps fed (course_of (Ok b)) first
          (state c.serve.new.station c.serve.new.kept)) branch served,
      c.serve.ensures.programs ∙ same,
    )

pub returns-then-not-goes_on : goal.returns-then-not-goes_on
returns-then-not-goes_on g c =
    let fed = is_some c.args.self.now.programs in
    let first = state c.args.station.now c.args.kept.now in
    let stepped = once_stepped g.S.Station g.S.LineStation g.Q.Keeps fed first (g.M.Presences.wants c.steps.watch)
    (g.S.Party.count c.steps.station) c.steps.station c.steps.kept (Ok c.in_ok-goes_on.goes_on)
    (state c.step.new.station c.step.new.kept) c.steps.invariant.0 c.in_ok-goes_on.ensures.steps in
    let tidied = once_tidied g.S.Station g.S.LineStation g.Q.Keeps fed first c.in_ok-goes_on.goes_on c.step.new.station
    c.step.new.kept c.print.new.self g.S.Party.receives (g.Q.Keeps.printed c.print.new.self)
    (c.steps.count % 1024 == 0) c.step.new.self.forgets_printed c.forget_at_times.new.station
    stepped c.print.ensures c.forget_at_times.ensures in
    let left = state c.then-not-goes_on.station c.then-not-goes_on.kept in
    let has_ended : RunsFed g.S.Station g.S.LineStation g.Q.Keeps fed ended first left
    = elim c.then-not-goes_on.branch [
      | then-not-goes_on-via-then-not-goes_on w ↦
          let off : c.in_ok-goes_on.goes_on ≡ false = w.if-not-goes_on.true in
          let tidied_off : RunsFed g.S.Station g.S.LineStation g.Q.Keeps fed ended first
          (state c.forget_at_times.new.station c.print.new.self)
          = subst (λ b. RunsFed g.S.Station g.S.LineStation g.Q.Keeps fed (course_of (Ok b)) first
          (state c.forget_at_times.new.station c.print.new.self)) off tidied in
          subst (λ s. RunsFed g.S.Station g.S.LineStation g.Q.Keeps fed ended first (state s c.then-not-goes_on.kept))
          (sym w.station-is)
          (subst (λ q. RunsFed g.S.Station g.S.LineStation g.Q.Keeps fed ended first (state c.forget_at_times.new.station q))
          (sym w.kept-is) tidied_off)
      | then-not-goes_on-via-else-not-goes_on+in_ok-serve+then-not-branch w ↦
          let on : c.in_ok-goes_on.goes_on ≡ true = w.if-not-goes_on.false in
          let so_far : RunsFed g.S.Station g.S.LineStation g.Q.Keeps fed goes first
          (state c.forget_at_times.new.station c.print.new.self)
          = subst (λ b. RunsFed g.S.Station g.S.LineStation g.Q.Keeps fed (course_of (Ok b)) first
          (state c.forget_at_times.new.station c.print.new.self)) on tidied in
          let same : is_some c.step.new.self.programs ≡ fed =
          ap is_some c.step.ensures.programs ∙ c.steps.invariant.1 in
          let off : w.in_ok-serve.field-0 ≡ false = w.if-not-branch.true in
          let served = run_then g.S.Station g.S.LineStation g.Q.Keeps fed so_far
          (as_fed g.S.Station g.S.LineStation g.Q.Keeps (is_some c.step.new.self.programs) fed same w.in_ok-serve.ensures.ran) in
          let served_off : RunsFed g.S.Station g.S.LineStation g.Q.Keeps fed ended first
          (state w.serve.new.station w.serve.new.kept)
          = subst (λ b. RunsFed g.S.Station g.S.LineStation g.Q.Keeps fed (course_of (Ok b)) first
          (state w.serve.new.station w.serve.new.kept)) off served in
          subst (λ s. RunsFed g.S.Station g.S.LineStation g.Q.Keeps fed ended first (state s c.then-not-goes_on.kept))
          (sym w.station-is)
          (subst (λ q. RunsFed g.S.Station g.S.LineStation g.Q.Keeps fed ended first (state w.serve.new.station q))
          (sym w.kept-is) served_off)
    ] in
    kept_again c.keep.result refl has_ended c.keep.ensures

pub returns : goal.returns
returns g c = stopped c.steps.invariant.0
