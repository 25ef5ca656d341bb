-- The machine is asked for what the options of a station want, in this order.
use Rattle.std.proofs.Common.{rules, ◌≡◌, ◌∙◌, Ok, Err, ap, refl, subst}
use Rattle.bsc_options.specs.Settings.{settings_value}
use Rattle.bsc_attending.specs.Errors.{clients_cut, sockets_cut}
use Rattle.bsc_attending.specs.Opening.{Reaches}
use Rattle.bsc_attending.specs.Wanted.{WantedValue, wants}
use Rattle.bsc_attending.proofs.stations.open.Goals as goal

pub returns-in_err-reachable-clause-opens : goal.returns-in_err-reachable-clause-opens
returns-in_err-reachable-clause-opens g c =
    let why = c.in_err-reachable.field-0.0 in
    let is_cut : c.from_residual.result ≡ Err (clients_cut why) = search rules in
    record {
      answer = Err why;
      mid = c.reachable.new.machine;
      reaches = subst
          (λ trace.
          Reaches g.H.Network.serves trace (settings_value c.args.options.now.settings).serves
          c.args.machine.now (Err why) c.reachable.new.machine)
          c.traces.ensures c.in_err-reachable.ensures.reaches;
      connected = (is_cut, refl);
    }

pub returns-in_err-opened-clause-opens : goal.returns-in_err-opened-clause-opens
returns-in_err-opened-clause-opens g c =
    let wanted = wants (settings_value c.args.options.now.settings)
    c.args.options.now.admission.allowed c.args.prepared.now in
    let asked = ap (λ (v : WantedValue). record v { serves = c.called_by.result; prints = c.args.prints })
    c.wanted_by.ensures
    ∙ ap (λ s. record wanted { serves = s; prints = c.args.prints }) c.called_by.ensures in
    let why = c.in_err-opened.field-0.0 in
    let is_cut : c.from_residual-in_err-opened.result ≡ Err (sockets_cut why) = search rules in
    record {
      answer = Ok c.in_ok-reachable.reachable;
      mid = c.reachable.new.machine;
      reaches = subst
          (λ trace.
          Reaches g.H.Network.serves trace (settings_value c.args.options.now.settings).serves
          c.args.machine.now (Ok c.in_ok-reachable.reachable) c.reachable.new.machine)
          c.traces.ensures c.in_ok-reachable.ensures.reaches;
      connected = record {
        answer = Err why;
        after = c.open.new.self;
        connected = subst
            (λ v. g.H.Network.connects c.reachable.new.machine v (Err why) c.open.new.self) asked
            c.in_err-opened.ensures.connected;
        runs = (is_cut, refl);
      };
    }

pub returns-in_err-live-clause-opens : goal.returns-in_err-live-clause-opens
returns-in_err-live-clause-opens g c =
    let wanted = wants (settings_value c.args.options.now.settings)
    c.args.options.now.admission.allowed c.args.prepared.now in
    let asked = ap (λ (v : WantedValue). record v { serves = c.called_by.result; prints = c.args.prints })
    c.wanted_by.ensures
    ∙ ap (λ s. record wanted { serves = s; prints = c.args.prints }) c.called_by.ensures in
    record {
      answer = Ok c.in_ok-reachable.reachable;
      mid = c.reachable.new.machine;
      reaches = subst
          (λ trace.
          Reaches g.H.Network.serves trace (settings_value c.args.options.now.settings).serves
          c.args.machine.now (Ok c.in_ok-reachable.reachable) c.reachable.new.machine)
          c.traces.ensures c.in_ok-reachable.ensures.reaches;
      connected = record {
        answer = Ok c.in_ok-opened.opened;
        after = c.open.new.self;
        connected = subst
            (λ v.
            g.H.Network.connects c.reachable.new.machine v (Ok c.in_ok-opened.opened)
            c.open.new.self)
            asked c.in_ok-opened.ensures.connected;
        runs = search rules;
      };
    }

pub returns-clause-opens : goal.returns-clause-opens
returns-clause-opens g c =
    let wanted = wants (settings_value c.args.options.now.settings)
    c.args.options.now.admission.allowed c.args.prepared.now in
    let asked = ap (λ (v : WantedValue). record v { serves = c.called_by.result; prints = c.args.prints })
    c.wanted_by.ensures
    ∙ ap (λ s. record wanted { serves = s; prints = c.args.prints }) c.called_by.ensures in
    record {
      answer = Ok c.in_ok-reachable.reachable;
      mid = c.reachable.new.machine;
      reaches = subst
          (λ trace.
          Reaches g.H.Network.serves trace (settings_value c.args.options.now.settings).serves
          c.args.machine.now (Ok c.in_ok-reachable.reachable) c.reachable.new.machine)
          c.traces.ensures c.in_ok-reachable.ensures.reaches;
      connected = record {
        answer = Ok c.in_ok-opened.opened;
        after = c.open.new.self;
        connected = subst
            (λ v.
            g.H.Network.connects c.reachable.new.machine v (Ok c.in_ok-opened.opened)
            c.open.new.self)
            asked c.in_ok-opened.ensures.connected;
        runs = search rules;
      };
    }
