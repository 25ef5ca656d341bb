-- `Peer::new` returns the state of a new terminal.
use Rattle.std.proofs.Common.{◌≡◌, ℕ, ◌≤◌, List, [], ◌∷◌, ◌++◌, length, refl, sym, ap, ◌∙◌, subst}
use Rattle.std.proofs.Common.{arith}
use Rattle.std.specs.Prelude.{All, replicate}
use Rattle.std.proofs.lemmas.List.{replicate-append-replicate, length-replicate}
use Rattle.std.proofs.lemmas.List.Elements.{All-push}
use Rattle.bsc_bid.specs.Setup.{SetupValue}
use Rattle.bsc_control.specs.Peer.{OutboundValue, IsOutbound, new_outbound}
use Rattle.bsc_control.proofs.peer.Peer.new.Given as given
use Rattle.bsc_control.proofs.peer.Peer.new.Goals as goal

pub loop-preserved : goal.loop-preserved
loop-preserved g c =
    let items : c.push.new.self.items ≡ c.loop.outbounds.items ++ c.new.result ∷ [] =
    c.in_ok-push.ensures.items in
    record {
      made = items ∙ ap (λ z. z ++ c.new.result ∷ []) c.loop.invariant.made
          ∙ ap (λ o. replicate c.loop.counter (new_outbound c.args.setup) ++ o ∷ [])
          c.new.ensures.value ∙ replicate-append-replicate c.loop.counter 1
          (new_outbound c.args.setup);
      ready =
          subst (All IsOutbound) (sym items)
          (All-push IsOutbound c.loop.outbounds.items c.new.result c.loop.invariant.ready
          c.new.ensures.outbound);
    }

-- the loop made as many sending sides as there are selection addresses
all_made : (setup : SetupValue) (os : List OutboundValue) (made all count : ℕ)
    → os ≡ replicate made (new_outbound setup) → made ≤ all → all ≤ made → all ≡ count
    → os ≡ replicate count (new_outbound setup)
all_made setup os made all count is below above same =
    let counted : made ≡ count = omega arith in
    is ∙ ap (λ n. replicate n (new_outbound setup)) counted

made : (g : given.Over) (c : goal.After-new-3 g)
    → c.loop.outbounds.items
    ≡ replicate (length c.args.terminal.selects) (new_outbound c.args.setup)
made g c =
    all_made c.args.setup c.loop.outbounds.items c.loop.counter c.selects-end.result
    (length c.args.terminal.selects) c.loop.invariant.made c.loop.auto.counter-end
    c.loop-test.false c.selects-end.ensures.count

pub invariant_of-result : goal.invariant_of-result
invariant_of-result g c =
    record {
      terminal = c.selects-end.ensures.limits;
      outbounds =
          ap length (made g c)
          ∙ length-replicate (length c.args.terminal.selects) (new_outbound c.args.setup);
      ready = c.loop.invariant.ready;
    }

pub returns-clause-value : goal.returns-clause-value
returns-clause-value g c =
    record {
      terminal_given = refl;
      is_polled = refl;
      not_urgent = refl;
      receiver = c.new-2.ensures;
      nothing_spooled = c.new-3.ensures.records;
      no_delays = c.new-3.ensures.delays;
      outbounds = made g c;
    }

pub returns-clause-peer : goal.returns-clause-peer
returns-clause-peer g c = invariant_of-result g c
