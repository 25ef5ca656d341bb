-- Each change that a method makes leaves a terminal: what holds of every terminal still holds.
use Rattle.std.proofs.Common.{◌≡◌, ◌∙◌, Bool, true, false, sym, ap, subst, refl, List, [], length}
use Rattle.std.proofs.Common.{arith}
use Rattle.bsc_spool.specs.Queue.{QueueValue}
use Rattle.bsc_spool.specs.Spool.{SpoolValue}
use Rattle.bsc_bid.specs.declared.phase.Phase.TheVariants.{Idle}
use Rattle.bsc_bid.specs.Ready.{IsReady}
use Rattle.bsc_bid.specs.Setup.{SetupValue, IsSetup}
use Rattle.bsc_bid.specs.Terminal.{TerminalValue, IsTerminal, HasDistinctAddresses}
use Rattle.bsc_bid.specs.Receiver.{ReceiverValue}
use Rattle.bsc_bid.specs.Sender.{SenderValue, SenderStep, with_phase, cut_phase}
use Rattle.bsc_bid.proofs.Restarting.{is_at_rest_cut_phase}
use Rattle.bsc_tributary.specs.declared.mode.Mode.{Mode}
use Rattle.bsc_tributary.specs.declared.mode.Mode.TheVariants.{Control}
use Rattle.bsc_tributary.specs.Tributary.{TributaryValue, mode_after}
use Rattle.bsc_tributary.specs.Kept.{IsTributary, SuitsMode}
use Rattle.bsc_tributary.proofs.Acts.{FollowsFrom}

-- the line is taken from the terminal
pub stays_without_line : (t : TributaryValue) (sender : SenderValue) → IsTributary t →
    sender ≡ with_phase t.sender (cut_phase t.sender.phase) → IsReady sender t.queue →
    IsTributary (record t { mode = Control; sender = sender })
stays_without_line t sender is cut ready =
    record {
      distinct = is.distinct;
      terminal = is.terminal;
      spools = is.spools;
      format = is.format ∙ ap (λ (s : SenderValue). s.setup.format) (sym cut);
      ready = ready;
      bid = subst (λ (s : SenderValue). SuitsMode Control s.phase (length t.spools)) (sym cut)
          (is_at_rest_cut_phase t.sender.phase);
    }

-- the sender acts
pub stays_act_step : (t : TributaryValue) (mode from : Mode) (step : SenderStep) → IsTributary t →
    mode ≡ mode_after step.act from → FollowsFrom from (length t.spools) t.sender t.queue step →
    IsReady step.sender step.queue →
    IsTributary (record t { mode = mode; sender = step.sender; queue = step.queue })
stays_act_step t mode from step is e follows ready =
    record {
      distinct = is.distinct;
      terminal = is.terminal;
      spools = is.spools;
      format = follows.format_is ∙ is.format ∙ ap (λ s. s.format) (sym follows.setup_is);
      ready = ready;
      bid =
          subst (λ (m : Mode). SuitsMode m step.sender.phase (length t.spools)) (sym e)
          follows.suits;
    }

-- a new terminal
pub new_is : (terminal : TerminalValue) (setup : SetupValue) (sender : SenderValue)
    (receiver : ReceiverValue)
    (queue : QueueValue) (spools : List SpoolValue) → HasDistinctAddresses terminal
    → IsTerminal terminal → IsSetup setup →
    sender ≡ record { setup = setup; phase = Idle; failures = 0; wacks = 0 } →
    queue ≡ record { format = setup.format; offered = []; known = 0 } → length spools
    ≡ length terminal.selects →
    IsTributary
    (record {
      terminal = terminal;
      mode = Control;
      ready = true;
      urgent = false;
      sender = sender;
      receiver = receiver;
      queue = queue;
      spools = spools;
    })
new_is terminal setup sender receiver queue spools distinct is limits s q count =
    rw (s, q) (record {
      distinct = distinct;
      terminal = is;
      spools = count;
      format = refl;
      ready =
          record {
            queue = record { format = limits.format; known = omega arith; short = tt };
            counts = tt;
          };
      bid = tt;
    })

-- the flags and the receiver change
pub stays_flags : (t : TributaryValue) (ready urgent : Bool) (receiver : ReceiverValue)
    → IsTributary t →
    IsTributary (record t { ready = ready; urgent = urgent; receiver = receiver })
stays_flags t ready urgent receiver is =
    record {
      distinct = is.distinct;
      terminal = is.terminal;
      spools = is.spools;
      format = is.format;
      ready = is.ready;
      bid = is.bid;
    }
