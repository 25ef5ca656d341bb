-- New terminals, made one after another.
use Rattle.std.proofs.Common.{◌≡◌, ℕ, ◌<◌, ◌+◌, List, [], ◌∷◌, ◌++◌, length, get_or, sym, ◌∙◌, ap}
use Rattle.std.proofs.Common.{subst, arith, length-append, below_more}
use Rattle.std.proofs.Math.ListN.{get_or-append}
use Rattle.std.proofs.Math.Seq.{get_or-append_seam}
use Rattle.std.proofs.lemmas.List.{get_or_default}
use Rattle.bsc_bid.specs.Setup.{SetupValue}
use Rattle.bsc_bid.specs.Terminal.{TerminalValue}
use Rattle.bsc_tributary.specs.Tributary.{TributaryValue}
use Rattle.bsc_control.specs.Peer.{no_peer}
use Rattle.bsc_line_model.specs.Line.{no_terminal, terminal_in}
use Rattle.bsc_line_model.specs.Kept.{AreNewTerminals}
use Rattle.bsc_tributary.specs.Kept.{IsNewTerminal}

-- this many terminals have been made
pub record AreMade (setup : SetupValue) (given : List TerminalValue) (ts : List TributaryValue)
    (n : ℕ) : Type 0 where
  pub count : length ts ≡ n
  pub each : (t : ℕ) → t < n
      → IsNewTerminal setup (get_or given t no_peer.terminal) (terminal_in ts t)

pub made_at_start : (setup : SetupValue) (given : List TerminalValue) (ts : List TributaryValue) → ts
    ≡ [] → AreMade setup given ts 0
made_at_start setup given ts e = record { count = ap length e; each = λ t less. absurd (omega arith) }

pub one_more_made : (setup : SetupValue) (given : List TerminalValue) (ts us : List TributaryValue)
    (n : ℕ) (given_here : TerminalValue) (x : TributaryValue) → AreMade setup given ts n → n
    < length given → given_here ≡ get_or given n given_here → IsNewTerminal setup given_here x → us
    ≡ ts ++ x ∷ [] → AreMade setup given us (n + 1)
one_more_made setup given ts us n given_here x m less is new becomes =
    let seam : get_or (ts ++ x ∷ []) n no_terminal ≡ x =
    subst (λ (k : ℕ). get_or (ts ++ x ∷ []) k no_terminal ≡ x) m.count
    (get_or-append_seam ts x [] no_terminal) in
    let here : get_or given n no_peer.terminal ≡ given_here =
    get_or_default given n no_peer.terminal given_here less ∙ sym is in
    record {
      count = ap length becomes ∙ length-append ts (x ∷ []) ∙ omega (arith, m.count);
      each =
          subst (λ (vs : List TributaryValue). (t : ℕ) → t < n + 1
          → IsNewTerminal setup (get_or given t no_peer.terminal) (terminal_in vs t))
          (sym becomes)
          (below_more (λ (t : ℕ). IsNewTerminal setup (get_or given t no_peer.terminal)
          (get_or (ts ++ x ∷ []) t no_terminal)) n
          (λ t before. let within : t < length ts = omega (arith, m.count) in
          rw (get_or-append ts (x ∷ []) no_terminal t within) (m.each t before))
          (rw (here, seam) new));
    }

pub all_terminals_made : (setup : SetupValue) (given : List TerminalValue) (ts : List TributaryValue) (n : ℕ)
    → AreMade setup given ts n → n ≡ length given → AreNewTerminals setup given ts
all_terminals_made setup given ts n m all =
    record { count = m.count ∙ all; each = λ t less. m.each t (omega arith) }
