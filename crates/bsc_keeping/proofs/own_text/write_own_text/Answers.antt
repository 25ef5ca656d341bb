-- The parts of the text follow one another.
use Rattle.std.proofs.Common.{ℕ, List, ◌++◌, subst}
use Rattle.std.proofs.KnownBytes.{Appends-trans}
use Rattle.std.specs.Io.KnownBytes.{Appends}
use Rattle.std.specs.List.{flat_map}
use Rattle.bsc_bid.specs.Terminal.{TerminalValue}
use Rattle.bsc_keeping.specs.OwnText.{full_line, owner_line, terminal_line}
use Rattle.bsc_keeping.proofs.own_text.write_own_text.Goals as goal

pub returns : goal.returns
returns g c =
    let before = g.W.Write.contents c.args.out.now in
    let after = g.W.Write.contents c.write_terminals.new.out in
    let owner : List ℕ = owner_line c.args.owner in
    subst
    (λ (full : ℕ). Appends before after
    (owner ++ full_line full ++ flat_map terminal_line c.args.config.now.terminals))
    c.full_of.ensures
    (subst
    (λ (ts : List TerminalValue). Appends before after
    (owner ++ full_line c.full_of.result ++ flat_map terminal_line ts))
    c.terminal_list.ensures.value
    (Appends-trans _ _ _ _ _
    (Appends-trans _ _ _ _ _ c.in_ok-write_owner.ensures c.in_ok-write_full.ensures)
    c.in_ok-write_terminals.ensures))
