-- The text of a reason, from the parts that are written.
use Rattle.std.proofs.Common.{ℕ, List, sym, subst, ap}
use Rattle.std.specs.Fmt.{HasWritten}
use Rattle.bsc_trust.specs.Reasons.{reason_text}
use Rattle.bsc_trust.proofs.distrust.DistrustDisplay.fmt.Goals as goal

pub returns-in-OtherTerminal-clause-writes : goal.returns-in-OtherTerminal-clause-writes
returns-in-OtherTerminal-clause-writes g c =
    λ plain ok.
    subst (λ (text : List ℕ).
    HasWritten g.W.Write.write_str_gives c.args.f.now text c.write-in-OtherTerminal.new.self)
    (sym (ap reason_text c.in-OtherTerminal.is))
    (c.write-in-OtherTerminal.ensures.writes plain ok)

pub returns-in-SecondConnection-clause-writes : goal.returns-in-SecondConnection-clause-writes
returns-in-SecondConnection-clause-writes g c =
    λ plain ok.
    subst (λ (text : List ℕ).
    HasWritten g.W.Write.write_str_gives c.args.f.now text
    c.write-in-SecondConnection.new.self)
    (sym (ap reason_text c.in-SecondConnection.is))
    (c.write-in-SecondConnection.ensures.writes plain ok)

pub returns-in-OtherAddress-clause-writes : goal.returns-in-OtherAddress-clause-writes
returns-in-OtherAddress-clause-writes g c =
    λ plain ok.
    subst (λ (text : List ℕ).
    HasWritten g.W.Write.write_str_gives c.args.f.now text c.write-in-OtherAddress.new.self)
    (sym (ap reason_text c.in-OtherAddress.is))
    (c.write-in-OtherAddress.ensures.writes plain ok)
