-- `carry` does the event `Carry`.
use Rattle.std.proofs.Common.{List, Option, ap, sym, ℕ}
use Rattle.std.specs.Borrow.{Bor}
use Rattle.bsc_frame.specs.declared.message.Heard.TheVariants.{Noise}
use Rattle.bsc_frame.specs.Reading.{heard}
use Rattle.bsc_line_model.specs.Hearing.{heard_in, octets_in}
use Rattle.bsc_line.proofs.Carrying.{carries_heard}
use Rattle.bsc_line_model.specs.declared.event.Event.TheVariants as event
use Rattle.bsc_line.proofs.line.Line.carry.Goals as goal

pub returns-in-Some-clause-does : goal.returns-in-Some-clause-does
unfolding heard_in
returns-in-Some-clause-does g c =
    carries_heard (heard c.in-Some.octets.now) (heard_in (octets_in c.args.heard)) c.args.self.now
    c.carry_octets.result c.carry_octets.new.self
    (ap (λ (o : Option (Bor (List ℕ))). heard_in (octets_in o)) (sym c.in-Some.is))
    c.carry_octets.ensures.does

pub returns-in-None-clause-does : goal.returns-in-None-clause-does
unfolding heard_in
returns-in-None-clause-does g c =
    carries_heard Noise (heard_in (octets_in c.args.heard)) c.args.self.now
    c.carry_as.result c.carry_as.new.self
    (ap (λ (o : Option (Bor (List ℕ))). heard_in (octets_in o)) (sym c.in-None.is))
    c.carry_as.ensures.does

pub returns-in-Some-clause-steps : goal.returns-in-Some-clause-steps
returns-in-Some-clause-steps g c =
    c.each_steps.ensures (event.Carry c.args.heard) c.carry_octets.new.self c.carry_octets.result
    (returns-in-Some-clause-does g c)

pub returns-in-None-clause-steps : goal.returns-in-None-clause-steps
returns-in-None-clause-steps g c =
    c.each_steps.ensures (event.Carry c.args.heard) c.carry_as.new.self c.carry_as.result
    (returns-in-None-clause-does g c)
