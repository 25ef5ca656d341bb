-- One connection of each terminal, and one terminal of each connection, from who owns which.
use Rattle.bsc_trust.proofs.Owning.{one_place, one_terminal}
use Rattle.bsc_trust.proofs.laws.one_connection.Goals as goal

pub returns-clause-of_terminal : goal.returns-clause-of_terminal
returns-clause-of_terminal c = one_place

pub returns-clause-of_place : goal.returns-clause-of_place
returns-clause-of_place c = one_terminal
