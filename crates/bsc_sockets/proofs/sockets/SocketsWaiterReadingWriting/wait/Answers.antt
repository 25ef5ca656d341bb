-- The time-out ends, and a station that was told to end goes on waiting to be told again; or
-- something else ends the wait.
use Rattle.std.proofs.Common.{rules, arith}
use Rattle.bsc_sockets.proofs.sockets.SocketsWaiterReadingWriting.wait.Goals as goal

pub returns-in-TimeOut-2 : goal.returns-in-TimeOut-2
returns-in-TimeOut-2 g c = (
  search rules,
  search rules,
  search rules,
  search rules,
  search rules,
  search rules,
  search rules,
  search rules,
  search rules,
  search rules,
  λ _. search rules,
  search rules,
  search rules,
  search rules,
  search rules,
  search rules,
  search rules,
  search rules,
  grind arith,
)

pub returns-in_err-awaited-in_default-2 : goal.returns-in_err-awaited-in_default-2
returns-in_err-awaited-in_default-2 g c = (
  search rules,
  search rules,
  search rules,
  search rules,
  search rules,
  search rules,
  search rules,
  search rules,
  search rules,
  search rules,
  search rules,
  search rules,
  search rules,
  search rules,
  search rules,
  search rules,
  search rules,
  search rules,
  search rules,
)

pub returns-in_default-4 : goal.returns-in_default-4
returns-in_default-4 g c = (
  search rules,
  search rules,
  search rules,
  search rules,
  search rules,
  search rules,
  search rules,
  search rules,
  search rules,
  search rules,
  λ _. search rules,
  search rules,
  search rules,
  search rules,
  search rules,
  search rules,
  search rules,
  search rules,
  search rules,
)
