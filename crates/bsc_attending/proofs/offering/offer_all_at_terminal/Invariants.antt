-- The texts so far were added in turn, and the queue of the terminal keeps its format.
use Rattle.std.proofs.Common.{◌≡◌, map, take, string_bytes}
use Rattle.bsc_attending.specs.Offering.{AddsAllLines}
use Rattle.bsc_attending.proofs.offering.offer_all_at_terminal.Given as goal

abbrev pub invariant-offers : goal.invariant-offers
invariant-offers g l = record {
  format : l.terminal.tributary.queue.format ≡ l.setup.format;
  added : AddsAllLines (map string_bytes (take l.path-index l.offers))
      (g.R.Read.remaining l.initial.input, l.initial.terminal)
      (g.R.Read.remaining l.input, l.terminal);
}
