-- `terminal` returns the terminal that is stored, or the fault of a wrong count or address.
use Rattle.std.proofs.Common.{rules, sym, ◌∙◌, arith, length-set}
use Rattle.bsc_embed.proofs.AddressLists.{addresses_none, address_taken, not_terminal}
use Rattle.bsc_embed.proofs.interface.addresses.StoredAddresses.terminal.Goals as goal

pub returns-in_default-address : goal.returns-in_default-address
returns-in_default-address c =
    not_terminal c.args.self.now c.in-Some.poll (omega (arith, c.if-count-eq0.false))
    c.if-count-gt-MAX_SELECTS.false (sym c.address.ensures ∙ c.in-Some.is)
    (addresses_none c.args.self.now.selects c.args.self.now.count c.loop-place.place _
    c.loop-place-test.true (search rules)
    (sym c.address-in-loop-place.ensures ∙ c.in_default-address.is))

pub loop-place-preserved : goal.loop-place-preserved
loop-place-preserved c = record {
  long = length-set _ _ _ ∙ c.loop-place.invariant.long;
  read =
      address_taken c.args.self.now.selects c.loop-place.selects c.loop-place.place _
      c.in-Some-address.select (search rules)
      (omega (
        arith,
        c.loop-place.invariant.long,
        c.if-count-gt-MAX_SELECTS.false,
        c.loop-place-test.true,
      )) c.loop-place.invariant.read
      (sym c.address-in-loop-place.ensures ∙ c.in-Some-address.is);
}
