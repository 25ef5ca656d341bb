-- `put_address` stores the address and keeps the rest.
use Rattle.std.proofs.Common.{refl, length, drop}
use Rattle.std.proofs.Math.Seq.{drop-append_seam}
use Rattle.bsc_embed.proofs.Addresses.{address_put}
use Rattle.bsc_embed.proofs.content.Content.put_address.Goals as goal

pub returns-clause-address : goal.returns-clause-address
returns-clause-address c =
    rw (c.copy_from_slice.ensures.after, c.codes-codes.ensures.value)
    (address_put c.args.self.now c.args.address.now c.codes-codes.ensures.address)

pub returns-clause-kept : goal.returns-clause-kept
returns-clause-kept c = record {
  units = refl;
  count = refl;
  end = refl;
  codes = rw (c.copy_from_slice.ensures.after, c.codes-codes.ensures.value)
      (drop-append_seam c.args.address.now
      (drop (length c.args.address.now) c.args.self.now.address));
}
