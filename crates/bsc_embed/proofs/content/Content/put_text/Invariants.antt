-- The loop invariant of `put_text`: the units stored so far, and what is unchanged.
use Rattle.std.proofs.Common.{◌≡◌, take, drop, Some}
use Rattle.bsc_embed.specs.Contents.{units_in}
use Rattle.bsc_embed.specs.Decoded.{KeepCharsAfter}
use Rattle.bsc_embed.proofs.content.Content.put_text.Given as goal

abbrev pub invariant-loop-place : goal.invariant-loop-place
invariant-loop-place l = record {
  units : units_in (take l.place l.self.units) ≡ Some (take l.place l.text.units);
  rest : drop l.place l.self.units ≡ drop l.place l.initial.self.units;
  chars : KeepCharsAfter l.initial.self.units l.self.units;
  address : l.self.address ≡ l.initial.self.address;
  address_len : l.self.address_len ≡ l.initial.self.address_len;
}
