-- The digits are the text read so far without its spaces.
use Rattle.std.proofs.Common.{◌≡◌, take}
use Rattle.bsc_text.specs.Hexadecimal.{without_spaces}
use Rattle.bsc_text.proofs.hexadecimal.without_spaces.Given as goal

abbrev pub invariant-loop-octet : goal.invariant-loop-octet
invariant-loop-octet g l = l.digits.items ≡ without_spaces (take l.octet-index l.text)
