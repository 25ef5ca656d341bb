-- PAD is a body octet of a call, and is not one of a text.
use Rattle.std.proofs.Common.{inl, inr}
use Rattle.bsc_frame.specs.TurnedBits.{two_chars, IsBodyOctet}
use Rattle.bsc_frame.proofs.DamagedCall.{pad_even}
use Rattle.test_frames.proofs.definitions.pad_stands_only_in_calls.Goals as goal

not_in_a_text : IsBodyOctet (two_chars 0x48 0x49) 0xff → ⊥
not_in_a_text (inl odd) = pad_even odd
not_in_a_text (inr ((a, is_call), is_pad)) = cc

pub returns-clause-text : goal.returns-clause-text
returns-clause-text c = not_in_a_text
