-- The command line has no more than what the statements of `clap` cover exactly.
use Rattle.std.proofs.Common.{◌≡◌, refl, true}
use Rattle.clap.specs.Words.{is_simple, is_simple_and_free}
use Rattle.clap.proofs.OnLiterals.{clap_on_literals}
use Rattle.bsc_words.specs.CommandLine.{bscline_app}

pub is_free : is_simple_and_free bscline_app ≡ true
unfolding clap_on_literals
is_free = refl

pub are_simple : is_simple bscline_app ≡ true
unfolding clap_on_literals
are_simple = refl
