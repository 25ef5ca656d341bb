-- What holds of every bid, from the lemmas about its turns and the laws of blocks and queues.
use Rattle.bsc_bid.proofs.Blocks.{sends_its_blocks, hears_its_blocks, ends_knowing}
use Rattle.bsc_bid.proofs.Blocks.{release_ends_doubt}
use Rattle.bsc_bid.proofs.Doubts.{doubts_at_silence}
use Rattle.bsc_bid.proofs.TurnCount.{ends_soon}
use Rattle.bsc_bid.proofs.Turning.{LawsBelow, stays_ready, stays_sound, sound_within_turns}
use Rattle.bsc_bid.proofs.Turning.{only_moves}
use Rattle.bsc_bid.proofs.laws.one_bid.Goals as goal

-- what the calls of the laws below ensure
laws_of_calls_below : goal.After-next_blocks → LawsBelow
laws_of_calls_below c = record {
  records = c.records_back.ensures;
  next = record { none = λ q. (c.next_blocks.ensures.none q).0; some = c.next_blocks.ensures.some };
  offers = c.next_blocks.ensures.offered;
}

pub returns-clause-ready : goal.returns-clause-ready
returns-clause-ready c = stays_ready (laws_of_calls_below c)

pub returns-clause-sound : goal.returns-clause-sound
returns-clause-sound c = stays_sound (laws_of_calls_below c)

pub returns-clause-sound_within : goal.returns-clause-sound_within
returns-clause-sound_within c = sound_within_turns (laws_of_calls_below c)

pub returns-clause-moves : goal.returns-clause-moves
returns-clause-moves c = only_moves (laws_of_calls_below c)

pub returns-clause-sends_blocks : goal.returns-clause-sends_blocks
returns-clause-sends_blocks c = sends_its_blocks (laws_of_calls_below c)

pub returns-clause-hears_blocks : goal.returns-clause-hears_blocks
returns-clause-hears_blocks c = hears_its_blocks (laws_of_calls_below c)

pub returns-clause-known : goal.returns-clause-known
returns-clause-known c = ends_knowing (laws_of_calls_below c)

pub returns-clause-doubt : goal.returns-clause-doubt
returns-clause-doubt c = doubts_at_silence (laws_of_calls_below c)

pub returns-clause-release : goal.returns-clause-release
returns-clause-release c = release_ends_doubt (laws_of_calls_below c)

pub returns-clause-soon : goal.returns-clause-soon
returns-clause-soon c = ends_soon (laws_of_calls_below c)
