-- Reading from left to right agrees with the relations on whole lists, from the lemmas about what
-- is heard.
use Rattle.bsc_frame.proofs.HeardMessages.{spelled_heard, heard_spelled, failed_heard, heard_failed}
use Rattle.bsc_frame.proofs.HeardMessages.{noise_heard, heard_noise}
use Rattle.bsc_frame.proofs.laws.reading.Goals as goal

pub returns-clause-whole : goal.returns-clause-whole
returns-clause-whole c = λ octets m. (spelled_heard octets m, heard_spelled octets m)

pub returns-clause-failed : goal.returns-clause-failed
returns-clause-failed c = λ octets. (failed_heard octets, heard_failed octets)

pub returns-clause-noise : goal.returns-clause-noise
returns-clause-noise c = λ octets. (noise_heard octets, heard_noise octets)
