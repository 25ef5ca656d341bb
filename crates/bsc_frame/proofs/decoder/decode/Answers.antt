-- What `decode` returns by reading from left to right, stated by the relations on whole lists.
use Rattle.std.proofs.Common.{◌∙◌, sym}
use Rattle.bsc_frame.proofs.HeardMessages.{spelled_heard, heard_spelled, failed_heard, heard_failed}
use Rattle.bsc_frame.proofs.HeardMessages.{noise_heard, heard_noise}
use Rattle.bsc_frame.proofs.decoder.decode.Goals as goal

pub returns-clause-whole : goal.returns-clause-whole
returns-clause-whole c =
    λ m. (
      λ e. spelled_heard _ m (sym c.octets_heard.ensures ∙ e),
      λ s. c.octets_heard.ensures
          ∙ heard_spelled _ m s,
    )

pub returns-clause-failed : goal.returns-clause-failed
returns-clause-failed c = (
  λ e. failed_heard _ (sym c.octets_heard.ensures ∙ e),
  λ s. c.octets_heard.ensures
      ∙ heard_failed _ s,
)

pub returns-clause-noise : goal.returns-clause-noise
returns-clause-noise c = (
  λ e. noise_heard _ (sym c.octets_heard.ensures ∙ e),
  λ s. c.octets_heard.ensures
      ∙ heard_noise _ s,
)
