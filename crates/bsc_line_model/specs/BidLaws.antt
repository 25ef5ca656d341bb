-- The laws of one step of a bid, as `each_step` of bsc_bid ensures them. The lemmas of the line
-- take them as one value.
use Rattle.bsc_bid.specs.EachStep.{HearingAgrees, AnsweringAgrees, SilenceAgrees, BeginAgrees}
use Rattle.bsc_bid.specs.EachStep.{OfferAgrees, OfferKeepsRest, ReleaseKeepsRest, SilenceKeepsRest}
use Rattle.bsc_bid.specs.EachStep.{RestartKeepsRest, AgreementRests, AgreementIsSound, LossAgrees}
use Rattle.bsc_bid.specs.EachStep.{BidContinues, SendingGoesOn, OutwardIsTextOrEnq}
use Rattle.bsc_bid.specs.EachStep.{ReplyIsLast, ActsFit}

pub record BidLaws : Type 0 where
  pub hearing : HearingAgrees
  pub answering : AnsweringAgrees
  pub silence : SilenceAgrees
  pub begin : BeginAgrees
  pub offer : OfferAgrees
  pub offer_at_rest : OfferKeepsRest
  pub release : ReleaseKeepsRest
  pub silence_at_rest : SilenceKeepsRest
  pub restart : RestartKeepsRest
  pub rests : AgreementRests
  pub sound : AgreementIsSound
  pub loss : LossAgrees
  pub continues : BidContinues
  pub goes_on : SendingGoesOn
  pub outward : OutwardIsTextOrEnq
  pub last_reply : ReplyIsLast
  pub fits : ActsFit
