-- What each step of a bid keeps, from the lemmas about its steps and the laws of blocks and queues.
use Rattle.bsc_bid.proofs.Steps.{hearing_agrees, answering_agrees, silence_agrees}
use Rattle.bsc_bid.proofs.Steps.{begin_agrees, offer_agrees, offer_keeps_rest}
use Rattle.bsc_bid.proofs.Steps.{release_keeps_rest, silence_keeps_rest, restart_keeps_rest}
use Rattle.bsc_bid.proofs.Steps.{agreement_rests, agreement_is_sound, loss_agrees}
use Rattle.bsc_bid.proofs.Steps.{outward_is_text_or_enq, reply_is_last}
use Rattle.bsc_bid.proofs.Fitting.{fits_begin, fits_reply, fits_silence}
use Rattle.bsc_bid.proofs.Keeping.{keeps_begin, keeps_reply, keeps_silence}
use Rattle.bsc_bid.proofs.Answering.{in_bid_while_outward}
use Rattle.bsc_bid.proofs.Turning.{LawsBelow, bid_continues}
use Rattle.bsc_bid.proofs.laws.each_step.Goals as goal

-- what the calls of the laws below ensure
laws_of_calls_below : goal.After-next_blocks → LawsBelow
laws_of_calls_below c = record {
  records = c.records_back.ensures;
  next = record { none = λ q. (c.next_blocks.ensures.none q).0; some = c.next_blocks.ensures.some };
  offers = c.next_blocks.ensures.offered;
}

pub returns-clause-hearing : goal.returns-clause-hearing
returns-clause-hearing c = hearing_agrees (laws_of_calls_below c)

pub returns-clause-answering : goal.returns-clause-answering
returns-clause-answering c = answering_agrees (laws_of_calls_below c)

pub returns-clause-silence : goal.returns-clause-silence
returns-clause-silence c = silence_agrees

pub returns-clause-begin : goal.returns-clause-begin
returns-clause-begin c = begin_agrees (laws_of_calls_below c)

pub returns-clause-offer : goal.returns-clause-offer
returns-clause-offer c = offer_agrees (laws_of_calls_below c)

pub returns-clause-offer_at_rest : goal.returns-clause-offer_at_rest
returns-clause-offer_at_rest c = offer_keeps_rest (laws_of_calls_below c)

pub returns-clause-release : goal.returns-clause-release
returns-clause-release c = release_keeps_rest

pub returns-clause-silence_at_rest : goal.returns-clause-silence_at_rest
returns-clause-silence_at_rest c = silence_keeps_rest

pub returns-clause-restart : goal.returns-clause-restart
returns-clause-restart c = restart_keeps_rest

pub returns-clause-rests : goal.returns-clause-rests
returns-clause-rests c = agreement_rests

pub returns-clause-sound : goal.returns-clause-sound
returns-clause-sound c = agreement_is_sound

pub returns-clause-loss : goal.returns-clause-loss
returns-clause-loss c = loss_agrees

pub returns-clause-continues : goal.returns-clause-continues
returns-clause-continues c = bid_continues

pub returns-clause-goes_on : goal.returns-clause-goes_on
returns-clause-goes_on c = in_bid_while_outward

pub returns-clause-outward : goal.returns-clause-outward
returns-clause-outward c = outward_is_text_or_enq

pub returns-clause-last_reply : goal.returns-clause-last_reply
returns-clause-last_reply c = reply_is_last

pub returns-clause-fits : goal.returns-clause-fits
returns-clause-fits c = record { begin = fits_begin; reply = fits_reply; silence = fits_silence }

pub returns-clause-keeps : goal.returns-clause-keeps
returns-clause-keeps c =
    record { begin = keeps_begin; reply = keeps_reply; silence = keeps_silence }
