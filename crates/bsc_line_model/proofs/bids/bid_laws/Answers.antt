-- `bid_laws` follows from the laws of bsc_bid.
use Rattle.bsc_line_model.proofs.bids.bid_laws.Goals as goal

pub returns : goal.returns
returns c = record {
  hearing = c.each_step.ensures.hearing;
  answering = c.each_step.ensures.answering;
  silence = c.each_step.ensures.silence;
  begin = c.each_step.ensures.begin;
  offer = c.each_step.ensures.offer;
  offer_at_rest = c.each_step.ensures.offer_at_rest;
  release = c.each_step.ensures.release;
  silence_at_rest = c.each_step.ensures.silence_at_rest;
  restart = c.each_step.ensures.restart;
  rests = c.each_step.ensures.rests;
  sound = c.each_step.ensures.sound;
  loss = c.each_step.ensures.loss;
  continues = c.each_step.ensures.continues;
  goes_on = c.each_step.ensures.goes_on;
  outward = c.each_step.ensures.outward;
  last_reply = c.each_step.ensures.last_reply;
  fits = c.each_step.ensures.fits;
}
