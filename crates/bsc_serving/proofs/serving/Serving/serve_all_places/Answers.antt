-- Shows what serving leaves, from what the turns of the programs leave.
use Rattle.std.proofs.Common.{rules, ap, ap₂, sym}
use Rattle.bsc_serving.specs.Serves.{served_as}
use Rattle.bsc_serving.proofs.serving.Serving.serve_all_places.Goals as goal

pub returns-in-Ok : goal.returns-in-Ok
returns-in-Ok g c = record {
  begun = c.new-fed.result;
  last = c.serve_fed.new.fed;
  station_is = ap (λ s. s.now) c.new-fed.ensures.station;
  keeps_is = ap (λ k. k.now) c.new-fed.ensures.keeps;
  goes_on = c.new-fed.ensures.stopped;
  fine = c.new-fed.ensures.failure;
  are_asked = c.in-Ok.ensures.served.is_asked;
  answer = ap₂ served_as (sym c.in-Ok.ensures.served.fails_so) c.is_stopped.ensures;
  station_left = search rules;
  keeps_left = search rules;
}

pub returns-in-Err : goal.returns-in-Err
returns-in-Err g c = record {
  begun = c.new-fed.result;
  last = c.serve_fed.new.fed;
  station_is = ap (λ s. s.now) c.new-fed.ensures.station;
  keeps_is = ap (λ k. k.now) c.new-fed.ensures.keeps;
  goes_on = c.new-fed.ensures.stopped;
  fine = c.new-fed.ensures.failure;
  are_asked = c.in-Err.ensures.served.is_asked;
  answer = ap (λ f. served_as f c.serve_fed.new.fed.stopped) (sym c.in-Err.ensures.served.fails_so);
  station_left = search rules;
  keeps_left = search rules;
}
