-- Shows what becomes of a release.
use Rattle.std.proofs.Common.{Ok, Err, ap, refl}
use Rattle.bsc_feed.specs.declared.fault.Fault.{Fault}
use Rattle.bsc_serving.proofs.fed.FedServed.release.Goals as goal

pub returns-in-Ok : goal.returns-in-Ok
returns-in-Ok g c = record {
  answer = Ok c.in-Ok.field-0;
  between = _;
  released = c.in-Ok.ensures.releases;
  refused = tt;
  keeps_rest = (refl, refl);
  same = record { station = refl; keeps = refl; watch = refl; stopped = refl };
  keeping = c.keep_release.ensures;
}

pub returns-in-Err : goal.returns-in-Err
returns-in-Err g c = record {
  answer = Err c.in-Err.error;
  between = _;
  released = c.in-Err.ensures.releases;
  refused = c.in-Err.ensures.refused;
  keeps_rest = (refl, refl);
  same = record { station = refl; keeps = refl; watch = refl; stopped = refl };
  keeping = (ap (λ (why : Fault). Err why) c.of_release.ensures, refl);
}
