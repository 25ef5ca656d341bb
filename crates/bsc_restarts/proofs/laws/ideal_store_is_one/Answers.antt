-- What is asked of a store can be met.
use Rattle.std.proofs.Common.{ap, inl, refl}
use Rattle.bsc_restarts.proofs.laws.ideal_store_is_one.Goals as goal

pub returns : goal.returns
returns c = record {
  keeps = record {
    was_sound = λ step old new survives sound. tt;
    keeps = λ step old new keeps sound. keeps;
  };
  gives_back = record {
    was_sound = λ old new reads sound. tt;
    stays = λ old new reads sound channel. reads channel;
    counts = λ channel it old new is sound. is;
    offered = λ channel mark more found old new finds sound. finds;
    arrived = λ channel mark more found old new finds sound. finds;
  };
  before = λ old new. record {
    same = λ is channel. refl;
    step = λ step survives. inl (λ channel. refl);
  };
  after = λ old new. record {
    same = λ is channel. ap (λ has. has channel) is;
    step = λ step survives. survives;
  };
}
