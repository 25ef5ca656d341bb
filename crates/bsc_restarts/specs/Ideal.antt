-- A store that is nothing but what it has. It shows that what is asked of a store can be met.
use Rattle.std.specs.Prelude.{◌≡◌, ◌⊎◌, ⊤}
use Rattle.bsc_spool.specs.Contents.{Contents, IsNext, in_numbers}
use Rattle.bsc_spool.specs.declared.channel.Channel.{Channel}
use Rattle.bsc_spool.specs.declared.store.Store as store_of
use Rattle.bsc_restarts.specs.Crashes.{IsSame, KeepsEach}

-- It keeps what it is given, a crash leaves what it had or all of a step, and reading gives what it
-- has.
abbrev pub ideal_store : store_of.Ghosts (Channel → Contents)
ideal_store =
    record {
      keeps = KeepsEach;
      stays = IsSame;
      survives = λ step old new. IsSame old new ⊎ KeepsEach step old new;
      sound = λ has. ⊤;
      reads = IsSame;
      counts = λ channel it old new. it ≡ in_numbers (old channel);
      finds_offered = λ channel mark more found old new.
          IsNext (old channel).offered mark more found;
      finds_arrived = λ channel mark more found old new.
          IsNext (old channel).arrived mark more found;
    }

abbrev pub what_it_has : (Channel → Contents) → Channel → Contents
what_it_has has = has
