-- One count follows the other. The names are long, so the search does not find it.
use Rattle.std.proofs.KnownBytes.{Appends-trans}
use Rattle.std.proofs.lemmas.Result.{on_ok_weaker}
use Rattle.bsc_feed.proofs.text.write_silences.Goals as goal

pub returns : goal.returns
returns g c =
    on_ok_weaker c.write_count-2.result
    (Appends-trans _ _ _ _ _ c.in_ok-write_count.ensures) c.write_count-2.ensures
