-- `take_at` reads from the connection at its place.
use Rattle.std.proofs.Common.{refl, inl, arith, ◌<◌, length}
use Rattle.std.proofs.lemmas.Option.{slice_get-get_or}
use Rattle.bsc_connections.proofs.attending.take_at.Goals as goal

pub returns : goal.returns
returns g c =
    let there : c.args.place < length c.args.connections.now =
    omega (arith, c.if-place-connections.false) in
    inl (
      _,
      c.take.new.self,
      slice_get-get_or c.args.connections.now c.args.place
          c.index-connections-place.result there,
      refl,
      c.take.ensures,
    )
