-- What holds of the kind holds of its number.
use Rattle.std.proofs.Common.{◌∙◌, sym}
use Rattle.bsc_embed.proofs.HeardKinds.{by_kind, failed_number, noise_number}
use Rattle.bsc_embed.proofs.decoder.bsc_decode.Goals as goal

pub returns : goal.returns
returns c =
    let t = c.decode_kind.ensures in
    let k =
    by_kind c.number.result c.decode_kind.result c.decode_kind.new.content c.number.ensures in
    let failed = failed_number c.number.result c.decode_kind.result c.number.ensures in
    let noise = noise_number c.number.result c.decode_kind.result c.number.ensures in
    record {
      whole = λ m. (λ q. (t.whole m).0 (sym k ∙ q), λ s. k ∙ (t.whole m).1 s);
      failed = (λ n. t.failed.0 (failed.0 n), λ f. failed.1 (t.failed.1 f));
      noise = (λ n. t.noise.0 (noise.0 n), λ f. noise.1 (t.noise.1 f));
      kept = t.kept;
      unspelled = t.unspelled;
    }
