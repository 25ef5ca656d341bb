-- All octets have odd parity exactly if those of the chunks and of the rest have.
use Rattle.std.proofs.Common.{length, ◌/◌, sym, ◌∙◌, ◌<◌}
use Rattle.std.proofs.lemmas.List.Elements.{All-from_get_or, recursion_from_All}
use Rattle.bsc_octet.proofs.LaneParity.{all_chunks, both_odd, chunks_odd, rest_odd}
use Rattle.bsc_octet.proofs.parity.all_odd.Goals as goal

pub are_odd-requires : goal.are_odd-requires
are_odd-requires c = rw c.as_chunks.ensures.front
    (all_chunks (λ x. x < 256) 32 (length c.args.octets.now / 32) c.args.octets.now
    (recursion_from_All (λ x. x < 256) c.args.octets.now
    (All-from_get_or (λ x. x < 256) c.args.octets.now 0 (λ i _. (c.type_inv.octets i).fits))))

pub returns-then-not-are_odd : goal.returns-then-not-are_odd
returns-then-not-are_odd c = (
  λ e. cc,
  λ h. sym c.if-not-are_odd.true
      ∙ c.are_odd.ensures.1 (chunks_odd c.args.octets.now _ c.as_chunks.ensures.front h),
)

pub returns : goal.returns
returns c = (
  λ e. both_odd c.args.octets.now _ _ c.as_chunks.ensures.front c.as_chunks.ensures.back
      (c.are_odd.ensures.0 c.if-not-are_odd.false) (c.rest_is_odd.ensures.0 e),
  λ h. c.rest_is_odd.ensures.1 (rest_odd c.args.octets.now _ c.as_chunks.ensures.back h),
)
