-- Shows that as much is kept as of the whole line.
use Rattle.std.proofs.Common.{◌++◌, ◌-◌, ◌∙◌, ap, length, min, sym, take}
use Rattle.bsc_carrier.proofs.Kept.{take_of_appended}
use Rattle.bsc_feed.proofs.client_lines.keep.Goals as goal

pub returns-clause-begun : goal.returns-clause-begun
returns-clause-begun c =
    let begun = c.args.octets.now.begun in
    let part = c.args.part.now in
    c.append.ensures.begun
    ∙ ap (λ k. begun ++ take k part)
    (c.min-kept.ensures ∙ ap (λ l. min (513 - length l) (length part)) c.begun.ensures.value)
    ∙ sym (take_of_appended 513 begun part c.begun.ensures.bound)
