-- `feed` keeps the first octets of what has begun and the piece, and counts all of them.
use Rattle.std.proofs.Common.{◌≡◌, ℕ, ◌+◌, ◌-◌, min, List, ◌++◌, length, take, refl, sym, ◌∙◌, ap}
use Rattle.std.proofs.Common.{arith}
use Rattle.bsc_connections.specs.declared.limits.TheConstants.{KEPT}
use Rattle.bsc_connections.specs.Framings.{GapsValue}
use Rattle.bsc_carrier.proofs.Kept.{take_of_appended}
use Rattle.bsc_connections.proofs.gaps.GapsFraming.feed.Goals as goal

pub returns-clause-feeds : goal.returns-clause-feeds
returns-clause-feeds c =
    let old : GapsValue = c.args.self.now in
    let piece : List ℕ = c.args.piece.now in
    let held : c.self.inside.octets.begun ≡ old.begun =
    ap (λ (v : GapsValue). v.begun) c.self.view_is in
    let count : c.min-kept.result ≡ min (KEPT - length c.self.inside.octets.begun) (length piece) =
    c.min-kept.ensures
    ∙ ap (λ (xs : List ℕ). min (KEPT - length xs) (length piece)) c.begun.ensures.value in
    let begun : c.append.new.self.begun ≡ take KEPT (old.begun ++ piece) =
    c.append.ensures.begun
    ∙ ap (λ (n : ℕ). c.self.inside.octets.begun ++ take n piece) count
    ∙ sym (take_of_appended KEPT c.self.inside.octets.begun piece c.begun.ensures.bound)
    ∙ ap (λ (xs : List ℕ). take KEPT (xs ++ piece)) held in
    let arrived : c.self.inside.arrived ≡ old.arrived =
    ap (λ (v : GapsValue). v.arrived) c.self.view_is in
    let complete : c.append.new.self.complete ≡ old.complete =
    c.append.ensures.complete ∙ ap (λ (v : GapsValue). v.complete) c.self.view_is in (
      refl,
      refl,
      omega (arith, c.if-piece-self.false, arrived, c.self.invariant),
      ap (λ (xs : List ℕ). record {
        begun = xs;
        arrived = c.self.inside.arrived + length piece;
        complete = c.append.new.self.complete;
      }) begun
          ∙ ap (λ (n : ℕ). record {
            begun = take KEPT (old.begun ++ piece);
            arrived = n
                + length piece;
            complete = c.append.new.self.complete;
          }) arrived
          ∙ ap (λ (xs : List ℕ). record {
            begun = take KEPT (old.begun ++ piece);
            arrived =
                old.arrived + length piece;
            complete = xs;
          }) complete,
    )
