-- Shows that nothing is to tell of any channel.
use Rattle.std.proofs.Common.{ℕ, List, Option, refl, subst, sym, ◌∙◌}
use Rattle.bsc_feed.specs.Following.{TellsNext}
use Rattle.bsc_feed.specs.News.{AreQuiet}
use Rattle.bsc_feed.specs.declared.told.Told.{Told}
use Rattle.bsc_feed.proofs.Quiet.{quiet_all, quiet_none}
use Rattle.bsc_feed.proofs.follows.Follows.tell.Goals as goal

pub returns-in_err-found-in-None : goal.returns-in_err-found-in-None
returns-in_err-found-in-None g c =
    let party = g.P.Party in
    let station = c.args.station.now in
    let follows = c.self.inside.next in
    let quiet : AreQuiet party station follows 0 320 =
    quiet_all party station follows c.self.inside.turn 320 c.in-None.ensures
    c.in_err-found-in-None.ensures in
    subst (λ (told : Option Told). TellsNext party station c.args.self.now told c.args.self.now)
    (sym c.from_residual.ensures)
    (subst (λ (f : List (Option ℕ)). AreQuiet party station f 0 320) c.self.view_is quiet, refl)

pub returns-then-not-self : goal.returns-then-not-self
returns-then-not-self g c =
    let none = sym c.self.view_is ∙ c.self.invariant.2 c.if-not-self.true in (
      subst (λ (f : List (Option ℕ)). AreQuiet g.P.Party c.args.station.now f 0 320) (sym none)
          (quiet_none g.P.Party c.args.station.now 320),
      refl,
    )
