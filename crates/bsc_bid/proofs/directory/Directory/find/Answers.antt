-- `find` returns the terminal and way of the address.
use Rattle.std.proofs.Common.{List, sym, ◌∙◌, subst}
use Rattle.std.specs.List.{Contains}
use Rattle.std.proofs.lemmas.Cmp.{nat_list_eq_equiv}
use Rattle.std.proofs.lemmas.Slice.Eq.{bytes_eq-Decides}
use Rattle.std.proofs.lemmas.Map.Views.{hash_map_get_iff}
use Rattle.bsc_bid.proofs.Owners.{Owner}
use Rattle.bsc_bid.proofs.directory.Directory.find.Goals as goal

pub returns : goal.returns
returns g c =
    λ t way.
    let iff =
    hash_map_get_iff nat_list_eq_equiv (λ x y. (bytes_eq-Decides x y).0) c.self.inside.owners
    c.self.invariant c.args.address.now (t, way) in
    let found = c.copied.ensures ∙ c.get.ensures.value in
    let P = λ (es : List Owner). Contains es (c.args.address.now, (t, way)) in (
      λ e. subst P c.self.view_is (iff.0 (sym found ∙ e)),
      λ h. found
          ∙ iff.1 (subst P (sym c.self.view_is) h),
    )
