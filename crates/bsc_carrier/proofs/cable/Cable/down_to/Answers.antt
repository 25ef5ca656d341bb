-- `down_to` changes one end on each side, and returns each result when it is due.
use Rattle.std.proofs.Common.{length, sym, ap, ◌∙◌}
use Rattle.std.specs.Prelude.{OnOk, slice_get}
use Rattle.std.specs.Result.{result_err}
use Rattle.bsc_carrier.specs.Cable.{Takes, Gives}
use Rattle.bsc_carrier.proofs.Places.{changes_back, counts_written_back, same_back, same_cable}
use Rattle.bsc_carrier.proofs.Places.{written_back_length}
use Rattle.bsc_carrier.proofs.cable.Cable.down_to.Goals as goal

pub invariant_of-self : goal.invariant_of-self
invariant_of-self g c =
    counts_written_back _ _ c.self.inside.control_ends.items c.self.inside.terminal_ends.items
    c.carry_at-result.new.near c.carry_at-result.new.far _ _
    (ap length (sym c.as_mut_slice-near.ensures.value) ∙ c.as_mut_slice-near.ensures.len)
    (ap length (sym c.as_mut_slice-far.ensures.value) ∙ c.as_mut_slice-far.ensures.len)
    (c.carry_at-result.auto.near ∙ c.as_mut_slice-near.ensures.len)
    (c.carry_at-result.auto.far ∙ c.as_mut_slice-far.ensures.len) c.self.invariant

pub returns-clause-wrote : goal.returns-clause-wrote
returns-clause-wrote g c =
    changes_back {S = g.row.S.Denot}
    (λ before after. OnOk c.carry_at-result.result
    (Takes g.S.Write.contents c.args.octets.now before after)) c.args.terminal _ _ _ _ _
    (c.as_mut_slice-near.ensures.value ∙ ap (λ v. v.control_ends) c.self.view_is)
    (c.carry_at-result.auto.near ∙ c.as_mut_slice-near.ensures.len) c.carry_at-result.ensures.wrote

pub returns-clause-read : goal.returns-clause-read
returns-clause-read g c =
    changes_back {S = g.row.S.Denot}
    (λ before after. OnOk c.carry_at-result.result
    (Gives g.S.Read.remaining c.carry_at-result.new.heard.items before after)) c.args.terminal _ _ _ _ _
    (c.as_mut_slice-far.ensures.value ∙ ap (λ v. v.terminal_ends) c.self.view_is)
    (c.carry_at-result.auto.far ∙ c.as_mut_slice-far.ensures.len) c.carry_at-result.ensures.read

pub returns-clause-exact : goal.returns-clause-exact
returns-clause-exact g c =
    let same = c.as_mut_slice-far.ensures.value ∙ ap (λ v. v.terminal_ends) c.self.view_is in
    λ end here none. c.carry_at-result.ensures.exact end
    (ap (λ l. slice_get l c.args.terminal) same ∙ here) (ap (λ v. v.fault) c.self.view_is ∙ none)

pub returns-clause-count : goal.returns-clause-count
returns-clause-count g c =
    let lent = c.as_mut_slice-far.ensures in
    written_back_length _ c.carry_at-result.new.far _
    (c.carry_at-result.auto.far ∙ lent.len) ∙ sym lent.len
    ∙ ap length (lent.value ∙ ap (λ v. v.terminal_ends) c.self.view_is)

pub returns-clause-first_error : goal.returns-clause-first_error
returns-clause-first_error g c = λ e first.
    let stays = c.carry_at-result.ensures.first_error e (ap (λ v. v.fault) c.self.view_is ∙ first) in (
      stays.0,
      same_cable g.row.A.Denot _ _
          (same_back _ c.args.self.now.control_ends _ c.carry_at-result.new.near _
          (c.as_mut_slice-near.ensures.value ∙ ap (λ v. v.control_ends) c.self.view_is)
          (c.carry_at-result.auto.near ∙ c.as_mut_slice-near.ensures.len) stays.1)
          (same_back _ c.args.self.now.terminal_ends _ c.carry_at-result.new.far _
          (c.as_mut_slice-far.ensures.value ∙ ap (λ v. v.terminal_ends) c.self.view_is)
          (c.carry_at-result.auto.far ∙ c.as_mut_slice-far.ensures.len) stays.2)
          (c.err-self-inside.ensures.value ∙ ap result_err stays.0 ∙ sym first),
    )
