-- Shows that the loop over the names finds the first unknown one.
use Rattle.std.proofs.Common.{rules, ◌≡◌, true, false, cond, Some, string_bytes, ap, sym, ◌∙◌}
use Rattle.std.proofs.lemmas.Map.Iter.{rest_more}
use Rattle.std.specs.Map.Iter.{deref}
use Rattle.bsc_config.proofs.Keys.{first_in, first_in_keys}
use Rattle.bsc_config.specs.Keys.{is_known}
use Rattle.bsc_config.proofs.known.unknown_name.Goals as goal

pub names-init : goal.names-init
names-init c = (
  tt,
  tt,
  first_in_keys c.args.owner c.args.table.now.entries
      ∙ ap (first_in c.args.owner) (sym (c.into_iter-name-iterator.ensures.into_iter_gives
      ∙ c.keys-name-items.ensures.rest)),
)

pub names-preserved : goal.names-preserved
names-preserved c =
    let k = string_bytes c.in-Some.name.now in
    let more =
    rest_more deref c.names.name-iterator c.next.new.self c.next.result c.in-Some.name
    c.in-Some.is c.next.ensures.steps in
    let known : is_known c.args.owner k ≡ true = search rules in (
      tt,
      tt,
      c.names.invariant.2 ∙ ap (first_in c.args.owner) more
          ∙ ap (λ b. cond b (first_in c.args.owner c.next.new.self) (Some k)) known,
    )

pub returns-then-not-is_known_name : goal.returns-then-not-is_known_name
returns-then-not-is_known_name c =
    let k = string_bytes c.in-Some.name.now in
    let more =
    rest_more deref c.names.name-iterator c.next.new.self c.next.result c.in-Some.name
    c.in-Some.is c.next.ensures.steps in
    let known : is_known c.args.owner k ≡ false = search rules in
    sym (c.names.invariant.2 ∙ ap (first_in c.args.owner) more
    ∙ ap (λ b. cond b (first_in c.args.owner c.next.new.self) (Some k)) known)
