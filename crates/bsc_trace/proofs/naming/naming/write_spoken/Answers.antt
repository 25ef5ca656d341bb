-- Shows that the output is that for what the octets are heard as.
use Rattle.std.proofs.Common.{◌≡◌, ℕ, List, [], ◌∷◌, ◌++◌, true, Option, sym, subst}
use Rattle.std.proofs.KnownBytes.{Appends-trans}
use Rattle.std.specs.Io.KnownBytes.{Appends}
use Rattle.std.specs.List.{flat_map}
use Rattle.bsc_frame.specs.declared.message.Heard.{Heard}
use Rattle.bsc_text.specs.Fronts.{AppendsFront}
use Rattle.bsc_text.specs.Names.{shown, unit_line, units_of}
use Rattle.bsc_text.specs.declared.printed.Detail.{Detail}
use Rattle.bsc_text.specs.declared.printed.Detail.TheVariants.{Name, Units}
use Rattle.bsc_text.proofs.Fronts.{for_err, front_after, front_within}
use Rattle.bsc_trace.specs.NamingLines.{before_last, shown_line}
use Rattle.bsc_trace.proofs.HeardNames.{is_heard}
use Rattle.bsc_trace.proofs.naming.naming.write_spoken.Goals as goal

-- What is before the octets, a line feed and the lines for the units, one after another.
spoken_in_turn : (detail : Detail) (line before : List ℕ) (heard : Heard)
    (a b c d : Option (List ℕ)) → detail ≡ Units → before ≡ before_last line
    → Appends a b before → Appends b c (10 ∷ [])
    → Appends c d (flat_map unit_line (units_of heard))
    → Appends a d (shown_line detail true line heard)
spoken_in_turn detail line before heard a b c d is same first second third =
    let units = flat_map unit_line (units_of heard) in
    subst (λ (e : Detail). Appends a d (shown_line e true line heard)) (sym is)
    (subst (λ (xs : List ℕ). Appends a d (xs ++ 10 ∷ units)) same
    (Appends-trans a b d before (10 ∷ units) first
    (Appends-trans b c d (10 ∷ []) units second third)))

pub returns-in_ok-write_units-in-Units-clause-ok :
    goal.returns-in_ok-write_units-in-Units-clause-ok
returns-in_ok-write_units-in-Units-clause-ok g c =
    let decoded = c.decode-heard.ensures in
    let heard = c.decode-heard.result in (
      heard,
      is_heard c.args.octets.now heard decoded.whole decoded.failed decoded.noise,
      spoken_in_turn c.args.detail c.args.line.now c.before_last.result.now heard
          (g.W.Write.contents c.args.out.now) (g.W.Write.contents c.put.new.out)
          (g.W.Write.contents c.put-in-Units.new.out) (g.W.Write.contents c.write_units.new.out)
          c.in-Units.is c.before_last.ensures c.in_ok-put-in-Units.ensures.ok
          c.in_ok-put-in-Units-2.ensures.ok c.in_ok-write_units-in-Units.ensures.ok,
    )

-- a front of the output, with or without the units
name_in_front : (detail : Detail) (line : List ℕ) (heard : Heard) (a b : Option (List ℕ))
    → detail ≡ Name → AppendsFront a b (shown detail heard)
    → AppendsFront a b (shown_line detail true line heard)
name_in_front Name line heard a b is p = p
name_in_front Units line heard a b is p = cc

units_in_front : (detail : Detail) (line before : List ℕ) (heard : Heard) (a b : Option (List ℕ))
    → detail ≡ Units → before ≡ before_last line
    → AppendsFront a b (before ++ 10 ∷ flat_map unit_line (units_of heard))
    → AppendsFront a b (shown_line detail true line heard)
units_in_front detail line before heard a b is same p =
    subst (λ (e : Detail). AppendsFront a b (shown_line e true line heard)) (sym is)
    (subst (λ (xs : List ℕ). AppendsFront a b (xs ++ 10 ∷ flat_map unit_line (units_of heard)))
    same p)

pub returns-in_err-write_shown-in-Name-clause-front :
    goal.returns-in_err-write_shown-in-Name-clause-front
returns-in_err-write_shown-in-Name-clause-front g c =
    let decoded = c.decode-heard.ensures in
    let heard = c.decode-heard.result in
    for_err c.from_residual.result (
      heard,
      is_heard c.args.octets.now heard decoded.whole decoded.failed decoded.noise,
      name_in_front c.args.detail c.args.line.now heard _ _ c.in-Name.is
          c.in_err-write_shown-in-Name.ensures.front,
    )

pub returns-in_err-put-in-Units-clause-front : goal.returns-in_err-put-in-Units-clause-front
returns-in_err-put-in-Units-clause-front g c =
    let decoded = c.decode-heard.ensures in
    let heard = c.decode-heard.result in
    let before = c.before_last.result.now in
    let units = flat_map unit_line (units_of heard) in
    for_err c.from_residual-in_err-put-in-Units.result (
      heard,
      is_heard c.args.octets.now heard decoded.whole decoded.failed decoded.noise,
      units_in_front c.args.detail c.args.line.now before heard _ _ c.in-Units.is
          c.before_last.ensures
          (front_within _ _ before (10 ∷ units) c.in_err-put-in-Units.ensures.front),
    )

pub returns-in_err-put-in-Units-2-clause-front : goal.returns-in_err-put-in-Units-2-clause-front
returns-in_err-put-in-Units-2-clause-front g c =
    let decoded = c.decode-heard.ensures in
    let heard = c.decode-heard.result in
    let before = c.before_last.result.now in
    let units = flat_map unit_line (units_of heard) in
    for_err c.from_residual-in_err-put-in-Units-2.result (
      heard,
      is_heard c.args.octets.now heard decoded.whole decoded.failed decoded.noise,
      units_in_front c.args.detail c.args.line.now before heard _ _ c.in-Units.is
          c.before_last.ensures
          (front_after _ _ _ before (10 ∷ units) c.in_ok-put-in-Units.ensures.ok
          (front_within _ _ (10 ∷ []) units c.in_err-put-in-Units-2.ensures.front)),
    )

pub returns-in_err-write_units-in-Units-clause-front : goal.returns-in_err-write_units-in-Units-clause-front
returns-in_err-write_units-in-Units-clause-front g c =
    let decoded = c.decode-heard.ensures in
    let heard = c.decode-heard.result in
    let before = c.before_last.result.now in
    let units = flat_map unit_line (units_of heard) in
    for_err c.from_residual-in_err-write_units-in-Units.result (
      heard,
      is_heard c.args.octets.now heard decoded.whole decoded.failed decoded.noise,
      units_in_front c.args.detail c.args.line.now before heard _ _ c.in-Units.is
          c.before_last.ensures
          (front_after _ _ _ before (10 ∷ units) c.in_ok-put-in-Units.ensures.ok
          (front_after _ _ _ (10 ∷ []) units c.in_ok-put-in-Units-2.ensures.ok
          c.in_err-write_units-in-Units.ensures.front)),
    )
