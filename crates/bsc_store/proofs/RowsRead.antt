-- What is read of a row.
use Rattle.std.proofs.Common.{◌≡◌, ◌∙◌, false, sym, subst, Option, Some, None, arith}
use Rattle.std.specs.Prelude.{is_none}
use Rattle.sqlite.specs.Store.{Ghosts}
use Rattle.sqlite.specs.Order.{Row, column}
use Rattle.sqlite.specs.declared.types.Value.TheVariants.{Int, Blob}
use Rattle.sqlite.specs.State.{HasCleanDisk}
use Rattle.sqlite.specs.Held.{Held, state}
use Rattle.sqlite.proofs.StateLemmas.{survives_then}
use Rattle.bsc_spool.specs.declared.channel.Channel.{Channel}
use Rattle.bsc_spool.specs.declared.store.Found.{Found}
use Rattle.bsc_store.specs.declared.checks.Marks.{Marks}
use Rattle.bsc_store.specs.Checks.{HasCheck, check_of}
use Rattle.bsc_store.specs.Reading.{IsRecord, OnlyRead}
use Rattle.bsc_store.proofs.Steps.{keeps_then}

-- A row without the check of its record is not one that a store keeps.
pub not_record : (marks : Option Marks) (channel : Channel) (row : Row) (has it : Found)
    → column row 0 ≡ Int has.mark → column row 1 ≡ Blob has.«record»
    → is_none marks ≡ false → ((m : Marks) → ¬ HasCheck (Some m) channel row has)
    → ¬ IsRecord marks channel row it
not_record None channel row has it mark is some wrong given = absurd (let e = some in cc)
not_record (Some m) channel row has it mark is some wrong (mark', is', kept, (n, small, at, check)) =
    let marks : it.mark ≡ has.mark = (let e : Int it.mark ≡ Int has.mark = sym mark' ∙ mark in cc) in
    let records : it.«record» ≡ has.«record» = (let e : Blob it.«record» ≡ Blob has.«record» = sym is' ∙ is in cc) in
    wrong m
    (n, small, sym marks ∙ at, subst (λ r. column row 2 ≡ Blob (check_of n channel r)) records check)

-- One read after the other is a read.
pub reads_then : {S : Type 0} (g : Ghosts S) (old mid new : Held S) → OnlyRead g old mid
    → OnlyRead g mid new → OnlyRead g old new
reads_then g old mid new first second = record {
  kept = λ clean.
      let early : HasCleanDisk (state g mid) = omega (arith, second.crash.clean) in
      keeps_then _ _ _ (first.kept early) (second.kept clean);
  crash = survives_then (state g old) (state g mid) (state g new) _ _ (λ _. ⊥) (λ _ db none. none) (λ _ db none. none) first.crash second.crash;
}
