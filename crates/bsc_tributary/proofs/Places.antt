-- The table of spools, of which the first ones are in use.
use Rattle.std.proofs.Common.{◌≡◌, ◌∙◌, ℕ, ◌<◌, sym, ap, refl, List, length, take, get_or}
use Rattle.std.proofs.Common.{slice_set, arith}
use Rattle.std.proofs.Math.Seq.{take-set-lt}
use Rattle.std.proofs.lemmas.List.{length-take, get_or-take, get_or-set_same}
use Rattle.std.proofs.lemmas.Option.{slice_get_read, get_or_from_slice_get}
use Rattle.bsc_spool.specs.Spool.{SpoolValue}
use Rattle.bsc_tributary.specs.Tributary.{spool_at, empty_spool}

-- a write to a spool in use: the spool before, the table after the write, and the spool after it
pub record Written (n : ℕ) (table : List SpoolValue) (s : ℕ) (before after : SpoolValue)
    (spools : List SpoolValue) : Type 0 where
  pub there : spool_at spools s ≡ before
  pub rest : take n (slice_set table s after) ≡ slice_set spools s after
  pub now : spool_at (take n (slice_set table s after)) s ≡ after

pub written_at_place : (n : ℕ) (table : List SpoolValue) (s : ℕ) (before after : SpoolValue)
    (spools : List SpoolValue) →
    take n table ≡ spools → s < length spools → before ≡ get_or table s before
    → Written n table s before after spools
written_at_place n table s before after spools view within read =
    let in_table : s < length table = omega (arith, length-take n table, ap length view) in
    let used : s < n = omega (arith, length-take n table, ap length view) in
    let there : spool_at spools s ≡ before = ap (λ (xs : List SpoolValue). spool_at xs s) (sym view)
    ∙ get_or-take n table s empty_spool used ∙ get_or_from_slice_get table s before empty_spool
    (slice_get_read table (length table) s before refl in_table read) in
    let rest : take n (slice_set table s after) ≡ slice_set spools s after =
    take-set-lt n table s after used
    ∙ ap (λ (xs : List SpoolValue). slice_set xs s after) view in
    record {
      there = there;
      rest = rest;
      now = ap (λ (xs : List SpoolValue). spool_at xs s) rest
          ∙ get_or-set_same spools s after empty_spool within;
    }
