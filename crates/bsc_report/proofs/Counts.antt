-- The numbers of records printed, channel by channel.
use Rattle.std.proofs.Common.{◌≡◌, ℕ, ◌+◌, ◌<◌, List, length, Bool, true, false, ◌||◌, slice_index}
use Rattle.std.proofs.Common.{◌≤◌, ◌⊎◌, inl, inr, set, get_or, ◌∙◌, refl, arith}
use Rattle.std.proofs.lemmas.Bool.{cases_lt}
use Rattle.std.proofs.lemmas.Grind.{get_or-set_at}
use Rattle.std.proofs.lemmas.List.{get_or-set_other}
use Rattle.bsc_report.specs.Arrivals.{AsManyArePrinted, MoreArePrinted}

-- the number of channel k becomes x, after those of the channels below it are updated
module _ (old mid : List ℕ) (k x : ℕ) (there : k < length mid)
    (left : slice_index mid k ≡ slice_index old k) where
  -- channel k, or one below it, has more records
  pub more_with_channel : (f b : Bool) → f || b ≡ true → (f ≡ true → MoreArePrinted old mid k)
      → (b ≡ true → slice_index mid k < x) → MoreArePrinted old (set mid k x) (k + 1)
  more_with_channel true b e below here =
      let p = below refl in
      record {
        channel = p.channel;
        is_one = let h = p.is_one in omega (arith, h);
        grew =
            let h = p.is_one in
            let same : get_or (set mid k x) p.channel 0 ≡ get_or mid p.channel 0 =
            get_or-set_other mid k p.channel x 0 (λ z. omega (arith, h, z)) in
            rw same p.grew;
      }
  more_with_channel false true e below here =
      record {
        channel = k;
        is_one = omega arith;
        grew =
            let same : get_or (set mid k x) k 0 ≡ x = get_or-set_at mid k k x 0 refl there in
            let h = here refl in
            omega (arith, h, same, left);
      }
  more_with_channel false false e below here = cc

  -- neither channel k nor any below it has more records
  pub as_many_with_channel : (f b : Bool) → f || b ≡ false
      → (f ≡ false → AsManyArePrinted old mid k) → (b ≡ false → x ≡ slice_index mid k)
      → AsManyArePrinted old (set mid k x) (k + 1)
  as_many_with_channel true b e below here = cc
  as_many_with_channel false true e below here = cc
  as_many_with_channel false false e below here = λ n h. case n (cases_lt n k) h
    where
      case : (n : ℕ) → (n < k) ⊎ (k ≤ n) → n < k + 1
          → slice_index (set mid k x) n ≡ slice_index old n
      case n (inl lower) h =
          get_or-set_other mid k n x 0 (λ z. omega (arith, lower, z)) ∙ below refl n lower
      case n (inr higher) h =
          let same : n ≡ k = omega (arith, h, higher) in
          rw same (get_or-set_at mid k k x 0 refl there ∙ here refl ∙ left)
