-- A unit in the storage of the caller.
use Rattle.std.proofs.Common.{◌≡◌, ℕ, ◌≤◌, ◌&&◌, nat_le, Bool, true, false, cond, refl, arith, List}
use Rattle.std.proofs.Common.{[], ◌∷◌}
use Rattle.std.proofs.Common.{◌++◌, length, take, drop, Some, None, IsTrue, nat_lt, length-take}
use mir.Val.{bool_byte}
use Rattle.std.specs.List.{AllByRecursion, list_all}
use Rattle.std.proofs.Math.Seq.{take-append_seam}
use Rattle.std.proofs.lemmas.Bool.Decides.{nat_tests}
use Rattle.bsc_frame.specs.Octet.{is_record_char}
use Rattle.bsc_frame.specs.Texts.{TextUnit, IsUnit}
use Rattle.bsc_embed.specs.Contents.{unit_in}
use Rattle.bsc_embed.specs.declared.content.StoredUnit.{StoredUnit}
use Rattle.bsc_frame.specs.declared.limits.TheConstants.{MAX_CHARS}

all_pass : (cs : List ℕ) → AllByRecursion (λ c. IsTrue (is_record_char c)) cs
    → list_all is_record_char cs ≡ true
all_pass [] h = refl
all_pass (c ∷ cs) h = rw (h.0, all_pass cs h.1) refl

pass_step : (c : ℕ) (cs : List ℕ) (b : Bool) → is_record_char c ≡ b
    → (list_all is_record_char cs ≡ true → AllByRecursion (λ c. IsTrue (is_record_char c)) cs)
    → (b && list_all is_record_char cs) ≡ true
    → AllByRecursion (λ c. IsTrue (is_record_char c)) (c ∷ cs)
pass_step c cs true e f h = (e, f h)
pass_step c cs false e f h = cc

passed_all : (cs : List ℕ) → list_all is_record_char cs ≡ true
    → AllByRecursion (λ c. IsTrue (is_record_char c)) cs
passed_all [] h = tt
passed_all (c ∷ cs) h = pass_step c cs (is_record_char c) refl (passed_all cs) h

le_true : (m n : ℕ) → m ≤ n → nat_le m n ≡ true
le_true m n h = grind (arith, nat_tests)

le_from : (m n : ℕ) → nat_le m n ≡ true → m ≤ n
le_from m n h = grind (arith, nat_tests)

em_put : (b : Bool) → nat_lt 0 (bool_byte b) ≡ b
em_put true = refl
em_put false = refl

-- The characters at the front and their number hold the unit.
pub unit_put : (u : TextUnit) (before : List ℕ) → IsUnit u
    → unit_in (record {
      chars = u.chars ++ drop (length u.chars) before;
      len = length u.chars;
      em =
          bool_byte u.em;
    }) ≡ Some u
unfolding unit_in
unit_put u before h =
    rw (
      em_put u.em,
      take-append_seam u.chars (drop (length u.chars) before),
      all_pass u.chars h.each,
      le_true (length u.chars) MAX_CHARS h.most,
    ) refl

kept_unit : (a b : Bool) (v u : TextUnit) → cond (a && b) (Some v) None ≡ Some u
    → (a ≡ true) × (b ≡ true) × (v ≡ u)
kept_unit true true v u e = (refl, refl, cc)
kept_unit true false v u e = cc
kept_unit false b v u e = cc

unit_of_front : (cs : List ℕ) (n : ℕ) (em : Bool) → n ≤ MAX_CHARS
    → list_all is_record_char (take n cs) ≡ true
    → IsUnit (record { chars = take n cs; em = em })
unit_of_front cs n em l p =
    record { most = omega (arith, length-take n cs); each = passed_all (take n cs) p }

-- What is stored is a unit.
pub unit_is : (s : StoredUnit) (u : TextUnit) → unit_in s ≡ Some u → IsUnit u
unfolding unit_in
unit_is s u e =
    let k =
    kept_unit (nat_le s.len MAX_CHARS) (list_all is_record_char (take s.len s.chars))
    (record { chars = take s.len s.chars; em = nat_lt 0 s.em }) u e in
    rw (← k.2) (unit_of_front s.chars s.len (nat_lt 0 s.em) (le_from s.len MAX_CHARS k.0) k.1)
