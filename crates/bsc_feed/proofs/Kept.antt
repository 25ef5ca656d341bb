-- The octets that are kept of a line.
use Rattle.std.proofs.Common.{◌≡◌, ℕ, ◌≤◌, List, length, take, refl, sym, ◌∙◌, ap, arith}
use Rattle.std.proofs.Common.{Bool, true, false, Some, None, length-take-le}
use Rattle.std.proofs.lemmas.List.{take_all}
use Rattle.std.proofs.lemmas.Bool.{leb-true, leb-false}
use Rattle.std.specs.Prelude.{nat_le, if◌then◌else◌}
use Rattle.std.specs.Str.Lines.{strip_carriage_return}
use Rattle.bsc_feed.specs.Lines.{kept_of, line_of}

-- a line of more than 512 octets is told by its first 513
pub line_of_kept : (line : List ℕ) → line_of (kept_of line) ≡ line_of line
line_of_kept line = by (nat_le (length line) 512) refl
  where
    by : (short : Bool) → nat_le (length line) 512 ≡ short → line_of (kept_of line) ≡ line_of line
    by true e =
        let fits : length line ≤ 512 = leb-true _ _ e in
        ap line_of (take_all 513 line (omega arith))
    by false e =
        let long : 513 ≤ length line = leb-false _ _ e in
        let kept : length (take 513 line) ≡ 513 = length-take-le 513 line long in
        let none : (short : Bool) (l : List ℕ) → short ≡ false
        → (if short then Some (strip_carriage_return l) else None) ≡ None =
        λ short l is. ap (λ (b : Bool). if b then Some (strip_carriage_return l) else None) is in
        none (nat_le (length (take 513 line)) 512) (take 513 line) (ap (λ n. nat_le n 512) kept)
        ∙ sym (none (nat_le (length line) 512) line e)
