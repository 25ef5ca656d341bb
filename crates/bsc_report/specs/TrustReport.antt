-- The last lines of the report of a control station: how slow the slowest answer was, and whether
-- the line is trusted.
use Rattle.std.specs.Prelude.{ℕ, nat_le, Bool, true, false, List, ◌++◌, codes, Option, None, Some}
use Rattle.std.specs.Fmt.{decimal}
use Rattle.bsc_trust.specs.Trust.{slowest_share}
use Rattle.bsc_trust.specs.declared.distrust.Distrust.{Distrust}
use Rattle.bsc_trust.specs.declared.trust.Trust.{Trust}
use Rattle.bsc_report.specs.Traces.{distrust_line}

-- The end of the line for the slowest answer; the flag says whether it took half of the time-out or
-- more.
abbrev pub advice_shown : Bool → List ℕ
advice_shown true = codes ", which should be longer\n"
advice_shown false = codes "\n"

-- The time of the slowest answer in hundredths of the time-out.
abbrev pub share_shown : ℕ → List ℕ
share_shown share = codes "slowest answer: " ++ decimal share ++ codes "% of the time-out"

abbrev pub measured_line : ℕ → List ℕ
measured_line share = share_shown share ++ advice_shown (nat_le 50 share)

-- The line for the slowest answer, if one was heard whose time counts.
abbrev pub slowest_line : Option ℕ → List ℕ
slowest_line None = codes "slowest answer: none\n"
slowest_line (Some share) = measured_line share

-- The line that says whether the line is trusted, or the first reason why not.
abbrev pub trusted_line : Option Distrust → List ℕ
trusted_line None = codes "trusted\n"
trusted_line (Some why) = distrust_line why

-- Both lines.
abbrev pub trust_report : Trust → List ℕ
trust_report trust = slowest_line (slowest_share trust) ++ trusted_line trust.distrust
