-- What is told of the lines that were passed over.
use Rattle.std.specs.Prelude.{ℕ, ◌==◌, List, ◌++◌, codes, if◌then◌else◌}
use Rattle.std.specs.Fmt.{decimal}

-- That this many lines are no lines of a trace and were passed over.
abbrev pub passed_line : ℕ → List ℕ
passed_line count =
    if count == 1 then codes "bscline: 1 line is no line of a trace and was passed over\n"
    else codes "bscline: " ++ decimal count
    ++ codes " lines are no lines of a trace and were passed over\n"
