-- What each terminal hears: the same for all, or an item for each.
use Rattle.std.specs.Prelude.{ℕ}
use Rattle.bsc_frame.specs.declared.message.Heard.{Heard}
use Rattle.bsc_line_model.specs.Hearing.{heard_at}
use Rattle.bsc_line.specs.declared.hearing.Hearings.{Hearings}
use Rattle.bsc_line.specs.declared.hearing.Hearings.TheVariants.{Alike, Each}

-- what the terminal of each number hears
abbrev pub hearing_of : Hearings → ℕ → Heard
hearing_of (Alike h) t = h.now
hearing_of (Each items) t = heard_at items.now t
