-- Shows that the picture or the page is that of what was kept.
use Rattle.std.proofs.Common.{[], refl}
use Rattle.std.proofs.KnownBytes.{Appends-nil}
use Rattle.bsc_chart.proofs.lines.finish.Goals as goal

pub returns-in-Text-clause-ok : goal.returns-in-Text-clause-ok
returns-in-Text-clause-ok g c =
    rw c.in-Text.is (record { text = []; kind = refl; appended = Appends-nil _ })

pub returns-in_ok-write_svg-in-Svg-clause-ok : goal.returns-in_ok-write_svg-in-Svg-clause-ok
returns-in_ok-write_svg-in-Svg-clause-ok g c =
    let picture = c.picture_of-picture.ensures in
    rw c.in-Svg.is (rw (picture.columns, picture.names, picture.rows)
    at c.in_ok-write_svg-in-Svg.ensures)

pub returns-in_ok-write_html-in-Html-clause-ok : goal.returns-in_ok-write_html-in-Html-clause-ok
returns-in_ok-write_html-in-Html-clause-ok g c =
    let picture = c.picture_of-picture-in-Html.ensures in
    rw c.in-Html.is (rw (picture.columns, picture.names, picture.rows)
    at c.in_ok-write_html-in-Html.ensures)
