-- The loop invariant of `are_record_chars`.
use Rattle.std.proofs.Common.{◌≡◌, take}
use Rattle.std.specs.List.{list_all}
use Rattle.bsc_frame.specs.Octet.{is_record_char}
use Rattle.bsc_embed.proofs.content.are_record_chars.Given as goal

abbrev pub invariant-loop-code : goal.invariant-loop-code
invariant-loop-code l = l.all ≡ list_all is_record_char (take l.code-index l.codes)
