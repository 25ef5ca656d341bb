-- The codes that `read` accepts are a record.
use Rattle.std.proofs.Common.{◌∙◌, sym, arith}
use Rattle.bsc_frame.specs.Octet.{is_record_char}
use Rattle.bsc_frame.proofs.Elements.{none_fails}
use Rattle.bsc_block.proofs.record.Record.read.Goals as goal

pub of-requires : goal.of-requires
of-requires c =
    record {
      most = omega arith;
      each =
          none_fails is_record_char c.args.codes.now (sym c.wrong_place.ensures ∙ c.in_default.is);
    }
