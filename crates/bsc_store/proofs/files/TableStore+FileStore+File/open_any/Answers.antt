use Rattle.std.proofs.Common.{string_bytes}
use Rattle.sqlite.specs.Files.{over_files}
use Rattle.bsc_store.proofs.Opened.{opened}
use Rattle.bsc_store.proofs.files.TableStore+FileStore+File.open_any.Goals as goal

pub returns : goal.returns
returns c = record {
  is = opened over_files (λ f. string_bytes f.1) (λ f. f.0.marks) (λ f. f.0.conn) _ c.resume_any.result c.resume_any.ensures.is c.resume_any.ensures.read;
}
