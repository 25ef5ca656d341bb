use Rattle.sqlite.specs.Files.{over_files}
use Rattle.bsc_store.proofs.Opened.{opened, store_itself}
use Rattle.bsc_store.proofs.files.TableStore+FileStore+File.open.Goals as goal

pub returns : goal.returns
returns c = record {
  is = opened over_files (λ _. c.args.line.now) (λ s. s.marks) (λ s. s.conn) _ c.resume.result
      (store_itself over_files c.args.line.now (λ s. s.marks) (λ s. s.conn) _ c.resume.result c.resume.ensures.is) c.resume.ensures.read;
}
