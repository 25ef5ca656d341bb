use Rattle.sqlite.specs.Files.{over_files}
use Rattle.bsc_store.proofs.Opened.{new_store}
use Rattle.bsc_store.proofs.files.TableStore+FileStore+File.create.Goals as goal

pub returns-in-Ok : goal.returns-in-Ok
returns-in-Ok c = record { made = new_store over_files _ (λ s. s.conn) c.in-Ok.conn c.begin.result c.begin.ensures.made }
