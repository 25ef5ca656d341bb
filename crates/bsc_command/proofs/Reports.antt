-- What a station printed at its end is the last that is written while the writer keeps its contents.
use Rattle.std.proofs.Common.{ℕ, List, Option, Result, Ok, Err, inl, inr}
use Rattle.std.specs.Io.KnownBytes.{Keeps}
use Rattle.std.proofs.KnownBytes.{Appends-kept}
use Rattle.clap.specs.Words.{Text}
use Rattle.bsc_options.specs.Asked.{AskedValue, names, name, show, chart, run, station, feed, store}
use Rattle.bsc_options.specs.Words.{WordsValue}
use Rattle.bsc_attending.specs.Ending.{ending_text}
use Rattle.bsc_attending.specs.Outcomes.{IsReported}
use Rattle.bsc_attending.specs.declared.error.AttendingError.{AttendingError}
use Rattle.bsc_words.specs.CommandLine.{asked_of}
use Rattle.bsc_command.specs.declared.fault.Fault.{Fault}
use Rattle.bsc_command.specs.Program.{HasFailedReport, HasFailedReportAt, IsReportedAt, IsReportedOn}

module _ {W : Type 0} (held : W → Option (List ℕ)) (b c : W) (k : Keeps (held b) (held c)) where
  reported_kept : (w : WordsValue) (input : Option (List ℕ))
      (result : Result (Unit {0}) AttendingError) → IsReported held w input result b
      → IsReported held w input result c
  reported_kept w input result (inl unended) = inl unended
  reported_kept w input result (inr p) =
      inr (record {
        settings = p.settings;
        read = p.read;
        report = record {
          after = p.report.after;
          begun = p.report.begun;
          prepared = p.report.prepared;
          ended = p.report.ended;
          ends = record {
            left = p.report.ends.left;
            leaves = p.report.ends.leaves;
            keeps = p.report.ends.keeps;
            before = p.report.ends.before;
            concludes = record {
              printed =
                  Appends-kept (held p.report.ends.before) (held b) (held c)
                  (ending_text p.settings.reported p.report.ended p.report.ends.left)
                  p.report.ends.concludes.printed k;
              result_is = p.report.ends.concludes.result_is;
            };
          };
        };
      })

  on_kept : (asked : AskedValue) (input : Option (List ℕ)) → IsReportedOn held asked input b
      → IsReportedOn held asked input c
  on_kept (station words) input p = reported_kept words input (Ok tt) p
  on_kept names input p = tt
  on_kept (name text) input p = tt
  on_kept show input p = tt
  on_kept (chart words) input p = tt
  on_kept (run config script check trace quiet) input p = tt
  on_kept (feed address command) input p = tt
  on_kept (store words) input p = tt

  failed_kept : (asked : AskedValue) (f : Fault) (input : Option (List ℕ))
      → HasFailedReport held asked f input b → HasFailedReport held asked f input c
  failed_kept (station words) f input p = (p.0, p.1, reported_kept words input (Err p.0) p.2)
  failed_kept names f input p = tt
  failed_kept (name text) f input p = tt
  failed_kept show f input p = tt
  failed_kept (chart words) f input p = tt
  failed_kept (run config script check trace quiet) f input p = tt
  failed_kept (feed address command) f input p = tt
  failed_kept (store words) f input p = tt

  pub reported_at_kept : (words : List Text) (input : Option (List ℕ))
      → IsReportedAt held words input b → IsReportedAt held words input c
  reported_at_kept words input (inl help) = inl help
  reported_at_kept words input (inr p) = inr (p.0, on_kept (asked_of words) input p.1)

  pub failed_report_kept : (words : List Text) (f : Fault) (input : Option (List ℕ))
      → HasFailedReportAt held words f input b → HasFailedReportAt held words f input c
  failed_report_kept words f input (inl usage) = inl usage
  failed_report_kept words f input (inr (inl printing)) = inr (inl printing)
  failed_report_kept words f input (inr (inr p)) =
      inr (inr (failed_kept (asked_of words) f input p))
