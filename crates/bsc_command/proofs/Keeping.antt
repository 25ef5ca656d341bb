-- Work that succeeded, or that failed, stays so while the writer keeps its contents.
use Rattle.std.proofs.Common.{ℕ, List, ◌++◌, Bool, true, false, Option, None, Some, Result, Ok, Err}
use Rattle.std.proofs.Common.{IsSomeAnd, inl, inr, take}
use Rattle.std.specs.Io.KnownBytes.{Keeps}
use Rattle.std.proofs.KnownBytes.{Appends-kept, Keeps-trans}
use Rattle.clap.specs.Words.{Text}
use Rattle.bsc_options.specs.ChartWords.{AskedChart}
use Rattle.bsc_options.specs.Asked.{AskedValue, names, name, show, chart, run, station, feed, store}
use Rattle.bsc_chart.specs.Asked.{HasFailed as HasFailedDrawing, drawing_of}
use Rattle.bsc_chart.specs.Inputs.{HasStopped as HasStoppedDrawing, StopsAt as StopsDrawingAt}
use Rattle.bsc_chart.specs.Inputs.{values_of}
use Rattle.bsc_chart.specs.Pages.{IsEarlyText}
use Rattle.bsc_chart.proofs.Kept.{drawn_kept, writes_kept}
use Rattle.bsc_chart.specs.declared.error.ChartError.{ChartError}
use Rattle.bsc_chart.specs.declared.error.ChartError.TheVariants as drawing
use Rattle.bsc_chart.specs.declared.drawing.Drawing.{Drawing}
use Rattle.bsc_chart.specs.declared.named.TraceError.{TraceError}
use Rattle.bsc_chart.specs.declared.named.TraceError.TheVariants as trace
use Rattle.bsc_chart.specs.Named.{HasFailedAs as HasFailedDrawingAs, HoldsOf, IsCharted}
use Rattle.bsc_chart.specs.Named.{SaysOf}
use Rattle.bsc_frame.specs.declared.message.Heard.{Heard}
use Rattle.bsc_text.specs.Hexadecimal.{octets_of}
use Rattle.bsc_text.specs.InputLines.{lines_of}
use Rattle.bsc_text.specs.Fronts.{AppendsFront}
use Rattle.bsc_text.specs.Names.{Prints, name_line}
use Rattle.bsc_text.specs.declared.printed.Detail.{Detail}
use Rattle.bsc_text.specs.declared.printed.Detail.TheVariants.{Name, Units}
use Rattle.bsc_run.specs.Printed.{report_of}
use Rattle.bsc_trace.specs.Inputs.{HasStopped, PrintsInput, StopsAt, is_misspelt, is_too_long}
use Rattle.bsc_trace.specs.NamingLines.{PrintsLines, PrintsLinesFront}
use Rattle.bsc_trace.specs.declared.naming.error.NamingError.{NamingError}
use Rattle.bsc_trace.specs.declared.naming.error.NamingError.TheVariants as naming
use Rattle.bsc_run.specs.Crossing.{streams_of}
use Rattle.bsc_run.specs.Plays.{holding}
use Rattle.bsc_run.specs.declared.error.RunError.{RunError}
use Rattle.bsc_run.specs.declared.error.RunError.TheVariants as run_error
use Rattle.bsc_run.specs.Running.{TextPaths, HasFailed, HasRun, IsRunDone}
use Rattle.bsc_run.specs.declared.running_error.RunningError.{RunningError}
use Rattle.bsc_run.specs.declared.running_error.RunningError.TheVariants as running
use Rattle.bsc_words.specs.CommandLine.{asked_of}
use Rattle.bsc_command.specs.declared.fault.Fault.{Fault}
use Rattle.bsc_command.specs.declared.fault.Fault.TheVariants as fault
use Rattle.bsc_command.specs.Program.{HasFailedAs, HasFailedChart, HasFailedLines, HasFailedRun}
use Rattle.bsc_command.specs.Program.{HasFailedWith, IsDone, IsFaultAt, IsObeyed}
use Rattle.bsc_command.proofs.Feeding.{fed_kept, feed_failed_kept}

prints_kept : (named : Heard → List ℕ) (octets : List ℕ) (a b c : Option (List ℕ))
    → Prints named octets a b → Keeps b c → Prints named octets a c
prints_kept named octets a b c p k = record {
  heard = p.heard;
  is_heard = p.is_heard;
  appended = Appends-kept a b c (named p.heard) p.appended k;
}

lines_printed_kept : (detail : Detail) (lines : List (List ℕ)) (a b c : Option (List ℕ))
    → PrintsLines detail lines a b → Keeps b c → PrintsLines detail lines a c
lines_printed_kept detail lines a b c p k = record {
  text = p.text;
  shown = p.shown;
  appended = Appends-kept a b c p.text p.appended k;
}

front_kept : (a b c : Option (List ℕ)) (text : List ℕ) → AppendsFront a b text → Keeps b c
    → AppendsFront a c text
front_kept a b c text p k = record {
  front = p.front;
  rest = p.rest;
  whole = p.whole;
  appended = Appends-kept a b c p.front p.appended k;
}

lines_front_kept : (detail : Detail) (lines : List (List ℕ)) (a b c : Option (List ℕ))
    → PrintsLinesFront detail lines a b → Keeps b c → PrintsLinesFront detail lines a c
lines_front_kept detail lines a b c p k = record {
  place = p.place;
  text = p.text;
  shown = p.shown;
  appended = front_kept a b c p.text p.appended k;
}

input_kept : (detail : Detail) (input : List ℕ) (a b c : Option (List ℕ))
    → PrintsInput detail input a b → Keeps b c → PrintsInput detail input a c
input_kept detail input a b c p k = record {
  right = p.right;
  printed = lines_printed_kept detail (lines_of input) a b c p.printed k;
}

name_kept : (read : Option (List ℕ)) (a b c : Option (List ℕ))
    → IsSomeAnd read (λ octets. Prints name_line octets a b) → Keeps b c
    → IsSomeAnd read (λ octets. Prints name_line octets a c)
name_kept None a b c p k = absurd p
name_kept (Some octets) a b c p k = prints_kept name_line octets a b c p k

stop_kept : (is_fault : List ℕ → Bool) (detail : Detail) (n : ℕ) (octets : List ℕ)
    (a b c : Option (List ℕ)) → StopsAt is_fault detail n octets a b → Keeps b c
    → StopsAt is_fault detail n octets a c
stop_kept is_fault detail n octets a b c p k = record {
  place = p.place;
  counted = p.counted;
  first = p.first;
  reason = p.reason;
  before = lines_printed_kept detail (take p.place (lines_of octets)) a b c p.before k;
}

stopped_kept : (e : NamingError) (detail : Detail) (octets : List ℕ) (a b c : Option (List ℕ))
    → HasStopped detail e octets a b → Keeps b c → HasStopped detail e octets a c
stopped_kept naming.NotHexadecimal detail octets a b c p k = tt
stopped_kept (naming.NotHexadecimalAt n) detail octets a b c p k =
    stop_kept is_misspelt detail n octets a b c p k
stopped_kept (naming.TooLongAt n) detail octets a b c p k =
    stop_kept is_too_long detail n octets a b c p k
stopped_kept naming.Input detail octets a b c p k = record {
  place = p.place;
  before = lines_printed_kept detail (take p.place (lines_of octets)) a b c p.before k;
}
stopped_kept naming.Output detail octets a b c p k =
    lines_front_kept detail (lines_of octets) a b c p k
stopped_kept naming.Memory detail octets a b c p k =
    lines_front_kept detail (lines_of octets) a b c p k

lines_kept : (f : Fault) (detail : Detail) (given a b c : Option (List ℕ))
    → HasFailedLines f detail given a b → Keeps b c → HasFailedLines f detail given a c
lines_kept (fault.Naming error) detail None a b c p k = tt
lines_kept (fault.Naming error) detail (Some octets) a b c p k =
    stopped_kept error detail octets a b c p k
lines_kept (fault.Charting error) detail given a b c p k = tt
lines_kept (fault.Running error) detail given a b c p k = tt
lines_kept (fault.Attending error) detail given a b c p k = tt
lines_kept (fault.Feeding error) detail given a b c p k = tt
lines_kept (fault.Storing error) detail given a b c p k = tt
lines_kept fault.Output detail given a b c p k = tt
lines_kept fault.OutOfMemory detail given a b c p k = tt
lines_kept (fault.Usage error) detail given a b c p k = tt

charted_kept : (words : AskedChart) (input a b c : Option (List ℕ))
    → IsCharted words input a b → Keeps b c → IsCharted words input a c
charted_kept words input a b c p k = record {
  columns = p.columns;
  drawn = record {
    trace = p.drawn.trace;
    named = p.drawn.named;
    holds = drawn_kept (drawing_of p.columns words) a b c p.drawn.trace p.drawn.holds k;
  };
}

drawing_stop_kept : (d : Drawing) (n : ℕ) (octets : List ℕ) (a b c : Option (List ℕ))
    → StopsDrawingAt d n octets a b → Keeps b c → StopsDrawingAt d n octets a c
drawing_stop_kept d n octets a b c p k = record {
  place = p.place;
  counted = p.counted;
  first = p.first;
  before =
      writes_kept (IsEarlyText d (values_of (take p.place (lines_of octets)))) a b c p.before k;
}

drawing_stopped_kept : (e : ChartError) (d : Drawing) (octets : List ℕ) (a b c : Option (List ℕ))
    → HasStoppedDrawing d e octets a b → Keeps b c → HasStoppedDrawing d e octets a c
drawing_stopped_kept (drawing.TooLongAt n) d octets a b c p k =
    drawing_stop_kept d n octets a b c p k
drawing_stopped_kept drawing.Forms d octets a b c p k = tt
drawing_stopped_kept drawing.Width d octets a b c p k = tt
drawing_stopped_kept drawing.Lines d octets a b c p k = tt
drawing_stopped_kept drawing.TooMany d octets a b c p k = record {
  place = p.place;
  full = p.full;
  before =
      writes_kept (IsEarlyText d (values_of (take p.place (lines_of octets)))) a b c p.before k;
}
drawing_stopped_kept (drawing.Input why) d octets a b c p k = record {
  place = p.place;
  before =
      writes_kept (IsEarlyText d (values_of (take p.place (lines_of octets)))) a b c p.before k;
}
drawing_stopped_kept drawing.Output d octets a b c p k = tt
drawing_stopped_kept drawing.Memory d octets a b c p k = tt

drawing_failed_kept : (d : Result Drawing ChartError) (e : ChartError) (octets : List ℕ)
    (a b c : Option (List ℕ)) → HasFailedDrawing d e octets a b → Keeps b c
    → HasFailedDrawing d e octets a c
drawing_failed_kept (Err why) e octets a b c p k = p
drawing_failed_kept (Ok d) e octets a b c p k = drawing_stopped_kept e d octets a b c p k

says_kept : (d : Result Drawing ChartError) (e : ChartError) (a b c trace : Option (List ℕ))
    → SaysOf d e a b trace → Keeps b c → SaysOf d e a c trace
says_kept d e a b c None p k = tt
says_kept d e a b c (Some octets) p k = drawing_failed_kept d e octets a b c p k

says_of_kept : (words : AskedChart) (d : Result Drawing ChartError) (e : ChartError)
    (input a b c : Option (List ℕ)) → HoldsOf words input (SaysOf d e a b) → Keeps b c
    → HoldsOf words input (SaysOf d e a c)
says_of_kept words d e input a b c p k = record {
  trace = p.trace;
  named = p.named;
  holds = says_kept d e a b c p.trace p.holds k;
}

failed_trace_kept : (words : AskedChart) (d : Result Drawing ChartError) (e : TraceError)
    (input a b c : Option (List ℕ)) → HasFailedDrawingAs words d e input a b → Keeps b c
    → HasFailedDrawingAs words d e input a c
failed_trace_kept words d (trace.CannotRead path why) input a b c p k =
    (p.0, says_of_kept words d (drawing.Input why) input a b c p.1 k)
failed_trace_kept words d (trace.Chart e) input a b c p k = says_of_kept words d e input a b c p k

chart_kept : (f : Fault) (words : AskedChart) (given a b c : Option (List ℕ))
    → HasFailedChart f words given a b → Keeps b c → HasFailedChart f words given a c
chart_kept (fault.Charting error) words given a b c p k = record {
  columns = p.columns;
  says = failed_trace_kept words (drawing_of p.columns words) error given a b c p.says k;
}
chart_kept (fault.Naming error) words given a b c p k = tt
chart_kept (fault.Running error) words given a b c p k = tt
chart_kept (fault.Attending error) words given a b c p k = tt
chart_kept (fault.Feeding error) words given a b c p k = tt
chart_kept (fault.Storing error) words given a b c p k = tt
chart_kept fault.Output words given a b c p k = tt
chart_kept fault.OutOfMemory words given a b c p k = tt
chart_kept (fault.Usage error) words given a b c p k = tt

module _ {S : Type 0} (contents remaining : S → Option (List ℕ)) where
  has_run_kept : (tracing : Bool) (paths : TextPaths) (result : Result (Unit {0}) RunError)
      (a b c d e : Option (List ℕ))
      → HasRun (streams_of contents remaining) tracing paths result (holding a d) (holding b e)
      → Keeps b c
      → HasRun (streams_of contents remaining) tracing paths result (holding a d) (holding c e)
  has_run_kept tracing paths result a b c d e p k =
      let runs = p.ran.runs in
      record {
        config = p.config;
        steps = p.steps;
        read = p.read;
        ran = record {
          before = p.ran.before;
          after = p.ran.after;
          connections = p.ran.connections;
          runs = record {
            begun = runs.begun;
            ended = runs.ended;
            new_line = runs.new_line;
            told = runs.told;
            addresses = runs.addresses;
            runs = record {
              text = runs.runs.text;
              events = runs.runs.events;
              plays = runs.runs.plays;
              written = record {
                out = Appends-kept a b c (runs.runs.text.out ++ report_of runs.ended)
                    runs.runs.written.out k;
                trace = runs.runs.written.trace;
              };
              line = runs.runs.line;
            };
            arrived = runs.arrived;
          };
        };
      }

  run_kept : (check tracing : Bool) (paths : TextPaths) (a b c d e : Option (List ℕ))
      → IsRunDone (streams_of contents remaining) tracing check paths (holding a d) (holding b e)
      → Keeps b c
      → IsRunDone (streams_of contents remaining) tracing check paths (holding a d) (holding c e)
  run_kept true tracing paths a b c d e p k = record {
    config = p.config;
    steps = p.steps;
    read = p.read;
    nothing = Keeps-trans a b c p.nothing k;
  }
  run_kept false tracing paths a b c d e p k = has_run_kept tracing paths (Ok tt) a b c d e p k

  failed_kept : (f : RunningError) (check tracing : Bool) (paths : TextPaths)
      (a b c d e : Option (List ℕ))
      → HasFailed (streams_of contents remaining) tracing f check paths (holding a d) (holding b e)
      → Keeps b c
      → HasFailed (streams_of contents remaining) tracing f check paths (holding a d) (holding c e)
  failed_kept running.BothStandardInput check tracing paths a b c d e p k = p
  failed_kept (running.Text error) check tracing paths a b c d e p k = p
  failed_kept (running.Config error) check tracing paths a b c d e p k = p
  failed_kept (running.Script error) check tracing paths a b c d e p k = p
  failed_kept running.Sockets check tracing paths a b c d e p k = p
  failed_kept (running.Run run_error.Output) check tracing paths a b c d e p k = p
  failed_kept (running.Run (run_error.Socket line)) check tracing paths a b c d e p k = p
  failed_kept (running.Run run_error.Memory) check tracing paths a b c d e p k = p
  failed_kept (running.Run (run_error.Refused line why)) check tracing paths a b c d e p k =
      (p.0, has_run_kept tracing paths (Err (run_error.Refused line why)) a b c d e p.1 k)
  failed_kept running.Memory check tracing paths a b c d e p k = p

module _ {S D : Type 0} (contents remaining : S → Option (List ℕ)) (held : D → Option (List ℕ))
    (traces : Bool → D → Type 0) where
  done_kept : (asked : AskedValue) (input a b c : Option (List ℕ))
      → IsDone contents remaining held traces asked input a b → Keeps b c
      → IsDone contents remaining held traces asked input a c
  done_kept names None a b c p k = p
  done_kept names (Some octets) a b c p k = input_kept Name octets a b c p k
  done_kept (name text) input a b c p k = name_kept (octets_of text) a b c p k
  done_kept show None a b c p k = p
  done_kept show (Some octets) a b c p k = input_kept Units octets a b c p k
  done_kept (chart words) input a b c p k = charted_kept words input a b c p k
  done_kept (run config script check trace quiet) input a b c p k = record {
    told = p.told;
    is_traced = p.is_traced;
    tells = p.tells;
    done =
        run_kept contents remaining check trace
        (record { config = config; script = script; input = input }) a b c
        (held p.told) (held p.tells) p.done k;
  }
  done_kept (station words) input a b c p k = p
  done_kept (feed address command) input a b c p k = fed_kept command input a b c p k
  done_kept (store words) input a b c p k = p

  pub obeyed_kept : (words : List Text) (input a b c : Option (List ℕ))
      → IsObeyed contents remaining held traces words input a b → Keeps b c
      → IsObeyed contents remaining held traces words input a c
  obeyed_kept words input a b c (inl help) k = inl help
  obeyed_kept words input a b c (inr p) k =
      inr (p.0, done_kept (asked_of words) input a b c p.1 k)

  failed_with_kept : (f : RunningError) (check trace : Bool) (paths : TextPaths)
      (a b c : Option (List ℕ)) → HasFailedWith contents remaining held traces f check trace paths a b
      → Keeps b c → HasFailedWith contents remaining held traces f check trace paths a c
  failed_with_kept f check trace paths a b c p k = record {
    told = p.told;
    is_traced = p.is_traced;
    tells = p.tells;
    says =
        failed_kept contents remaining f check trace paths a b c (held p.told) (held p.tells) p.says
        k;
  }

  failed_run_kept : (f : Fault) (check trace : Bool) (paths : TextPaths)
      (a b c : Option (List ℕ)) → HasFailedRun contents remaining held traces f check trace paths a b
      → Keeps b c → HasFailedRun contents remaining held traces f check trace paths a c
  failed_run_kept (fault.Naming error) check trace paths a b c p k = tt
  failed_run_kept (fault.Charting error) check trace paths a b c p k = tt
  failed_run_kept (fault.Running error) check trace paths a b c p k =
      failed_with_kept error check trace paths a b c p k
  failed_run_kept (fault.Attending error) check trace paths a b c p k = tt
  failed_run_kept (fault.Feeding error) check trace paths a b c p k = tt
  failed_run_kept (fault.Storing error) check trace paths a b c p k = tt
  failed_run_kept fault.Output check trace paths a b c p k = tt
  failed_run_kept fault.OutOfMemory check trace paths a b c p k = tt
  failed_run_kept (fault.Usage error) check trace paths a b c p k =
      failed_with_kept running.BothStandardInput check trace paths a b c p k

  work_failed_kept : (asked : AskedValue) (f : Fault) (given a b c : Option (List ℕ))
      → HasFailedAs contents remaining held traces asked f given a b → Keeps b c
      → HasFailedAs contents remaining held traces asked f given a c
  work_failed_kept names f given a b c p k = lines_kept f Name given a b c p k
  work_failed_kept (name text) f given a b c p k = p
  work_failed_kept show f given a b c p k = lines_kept f Units given a b c p k
  work_failed_kept (chart words) f given a b c p k = chart_kept f words given a b c p k
  work_failed_kept (run config script check trace quiet) f given a b c p k =
      failed_run_kept f check trace
      (record { config = config; script = script; input = given }) a b c p k
  work_failed_kept (station words) f given a b c p k = p
  work_failed_kept (feed address command) f given a b c p k = feed_failed_kept f a b c p k
  work_failed_kept (store words) f given a b c p k = p

  pub fault_kept : (words : List Text) (f : Fault) (given a b c : Option (List ℕ))
      → IsFaultAt contents remaining held traces words f given a b → Keeps b c
      → IsFaultAt contents remaining held traces words f given a c
  fault_kept words f given a b c (inl usage) k = inl usage
  fault_kept words f given a b c (inr (inl printing)) k = inr (inl printing)
  fault_kept words f given a b c (inr (inr p)) k =
      inr (inr (record {
        kind = p.kind;
        says = work_failed_kept (asked_of words) f given a b c p.says k;
      }))
