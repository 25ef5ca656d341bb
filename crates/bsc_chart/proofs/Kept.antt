-- What was drawn stays drawn while the writer keeps its contents, and what is told of it.
use Rattle.std.proofs.Common.{◌≡◌, ℕ, List, Option, None, Some, Result, Ok, Err, IsOkAnd, ap, ◌∙◌, sym}
use Rattle.std.proofs.Common.{inr, refl, subst, ◌++◌}
use Rattle.std.specs.Prelude.{IfErr, IfOk, IfSome, OnErr, OnOk}
use Rattle.std.specs.Io.KnownBytes.{Appends, Keeps}
use Rattle.std.proofs.KnownBytes.{Appends-kept, Keeps-trans}
use Rattle.bsc_options.specs.ChartWords.{AskedChart}
use Rattle.bsc_text.specs.InputLines.{lines_of}
use Rattle.bsc_text.specs.declared.unreadable.Unreadable.{Unreadable}
use Rattle.bsc_trace.specs.Texts.{Writes}
use Rattle.bsc_chart.specs.Inputs.{DrawsInput, HasStopped, values_of}
use Rattle.bsc_chart.specs.Named.{DrawsNamed, DrawsTold, FailsNamed, HasFailedAs, HasFailedFile}
use Rattle.bsc_chart.specs.Named.{HasFailedInput, HoldsOf, IsDrawn, IsLateTrace, SaysOf, file_of}
use Rattle.bsc_chart.specs.Named.{told_for}
use Rattle.bsc_chart.specs.Pages.{IsChart}
use Rattle.bsc_chart.specs.declared.drawing.Drawing.{Drawing}
use Rattle.bsc_chart.specs.declared.error.ChartError.{ChartError}
use Rattle.bsc_chart.specs.declared.error.ChartError.TheVariants as chart
use Rattle.bsc_chart.specs.declared.named.TraceError.{TraceError}
use Rattle.bsc_chart.specs.declared.named.TraceError.TheVariants.{Chart}

pub kept_Appends : (a b c : Option (List ℕ)) (added : List ℕ) → Keeps a b → Appends b c added
    → Appends a c added
kept_Appends None b c added k p = tt
kept_Appends (Some xs) None c added k p = absurd k
kept_Appends (Some xs) (Some ys) None added k p = absurd p
kept_Appends (Some xs) (Some ys) (Some zs) added k p = p ∙ ap (λ l. l ++ added) k

pub writes_kept : (IsKind : List ℕ → Type 0) (a b c : Option (List ℕ)) → Writes IsKind a b
    → Keeps b c → Writes IsKind a c
writes_kept IsKind a b c p k = record {
  text = p.text;
  kind = p.kind;
  appended = Appends-kept a b c p.text p.appended k;
}

draws_kept : (d : Drawing) (octets : List ℕ) (a b c : Option (List ℕ))
    → DrawsInput d octets a b → Keeps b c → DrawsInput d octets a c
draws_kept d octets a b c p k = record {
  right = p.right;
  drawn = writes_kept (IsChart d (values_of (lines_of octets))) a b c p.drawn k;
}

drawing_kept : (d : Result Drawing ChartError) (octets : List ℕ) (a b c : Option (List ℕ))
    → IsOkAnd d (λ d. DrawsInput d octets a b) → Keeps b c
    → IsOkAnd d (λ d. DrawsInput d octets a c)
drawing_kept (Err error) octets a b c p k = absurd p
drawing_kept (Ok d) octets a b c p k = draws_kept d octets a b c p k

pub drawn_kept : (d : Result Drawing ChartError) (a b c trace : Option (List ℕ))
    → IsDrawn d a b trace → Keeps b c → IsDrawn d a c trace
drawn_kept d a b c None p k = tt
drawn_kept d a b c (Some octets) p k = drawing_kept d octets a b c p k

-- of the trace that is named
pub holds_kept : (words : AskedChart) (d : Drawing) (r : Result (Unit {0}) TraceError)
    (input a b c : Option (List ℕ)) → HoldsOf words input (IsDrawn (Ok d) a b) → Keeps b c
    → OnOk r (HoldsOf words input (IsDrawn (Ok d) a c))
holds_kept words d (Err error) input a b c p k = tt
holds_kept words d (Ok done) input a b c p k = record {
  trace = p.trace;
  named = p.named;
  holds = drawn_kept (Ok d) a b c p.trace p.holds k;
}

-- a fault of the output says nothing of the trace
module _ (words : AskedChart) (d : Drawing) (input a b : Option (List ℕ)) where
  says_nothing : (trace : Option (List ℕ)) → SaysOf (Ok d) chart.Output a b trace
  says_nothing None = tt
  says_nothing (Some octets) = tt

  pub output_failed : (r : Result (Unit {0}) TraceError)
      → IfErr r (λ error. error ≡ Chart chart.Output)
      → IfErr r (λ error. HasFailedAs words (Ok d) error input a b)
  output_failed (Ok done) is = tt
  output_failed (Err error) is =
      subst (λ e. HasFailedAs words (Ok d) e input a b) (sym is)
      (record { trace = input; named = λ _. refl; holds = says_nothing input })

  pub output_late : (r : Result (Unit {0}) TraceError)
      → IfErr r (λ error. error ≡ Chart chart.Output) → IfErr r IsLateTrace
  output_late (Ok done) is = tt
  output_late (Err error) is = subst IsLateTrace (sym is) tt

module _ {F : Type 0} (opens : List ℕ → F → Type 0) (remaining : F → Option (List ℕ)) (d : Drawing)
    (input a b c : Option (List ℕ)) where
  named_kept : (named : Option (List ℕ)) (count : ℕ)
      → DrawsNamed opens remaining named (Ok d) input a b count → Keeps b c
      → DrawsNamed opens remaining named (Ok d) input a c count
  named_kept None count p k = (drawn_kept (Ok d) a b c input p.0 k, p.1)
  named_kept (Some path) count p k =
      (p.0, p.1, drawn_kept (Ok d) a b c (remaining p.0) p.2 k, p.3)

  -- the machine is told the number
  pub named_told : (named : Option (List ℕ)) (count : ℕ) (r : Result (Unit {0}) TraceError)
      (x y z : Option (List ℕ)) → DrawsNamed opens remaining named (Ok d) input a b count
      → Keeps b c → Keeps x y → OnOk r (Appends y z (told_for count))
      → OnOk r (DrawsTold opens remaining named (Ok d) input a c x z)
  named_told named count (Err error) x y z p k l t = tt
  named_told named count (Ok done) x y z p k l t = record {
    count = count;
    drawn = named_kept named count p k;
    told = kept_Appends x y z (told_for count) l t;
  }

  output_says : (path : List ℕ) (trace : Option (List ℕ))
      → HasFailedFile path d (Chart chart.Output) trace a c
  output_says path None = tt
  output_says path (Some octets) = tt

  input_says : (trace : Option (List ℕ)) → HasFailedInput d (Chart chart.Output) trace a c
  input_says None = tt
  input_says (Some octets) = tt

  output_fails : (refuses : List ℕ → Unreadable → Type 0) (named : Option (List ℕ)) (count : ℕ)
      → DrawsNamed opens remaining named (Ok d) input a b count
      → FailsNamed opens refuses remaining named d (Chart chart.Output) input a c
  output_fails refuses None count p = input_says input
  output_fails refuses (Some path) count p = inr (p.0, p.1, output_says path (remaining p.0))

  -- the ladder was not flushed
  pub named_unflushed : (refuses : List ℕ → Unreadable → Type 0) (named : Option (List ℕ))
      (count : ℕ) (r : Result (Unit {0}) TraceError)
      → DrawsNamed opens remaining named (Ok d) input a b count
      → IfErr r (λ error. error ≡ Chart chart.Output)
      → IfErr r (λ error. FailsNamed opens refuses remaining named d error input a c)
  named_unflushed refuses named count (Ok done) p is = tt
  named_unflushed refuses named count (Err error) p is =
      subst (λ e. FailsNamed opens refuses remaining named d e input a c) (sym is)
      (output_fails refuses named count p)

-- an error of the flush leaves what was told as it was
pub untold_trans : (r : Result (Unit {0}) TraceError) (x y z : Option (List ℕ)) → Keeps x y
    → OnErr r (Keeps y z) → OnErr r (Keeps x z)
untold_trans (Ok done) x y z k l = tt
untold_trans (Err error) x y z k l = Keeps-trans x y z k l
