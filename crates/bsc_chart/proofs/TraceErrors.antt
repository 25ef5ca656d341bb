-- What an error of drawing says of the trace that is named.
use Rattle.std.proofs.Common.{◌≡◌, ℕ, List, [], Option, None, Some, Result, Ok, Err, refl, sym, ap, ◌∙◌, subst}
use Rattle.std.proofs.Common.{inr}
use Rattle.std.specs.Prelude.{IfErr, IfOk, IfSome, OnOk}
use Rattle.std.specs.Io.KnownBytes.{Keeps}
use Rattle.bsc_options.specs.ChartWords.{AskedChart}
use Rattle.bsc_text.specs.declared.unreadable.Unreadable.{Unreadable}
use Rattle.bsc_chart.specs.Asked.{drawing_of}
use Rattle.bsc_chart.specs.Errors.{IsLineError}
use Rattle.bsc_chart.specs.Inputs.{HasStopped}
use Rattle.bsc_chart.specs.Named.{HasFailedAs, HasFailedFile, HasFailedInput, HasFailedTrace}
use Rattle.bsc_chart.specs.Named.{HasPassed, HoldsOf, IsCharted, IsDrawn, IsEarlyTrace, IsFileError}
use Rattle.bsc_chart.specs.Named.{ChartsNamed, DrawsNamed, DrawsTold, FailsAs, FailsAt, FailsChart}
use Rattle.bsc_chart.specs.Named.{FailsNamed, IsLateTrace, IsUnread, SaysOf, file_of, told_for}
use Rattle.bsc_chart.specs.declared.drawing.Drawing.{Drawing}
use Rattle.bsc_chart.specs.declared.error.ChartError.{ChartError}
use Rattle.bsc_chart.specs.declared.error.ChartError.TheVariants as chart
use Rattle.bsc_chart.specs.declared.named.TraceError.{TraceError}
use Rattle.bsc_chart.specs.declared.named.TraceError.TheVariants.{CannotRead, Chart}
use Rattle.bsc_chart.proofs.Ends.{late}
use Rattle.bsc_chart.proofs.Kept.{kept_Appends}
use Rattle.bsc_chart.proofs.Ladders.{early_none}

pub none_some : {X : Type 0} (o : Option X) (x : X) → None ≡ o → o ≡ Some x → ⊥
none_some None x a b = cc
none_some (Some y) x a b = cc

-- what was read from a file was drawn
pub opened_read : {F : Type 0} (opens : List ℕ → F → Type 0) (remaining : F → Option (List ℕ))
    (path : List ℕ) (d : Drawing) (r : Result ℕ TraceError) (file : F) (a b : Option (List ℕ))
    → opens path file → OnOk r (IsDrawn (Ok d) a b (remaining file))
    → IfOk r (λ count. HasPassed count (remaining file))
    → IfOk r (λ count. (file : F) × opens path file × IsDrawn (Ok d) a b (remaining file)
    × HasPassed count (remaining file))
opened_read opens remaining path d (Ok count) file a b o p q = (file, o, p, q)
opened_read opens remaining path d (Err error) file a b o p q = tt

-- it was not
pub opened_unread : {F : Type 0} (opens : List ℕ → F → Type 0)
    (refuses : List ℕ → Unreadable → Type 0) (remaining : F → Option (List ℕ)) (path : List ℕ)
    (d : Drawing) (r : Result ℕ TraceError) (file : F) (a b : Option (List ℕ))
    → opens path file → IfErr r (λ error. HasFailedFile path d error (remaining file) a b)
    → IfErr r (λ error. FailsAt opens refuses remaining path d error a b)
opened_unread opens refuses remaining path d (Ok done) file a b o p = tt
opened_unread opens refuses remaining path d (Err error) file a b o p = inr (file, o, p)

-- a file is named, or none
pub names_input : {F : Type 0} (opens : List ℕ → F → Type 0) (remaining : F → Option (List ℕ))
    (named : Option (List ℕ)) (d : Drawing) (r : Result ℕ TraceError)
    (input a b : Option (List ℕ)) → None ≡ named → OnOk r (IsDrawn (Ok d) a b input)
    → IfOk r (λ count. HasPassed count input)
    → IfOk r (DrawsNamed opens remaining named (Ok d) input a b)
names_input opens remaining named d (Err error) input a b e p q = tt
names_input opens remaining named d (Ok count) input a b e p q =
    subst (λ n. DrawsNamed opens remaining n (Ok d) input a b count) e (p, q)

pub names_file : {F : Type 0} (opens : List ℕ → F → Type 0) (remaining : F → Option (List ℕ))
    (named : Option (List ℕ)) (path : List ℕ) (d : Drawing) (r : Result ℕ TraceError)
    (input a b : Option (List ℕ)) → Some path ≡ named
    → IfOk r (λ count. (file : F) × opens path file × IsDrawn (Ok d) a b (remaining file)
    × HasPassed count (remaining file))
    → IfOk r (DrawsNamed opens remaining named (Ok d) input a b)
names_file opens remaining named path d r input a b e p =
    subst (λ n. IfOk r (DrawsNamed opens remaining n (Ok d) input a b)) e p

pub fails_input : {F : Type 0} (opens : List ℕ → F → Type 0)
    (refuses : List ℕ → Unreadable → Type 0) (remaining : F → Option (List ℕ))
    (named : Option (List ℕ)) (d : Drawing) (r : Result ℕ TraceError)
    (input a b : Option (List ℕ)) → None ≡ named
    → IfErr r (λ error. HasFailedInput d error input a b)
    → IfErr r (λ error. FailsNamed opens refuses remaining named d error input a b)
fails_input opens refuses remaining named d r input a b e p =
    subst (λ n. IfErr r (λ error. FailsNamed opens refuses remaining n d error input a b)) e p

pub fails_file : {F : Type 0} (opens : List ℕ → F → Type 0)
    (refuses : List ℕ → Unreadable → Type 0) (remaining : F → Option (List ℕ))
    (named : Option (List ℕ)) (path : List ℕ) (d : Drawing) (r : Result ℕ TraceError)
    (input a b : Option (List ℕ)) → Some path ≡ named
    → IfErr r (λ error. FailsAt opens refuses remaining path d error a b)
    → IfErr r (λ error. FailsNamed opens refuses remaining named d error input a b)
fails_file opens refuses remaining named path d r input a b e p =
    subst (λ n. IfErr r (λ error. FailsNamed opens refuses remaining n d error input a b)) e p

-- the words ask to draw so on this terminal
pub named_charted : {F : Type 0} (tells : Option (List ℕ) → Type 0)
    (opens : List ℕ → F → Type 0) (remaining : F → Option (List ℕ)) (words : AskedChart)
    (columns : Option (List ℕ)) (d : Drawing) (r : Result (Unit {0}) TraceError)
    (input a b x y z : Option (List ℕ)) → tells columns → Ok d ≡ drawing_of columns words
    → Keeps x y → OnOk r (DrawsTold opens remaining (file_of words.file) (Ok d) input a b y z)
    → OnOk r (ChartsNamed tells opens remaining words input a b x z)
named_charted tells opens remaining words columns d (Ok done) input a b x y z t e k p = (
  columns,
  t,
  record {
    count = p.count;
    drawn =
        subst (λ s. DrawsNamed opens remaining (file_of words.file) s input a b p.count) e p.drawn;
    told = kept_Appends x y z (told_for p.count) k p.told;
  },
)
named_charted tells opens remaining words columns d (Err error) input a b x y z t e k p = tt

pub named_failed : {F : Type 0} (tells : Option (List ℕ) → Type 0)
    (opens : List ℕ → F → Type 0) (refuses : List ℕ → Unreadable → Type 0)
    (remaining : F → Option (List ℕ)) (words : AskedChart) (columns : Option (List ℕ))
    (d : Drawing) (r : Result (Unit {0}) TraceError) (input a b : Option (List ℕ))
    → tells columns → Ok d ≡ drawing_of columns words
    → IfErr r (λ error.
    FailsNamed opens refuses remaining (file_of words.file) d error input a b)
    → IfErr r (λ error. FailsChart tells opens refuses remaining words error input a b)
named_failed tells opens refuses remaining words columns d (Ok done) input a b t e p = tt
named_failed tells opens refuses remaining words columns d (Err error) input a b t e p = (
  columns,
  t,
  subst (λ s. FailsAs opens refuses remaining (file_of words.file) s error input a b) e p,
)

-- the words are wrong on this terminal
pub words_failed : {F : Type 0} (tells : Option (List ℕ) → Type 0)
    (opens : List ℕ → F → Type 0) (refuses : List ℕ → Unreadable → Type 0)
    (remaining : F → Option (List ℕ)) (words : AskedChart) (columns : Option (List ℕ))
    (why : ChartError) (input a : Option (List ℕ)) → tells columns
    → Err why ≡ drawing_of columns words
    → FailsChart tells opens refuses remaining words (Chart why) input a a
words_failed tells opens refuses remaining words columns why input a t e = (
  columns,
  t,
  subst (λ s. FailsAs opens refuses remaining (file_of words.file) s (Chart why) input a a) e
      (refl, refl),
)

late_trace : (e : TraceError) → IsLateTrace e → IsEarlyTrace e → ⊥
late_trace (CannotRead path why) is early = early
late_trace (Chart error) is early = late error is early

pub late_traces : (P : Type 0) (r : Result (Unit {0}) TraceError) → IfErr r IsLateTrace
    → IfErr r (λ error. IsEarlyTrace error → P)
late_traces P (Ok done) is = tt
late_traces P (Err error) is = λ early. absurd (late_trace error is early)

module _ (words : AskedChart) (input a b : Option (List ℕ)) where
  -- the trace was drawn as the words ask for
  pub charted : (columns : Option (List ℕ)) (d : Drawing) (r : Result (Unit {0}) TraceError)
      → Ok d ≡ drawing_of columns words
      → OnOk r (HoldsOf words input (IsDrawn (Ok d) a b)) → OnOk r (IsCharted words input a b)
  charted columns d (Err error) e p = tt
  charted columns d (Ok done) e p = record {
    columns = columns;
    drawn = subst (λ s. HoldsOf words input (IsDrawn s a b)) e p;
  }

  -- it was not
  pub failed : (columns : Option (List ℕ)) (d : Drawing) (r : Result (Unit {0}) TraceError)
      → Ok d ≡ drawing_of columns words
      → IfErr r (λ error. HasFailedAs words (Ok d) error input a b)
      → IfErr r (λ error. HasFailedTrace words error input a b)
  failed columns d (Ok done) e p = tt
  failed columns d (Err error) e p = record {
    columns = columns;
    says = subst (λ s. HasFailedAs words s error input a b) e p;
  }

  says_why : (trace : Option (List ℕ)) (why : ChartError) → SaysOf (Err why) why a b trace
  says_why None why = tt
  says_why (Some octets) why = refl

  -- the words are wrong
  pub wrong_words : (columns : Option (List ℕ)) (why : ChartError)
      → Err why ≡ drawing_of columns words → HasFailedTrace words (Chart why) input a b
  wrong_words columns why e = record {
    columns = columns;
    says =
        subst (λ s. HoldsOf words input (SaysOf s why a b)) e
        (record { trace = input; named = λ _. refl; holds = says_why input why });
  }

  module _ (d : Drawing) where
    -- the trace is on standard input
    pub input_drawn : (r : Result ℕ TraceError)
        → OnOk r (IsDrawn (Ok d) a b input)
        → OnOk r (HoldsOf words input (IsDrawn (Ok d) a b))
    input_drawn (Err error) p = tt
    input_drawn (Ok done) p = record { trace = input; named = λ _. refl; holds = p }

    pub input_failed : (r : Result ℕ TraceError)
        → IfErr r (λ error. HasFailedInput d error input a b)
        → IfErr r (λ error. HasFailedAs words (Ok d) error input a b)
    input_failed (Ok done) p = tt
    input_failed (Err (CannotRead path why)) p = absurd p
    input_failed (Err (Chart error)) p =
        record { trace = input; named = λ _. refl; holds = p }

    -- the trace is in a file
    file_holds : (path : List ℕ) (Holds : Option (List ℕ) → Type 0) (trace : Option (List ℕ))
        → Some path ≡ file_of words.file → Holds trace → HoldsOf words input Holds
    file_holds path Holds trace e p = record {
      trace = trace;
      named = λ none. absurd (none_some (file_of words.file) path (sym none) (sym e));
      holds = p;
    }

    pub file_drawn : (path : List ℕ) (r : Result ℕ TraceError)
        → Some path ≡ file_of words.file
        → OnOk r ((trace : Option (List ℕ)) × IsDrawn (Ok d) a b trace)
        → OnOk r (HoldsOf words input (IsDrawn (Ok d) a b))
    file_drawn path (Err error) e p = tt
    file_drawn path (Ok done) e p = file_holds path (IsDrawn (Ok d) a b) p.0 e p.1

    said : (path : List ℕ) (error : ChartError) (trace : Option (List ℕ))
        → Some path ≡ file_of words.file
        → IfSome trace (λ octets. HasStopped d error octets a b)
        → HoldsOf words input (SaysOf (Ok d) error a b)
    said path error trace e p = file_holds path (SaysOf (Ok d) error a b) trace e p

    file_says : (path : List ℕ) (error : TraceError) (trace : Option (List ℕ))
        → Some path ≡ file_of words.file → HasFailedFile path d error trace a b
        → HasFailedAs words (Ok d) error input a b
    file_says path (CannotRead p why) trace e q =
        (sym e ∙ ap Some (sym q.0), said path (chart.Input why) trace e q.1)
    file_says path (Chart (chart.Input why)) trace e q = absurd q
    file_says path (Chart (chart.TooLongAt n)) trace e q = said path (chart.TooLongAt n) trace e q
    file_says path (Chart chart.Forms) trace e q = said path chart.Forms trace e q
    file_says path (Chart chart.Width) trace e q = said path chart.Width trace e q
    file_says path (Chart chart.Lines) trace e q = said path chart.Lines trace e q
    file_says path (Chart chart.TooMany) trace e q = said path chart.TooMany trace e q
    file_says path (Chart chart.Output) trace e q = said path chart.Output trace e q
    file_says path (Chart chart.Memory) trace e q = said path chart.Memory trace e q

    pub file_failed : (path : List ℕ) (r : Result ℕ TraceError)
        → Some path ≡ file_of words.file
        → IfErr r (λ error. (trace : Option (List ℕ)) × HasFailedFile path d error trace a b)
        → IfErr r (λ error. HasFailedAs words (Ok d) error input a b)
    file_failed path (Ok done) e p = tt
    file_failed path (Err error) e p = file_says path error p.0 e p.1

module _ (d : Drawing) (path : List ℕ) where
  memory_says : (trace a b : Option (List ℕ)) → HasFailedFile path d (Chart chart.Memory) trace a b
  memory_says None a b = tt
  memory_says (Some octets) a b = tt

  unread_says : (why : Unreadable) (told : TraceError) (trace a b : Option (List ℕ))
      → IsUnread path why told
      → IfSome trace (λ octets. HasStopped d (chart.Input why) octets a b)
      → HasFailedFile path d told trace a b
  unread_says why (CannotRead p reason) trace a b is q = (is.0, q)
  unread_says why (Chart error) trace a b is q =
      subst (λ e. HasFailedFile path d (Chart e) trace a b) (sym is) (memory_says trace a b)

  -- a read of the file failed, or it was read and is not drawn
  pub read_says : (error : ChartError) (told : TraceError) (trace a b : Option (List ℕ))
      → IsFileError path error told → IfSome trace (λ octets. HasStopped d error octets a b)
      → HasFailedFile path d told trace a b
  read_says (chart.Input why) told trace a b is q = unread_says why told trace a b is q
  read_says (chart.TooLongAt n) told trace a b is q =
      subst (λ t. HasFailedFile path d t trace a b) (sym is) q
  read_says chart.Forms told trace a b is q =
      subst (λ t. HasFailedFile path d t trace a b) (sym is) q
  read_says chart.Width told trace a b is q =
      subst (λ t. HasFailedFile path d t trace a b) (sym is) q
  read_says chart.Lines told trace a b is q =
      subst (λ t. HasFailedFile path d t trace a b) (sym is) q
  read_says chart.TooMany told trace a b is q =
      subst (λ t. HasFailedFile path d t trace a b) (sym is) q
  read_says chart.Output told trace a b is q =
      subst (λ t. HasFailedFile path d t trace a b) (sym is) q
  read_says chart.Memory told trace a b is q =
      subst (λ t. HasFailedFile path d t trace a b) (sym is) q

  -- the file was not opened, and nothing was written
  pub unopened_says : (why : Unreadable) (told : TraceError) (a : Option (List ℕ))
      → IsUnread path why told → HasFailedFile path d told (Some []) a a
  unopened_says why told a is =
      unread_says why told (Some []) a a is (record { place = 0; before = early_none d.form a })

  pub unread_late : (why : Unreadable) (told : TraceError) → IsUnread path why told → IsLateTrace told
  unread_late why (CannotRead p reason) is = tt
  unread_late why (Chart error) is = subst IsLineError (sym is) tt

  pub read_late : (error : ChartError) (told : TraceError) → IsFileError path error told
      → IsLineError error → IsLateTrace told
  read_late (chart.Input why) told is line = unread_late why told is
  read_late (chart.TooLongAt n) told is line = subst IsLateTrace (sym is) tt
  read_late chart.Forms told is line = absurd line
  read_late chart.Width told is line = absurd line
  read_late chart.Lines told is line = absurd line
  read_late chart.TooMany told is line = subst IsLateTrace (sym is) tt
  read_late chart.Output told is line = subst IsLateTrace (sym is) tt
  read_late chart.Memory told is line = subst IsLateTrace (sym is) tt

  pub opened_drawn : (r : Result ℕ TraceError) (trace a b : Option (List ℕ))
      → OnOk r (IsDrawn (Ok d) a b trace)
      → OnOk r ((trace : Option (List ℕ)) × IsDrawn (Ok d) a b trace)
  opened_drawn (Ok done) trace a b p = (trace, p)
  opened_drawn (Err error) trace a b p = tt

  pub opened_failed : (r : Result ℕ TraceError) (trace a b : Option (List ℕ))
      → IfErr r (λ error. HasFailedFile path d error trace a b)
      → IfErr r (λ error. (trace : Option (List ℕ)) × HasFailedFile path d error trace a b)
  opened_failed (Ok done) trace a b p = tt
  opened_failed (Err error) trace a b p = (trace, p)
