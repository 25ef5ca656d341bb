-- The ladder of the lines of an input so far.
use Rattle.std.proofs.Common.{◌≡◌, ◌<◌, ◌≤◌, ℕ, ◌+◌, cond, map, List, [], ◌∷◌, ◌++◌, Bool, suc}
use Rattle.std.proofs.Common.{true, false, Option, Some, None, count_by, length, refl, sym, ap}
use Rattle.std.proofs.Common.{subst, ◌∙◌, append_assoc, append-nil, length-append, arith, take}
use Rattle.std.proofs.KnownBytes.{Appends-kept, Appends-trans}
use Rattle.std.proofs.Math.Seq.{take-append_seam}
use Rattle.std.proofs.lemmas.Bool.Decides.{nat_tests}
use Rattle.std.proofs.lemmas.List.{take-map}
use Rattle.std.proofs.lemmas.List.Sums.{sum_by-append}
use Rattle.std.specs.Io.KnownBytes.{Keeps}
use Rattle.std.specs.Prelude.{IfSome}
use Rattle.std.specs.Str.Lines.{strip_carriage_return}
use Rattle.bsc_text.specs.InputLines.{lines_of, parts_of}
use Rattle.bsc_text.specs.Parts.{before_octet}
use Rattle.bsc_text.specs.Reading.{ReadsLine}
use Rattle.bsc_text.specs.declared.input.InputError.{InputError}
use Rattle.bsc_text.specs.declared.input.InputError.TheVariants as input
use Rattle.bsc_text.specs.declared.reading.LineEnd.{LineEnd}
use Rattle.bsc_text.specs.declared.reading.LineEnd.TheVariants.{LineFeed, InputEnd}
use Rattle.bsc_text.proofs.LineParts.{first_part}
use Rattle.bsc_trace.specs.Texts.{Writes}
use Rattle.bsc_trace.specs.Inputs.{is_too_long}
use Rattle.bsc_trace.proofs.Lists.{NonePasses, NonePasses-more, position-append, position_none}
use Rattle.bsc_trace.specs.Lines.{TraceValue}
use Rattle.bsc_trace.specs.declared.waiting.LineError.{LineError}
use Rattle.bsc_trace.specs.declared.waiting.LineError.TheVariants as waiting
use Rattle.bsc_chart.specs.Counts.{one_if}
use Rattle.bsc_chart.specs.Errors.{IsDrawError, input_error, line_error}
use Rattle.bsc_chart.specs.Inputs.{DrawsFirst, DrawsInput, HasStopped, ReadsInput, StopsAt}
use Rattle.bsc_chart.specs.Inputs.{StopsFull, is_passed, passed_in, values_at, values_of}
use Rattle.bsc_chart.specs.Pages.{IsEarlyOf, IsEarlyText, IsLateText, PageValue, blank_page, drawn_at}
use Rattle.bsc_chart.specs.Pages.{drawn_from, drawn_of, is_full, page_by, page_of}
use Rattle.bsc_chart.specs.Pages.{page_with}
use Rattle.bsc_chart.specs.declared.error.ChartError.{ChartError}
use Rattle.bsc_chart.specs.declared.error.ChartError.TheVariants as chart
use Rattle.bsc_chart.specs.declared.drawing.Drawing.{Drawing}
use Rattle.bsc_chart.specs.declared.drawing.Form.{Form}
use Rattle.bsc_chart.specs.declared.drawing.Range.{Range}
use Rattle.bsc_chart.proofs.Ladders.{early_none, early_trans}

-- one more line
page_append : (f : Form) (p : PageValue) (xs ys : List TraceValue)
    → page_by f p (xs ++ ys) ≡ page_by f (page_by f p xs) ys
page_append f p [] ys = refl
page_append f p (x ∷ xs) ys = page_append f (page_with f p x) xs ys

drawn_append : (r : Range) (n : ℕ) (xs : List (List TraceValue)) (y : List TraceValue)
    → drawn_from r n (xs ++ y ∷ []) ≡ drawn_from r n xs ++ drawn_at r (n + length xs) y
drawn_append r n [] y =
    let e : n ≡ n + 0 = omega arith in
    append-nil (drawn_at r n y) ∙ ap (λ m. drawn_at r m y) e
drawn_append r n (x ∷ xs) y =
    let e : n + 1 + length xs ≡ n + length (x ∷ xs) = omega arith in
    ap (λ values. drawn_at r n x ++ values) (drawn_append r (n + 1) xs y)
    ∙ sym (append_assoc (drawn_at r n x) (drawn_from r (n + 1) xs)
    (drawn_at r (n + 1 + length xs) y))
    ∙ ap (λ m. drawn_at r n x ++ drawn_from r (n + 1) xs ++ drawn_at r m y) e

-- the values of some parts
abbrev values_in : List (List ℕ) → List (List TraceValue)
values_in parts = values_of (map strip_carriage_return parts)

values_count : (parts : List (List ℕ)) → length (values_in parts) ≡ length parts
values_count [] = refl
values_count (x ∷ xs) = ap suc (values_count xs)

values_more : (parts : List (List ℕ)) (part : List ℕ)
    → values_in (parts ++ part ∷ []) ≡ values_in parts ++ values_at (strip_carriage_return part) ∷ []
values_more [] part = refl
values_more (x ∷ xs) part =
    ap (λ l. values_at (strip_carriage_return x) ∷ l) (values_more xs part)

-- how many parts are passed over
abbrev passed_of : List (List ℕ) → ℕ
passed_of parts = count_by is_passed (map strip_carriage_return parts)

map_more : (parts : List (List ℕ)) (part : List ℕ) → map strip_carriage_return (parts ++ part ∷ [])
    ≡ map strip_carriage_return parts ++ strip_carriage_return part ∷ []
map_more [] part = refl
map_more (x ∷ xs) part = ap (λ lines. strip_carriage_return x ∷ lines) (map_more xs part)

passed_more : (parts : List (List ℕ)) (part line : List ℕ) → line ≡ strip_carriage_return part
    → passed_of parts + one_if (is_passed line) ≡ passed_of (parts ++ part ∷ [])
passed_more parts part line same =
    let one : List ℕ → ℕ = λ l. cond (is_passed l) 1 0 in
    let before = map strip_carriage_return parts in
    let last = strip_carriage_return part in
    let added = sum_by-append one before (last ∷ []) in
    let whole : passed_of (parts ++ part ∷ []) ≡ count_by is_passed (before ++ last ∷ []) =
    ap (count_by is_passed) (map_more parts part) in
    let here : one_if (is_passed line) ≡ one last = ap (λ l. one_if (is_passed l)) same in
    omega (arith, added, whole, here)

-- one more line counts at most one
pub counted_below : (number passed count : ℕ) (is_passed : Bool) → passed < number
    → count ≡ passed + one_if is_passed → count < number + 1
counted_below number passed count true h e = omega (arith, h, e)
counted_below number passed count false h e = omega (arith, h, e)

-- the first lines, of which the next one has this number, are not too long and their ladder was
-- written; so many of them were passed over; the others are left
pub record HasDrawn (drawing : Drawing) (all left : List (List ℕ)) (number : ℕ)
    (page : PageValue) (passed : ℕ) (old new : Option (List ℕ)) : Type 0 where
  pub done : List (List ℕ)
  pub whole : all ≡ done ++ left
  pub count : length done + 1 ≡ number
  pub right : NonePasses is_too_long done
  pub kept : page ≡ page_of drawing (values_in done)
  pub drawn : Writes (IsEarlyText drawing (values_in done)) old new
  pub counted : passed ≡ passed_of done

-- the same of the lines of what a reader had and of what it has left, where these are known
abbrev pub HasDrawnOf : Option (List ℕ) → Option (List ℕ) → Drawing → ℕ → PageValue → ℕ
    → Option (List ℕ) → Option (List ℕ) → Type 0
HasDrawnOf None left drawing number page passed old new = Unit {0}
HasDrawnOf (Some all) None drawing number page passed old new = ⊥
HasDrawnOf (Some all) (Some left) drawing number page passed old new =
    HasDrawn drawing (parts_of all) (parts_of left) number page passed old new

pub drawn_none : (all : Option (List ℕ)) (drawing : Drawing) (a : Option (List ℕ))
    → HasDrawnOf all all drawing 1 blank_page 0 a a
drawn_none None drawing a = tt
drawn_none (Some all) drawing a = record {
  done = [];
  whole = refl;
  count = refl;
  right = tt;
  kept = refl;
  drawn = early_none drawing.form a;
  counted = refl;
}

-- it stays so while the writer keeps its contents
pub first_kept : (given left : Option (List ℕ)) (drawing : Drawing) (n : ℕ) (k : PageValue) (m : ℕ)
    (a b c : Option (List ℕ)) → HasDrawnOf given left drawing n k m a b → Keeps b c
    → HasDrawnOf given left drawing n k m a c
first_kept None left drawing n k m a b c h kept = tt
first_kept (Some all) None drawing n k m a b c h kept = absurd h
first_kept (Some all) (Some left) drawing n k m a b c h kept = record {
  done = h.done;
  whole = h.whole;
  count = h.count;
  right = h.right;
  kept = h.kept;
  drawn = record {
    text = h.drawn.text;
    kind = h.drawn.kind;
    appended = Appends-kept a b c h.drawn.text h.drawn.appended kept;
  };
  counted = h.counted;
}

first_lines : (octets : List ℕ) (done left : List (List ℕ)) → parts_of octets ≡ done ++ left
    → take (length done) (lines_of octets) ≡ map strip_carriage_return done
first_lines octets done left e =
    take-map strip_carriage_return (length done) (parts_of octets)
    ∙ ap (λ parts. map strip_carriage_return (take (length done) parts)) e
    ∙ ap (map strip_carriage_return) (take-append_seam done left)

-- lines by their length
not_long : (part : List ℕ) → length part ≤ 1048576 → is_too_long part ≡ false
not_long part h = grind (arith, nat_tests)

long : (part : List ℕ) → 1048576 < length part → is_too_long part ≡ true
long part h = grind (arith, nat_tests)

module _ {drawing : Drawing} {n : ℕ} {k : PageValue} {m : ℕ} {a b : Option (List ℕ)} where
  has_drawn_more : (all : List (List ℕ)) (part line : List ℕ) (left : List (List ℕ))
      (more : PageValue) (count : ℕ) (c : Option (List ℕ))
      → HasDrawn drawing all (part ∷ left) n k m a b
      → length part ≤ 1048576 → line ≡ strip_carriage_return part
      → more ≡ page_by drawing.form k (drawn_at drawing.range n (values_at line))
      → Writes (IsEarlyOf drawing.form (drawn_at drawing.range n (values_at line))) b c
      → count ≡ m + one_if (is_passed line) → HasDrawn drawing all left (n + 1) more count a c
  has_drawn_more all part line left more count c h fits same grown p told =
      let before = values_in h.done in
      let now = values_at line in
      let here = drawn_at drawing.range n now in
      let place : n ≡ 1 + length before = omega (arith, h.count, values_count h.done) in
      let values : values_in (h.done ++ part ∷ []) ≡ before ++ now ∷ [] =
      values_more h.done part ∙ ap (λ l. before ++ values_at l ∷ []) (sym same) in
      let all_drawn : drawn_of drawing (values_in (h.done ++ part ∷ []))
      ≡ drawn_of drawing before ++ here =
      ap (drawn_of drawing) values ∙ drawn_append drawing.range 1 before now
      ∙ ap (λ m. drawn_of drawing before ++ drawn_at drawing.range m now) (sym place) in
      record {
        done = h.done ++ part ∷ [];
        whole = h.whole ∙ sym (append_assoc h.done (part ∷ []) left);
        count = omega (arith, length-append h.done (part ∷ []), h.count);
        right = NonePasses-more is_too_long h.done part h.right (not_long part fits);
        kept =
            grown ∙ ap (λ q. page_by drawing.form q here) h.kept
            ∙ sym (page_append drawing.form blank_page (drawn_of drawing before) here)
            ∙ ap (page_by drawing.form blank_page) (sym all_drawn);
        drawn =
            subst (λ vs. Writes (IsEarlyOf drawing.form vs) a c) (sym all_drawn)
            (early_trans drawing.form (drawn_of drawing before) here a b c h.drawn p);
        counted =
            told ∙ ap (λ passed. passed + one_if (is_passed line)) h.counted
            ∙ passed_more h.done part line same;
      }

  -- the next line is too long
  has_drawn_stop : (octets part : List ℕ) (left : List (List ℕ))
      → HasDrawn drawing (parts_of octets) (part ∷ left) n k m a b → is_too_long part ≡ true
      → StopsAt drawing n octets a b
  has_drawn_stop octets part left h too_long = record {
    place = length h.done;
    counted = sym h.count;
    first = rw h.whole (position-append is_too_long h.done part left h.right too_long);
    before =
        subst (λ lines. Writes (IsEarlyText drawing (values_of lines)) a b)
        (sym (first_lines octets h.done (part ∷ left) h.whole)) h.drawn;
  }

  -- no line is left
  has_drawn_all : (octets : List ℕ) → HasDrawn drawing (parts_of octets) [] n k m a b
      → ReadsInput drawing octets k m a b
  has_drawn_all octets h =
      let all_done : parts_of octets ≡ h.done = h.whole ∙ append-nil h.done in
      record {
        right = rw all_done (position_none is_too_long h.done h.right);
        kept = h.kept ∙ ap (λ parts. page_of drawing (values_in parts)) (sym all_done);
        drawn =
            subst (λ parts. Writes (IsEarlyText drawing (values_in parts)) a b)
            (sym all_done) h.drawn;
        counted = h.counted ∙ ap passed_of (sym all_done);
      }

  -- the page is full
  has_drawn_full : (octets : List ℕ) (left : List (List ℕ))
      → HasDrawn drawing (parts_of octets) left n k m a b → is_full k ≡ true
      → StopsFull drawing octets a b
  has_drawn_full octets left h full =
      let first = sym (first_lines octets h.done left h.whole) in
      record {
        place = length h.done;
        full =
            subst (λ lines. is_full (page_of drawing (values_of lines)) ≡ true) first
            (subst (λ q. is_full q ≡ true) h.kept full);
        before =
            subst (λ lines. Writes (IsEarlyText drawing (values_of lines)) a b) first h.drawn;
      }

  has_drawn_first : (octets : List ℕ) (left : List (List ℕ))
      → HasDrawn drawing (parts_of octets) left n k m a b → DrawsFirst drawing octets a b
  has_drawn_first octets left h = record {
    place = length h.done;
    before =
        subst (λ lines. Writes (IsEarlyText drawing (values_of lines)) a b)
        (sym (first_lines octets h.done left h.whole)) h.drawn;
  }

module _ (drawing : Drawing) (n : ℕ) (k : PageValue) (m : ℕ) (a b c : Option (List ℕ)) where
  -- a line that ends with a line feed was drawn
  pub drawn_line : (given left next : Option (List ℕ)) (part line : List ℕ) (more : PageValue)
      (count : ℕ) → HasDrawnOf given left drawing n k m a b → ReadsLine left next LineFeed part
      → length part ≤ 1048576 → line ≡ strip_carriage_return part
      → more ≡ page_by drawing.form k (drawn_at drawing.range n (values_at line))
      → Writes (IsEarlyOf drawing.form (drawn_at drawing.range n (values_at line))) b c
      → count ≡ m + one_if (is_passed line)
      → HasDrawnOf given next drawing (n + 1) more count a c
  drawn_line None left next part line more count h read fits same grown p told = tt
  drawn_line (Some all) None next part line more count h read fits same grown p told = absurd h
  drawn_line (Some all) (Some old) None part line more count h read fits same grown p told =
      absurd read
  drawn_line (Some all) (Some old) (Some new) part line more count h read fits same grown p told =
      has_drawn_more (parts_of all) part line (parts_of new) more count c
      (subst (λ parts. HasDrawn drawing (parts_of all) parts n k m a b) read h) fits same grown p
      told

  -- the last line was drawn
  pub drawn_last : (given left next : Option (List ℕ)) (part line : List ℕ) (more : PageValue)
      (count : ℕ) → HasDrawnOf given left drawing n k m a b → ReadsLine left next InputEnd part
      → length part ≤ 1048576 → line ≡ strip_carriage_return part
      → more ≡ page_by drawing.form k (drawn_at drawing.range n (values_at line))
      → Writes (IsEarlyOf drawing.form (drawn_at drawing.range n (values_at line))) b c
      → count ≡ m + one_if (is_passed line)
      → IfSome given (λ octets. ReadsInput drawing octets more count a c)
  drawn_last None left next part line more count h read fits same grown p told = tt
  drawn_last (Some all) None next part line more count h read fits same grown p told = absurd h
  drawn_last (Some all) (Some old) None part line more count h read fits same grown p told =
      absurd read
  drawn_last (Some all) (Some old) (Some new) part line more count h read fits same grown p told =
      has_drawn_all all (has_drawn_more (parts_of all) part line [] more count c
      (subst (λ parts. HasDrawn drawing (parts_of all) parts n k m a b) read.0 h) fits same grown p
      told)

  -- the next line is too long
  stopped_long : (given left : Option (List ℕ)) → HasDrawnOf given left drawing n k m a b
      → IfSome left (λ octets. 1048576 < length (before_octet 10 octets))
      → IfSome given (λ octets. StopsAt drawing n octets a b)
  stopped_long None left h more = tt
  stopped_long (Some all) None h more = absurd h
  stopped_long (Some all) (Some old) h more =
      let found = first_part old in
      let part = before_octet 10 old in
      has_drawn_stop all part found.0
      (subst (λ parts. HasDrawn drawing (parts_of all) parts n k m a b) found.1 h)
      (long part more)

  -- the next line was not read
  pub stopped_first : (given left : Option (List ℕ)) → HasDrawnOf given left drawing n k m a b
      → IfSome given (λ octets. DrawsFirst drawing octets a b)
  stopped_first None left h = tt
  stopped_first (Some all) None h = absurd h
  stopped_first (Some all) (Some old) h = has_drawn_first all (parts_of old) h

  stopped_read : (given left : Option (List ℕ)) (e : InputError)
      → HasDrawnOf given left drawing n k m a b
      → (e ≡ input.TooLong → IfSome left (λ octets. 1048576 < length (before_octet 10 octets)))
      → IfSome given (λ octets. HasStopped drawing (input_error n e) octets a b)
  stopped_read given left input.TooLong h more = stopped_long given left h (more refl)
  stopped_read given left (input.Device why) h more = stopped_first given left h
  stopped_read None left input.Memory h more = tt
  stopped_read (Some all) left input.Memory h more = tt

  -- it was not read, or the rows before it were not flushed
  pub stopped_next : (given left : Option (List ℕ)) (e : LineError)
      → HasDrawnOf given left drawing n k m a b
      → (e ≡ waiting.Input input.TooLong
      → IfSome left (λ octets. 1048576 < length (before_octet 10 octets)))
      → IfSome given (λ octets. HasStopped drawing (line_error n e) octets a b)
  stopped_next given left (waiting.Input e) h more =
      stopped_read given left e h (λ is. more (ap waiting.Input is))
  stopped_next None left waiting.Output h more = tt
  stopped_next (Some all) left waiting.Output h more = tt

  -- the page is full
  stopped_full : (given left : Option (List ℕ)) → HasDrawnOf given left drawing n k m a b
      → is_full k ≡ true → IfSome given (λ octets. StopsFull drawing octets a b)
  stopped_full None left h full = tt
  stopped_full (Some all) None h full = absurd h
  stopped_full (Some all) (Some old) h full = has_drawn_full all (parts_of old) h full

  -- the line that was read was not drawn, or in part
  pub stopped_write : (given left : Option (List ℕ)) (e : ChartError)
      → HasDrawnOf given left drawing n k m a b
      → (e ≡ chart.TooMany → (is_full k ≡ true) × (c ≡ b))
      → IsDrawError e → IfSome given (λ octets. HasStopped drawing e octets a c)
  stopped_write given left chart.TooMany h full kind =
      let told = full refl in rw told.1 (stopped_full given left h told.0)
  stopped_write None left e h full kind = tt
  stopped_write (Some all) left (chart.TooLongAt number) h full kind = absurd kind
  stopped_write (Some all) left chart.Width h full kind = tt
  stopped_write (Some all) left chart.Forms h full kind = tt
  stopped_write (Some all) left chart.Lines h full kind = tt
  stopped_write (Some all) left (chart.Input why) h full kind = absurd kind
  stopped_write (Some all) left chart.Output h full kind = tt
  stopped_write (Some all) left chart.Memory h full kind = tt

-- the rows of a text were written, and then the picture, if it is one
pub drawn_end : (drawing : Drawing) (octets : List ℕ) (k : PageValue) (m : ℕ)
    (a b c : Option (List ℕ)) → ReadsInput drawing octets k m a b → Writes (IsLateText drawing.form k) b c
    → DrawsInput drawing octets a c
drawn_end drawing octets k m a b c h p = record {
  right = h.right;
  drawn = record {
    text = h.drawn.text ++ p.text;
    kind = record {
      early = h.drawn.text;
      late = p.text;
      is_early = h.drawn.kind;
      is_late = subst (λ q. IsLateText drawing.form q p.text) h.kept p.kind;
      whole = refl;
    };
    appended = Appends-trans a b c h.drawn.text p.text h.drawn.appended p.appended;
  };
}
