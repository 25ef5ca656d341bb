-- The output for the lines of an input so far.
use Rattle.std.proofs.Common.{◌≡◌, ◌<◌, ◌≤◌, ℕ, ◌+◌, ◌||◌, ◌&&◌, not, map, List, [], ◌∷◌, ◌++◌, Bool}
use Rattle.std.proofs.Common.{true, false, Option, Some, None, Result, Ok, Err, length, refl, sym, ap}
use Rattle.std.proofs.Common.{zero, suc, subst, ◌∙◌, append_assoc, append-nil, length-append, arith, get_or, take}
use Rattle.std.proofs.KnownBytes.{Appends-kept}
use Rattle.std.proofs.Math.Seq.{take-append_seam}
use Rattle.std.proofs.lemmas.Bool.{or_from, or_left}
use Rattle.std.proofs.lemmas.Bool.Decides.{nat_tests}
use Rattle.std.proofs.lemmas.List.{map-append, take-map}
use Rattle.std.specs.Io.KnownBytes.{Keeps}
use Rattle.std.specs.Prelude.{IfErr, IfSome, OnOk, slice_index_or}
use Rattle.std.specs.Str.Lines.{strip_carriage_return}
use Rattle.bsc_text.specs.InputLines.{lines_of, parts_of}
use Rattle.bsc_text.specs.Parts.{before_octet}
use Rattle.bsc_text.specs.Reading.{ReadsLine}
use Rattle.bsc_text.specs.declared.input.InputError.{InputError}
use Rattle.bsc_text.specs.declared.input.InputError.TheVariants as input
use Rattle.bsc_text.specs.declared.reading.LineEnd.{LineEnd}
use Rattle.bsc_text.specs.declared.reading.LineEnd.TheVariants.{LineFeed, InputEnd}
use Rattle.bsc_text.proofs.LineParts.{first_part}
use Rattle.bsc_text.specs.Fronts.{AppendsFront, Extends}
use Rattle.bsc_text.specs.declared.printed.Detail.{Detail}
use Rattle.bsc_text.proofs.Fronts.{front_after, front_all}
use Rattle.bsc_trace.specs.Errors.{IsLineError, IsWrongOrPrintError, input_error, line_error}
use Rattle.bsc_trace.specs.Inputs.{HasStopped, PrintsFirst, PrintsInput, StopsAt}
use Rattle.bsc_trace.specs.Inputs.{is_misspelt, is_refused, is_too_long}
use Rattle.bsc_trace.specs.NamingLines.{AreShown, PrintsLines, PrintsLinesFront, is_wrong}
use Rattle.bsc_trace.specs.declared.naming.error.NamingError.{NamingError}
use Rattle.bsc_trace.specs.declared.naming.error.NamingError.TheVariants as naming
use Rattle.bsc_trace.specs.declared.waiting.LineError.{LineError}
use Rattle.bsc_trace.specs.declared.waiting.LineError.TheVariants as waiting
use Rattle.bsc_trace.proofs.Lines.{are_shown_append, lines_front_none, prints_lines_append, prints_lines_nil}
use Rattle.bsc_trace.proofs.Lists.{NonePasses, NonePasses-more, position-append, position_none}

-- the first lines, of which the next one has this number, are not refused and their output was
-- printed; the others are left
pub record HasPrinted (detail : Detail) (all left : List (List ℕ)) (number : ℕ)
    (old new : Option (List ℕ)) : Type 0 where
  pub done : List (List ℕ)
  pub whole : all ≡ done ++ left
  pub count : length done + 1 ≡ number
  pub right : NonePasses is_refused done
  pub printed : PrintsLines detail (map strip_carriage_return done) old new

-- the same of the lines of what a reader had and of what it has left, where these are known
abbrev pub HasPrintedOf : Option (List ℕ) → Option (List ℕ) → Detail → ℕ → Option (List ℕ)
    → Option (List ℕ) → Type 0
HasPrintedOf None left detail number old new = Unit {0}
HasPrintedOf (Some all) None detail number old new = ⊥
HasPrintedOf (Some all) (Some left) detail number old new =
    HasPrinted detail (parts_of all) (parts_of left) number old new

pub printed_none : (all : Option (List ℕ)) (detail : Detail) (a : Option (List ℕ))
    → HasPrintedOf all all detail 1 a a
printed_none None detail a = tt
printed_none (Some all) detail a = record {
  done = [];
  whole = refl;
  count = refl;
  right = tt;
  printed = prints_lines_nil detail a;
}

-- it stays so while the writer keeps its contents
pub printed_kept : (given left : Option (List ℕ)) (detail : Detail) (n : ℕ)
    (a b c : Option (List ℕ)) → HasPrintedOf given left detail n a b → Keeps b c
    → HasPrintedOf given left detail n a c
printed_kept None left detail n a b c h k = tt
printed_kept (Some all) None detail n a b c h k = absurd h
printed_kept (Some all) (Some left) detail n a b c h k = record {
  done = h.done;
  whole = h.whole;
  count = h.count;
  right = h.right;
  printed = record {
    text = h.printed.text;
    shown = h.printed.shown;
    appended = Appends-kept a b c h.printed.text h.printed.appended k;
  };
}

pub extends_kept : (a b c : Option (List ℕ)) → Extends a b → Keeps b c → Extends a c
extends_kept a b c h k = record {
  text = h.text;
  appended = Appends-kept a b c h.text h.appended k;
}

get_or_seam : {X : Type 0} (xs : List X) (y : X) (ys : List X) (d : X)
    → get_or (xs ++ y ∷ ys) (length xs) d ≡ y
get_or_seam [] y ys d = refl
get_or_seam (x ∷ xs) y ys d = get_or_seam xs y ys d

first_lines : (octets : List ℕ) (done left : List (List ℕ)) → parts_of octets ≡ done ++ left
    → take (length done) (lines_of octets) ≡ map strip_carriage_return done
first_lines octets done left e =
    take-map strip_carriage_return (length done) (parts_of octets)
    ∙ ap (λ parts. map strip_carriage_return (take (length done) parts)) e
    ∙ ap (map strip_carriage_return) (take-append_seam done left)

-- lines by their length
wrong_by : (b : Bool) (wrong : Bool) → b ≡ false → wrong ≡ true
    → ((b || wrong) ≡ true) × ((not b && wrong) ≡ true)
wrong_by true wrong e f = cc
wrong_by false wrong e f = (f, f)

not_long : (part : List ℕ) → length part ≤ 1048576 → is_too_long part ≡ false
not_long part h = grind (arith, nat_tests)

long : (part : List ℕ) → 1048576 < length part → is_too_long part ≡ true
long part h = grind (arith, nat_tests)

take_none : {X : Type 0} (xs : List X) (k : ℕ) → xs ≡ [] → take k xs ≡ []
take_none [] zero e = refl
take_none [] (suc k) e = refl
take_none (x ∷ xs) k e = cc

module _ {detail : Detail} {n : ℕ} {a b : Option (List ℕ)} where
  has_printed_more : (all : List (List ℕ)) (part line : List ℕ) (left : List (List ℕ))
      (c : Option (List ℕ)) → HasPrinted detail all (part ∷ left) n a b → length part ≤ 1048576
      → line ≡ strip_carriage_return part → is_wrong line ≡ false
      → PrintsLines detail (line ∷ []) b c → HasPrinted detail all left (n + 1) a c
  has_printed_more all part line left c h fits same right p = record {
    done = h.done ++ part ∷ [];
    whole = h.whole ∙ sym (append_assoc h.done (part ∷ []) left);
    count = omega (arith, length-append h.done (part ∷ []), h.count);
    right =
        NonePasses-more is_refused h.done part h.right
        (or_from (is_too_long part) (is_wrong (strip_carriage_return part)) (not_long part fits)
        (rw same at right));
    printed =
        subst (λ lines. PrintsLines detail lines a c)
        (sym (map-append strip_carriage_return h.done (part ∷ [])))
        (prints_lines_append detail (map strip_carriage_return h.done)
        (strip_carriage_return part ∷ []) a b c h.printed (rw same at p));
  }

  -- the next line is refused
  has_printed_stop : (is_fault : List ℕ → Bool) (octets part : List ℕ) (left : List (List ℕ))
      → HasPrinted detail (parts_of octets) (part ∷ left) n a b → is_refused part ≡ true
      → is_fault part ≡ true → StopsAt is_fault detail n octets a b
  has_printed_stop is_fault octets part left h refused fault = record {
    place = length h.done;
    counted = sym h.count;
    first = rw h.whole (position-append is_refused h.done part left h.right refused);
    reason =
        ap (λ parts. is_fault (get_or parts (length h.done) [])) h.whole
        ∙ ap is_fault (get_or_seam h.done part left []) ∙ fault;
    before =
        subst (λ lines. PrintsLines detail lines a b)
        (sym (first_lines octets h.done (part ∷ left) h.whole)) h.printed;
  }

  -- no line is left
  has_printed_all : (octets : List ℕ) → HasPrinted detail (parts_of octets) [] n a b
      → PrintsInput detail octets a b
  has_printed_all octets h =
      let all_done : parts_of octets ≡ h.done = h.whole ∙ append-nil h.done in
      record {
        right = rw all_done (position_none is_refused h.done h.right);
        printed =
            subst (λ parts. PrintsLines detail (map strip_carriage_return parts) a b)
            (sym all_done) h.printed;
      }

  has_printed_first : (octets : List ℕ) (left : List (List ℕ))
      → HasPrinted detail (parts_of octets) left n a b → PrintsFirst detail octets a b
  has_printed_first octets left h = record {
    place = length h.done;
    before =
        subst (λ lines. PrintsLines detail lines a b)
        (sym (first_lines octets h.done left h.whole)) h.printed;
  }

  -- the output for the first lines was printed, as a front of itself
  has_printed_whole : (octets : List ℕ) (left : List (List ℕ))
      → HasPrinted detail (parts_of octets) left n a b
      → PrintsLinesFront detail (lines_of octets) a b
  has_printed_whole octets left h = record {
    place = length h.done;
    text = h.printed.text;
    shown =
        subst (λ lines. AreShown detail lines h.printed.text)
        (sym (first_lines octets h.done left h.whole)) h.printed.shown;
    appended = front_all a b h.printed.text h.printed.appended;
  }

  -- the output for the first lines was printed, and that for these next ones, as far as it goes
  has_printed_next : (octets : List ℕ) (part line : List ℕ) (left : List (List ℕ))
      (c : Option (List ℕ)) (h : HasPrinted detail (parts_of octets) (part ∷ left) n a b)
      (same : line ≡ strip_carriage_return part) (place : ℕ) (text : List ℕ)
      → AreShown detail (take place (line ∷ [])) text → AppendsFront b c text
      → PrintsLinesFront detail (lines_of octets) a c
  has_printed_next octets part line left c h same zero text shown front =
      let lines = map strip_carriage_return h.done in
      record {
        place = length h.done;
        text = h.printed.text ++ text;
        shown =
            subst (λ l. AreShown detail l (h.printed.text ++ text))
            (append-nil lines ∙ sym (first_lines octets h.done (part ∷ left) h.whole))
            (are_shown_append detail lines [] h.printed.text text h.printed.shown shown);
        appended = front_after a b c h.printed.text text h.printed.appended front;
      }
  has_printed_next octets part line left c h same (suc k) text shown front =
      let lines = map strip_carriage_return h.done in
      let more : lines ++ line ∷ [] ≡ map strip_carriage_return (h.done ++ part ∷ []) =
      ap (λ l. lines ++ l ∷ []) same ∙ sym (map-append strip_carriage_return h.done (part ∷ [])) in
      record {
        place = length (h.done ++ part ∷ []);
        text = h.printed.text ++ text;
        shown =
            subst (λ l. AreShown detail l (h.printed.text ++ text))
            (more ∙ sym (first_lines octets (h.done ++ part ∷ []) left
            (h.whole ∙ sym (append_assoc h.done (part ∷ []) left))))
            (are_shown_append detail lines (line ∷ []) h.printed.text text h.printed.shown
            (subst (λ l. AreShown detail (line ∷ l) text) (take_none [] k refl) shown));
        appended = front_after a b c h.printed.text text h.printed.appended front;
      }

-- the part is what was read of the lines that were left, and others may be left
part_left : (old new : List ℕ) (end : LineEnd) (part : List ℕ)
    → ReadsLine (Some old) (Some new) end part
    → (left : List (List ℕ)) × (parts_of old ≡ part ∷ left)
part_left old new LineFeed part e = (parts_of new, e)
part_left old new InputEnd part e = ([], e.0)

module _ (detail : Detail) (n : ℕ) (a b c : Option (List ℕ)) where
  -- a line that ends with a line feed was printed
  pub printed_line : (given left next : Option (List ℕ)) (part line : List ℕ)
      → HasPrintedOf given left detail n a b → ReadsLine left next LineFeed part
      → length part ≤ 1048576 → line ≡ strip_carriage_return part → is_wrong line ≡ false
      → PrintsLines detail (line ∷ []) b c → HasPrintedOf given next detail (n + 1) a c
  printed_line None left next part line h read fits same right p = tt
  printed_line (Some all) None next part line h read fits same right p = absurd h
  printed_line (Some all) (Some old) None part line h read fits same right p = absurd read
  printed_line (Some all) (Some old) (Some new) part line h read fits same right p =
      has_printed_more (parts_of all) part line (parts_of new) c
      (subst (λ parts. HasPrinted detail (parts_of all) parts n a b) read h) fits same right p

  -- the last line was printed
  pub printed_last : (given left next : Option (List ℕ)) (part line : List ℕ)
      → HasPrintedOf given left detail n a b → ReadsLine left next InputEnd part
      → length part ≤ 1048576 → line ≡ strip_carriage_return part → is_wrong line ≡ false
      → PrintsLines detail (line ∷ []) b c
      → IfSome given (λ octets. PrintsInput detail octets a c)
  printed_last None left next part line h read fits same right p = tt
  printed_last (Some all) None next part line h read fits same right p = absurd h
  printed_last (Some all) (Some old) None part line h read fits same right p = absurd read
  printed_last (Some all) (Some old) (Some new) part line h read fits same right p =
      has_printed_all all (has_printed_more (parts_of all) part line [] c
      (subst (λ parts. HasPrinted detail (parts_of all) parts n a b) read.0 h) fits same right p)

  -- a wrong line was not printed
  stopped_wrong : (given left next : Option (List ℕ)) (end : LineEnd) (part line : List ℕ)
      → HasPrintedOf given left detail n a b → ReadsLine left next end part
      → length part ≤ 1048576 → line ≡ strip_carriage_return part → is_wrong line ≡ true
      → IfSome given (λ octets. StopsAt is_misspelt detail n octets a b)
  stopped_wrong None left next end part line h read fits same wrong = tt
  stopped_wrong (Some all) None next end part line h read fits same wrong = absurd h
  stopped_wrong (Some all) (Some old) None end part line h read fits same wrong = absurd read
  stopped_wrong (Some all) (Some old) (Some new) end part line h read fits same wrong =
      let found = part_left old new end part read in
      let both =
      wrong_by (is_too_long part) (is_wrong (strip_carriage_return part)) (not_long part fits)
      (rw same at wrong) in
      has_printed_stop is_misspelt all part found.0
      (subst (λ parts. HasPrinted detail (parts_of all) parts n a b) found.1 h) both.0 both.1

  -- the next line is too long
  stopped_long : (given left : Option (List ℕ)) → HasPrintedOf given left detail n a b
      → IfSome left (λ octets. 1048576 < length (before_octet 10 octets))
      → IfSome given (λ octets. StopsAt is_too_long detail n octets a b)
  stopped_long None left h more = tt
  stopped_long (Some all) None h more = absurd h
  stopped_long (Some all) (Some old) h more =
      let found = first_part old in
      let part = before_octet 10 old in
      has_printed_stop is_too_long all part found.0
      (subst (λ parts. HasPrinted detail (parts_of all) parts n a b) found.1 h)
      (or_left (is_too_long part) (is_wrong (strip_carriage_return part)) (long part more))
      (long part more)

  -- the next line was not read
  pub stopped_first : (given left : Option (List ℕ)) → HasPrintedOf given left detail n a b
      → IfSome given (λ octets. PrintsFirst detail octets a b)
  stopped_first None left h = tt
  stopped_first (Some all) None h = absurd h
  stopped_first (Some all) (Some old) h = has_printed_first all (parts_of old) h

  stopped_read : (given left : Option (List ℕ)) (e : InputError)
      → HasPrintedOf given left detail n a b
      → (e ≡ input.TooLong → IfSome left (λ octets. 1048576 < length (before_octet 10 octets)))
      → IfSome given (λ octets. HasStopped detail (input_error n e) octets a b)
  stopped_read given left input.TooLong h more = stopped_long given left h (more refl)
  stopped_read given left (input.Device why) h more = stopped_first given left h
  stopped_read None left input.Memory h more = tt
  stopped_read (Some all) None input.Memory h more = absurd h
  stopped_read (Some all) (Some old) input.Memory h more = has_printed_whole all (parts_of old) h

  -- it was not read, or the output before it was not flushed
  pub stopped_next : (given left : Option (List ℕ)) (e : LineError)
      → HasPrintedOf given left detail n a b
      → (e ≡ waiting.Input input.TooLong
      → IfSome left (λ octets. 1048576 < length (before_octet 10 octets)))
      → IfSome given (λ octets. HasStopped detail (line_error n e) octets a b)
  stopped_next given left (waiting.Input e) h more =
      stopped_read given left e h (λ is. more (ap waiting.Input is))
  stopped_next None left waiting.Output h more = tt
  stopped_next (Some all) None waiting.Output h more = absurd h
  stopped_next (Some all) (Some old) waiting.Output h more = has_printed_whole all (parts_of old) h

  -- a front of the output for the next line was printed
  stopped_part : (given left next : Option (List ℕ)) (end : LineEnd) (part line : List ℕ)
      → HasPrintedOf given left detail n a b → ReadsLine left next end part
      → line ≡ strip_carriage_return part → PrintsLinesFront detail (line ∷ []) b c
      → IfSome given (λ octets. PrintsLinesFront detail (lines_of octets) a c)
  stopped_part None left next end part line h read same p = tt
  stopped_part (Some all) None next end part line h read same p = absurd h
  stopped_part (Some all) (Some old) None end part line h read same p = absurd read
  stopped_part (Some all) (Some old) (Some new) end part line h read same p =
      let found = part_left old new end part read in
      has_printed_next all part line found.0 c
      (subst (λ parts. HasPrinted detail (parts_of all) parts n a b) found.1 h) same p.place p.text
      p.shown p.appended

  -- the line that was read was not printed, or in part
  pub stopped_write : (given left next : Option (List ℕ)) (end : LineEnd) (part line : List ℕ)
      (e : NamingError) → HasPrintedOf given left detail n a b → ReadsLine left next end part
      → length part ≤ 1048576 → line ≡ strip_carriage_return part
      → ((k : ℕ) → e ≡ naming.NotHexadecimalAt k
      → (k ≡ n) × (is_wrong line ≡ true) × (c ≡ b))
      → PrintsLinesFront detail (line ∷ []) b c
      → IsWrongOrPrintError e → IfSome given (λ octets. HasStopped detail e octets a c)
  stopped_write given left next end part line (naming.NotHexadecimalAt k) h read fits same wrong p kind =
      let told = wrong k refl in
      rw (told.0, told.2) (stopped_wrong given left next end part line h read fits same told.1)
  stopped_write given left next end part line naming.NotHexadecimal h read fits same wrong p kind = absurd kind
  stopped_write given left next end part line (naming.TooLongAt k) h read fits same wrong p kind = absurd kind
  stopped_write given left next end part line naming.Input h read fits same wrong p kind = absurd kind
  stopped_write given left next end part line naming.Output h read fits same wrong p kind =
      stopped_part given left next end part line h read same p
  stopped_write given left next end part line naming.Memory h read fits same wrong p kind =
      stopped_part given left next end part line h read same p

-- nothing was printed
pub stopped_unread : (detail : Detail) (a : Option (List ℕ)) (given : Option (List ℕ))
    → IfSome given (λ octets. PrintsLinesFront detail (lines_of octets) a a)
stopped_unread detail a None = tt
stopped_unread detail a (Some octets) = lines_front_none detail (lines_of octets) a

-- the errors of one line are errors of lines
pub line_error_of_write : (e : NamingError) → IsWrongOrPrintError e → IsLineError e
line_error_of_write naming.NotHexadecimal kind = kind
line_error_of_write (naming.NotHexadecimalAt k) kind = tt
line_error_of_write (naming.TooLongAt k) kind = tt
line_error_of_write naming.Input kind = tt
line_error_of_write naming.Output kind = tt
line_error_of_write naming.Memory kind = tt
