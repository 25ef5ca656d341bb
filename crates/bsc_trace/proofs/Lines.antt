-- The output for lines.
use Rattle.std.proofs.Common.{◌≡◌, ℕ, List, [], ◌∷◌, ◌++◌, Bool, true, false, Option, Some, None, Result, Ok, Err}
use Rattle.std.proofs.Common.{refl, sym, ap, subst, ◌∙◌, append_assoc, append-nil}
use Rattle.std.specs.Prelude.{if◌then◌else◌, OnOk, OnErr}
use Rattle.std.specs.Option.{option_to_list}
use Rattle.std.proofs.KnownBytes.{Appends-nil, Appends-trans}
use Rattle.bsc_frame.specs.declared.message.Heard.{Heard}
use Rattle.bsc_frame.specs.Spells.{IsHeardAs}
use Rattle.bsc_text.specs.Fronts.{AppendsFront, Extends}
use Rattle.bsc_text.specs.Names.{Prints, PrintsFront, shown}
use Rattle.bsc_text.proofs.Fronts.{extends_all, extends_front, front_none}
use Rattle.bsc_text.specs.declared.printed.Detail.{Detail}
use Rattle.bsc_text.specs.declared.printed.Detail.TheVariants.{Name, Units}
use Rattle.std.specs.Io.KnownBytes.{Appends}
use Rattle.bsc_text.specs.InputLines.{is_blank}
use Rattle.bsc_text.specs.Parts.{parts_at}
use Rattle.bsc_trace.specs.NamingLines.{AreShown, IsOutputFor, IsOutputOf, PrintsLines, digits}
use Rattle.bsc_trace.specs.NamingLines.{PrintsLinesFront}
use Rattle.bsc_trace.specs.NamingLines.{given, is_traced, kept_line, last_part, shown_line}
use Rattle.bsc_text.specs.Hexadecimal.{octets_of}

-- A line that is no line of a trace is not kept.
nothing_kept : (detail : Detail) (line : List ℕ) (a : Option (List ℕ))
    → Appends a a (kept_line detail false line)
nothing_kept Name line a = Appends-nil a
nothing_kept Units line a = Appends-nil a

-- The output for a line that is no line of a trace is that for what its octets are heard as.
pub shown_line_plain : (detail : Detail) (line : List ℕ) (heard : Heard)
    → shown_line detail false line heard ≡ shown detail heard
shown_line_plain Name line heard = refl
shown_line_plain Units line heard = refl

pub are_shown_append : (detail : Detail) (xs ys : List (List ℕ)) (t u : List ℕ)
    → AreShown detail xs t → AreShown detail ys u → AreShown detail (xs ++ ys) (t ++ u)
are_shown_append detail [] ys t u h k = rw h k
are_shown_append detail (x ∷ xs) ys t u (first, rest, output, e, more) k = (
  first,
  rest ++ u,
  output,
  rw e (append_assoc first rest u),
  are_shown_append detail xs ys rest u more k,
)

pub prints_lines_nil : (detail : Detail) (a : Option (List ℕ)) → PrintsLines detail [] a a
prints_lines_nil detail a = record { text = []; shown = refl; appended = Appends-nil a }

pub prints_lines_append : (detail : Detail) (xs ys : List (List ℕ)) (a b c : Option (List ℕ))
    → PrintsLines detail xs a b → PrintsLines detail ys b c → PrintsLines detail (xs ++ ys) a c
prints_lines_append detail xs ys a b c p q = record {
  text = p.text ++ q.text;
  shown = are_shown_append detail xs ys p.text q.text p.shown q.shown;
  appended = Appends-trans a b c p.text q.text p.appended q.appended;
}

-- the output for a line, by whether it is a line of a trace, and by its octets
output_by_octets : (detail : Detail) (traced : Bool) (line text : List ℕ) (octets : List (List ℕ))
    → is_traced line ≡ traced → given (digits line) ≡ octets
    → IsOutputFor detail traced line octets text → IsOutputOf detail line text
output_by_octets detail traced line text octets is same output =
    subst (λ (b : Bool). IsOutputFor detail b line (given (digits line)) text) (sym is)
    (subst (λ (os : List (List ℕ)). IsOutputFor detail traced line os text) (sym same) output)

-- one line, by its output
prints_one_line : (detail : Detail) (line text : List ℕ) (a b : Option (List ℕ))
    → IsOutputOf detail line text → Appends a b text → PrintsLines detail (line ∷ []) a b
prints_one_line detail line text a b output appended = record {
  text = text;
  shown = (text, [], output, sym (append-nil text), refl);
  appended = appended;
}

-- a line with a transmission
pub prints_lines_one : (detail : Detail) (traced : Bool) (line text octets : List ℕ)
    (a b : Option (List ℕ)) → is_traced line ≡ traced → digits line ≡ text → is_blank text ≡ false
    → octets_of text ≡ Some octets
    → ((heard : Heard) × IsHeardAs octets heard × Appends a b (shown_line detail traced line heard))
    → PrintsLines detail (line ∷ []) a b
prints_lines_one detail traced line text octets a b is same blank e (heard, is_heard, appended) =
    let some : given text ≡ octets ∷ [] =
    ap (λ b. if b then [] else option_to_list (octets_of text)) blank ∙ ap option_to_list e in
    let out = shown_line detail traced line heard in
    prints_one_line detail line out a b
    (output_by_octets detail traced line out (octets ∷ []) is (ap given same ∙ some)
    (heard, is_heard, refl)) appended

-- a front of the output for one line
lines_front_one_line : (detail : Detail) (line text : List ℕ) (a b : Option (List ℕ))
    → IsOutputOf detail line text → AppendsFront a b text
    → PrintsLinesFront detail (line ∷ []) a b
lines_front_one_line detail line text a b output front = record {
  place = 1;
  text = text;
  shown = (text, [], output, sym (append-nil text), refl);
  appended = front;
}

-- nothing was printed
pub lines_front_none : (detail : Detail) (lines : List (List ℕ)) (a : Option (List ℕ))
    → PrintsLinesFront detail lines a a
lines_front_none detail lines a = record {
  place = 0;
  text = [];
  shown = refl;
  appended = front_none a [];
}

-- a front of the output for a line with a transmission
pub lines_front_one : (detail : Detail) (traced : Bool) (line text octets : List ℕ)
    (a b : Option (List ℕ)) → is_traced line ≡ traced → digits line ≡ text → is_blank text ≡ false
    → octets_of text ≡ Some octets
    → ((heard : Heard) × IsHeardAs octets heard
    × AppendsFront a b (shown_line detail traced line heard))
    → PrintsLinesFront detail (line ∷ []) a b
lines_front_one detail traced line text octets a b is same blank e (heard, is_heard, front) =
    let some : given text ≡ octets ∷ [] =
    ap (λ b. if b then [] else option_to_list (octets_of text)) blank ∙ ap option_to_list e in
    let out = shown_line detail traced line heard in
    lines_front_one_line detail line out a b
    (output_by_octets detail traced line out (octets ∷ []) is (ap given same ∙ some)
    (heard, is_heard, refl)) front

-- a front of that for a line that is no line of a trace
pub lines_front_plain : (detail : Detail) (line octets : List ℕ) (a b : Option (List ℕ))
    → is_traced line ≡ false → digits line ≡ line → is_blank line ≡ false
    → octets_of line ≡ Some octets → PrintsFront (shown detail) octets a b
    → PrintsLinesFront detail (line ∷ []) a b
lines_front_plain detail line octets a b is same blank e p =
    lines_front_one detail false line line octets a b is same blank e (
      p.heard,
      p.is_heard,
      subst (λ t. AppendsFront a b t) (sym (shown_line_plain detail line p.heard)) p.appended,
    )

-- a front of the output for a line without a transmission
pub lines_front_kept : (detail : Detail) (traced : Bool) (line text : List ℕ)
    (a b : Option (List ℕ)) → is_traced line ≡ traced → digits line ≡ text → given text ≡ []
    → AppendsFront a b (kept_line detail traced line) → PrintsLinesFront detail (line ∷ []) a b
lines_front_kept detail traced line text a b is same none front =
    let out = kept_line detail traced line in
    lines_front_one_line detail line out a b
    (output_by_octets detail traced line out [] is (ap given same ∙ none) refl) front

-- what was written before stays, whether the output for lines was printed or a front of it
pub extends_lines : {T E : Type 0} (detail : Detail) (lines : List (List ℕ))
    (a b : Option (List ℕ)) (r : Result T E) → OnOk r (PrintsLines detail lines a b)
    → OnErr r (PrintsLinesFront detail lines a b) → Extends a b
extends_lines detail lines a b (Ok done) p q = extends_all a b p.text p.appended
extends_lines detail lines a b (Err e) p q = extends_front a b q.text q.appended

-- a line that is no line of a trace and has a transmission
pub prints_lines_plain : (detail : Detail) (line octets : List ℕ) (a b : Option (List ℕ))
    → is_traced line ≡ false → digits line ≡ line → is_blank line ≡ false
    → octets_of line ≡ Some octets → Prints (shown detail) octets a b
    → PrintsLines detail (line ∷ []) a b
prints_lines_plain detail line octets a b is same blank e p =
    prints_lines_one detail false line line octets a b is same blank e (
      p.heard,
      p.is_heard,
      subst (λ t. Appends a b t) (sym (shown_line_plain detail line p.heard)) p.appended,
    )

-- a line without a transmission
pub prints_lines_kept : (detail : Detail) (traced : Bool) (line text : List ℕ)
    (a b : Option (List ℕ)) → is_traced line ≡ traced → digits line ≡ text → given text ≡ []
    → Appends a b (kept_line detail traced line) → PrintsLines detail (line ∷ []) a b
prints_lines_kept detail traced line text a b is same none appended =
    let out = kept_line detail traced line in
    prints_one_line detail line out a b
    (output_by_octets detail traced line out [] is (ap given same ∙ none) refl) appended

-- a line that is no line of a trace and has no transmission
pub prints_lines_skip : (detail : Detail) (line text : List ℕ) (a : Option (List ℕ))
    → is_traced line ≡ false → digits line ≡ text → given text ≡ []
    → PrintsLines detail (line ∷ []) a a
prints_lines_skip detail line text a is same none =
    prints_lines_kept detail false line text a a is same none (nothing_kept detail line a)

-- the hexadecimal text of a line of a trace, and of any other line
pub digits_traced : (line : List ℕ) → is_traced line ≡ true → digits line
    ≡ last_part (parts_at 32 line)
digits_traced line e = ap (λ b. if b then last_part (parts_at 32 line) else line) e

pub digits_plain : (line : List ℕ) → is_traced line ≡ false → digits line ≡ line
digits_plain line e = ap (λ b. if b then last_part (parts_at 32 line) else line) e

-- blank text, and text that is not hexadecimal, have no transmission
pub given_blank : (text : List ℕ) → is_blank text ≡ true → given text ≡ []
given_blank text e = ap (λ b. if b then [] else option_to_list (octets_of text)) e

pub given_wrong : (text : List ℕ) → is_blank text ≡ false → octets_of text ≡ None → given text ≡ []
given_wrong text blank e =
    ap (λ b. if b then [] else option_to_list (octets_of text)) blank ∙ ap option_to_list e
