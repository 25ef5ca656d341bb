-- A ladder of lines, and then one of others, is a ladder of all of them.
use Rattle.std.proofs.Common.{◌≡◌, List, [], ◌∷◌, ◌++◌, Option, refl, sym, ap, subst, ◌∙◌, ℕ}
use Rattle.std.proofs.Common.{append_assoc, append-nil, inl, inr, Result, Ok, Err}
use Rattle.std.proofs.KnownBytes.{Appends-nil, Appends-trans}
use Rattle.std.specs.Prelude.{OnOk}
use Rattle.bsc_trace.specs.Rows.{time_in}
use Rattle.bsc_trace.specs.Texts.{IsLine, IsRow, Writes}
use Rattle.bsc_trace.specs.Lines.{TraceValue}
use Rattle.bsc_chart.specs.Ladders.{AreLabels, IsLadder}
use Rattle.bsc_chart.specs.Pages.{IsEarlyOf}
use Rattle.bsc_chart.specs.Rows.{row_of}
use Rattle.bsc_chart.specs.declared.drawing.Form.{Form}
use Rattle.bsc_chart.specs.declared.drawing.Form.TheVariants.{Text, Svg, Html}

-- a line is labels, and so is nothing
pub no_labels : (a : Option (List ℕ)) → Writes AreLabels a a
no_labels a = record {
  text = [];
  kind = inl refl;
  appended = Appends-nil a;
}

pub labels_written : {X E : Type 0} (r : Result X E) (a b : Option (List ℕ))
    → OnOk r (Writes IsLine a b) → OnOk r (Writes AreLabels a b)
labels_written (Ok done) a b p = record {
  text = p.text;
  kind = inr p.kind;
  appended = p.appended;
}
labels_written (Err error) a b p = tt

-- labels and a row are the ladder of one line
pub line_written : (value : TraceValue) (a b c : Option (List ℕ)) → Writes AreLabels a b
    → Writes (IsRow (time_in (row_of value))) b c → Writes (IsLadder (value ∷ [])) a c
line_written value a b c p q = record {
  text = p.text ++ q.text;
  kind = record {
    labels = p.text;
    row = q.text;
    rest = [];
    are_labels = p.kind;
    is_row = q.kind;
    is_rest = refl;
    whole = sym (append-nil (p.text ++ q.text));
  };
  appended = Appends-trans a b c p.text q.text p.appended q.appended;
}

ladder_append : (xs ys : List TraceValue) (s t : List ℕ) → IsLadder xs s → IsLadder ys t
    → IsLadder (xs ++ ys) (s ++ t)
ladder_append [] ys s t h k = subst (λ u. IsLadder ys (u ++ t)) (sym h) k
ladder_append (x ∷ xs) ys s t h k = record {
  labels = h.labels;
  row = h.row;
  rest = h.rest ++ t;
  are_labels = h.are_labels;
  is_row = h.is_row;
  is_rest = ladder_append xs ys h.rest t h.is_rest k;
  whole = ap (λ u. u ++ t) h.whole ∙ append_assoc (h.labels ++ h.row) h.rest t;
}

early_append : (f : Form) (xs ys : List TraceValue) (s t : List ℕ) → IsEarlyOf f xs s
    → IsEarlyOf f ys t → IsEarlyOf f (xs ++ ys) (s ++ t)
early_append Text xs ys s t h k = ladder_append xs ys s t h k
early_append Svg xs ys s t h k = ap (λ u. u ++ t) h ∙ k
early_append Html xs ys s t h k = ap (λ u. u ++ t) h ∙ k

pub early_trans : (f : Form) (xs ys : List TraceValue) (a b c : Option (List ℕ))
    → Writes (IsEarlyOf f xs) a b → Writes (IsEarlyOf f ys) b c
    → Writes (IsEarlyOf f (xs ++ ys)) a c
early_trans f xs ys a b c p q = record {
  text = p.text ++ q.text;
  kind = early_append f xs ys p.text q.text p.kind q.kind;
  appended = Appends-trans a b c p.text q.text p.appended q.appended;
}

-- nothing is written for no line
blank_early : (f : Form) → IsEarlyOf f [] []
blank_early Text = refl
blank_early Svg = refl
blank_early Html = refl

pub early_none : (f : Form) (a : Option (List ℕ)) → Writes (IsEarlyOf f []) a a
early_none f a = record {
  text = [];
  kind = blank_early f;
  appended = Appends-nil a;
}

-- nothing is written for a line that is kept for a picture
pub kept_early : {X E : Type 0} (r : Result X E) (a : Option (List ℕ))
    → OnOk r (Writes (λ text. text ≡ []) a a)
kept_early (Ok done) a = record {
  text = [];
  kind = refl;
  appended = Appends-nil a;
}
kept_early (Err error) a = tt
