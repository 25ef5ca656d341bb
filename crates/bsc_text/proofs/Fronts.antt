-- Texts that are written one after another, up to a failure.
use Rattle.std.proofs.Common.{◌≡◌, ℕ, List, [], ◌++◌, Option, Result, Ok, Err, refl, sym, ap, subst, ◌∙◌}
use Rattle.std.proofs.Common.{append_assoc, append-nil}
use Rattle.std.specs.Prelude.{OnOk, OnErr}
use Rattle.std.specs.Io.KnownBytes.{Appends}
use Rattle.std.proofs.KnownBytes.{Appends-nil, Appends-trans}
use Rattle.std.proofs.lemmas.Result.{on_err_weaker}
use Rattle.bsc_text.specs.Fronts.{AppendsFront, Extends}

pub front_none : (a : Option (List ℕ)) (x : List ℕ) → AppendsFront a a x
front_none a x = record { front = []; rest = x; whole = refl; appended = Appends-nil a }

pub front_all : (a b : Option (List ℕ)) (x : List ℕ) → Appends a b x → AppendsFront a b x
front_all a b x p = record { front = x; rest = []; whole = sym (append-nil x); appended = p }

-- the failure was within the first of two texts
pub front_within : (a b : Option (List ℕ)) (x y : List ℕ) → AppendsFront a b x
    → AppendsFront a b (x ++ y)
front_within a b x y p = record {
  front = p.front;
  rest = p.rest ++ y;
  whole = ap (λ l. l ++ y) p.whole ∙ append_assoc p.front p.rest y;
  appended = p.appended;
}

-- the first of two texts was written, and the failure was within the second
pub front_after : (a b c : Option (List ℕ)) (x y : List ℕ) → Appends a b x → AppendsFront b c y
    → AppendsFront a c (x ++ y)
front_after a b c x y p q = record {
  front = x ++ q.front;
  rest = q.rest;
  whole = ap (λ l. x ++ l) q.whole ∙ sym (append_assoc x q.front q.rest);
  appended = Appends-trans a b c x q.front p q.appended;
}

-- the same, if the second failed
pub front_after_on_err : {T E : Type 0} (a b c : Option (List ℕ)) (x y : List ℕ) (r : Result T E)
    → Appends a b x → OnErr r (AppendsFront b c y) → OnErr r (AppendsFront a c (x ++ y))
front_after_on_err a b c x y r p q = on_err_weaker r (front_after a b c x y p) q

-- an error says it, whichever it is
pub for_err : {T E P : Type 0} (r : Result T E) → P → OnErr r P
for_err (Ok x) p = tt
for_err (Err e) p = p

-- the first of two texts failed
pub front_within_err : {T E : Type 0} (a b : Option (List ℕ)) (x y : List ℕ) (r : Result T E)
    → AppendsFront a b x → OnErr r (AppendsFront a b (x ++ y))
front_within_err a b x y r p = for_err r (front_within a b x y p)

-- the second of three texts is written with the third
pub front_joined : {T E : Type 0} (a b : Option (List ℕ)) (x y z : List ℕ) (r : Result T E)
    → OnErr r (AppendsFront a b (x ++ (y ++ z))) → OnErr r (AppendsFront a b (x ++ y ++ z))
front_joined a b x y z r p = on_err_weaker r (subst (AppendsFront a b) (sym (append_assoc x y z))) p

pub extends_same : (a : Option (List ℕ)) → Extends a a
extends_same a = record { text = []; appended = Appends-nil a }

pub extends_all : (a b : Option (List ℕ)) (x : List ℕ) → Appends a b x → Extends a b
extends_all a b x p = record { text = x; appended = p }

pub extends_front : (a b : Option (List ℕ)) (x : List ℕ) → AppendsFront a b x → Extends a b
extends_front a b x p = record { text = p.front; appended = p.appended }

pub extends_trans : (a b c : Option (List ℕ)) → Extends a b → Extends b c → Extends a c
extends_trans a b c p q = record {
  text = p.text ++ q.text;
  appended = Appends-trans a b c p.text q.text p.appended q.appended;
}

-- what was written before stays, whether writing failed or not
pub extends_by : {T E : Type 0} (a b : Option (List ℕ)) (x : List ℕ) (r : Result T E)
    → OnOk r (Appends a b x) → OnErr r (AppendsFront a b x) → Extends a b
extends_by a b x (Ok done) p q = extends_all a b x p
extends_by a b x (Err e) p q = extends_front a b x q
