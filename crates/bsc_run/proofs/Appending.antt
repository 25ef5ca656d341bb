-- Texts that are written one after another.
use Rattle.std.proofs.Common.{ℕ, List, ◌++◌, ◌∙◌, Option, Result, ap, subst, sym}
use Rattle.std.proofs.Common.{append_assoc}
use Rattle.std.specs.Prelude.{OnOk, OnErr}
use Rattle.std.specs.Io.KnownBytes.{Appends}
use Rattle.std.proofs.KnownBytes.{Appends-trans}
use Rattle.std.proofs.lemmas.Result.{on_ok_weaker}
use Rattle.bsc_text.specs.Fronts.{AppendsFront, Extends}
use Rattle.bsc_text.proofs.Fronts.{extends_by, extends_trans}

-- two texts, if the second was written
pub two_on_ok : {T E : Type 0} (a b c : Option (List ℕ)) (x y : List ℕ) (r : Result T E)
    → Appends a b x
    → OnOk r (Appends b c y) → OnOk r (Appends a c (x ++ y))
two_on_ok a b c x y r p q = on_ok_weaker r (Appends-trans a b c x y p) q

-- four texts, if the last was written
pub four_on_ok : {T E : Type 0} (a b c d e : Option (List ℕ)) (w x y z : List ℕ) (r : Result T E)
    → Appends a b w
    → Appends b c x → Appends c d y → OnOk r (Appends d e z)
    → OnOk r (Appends a e (w ++ x ++ y ++ z))
four_on_ok a b c d e w x y z r p q s t =
    on_ok_weaker r (Appends-trans a d e (w ++ x ++ y) z
    (Appends-trans a c d (w ++ x) y (Appends-trans a b c w x p q) s)) t

-- one more text was written, all of it or a front of it
pub extends_more : {T E : Type 0} (a b c : Option (List ℕ)) (x : List ℕ) (r : Result T E)
    → Extends a b → OnOk r (Appends b c x) → OnErr r (AppendsFront b c x) → Extends a c
extends_more a b c x r h p q = extends_trans a b c h (extends_by b c x r p q)

-- a text, three that were written together, and three more, if one after them was written
pub eight_on_ok : {T E : Type 0} (a b c d e f h : Option (List ℕ)) (n x y z p q r s : List ℕ)
    (answer : Result T E) → Appends a b n → Appends b c (x ++ y ++ z) → Appends c d p
    → Appends d e q → Appends e f r → OnOk answer (Appends f h s)
    → OnOk answer (Appends a h (n ++ x ++ y ++ z ++ p ++ q ++ r ++ s))
eight_on_ok a b c d e f h n x y z p q r s answer first three fifth sixth seventh last =
    let same = ap (λ l. l ++ z) (append_assoc n x y) ∙ append_assoc n (x ++ y) z in
    let four = subst (Appends a c) (sym same) (Appends-trans a b c n (x ++ y ++ z) first three) in
    let five = Appends-trans a c d (n ++ x ++ y ++ z) p four fifth in
    let six = Appends-trans a d e (n ++ x ++ y ++ z ++ p) q five sixth in
    let seven = Appends-trans a e f (n ++ x ++ y ++ z ++ p ++ q) r six seventh in
    two_on_ok a f h (n ++ x ++ y ++ z ++ p ++ q ++ r) s answer seven last
