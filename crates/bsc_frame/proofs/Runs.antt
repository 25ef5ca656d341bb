-- The octets at the front that pass a test, counted one by one or 32 at a time.
use Rattle.std.proofs.Common.{◌≡◌, ℕ, zero, suc, ◌+◌, ◌-◌, ◌<◌, ◌≤◌, Bool, true, false, cond, List}
use Rattle.std.proofs.Common.{[], ◌∷◌}
use Rattle.std.proofs.Common.{length, take, drop, get_or, add-one, drop-cons, drop-drop}
use Rattle.std.proofs.Common.{length-drop}
use Rattle.std.proofs.Common.{length-take, take-add, append-nil, append_assoc, ◌++◌, ◌||◌, ◌==◌}
use Rattle.std.proofs.Common.{refl, sym}
use Rattle.std.proofs.Common.{ap, ◌∙◌, arith}
use Rattle.std.specs.List.{prefix_len}
use Rattle.std.proofs.lemmas.List.{drop_all}
use Rattle.std.proofs.lemmas.Bool.{eqb-true}
use Rattle.bsc_frame.specs.Reading.{skip, is_either, is_octet, trimmed}
use Rattle.bsc_octet.specs.Octet.{is_pad_octet}
use Rattle.bsc_frame.proofs.ReadingSteps.{rest_is, trimmed_push_pad}
use Rattle.bsc_frame.specs.declared.front.TheConstants.{LANES}
use Rattle.bsc_octet.specs.declared.controls.TheConstants.{PAD}

-- the loop invariant: `at` octets were counted, and all of them pass
pub record CountedTo (p : ℕ → Bool) (at : ℕ) (s : List ℕ) : Type 0 where
  pub within : at ≤ length s
  pub rest : at + prefix_len p (drop at s) ≡ prefix_len p s

-- one octet more passes
pub run_more : (p : ℕ → Bool) (at : ℕ) (s : List ℕ) → CountedTo p at s → at < length s
    → p (get_or s at 0) ≡ true → CountedTo p (at + 1) s
run_more p at s c l h =
    let step : prefix_len p (drop at s) ≡ 1 + prefix_len p (drop (at + 1) s) =
    rw (add-one at, drop-cons s at 0 l, h) refl in
    record { within = omega arith; rest = omega (arith, c.rest) }

-- the first octet that does not pass ends the front
pub run_stop : (p : ℕ → Bool) (at : ℕ) (s : List ℕ) → CountedTo p at s → at < length s
    → p (get_or s at 0) ≡ false → at ≡ prefix_len p s
run_stop p at s c l h =
    let step : prefix_len p (drop at s) ≡ 0 = rw (drop-cons s at 0 l, h) refl in
    omega (arith, c.rest)

-- all octets pass
pub run_end : (p : ℕ → Bool) (at : ℕ) (s : List ℕ) → CountedTo p at s → length s ≤ at
    → length s ≡ prefix_len p s
run_end p at s c l =
    let step : prefix_len p (drop at s) ≡ 0 = rw (drop_all at s l) refl in
    omega (arith, c.rest, c.within)

-- the first octet does not pass
pub run_none : (p : ℕ → Bool) (s : List ℕ) → p (get_or s 0 0) ≡ false → 0 ≡ prefix_len p s
run_none p [] h = refl
run_none p (x ∷ s) h = rw h refl

-- ---- many at a time

-- the front that passes, from that of the first n octets: it is the same if it stops there,
-- otherwise it goes on
record Cuts (p : ℕ → Bool) (n : ℕ) (s : List ℕ) : Type 0 where
  stops : prefix_len p (take n s) < n → prefix_len p s ≡ prefix_len p (take n s)
  goes_on : n ≤ prefix_len p (take n s) → prefix_len p s ≡ n + prefix_len p (drop n s)

-- one octet more at the front
cuts_head : (p : ℕ → Bool) (n x : ℕ) (s : List ℕ) (b : Bool) → p x ≡ b → Cuts p n s
    → Cuts p (suc n) (x ∷ s)
cuts_head p n x s true e c = record {
  stops = rw e (λ l. ap (λ k. 1 + k) (c.stops (omega arith)));
  goes_on = rw e (λ l. let k = c.goes_on (omega arith) in omega (arith, k));
}
cuts_head p n x s false e c =
    record { stops = rw e (λ l. refl); goes_on = rw e (λ l. absurd (omega arith)) }

-- this holds of every list
cuts_of_every_list : (p : ℕ → Bool) (n : ℕ) (s : List ℕ) → n ≤ length s → Cuts p n s
cuts_of_every_list p zero s l = record { stops = λ h. absurd (omega arith); goes_on = λ h. omega arith }
cuts_of_every_list p (suc n) [] l = absurd (omega arith)
cuts_of_every_list p (suc n) (x ∷ s) l = cuts_head p n x s (p x) refl (cuts_of_every_list p n s (omega arith))

-- a lane that does not pass ends the front
pub run_stops : (p : ℕ → Bool) (at run : ℕ) (s : List ℕ) → CountedTo p at s → LANES ≤ length s - at
    → run ≡ prefix_len p (take LANES (drop at s)) → run < LANES → at + run ≡ prefix_len p s
run_stops p at run s c l e h =
    let k = (cuts_of_every_list p LANES (drop at s) (omega (arith, length-drop at s))).stops (omega arith) in
    omega (arith, c.rest, k)

-- all lanes pass
pub run_goes_on : (p : ℕ → Bool) (at run : ℕ) (s : List ℕ) → CountedTo p at s
    → LANES ≤ length s - at → run ≡ prefix_len p (take LANES (drop at s)) → LANES ≤ run
    → CountedTo p (at + LANES) s
run_goes_on p at run s c l e h =
    let k = (cuts_of_every_list p LANES (drop at s) (omega (arith, length-drop at s))).goes_on (omega arith) in
    let further : prefix_len p (drop LANES (drop at s)) ≡ prefix_len p (drop (at + LANES) s) =
    ap (prefix_len p) (drop-drop LANES at s) in
    record { within = omega arith; rest = omega (arith, c.rest, k, further) }

-- what is counted after the last whole lanes is added
pub run_rest : (p : ℕ → Bool) (at run : ℕ) (s : List ℕ) → CountedTo p at s
    → run ≡ prefix_len p (take (length s - at) (drop at s)) → at + run ≡ prefix_len p s
run_rest p at run s c e =
    let k : run ≡ prefix_len p (drop at s) = e ∙ ap (prefix_len p) (rest_is s at) in
    omega (arith, c.rest, k)

-- ---- what is skipped

-- one octet more at the front
skip_head : (test : ℕ → Bool) (x : ℕ) (s : List ℕ) (b : Bool) → test x ≡ b
    → skip test s ≡ drop (prefix_len test s) s → skip test (x ∷ s)
    ≡ drop (prefix_len test (x ∷ s)) (x ∷ s)
unfolding skip
skip_head test x s true e h = let one : 1 + prefix_len test s ≡ suc (prefix_len test s) =
    omega arith in rw (e, one) h
skip_head test x s false e h = rw e refl

-- what is skipped is the front that passes
skip_drop : (test : ℕ → Bool) (s : List ℕ) → skip test s ≡ drop (prefix_len test s) s
unfolding skip
skip_drop test [] = refl
skip_drop test (x ∷ s) = skip_head test x s (test x) refl (skip_drop test s)

-- tests that agree skip the same
skip_same : (p q : ℕ → Bool) → ((x : ℕ) → p x ≡ q x) → (s : List ℕ) → skip p s ≡ skip q s
unfolding skip
skip_same p q e [] = refl
skip_same p q e (x ∷ s) = rw (e x, skip_same p q e s) refl

-- a test or itself is that test
or_with_itself : (b : Bool) → (b || b) ≡ b
or_with_itself true = refl
or_with_itself false = refl

-- the octets after a front of leading pads
pub skip_pads : (s : List ℕ) (n : ℕ) → n ≡ prefix_len (is_either 0x55 0xaa) s
    → take (length s - n) (drop n s) ≡ skip is_pad_octet s
skip_pads s n e = rest_is s n ∙ ap (λ k. drop k s) e ∙ sym (skip_drop (is_either 0x55 0xaa) s)

-- the octets after a front of this octet
pub skip_all : (s : List ℕ) (n octet : ℕ) → n ≡ prefix_len (is_either octet octet) s
    → take (length s - n) (drop n s) ≡ skip (is_octet octet) s
skip_all s n octet e =
    rest_is s n ∙ ap (λ k. drop k s) e ∙ sym (skip_drop (is_either octet octet) s)
    ∙ skip_same (is_either octet octet) (is_octet octet) (λ x. or_with_itself (x == octet)) s

-- ---- what is trimmed

-- one PAD more at the end changes nothing, and so for all of them
pad_head : (front : List ℕ) (x : ℕ) (pads : List ℕ) (b : Bool) → (x == PAD) ≡ b
    → (length pads ≤ prefix_len (is_either PAD PAD) pads → trimmed ((front ++ x ∷ []) ++ pads)
    ≡ trimmed (front ++ x ∷ []))
    → suc (length pads) ≤ cond (b || b) (1 + prefix_len (is_either PAD PAD) pads) 0
    → trimmed (front ++ x ∷ pads) ≡ trimmed front
pad_head front x pads true e h l =
    let pad : x ≡ PAD = eqb-true x PAD e in
    ap trimmed (sym (append_assoc front (x ∷ []) pads)) ∙ h (omega arith)
    ∙ ap (λ z. trimmed (front ++ z ∷ [])) pad ∙ trimmed_push_pad front
pad_head front x pads false e h l = absurd (omega arith)

-- PAD at the end changes nothing
trimmed_pads : (front pads : List ℕ) → length pads ≤ prefix_len (is_either PAD PAD) pads
    → trimmed (front ++ pads) ≡ trimmed front
trimmed_pads front [] l = ap trimmed (append-nil front)
trimmed_pads front (x ∷ pads) l =
    pad_head front x pads (x == PAD) refl (trimmed_pads (front ++ x ∷ []) pads) l

-- lanes of PAD at the end change nothing
pub trim_more : (s : List ℕ) (end run : ℕ) → trimmed (take end s) ≡ trimmed s → end ≤ length s
    → LANES ≤ end
    → run ≡ prefix_len (is_either PAD PAD) (take LANES (drop (end - LANES) s)) → LANES ≤ run
    → trimmed (take (end - LANES) s) ≡ trimmed s
trim_more s end run same within l e all =
    let back : (end - LANES) + LANES ≡ end = omega arith in
    let parts : take end s ≡ take (end - LANES) s ++ take LANES (drop (end - LANES) s) =
    ap (λ k. take k s) (sym back) ∙ take-add (end - LANES) LANES s in
    let long : length (take LANES (drop (end - LANES) s)) ≤ LANES =
    omega (arith, length-take LANES (drop (end - LANES) s)) in
    sym (trimmed_pads (take (end - LANES) s) (take LANES (drop (end - LANES) s)) (omega arith))
    ∙ ap trimmed (sym parts) ∙ same
