-- `of_terminals` enters the addresses of all terminals, or refuses the first that came before.
use Rattle.std.proofs.Common.{◌≡◌, ◌≢◌, ◌++◌, ◌∷◌, List, [], ℕ, ◌+◌, ◌<◌, ◌≤◌, length, take, drop}
use Rattle.std.proofs.Common.{get_or, refl, sym, ◌∙◌, ap, subst, arith, append_assoc}
use Rattle.std.proofs.Common.{take_all}
use Rattle.std.proofs.lemmas.List.{length-take-le, take-append-drop, append-nil}
use Rattle.std.proofs.lemmas.Option.{slice_get_read}
use Rattle.std.proofs.lemmas.Result.{err_from_is_err_and}
use Rattle.std.specs.List.{AllPairs}
use Rattle.std.specs.Map.{keys_of}
use Rattle.bsc_bid.specs.Terminal.{TerminalValue, own_addresses}
use Rattle.bsc_bid.specs.declared.refusal.SetupError.{SetupError}
use Rattle.bsc_bid.specs.Addresses.{addresses, owned, numbered}
use Rattle.bsc_bid.specs.Refusals.{RefusesAddresses}
use Rattle.bsc_bid.proofs.Owners.{Owner, numbered_push, keys_numbered}
use Rattle.bsc_bid.proofs.Fronts.{take_with}
use Rattle.bsc_bid.proofs.Repeats.{refuses_more, refuses_earlier, all_differ}
use Rattle.bsc_bid.proofs.directory.Directory.of_terminals.Goals as goal

-- one more terminal was entered
entered_terminal : (ts : List TerminalValue) (n : ℕ) (x : TerminalValue) → n < length ts → x
    ≡ get_or ts n x → numbered 0 (take n ts) ++ owned n x ≡ numbered 0 (take (n + 1) ts)
entered_terminal ts n x within is =
    let upto : n ≤ length ts = omega arith in
    let place : 0 + length (take n ts) ≡ n = omega (arith, length-take-le n ts upto) in
    let more : take (n + 1) ts ≡ take n ts ++ x ∷ [] =
    take_with ts n x (slice_get_read ts (length ts) n x refl within is) in
    ap (λ k. numbered 0 (take n ts) ++ owned k x) (sym place) ∙ sym (numbered_push 0 (take n ts) x)
    ∙ ap (numbered 0) (sym more)

addresses_append : (xs ys : List TerminalValue) → addresses (xs ++ ys) ≡ addresses xs
    ++ addresses ys
addresses_append [] ys = refl
addresses_append (x ∷ xs) ys = ap (λ zs. own_addresses x ++ zs) (addresses_append xs ys)
    ∙ sym (append_assoc (own_addresses x) (addresses xs) (addresses ys))

-- a refusal at a terminal is one of all addresses
refuses_terminal : (ts : List TerminalValue) (n : ℕ) (x : TerminalValue) (e : SetupError) → n
    < length ts → x ≡ get_or ts n x
    → RefusesAddresses (keys_of (numbered 0 (take n ts))) (own_addresses x) e
    → RefusesAddresses [] (addresses ts) e
refuses_terminal ts n x e within is h =
    let early : RefusesAddresses [] (addresses (take n ts) ++ own_addresses x) e =
    refuses_earlier [] (addresses (take n ts)) (own_addresses x) e
    (subst (λ ks. RefusesAddresses ks (own_addresses x) e) (keys_numbered 0 (take n ts)) h) in
    let more : take (n + 1) ts ≡ take n ts ++ x ∷ [] =
    take_with ts n x (slice_get_read ts (length ts) n x refl within is) in
    let one : addresses (x ∷ []) ≡ own_addresses x = append-nil (own_addresses x) in
    let upto : addresses (take n ts) ++ own_addresses x ≡ addresses (take (n + 1) ts) =
    ap (λ zs. addresses (take n ts) ++ zs) (sym one) ∙ sym (addresses_append (take n ts) (x ∷ []))
    ∙ ap addresses (sym more) in
    let whole : addresses (take (n + 1) ts) ++ addresses (drop (n + 1) ts) ≡ addresses ts =
    sym (addresses_append (take (n + 1) ts) (drop (n + 1) ts))
    ∙ ap addresses (take-append-drop (n + 1) ts) in
    subst (λ ys. RefusesAddresses [] ys e) whole
    (refuses_more [] (addresses (take (n + 1) ts)) (addresses (drop (n + 1) ts)) e
    (subst (λ ys. RefusesAddresses [] ys e) upto early))

pub returns-in_err-enter_all-clause-refused : goal.returns-in_err-enter_all-clause-refused
returns-in_err-enter_all-clause-refused g c =
    let p = err_from_is_err_and c.from_residual.result c.from_residual.ensures.1 in
    rw (p.1, p.2)
    (refuses_terminal c.args.terminals.now c.loop-number.number c.index-terminals-number.result
    c.in_err-enter_all.field-0.0 c.loop-number-test.true c.index-terminals-number.is
    (subst (λ (es : List Owner). RefusesAddresses (keys_of es)
    (own_addresses c.index-terminals-number.result) c.in_err-enter_all.field-0.0)
    c.loop-number.invariant c.in_err-enter_all.ensures.refused))

pub loop-number-preserved : goal.loop-number-preserved
loop-number-preserved g c =
    c.in_ok-enter_all.ensures.entries ∙ ap (λ (es : List Owner). es
    ++ owned c.loop-number.number c.index-terminals-number.result) c.loop-number.invariant
    ∙ entered_terminal c.args.terminals.now c.loop-number.number c.index-terminals-number.result
    c.loop-number-test.true c.index-terminals-number.is

pub returns-clause-distinct : goal.returns-clause-distinct
returns-clause-distinct g c =
    let all : take c.loop-number.number c.args.terminals.now ≡ c.args.terminals.now =
    take_all c.loop-number.number c.args.terminals.now c.loop-number-test.false in
    let keys : keys_of c.directory-2.inside.owners.entries ≡ addresses c.args.terminals.now =
    ap keys_of (c.directory-2.view_is ∙ c.loop-number.invariant ∙ ap (numbered 0) all)
    ∙ keys_numbered 0 c.args.terminals.now in
    subst (AllPairs (λ a b. a ≢ b)) keys
    (all_differ (keys_of c.directory-2.inside.owners.entries) c.directory-2.invariant)
