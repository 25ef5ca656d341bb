-- `enter_all` appends the addresses of the terminal, or refuses the first that came before.
use Rattle.std.proofs.Common.{◌≡◌, ◌++◌, ◌∷◌, List, [], ℕ, ◌+◌, ◌<◌, ◌≤◌, length, take, drop}
use Rattle.std.proofs.Common.{Some, sym, ◌∙◌, ap, subst, arith, append_assoc}
use Rattle.std.proofs.lemmas.List.{map-append, length-take-le, take-append-drop}
use Rattle.std.proofs.lemmas.Result.{err_from_is_err_and}
use Rattle.std.proofs.lemmas.Option.{slice_get_within}
use Rattle.std.specs.List.{slice_get}
use Rattle.std.specs.Map.{keys_of}
use Rattle.bsc_bid.specs.Terminal.{TerminalValue, own_addresses}
use Rattle.bsc_bid.specs.declared.refusal.SetupError.{SetupError}
use Rattle.bsc_bid.specs.declared.way.Way.TheVariants.{FromTerminal, ToTerminal}
use Rattle.bsc_bid.specs.Addresses.{numbered_selects}
use Rattle.bsc_bid.specs.Refusals.{RefusesAddresses}
use Rattle.bsc_bid.proofs.Owners.{Owner, selects_push, keys_selection_call_step}
use Rattle.bsc_bid.proofs.Fronts.{take_with}
use Rattle.bsc_bid.proofs.Repeats.{refuses_more, refuses_earlier}
use Rattle.bsc_bid.proofs.directory.Directory.enter_all.Goals as goal

-- one more selection address was entered
entered_address : (t : ℕ) (poll : List ℕ) (xs : List (List ℕ)) (s : ℕ) (x : List ℕ)
    (old : List Owner) → slice_get xs s ≡ Some x
    → (old ++ (poll, (t, FromTerminal)) ∷ numbered_selects t 0 (take s xs))
    ++ (x, (t, ToTerminal s)) ∷ [] ≡ old ++ (poll, (t, FromTerminal))
    ∷ numbered_selects t 0 (take (s + 1) xs)
entered_address t poll xs s x old h =
    let within : s < length xs = slice_get_within xs s x h in
    let upto : s ≤ length xs = omega arith in
    let place : 0 + length (take s xs) ≡ s = omega (arith, length-take-le s xs upto) in
    let front : List Owner = (poll, (t, FromTerminal)) ∷ numbered_selects t 0 (take s xs) in
    let entries : front ++ (x, (t, ToTerminal s)) ∷ [] ≡ (poll, (t, FromTerminal))
    ∷ numbered_selects t 0 (take (s + 1) xs) =
    ap (λ zs. (poll, (t, FromTerminal)) ∷ zs)
    (ap (λ n. numbered_selects t 0 (take s xs) ++ (x, (t, ToTerminal n)) ∷ []) (sym place)
    ∙ sym (selects_push t 0 (take s xs) x)
    ∙ ap (numbered_selects t 0) (sym (take_with xs s x h))) in
    append_assoc old front ((x, (t, ToTerminal s)) ∷ []) ∙ ap (λ zs. old ++ zs) entries

-- a refusal at a selection address is one of the terminal's addresses
refuses_select : (t : ℕ) (terminal : TerminalValue) (s : ℕ) (x : List ℕ) (old now : List Owner)
    (e : SetupError) → slice_get terminal.selects s ≡ Some x
    → now ≡ old ++ (terminal.poll, (t, FromTerminal))
    ∷ numbered_selects t 0 (take s terminal.selects) → RefusesAddresses (keys_of now) (x ∷ []) e
    → RefusesAddresses (keys_of old) (own_addresses terminal) e
refuses_select t terminal s x old now e there is h =
    let xs : List (List ℕ) = terminal.selects in
    let keys : keys_of now ≡ keys_of old ++ terminal.poll ∷ take s xs =
    ap keys_of is ∙ map-append (λ (z : Owner). z.0) old
    ((terminal.poll, (t, FromTerminal)) ∷ numbered_selects t 0 (take s xs))
    ∙ ap (λ ys. keys_of old ++ terminal.poll ∷ ys) (keys_selection_call_step t 0 (take s xs)) in
    let early : RefusesAddresses (keys_of old) ((terminal.poll ∷ take s xs) ++ x ∷ []) e =
    refuses_earlier (keys_of old) (terminal.poll ∷ take s xs) (x ∷ []) e
    (subst (λ ks. RefusesAddresses ks (x ∷ []) e) keys h) in
    let upto : terminal.poll ∷ (take s xs ++ x ∷ []) ≡ terminal.poll ∷ take (s + 1) xs =
    ap (λ ys. terminal.poll ∷ ys) (sym (take_with xs s x there)) in
    let whole : (terminal.poll ∷ take (s + 1) xs) ++ drop (s + 1) xs ≡ own_addresses terminal =
    ap (λ ys. terminal.poll ∷ ys) (take-append-drop (s + 1) xs) in
    subst (λ ys. RefusesAddresses (keys_of old) ys e) whole
    (refuses_more (keys_of old) (terminal.poll ∷ take (s + 1) xs) (drop (s + 1) xs) e
    (subst (λ ys. RefusesAddresses (keys_of old) ys e) upto early))

pub returns-in_err-enter-clause-refused : goal.returns-in_err-enter-clause-refused
returns-in_err-enter-clause-refused g c =
    let p = err_from_is_err_and c.from_residual.result c.from_residual.ensures.1 in
    rw (p.1, p.2)
    (refuses_more (keys_of c.args.self.now) (c.args.terminal.now.poll ∷ [])
    c.args.terminal.now.selects c.in_err-enter.field-0.0
    (subst (λ a. RefusesAddresses (keys_of c.args.self.now) (a ∷ []) c.in_err-enter.field-0.0)
    c.poll.ensures c.in_err-enter.ensures.refused))

pub returns-in_err-enter-2-clause-refused : goal.returns-in_err-enter-2-clause-refused
returns-in_err-enter-2-clause-refused g c =
    let p =
    err_from_is_err_and c.from_residual-in_err-enter-2.result
    c.from_residual-in_err-enter-2.ensures.1 in
    rw (p.1, p.2)
    (refuses_select c.args.number c.args.terminal.now c.loop-select.select c.select.result
    c.args.self.now c.loop-select.self c.in_err-enter-2.field-0.0 c.select.ensures
    c.loop-select.invariant
    c.in_err-enter-2.ensures.refused)

pub loop-select-preserved : goal.loop-select-preserved
loop-select-preserved g c =
    c.in_ok-enter-2.ensures.entries ∙ ap (λ (es : List Owner). es
    ++ (c.select.result, (c.args.number, ToTerminal c.loop-select.select)) ∷ [])
    c.loop-select.invariant
    ∙ entered_address c.args.number c.args.terminal.now.poll c.args.terminal.now.selects
    c.loop-select.select c.select.result c.args.self.now c.select.ensures
