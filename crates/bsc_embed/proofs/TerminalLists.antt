-- The terminals of a list, read one after the other.
use Rattle.std.proofs.Common.{◌≡◌, ℕ, ◌<◌, ◌≤◌, ◌+◌, zero, suc, refl, arith, List, [], ◌∷◌, ◌++◌}
use Rattle.std.proofs.Common.{length, take, get_or, Ok, Err}
use Rattle.std.specs.Prelude.{Result}
use Rattle.std.proofs.lemmas.List.{take_more, take_all}
use Rattle.bsc_bid.specs.Terminal.{TerminalValue}
use Rattle.bsc_embed.specs.Addresses.{terminal_in, terminals_in, before_terminal}
use Rattle.bsc_embed.specs.declared.interface.addresses.StoredAddresses.{StoredAddresses}
use Rattle.bsc_embed.specs.declared.interface.fault.Fault.{Fault}

push_step : (o : Result TerminalValue Fault) (r q : Result (List TerminalValue) Fault)
    (rest : List TerminalValue) (t : TerminalValue)
    → before_terminal o r ≡ Ok rest
    → ((more : List TerminalValue) → r ≡ Ok more → q ≡ Ok (more ++ t ∷ []))
    → before_terminal o q ≡ Ok (rest ++ t ∷ [])
push_step (Err f) r q rest t e k = cc
push_step (Ok u) (Err f) q rest t e k = cc
push_step (Ok u) (Ok more) q rest t e k =
    let j : rest ≡ u ∷ more = cc in
    rw (k more refl, j) refl

terminals_push : (ss : List StoredAddresses) (rest : List TerminalValue) (s : StoredAddresses)
    (t : TerminalValue) → terminals_in ss ≡ Ok rest → terminal_in s ≡ Ok t
    → terminals_in (ss ++ s ∷ []) ≡ Ok (rest ++ t ∷ [])
terminals_push [] rest s t read one =
    let k : rest ≡ [] = cc in
    rw (one, k) refl
terminals_push (u ∷ ss) rest s t read one =
    push_step (terminal_in u) (terminals_in ss) (terminals_in (ss ++ s ∷ [])) rest t read
    (λ more e. terminals_push ss more s t e one)

-- One more terminal is read.
pub terminal_taken : (ss : List StoredAddresses) (rest : List TerminalValue) (i : ℕ)
    (d : StoredAddresses) (t : TerminalValue) → i < length ss
    → terminals_in (take i ss) ≡ Ok rest → terminal_in (get_or ss i d) ≡ Ok t
    → terminals_in (take (i + 1) ss) ≡ Ok (rest ++ t ∷ [])
terminal_taken ss rest i d t l read one =
    rw (take_more ss i d l) (terminals_push (take i ss) rest (get_or ss i d) t read one)

stop_step : (o : Result TerminalValue Fault) (r q : Result (List TerminalValue) Fault)
    (rest : List TerminalValue) (f : Fault) → before_terminal o r ≡ Ok rest
    → ((more : List TerminalValue) → r ≡ Ok more → q ≡ Err f)
    → before_terminal o q ≡ Err f
stop_step (Err g) r q rest f e k = cc
stop_step (Ok u) (Err g) q rest f e k = cc
stop_step (Ok u) (Ok more) q rest f e k = rw (k more refl) refl

stop_here : (o : Result TerminalValue Fault) (r : Result (List TerminalValue) Fault) (f : Fault)
    → o ≡ Err f → before_terminal o r ≡ Err f
stop_here (Err g) r f e = cc
stop_here (Ok u) r f e = cc

-- The first that is no terminal gives the fault.
pub terminal_refused : (ss : List StoredAddresses) (rest : List TerminalValue) (i : ℕ)
    (d : StoredAddresses) (f : Fault) → i < length ss
    → terminals_in (take i ss) ≡ Ok rest → terminal_in (get_or ss i d) ≡ Err f
    → terminals_in ss ≡ Err f
terminal_refused [] rest i d f l read one = absurd (omega arith)
terminal_refused (s ∷ ss) rest zero d f l read one = stop_here (terminal_in s) (terminals_in ss) f one
terminal_refused (s ∷ ss) rest (suc i) d f l read one =
    stop_step (terminal_in s) (terminals_in (take i ss)) (terminals_in ss) rest f read
    (λ more e. terminal_refused ss more i d f (omega arith) e one)
