-- The terminal and way that each numbered address belongs to.
use Rattle.std.proofs.Common.{◌≡◌, ◌⊎◌, inl, inr, ◌↔◌, ℕ, zero, suc, ◌+◌, List, [], ◌∷◌, ◌++◌}
use Rattle.std.proofs.Common.{length, Some, refl, sym, ◌∙◌, ap, subst, arith, append_assoc}
use Rattle.std.proofs.lemmas.List.Elements.{Contains-append_left, Contains-append_right}
use Rattle.std.proofs.lemmas.List.Elements.{Contains-append_cases}
use Rattle.std.proofs.lemmas.List.{map-append, append-nil}
use Rattle.std.specs.List.{Contains, slice_get}
use Rattle.std.specs.Map.{keys_of}
use Rattle.bsc_bid.specs.Terminal.{TerminalValue, own_addresses}
use Rattle.bsc_bid.specs.declared.way.Way.{Way}
use Rattle.bsc_bid.specs.declared.way.Way.TheVariants.{FromTerminal, ToTerminal}
use Rattle.bsc_bid.specs.Addresses.{addresses, address_for, IsAddressOf, numbered_selects}
use Rattle.bsc_bid.specs.Addresses.{owned, numbered}

-- an address with its terminal and way
abbrev pub Owner : Type 0
Owner = List ℕ × (ℕ × Way)

contains_head : (y : Owner) (ys : List Owner) → Contains (y ∷ ys) y
contains_head y ys = (0, omega arith, refl)

contains_one : (y z : Owner) → Contains (y ∷ []) z → z ≡ y
contains_one y z (zero, within, e) = sym e
contains_one y z (suc k, within, e) = absurd (omega (arith, within))

contains_cases : (y : Owner) (ys : List Owner) (z : Owner) → Contains (y ∷ ys) z → (z ≡ y)
    ⊎ Contains ys z
contains_cases y ys z h =
    elim (Contains-append_cases (y ∷ []) ys z h)
    [ inl x ↦ inl (contains_one y z x) | inr x ↦ inr x ]

-- the way is to the selection address this many places after s
record IsSelectAt (t s : ℕ) (xs : List (List ℕ)) (z : Owner) : Type 0 where
  place : ℕ
  terminal : z.1.0 ≡ t
  way : z.1.1 ≡ ToTerminal (s + place)
  address : slice_get xs place ≡ Some z.0

selects_from : (t s : ℕ) (xs : List (List ℕ)) (z : Owner) → Contains (numbered_selects t s xs) z
    → IsSelectAt t s xs z
selects_from t s [] z h = absurd (omega (arith, h.1))
selects_from t s (x ∷ xs) z h =
    elim (contains_cases (x, (t, ToTerminal s)) (numbered_selects t (s + 1) xs) z h) [
      | inl e ↦ record {
        place = 0;
        terminal = ap (λ (y : Owner). y.1.0) e;
        way =
            ap (λ (y : Owner). y.1.1) e ∙ ap ToTerminal (omega arith);
        address =
            ap (λ (y : Owner). Some y.0) (sym e);
      }
      | inr k ↦
          let i : IsSelectAt t (s + 1) xs z = selects_from t (s + 1) xs z k in
          let far : s + 1 + i.place ≡ s + suc i.place = omega arith in
          record {
            place = suc i.place;
            terminal = i.terminal;
            way = i.way ∙ ap ToTerminal far;
            address = i.address;
          }
    ]

selects_to : (t s : ℕ) (xs : List (List ℕ)) (i : ℕ) (a : List ℕ) → slice_get xs i ≡ Some a
    → Contains (numbered_selects t s xs) (a, (t, ToTerminal (s + i)))
selects_to t s [] i a h = absurd (cc)
selects_to t s (x ∷ xs) zero a h =
    let same : x ≡ a = cc in
    let place : s ≡ s + 0 = omega arith in
    subst (λ (b : List ℕ). Contains (numbered_selects t s (x ∷ xs)) (b, (t, ToTerminal (s + 0))))
    same
    (subst (λ (n : ℕ). Contains (numbered_selects t s (x ∷ xs)) (x, (t, ToTerminal n))) place
    (contains_head (x, (t, ToTerminal s)) (numbered_selects t (s + 1) xs)))
selects_to t s (x ∷ xs) (suc i) a h =
    let far : s + 1 + i ≡ s + suc i = omega arith in
    subst (λ (n : ℕ). Contains (numbered_selects t s (x ∷ xs)) (a, (t, ToTerminal n))) far
    (Contains-append_right ((x, (t, ToTerminal s)) ∷ []) (numbered_selects t (s + 1) xs)
    (a, (t, ToTerminal (s + 1 + i))) (selects_to t (s + 1) xs i a h))

-- the address is one of the terminal's own
record IsOwn (t : ℕ) (x : TerminalValue) (z : Owner) : Type 0 where
  terminal : z.1.0 ≡ t
  address : address_for x z.1.1 ≡ Some z.0

owned_from : (t : ℕ) (x : TerminalValue) (z : Owner) → Contains (owned t x) z → IsOwn t x z
owned_from t x z h =
    elim (contains_cases (x.poll, (t, FromTerminal)) (numbered_selects t 0 x.selects) z h) [
      | inl e ↦ record {
        terminal = ap (λ (y : Owner). y.1.0) e;
        address =
            ap (λ (y : Owner). address_for x y.1.1) e ∙ ap (λ (y : Owner). Some y.0) (sym e);
      }
      | inr k ↦
          let i : IsSelectAt t 0 x.selects z = selects_from t 0 x.selects z k in
          let place : 0 + i.place ≡ i.place = omega arith in
          record {
            terminal = i.terminal;
            address = ap (address_for x) i.way
                ∙ ap (λ (n : ℕ). slice_get x.selects n) place ∙ i.address;
          }
    ]

owned_to : (t : ℕ) (x : TerminalValue) (way : Way) (a : List ℕ) → address_for x way ≡ Some a
    → Contains (owned t x) (a, (t, way))
owned_to t x FromTerminal a h =
    let same : x.poll ≡ a = cc in
    subst (λ (b : List ℕ). Contains (owned t x) (b, (t, FromTerminal))) same
    (contains_head (x.poll, (t, FromTerminal)) (numbered_selects t 0 x.selects))
owned_to t x (ToTerminal s) a h =
    let place : 0 + s ≡ s = omega arith in
    subst (λ (n : ℕ). Contains (owned t x) (a, (t, ToTerminal n))) place
    (Contains-append_right ((x.poll, (t, FromTerminal)) ∷ []) (numbered_selects t 0 x.selects)
    (a, (t, ToTerminal (0 + s))) (selects_to t 0 x.selects s a h))

-- the terminal is this many places after t
record IsOwnerAt (t : ℕ) (xs : List TerminalValue) (z : Owner) : Type 0 where
  place : ℕ
  terminal : z.1.0 ≡ t + place
  own : IsAddressOf xs place z.1.1 z.0

numbered_from : (t : ℕ) (xs : List TerminalValue) (z : Owner) → Contains (numbered t xs) z
    → IsOwnerAt t xs z
numbered_from t [] z h = absurd (omega (arith, h.1))
numbered_from t (x ∷ xs) z h =
    elim (Contains-append_cases (owned t x) (numbered (t + 1) xs) z h) [
      | inl k ↦
          let o : IsOwn t x z = owned_from t x z k in
          record {
            place = 0;
            terminal = o.terminal ∙ omega arith;
            own =
                record { terminal = x; there = refl; its_own = o.address };
          }
      | inr k ↦
          let i : IsOwnerAt (t + 1) xs z = numbered_from (t + 1) xs z k in
          let far : t + 1 + i.place ≡ t + suc i.place = omega arith in
          record {
            place = suc i.place;
            terminal = i.terminal ∙ far;
            own =
                record { terminal = i.own.terminal; there = i.own.there; its_own = i.own.its_own };
          }
    ]

numbered_to : (t : ℕ) (xs : List TerminalValue) (k : ℕ) (way : Way) (a : List ℕ)
    → IsAddressOf xs k way a → Contains (numbered t xs) (a, (t + k, way))
numbered_to t [] k way a h = absurd (let e = h.there in cc)
numbered_to t (x ∷ xs) zero way a h =
    let same : x ≡ h.terminal = (let e = h.there in cc) in
    let place : t ≡ t + 0 = omega arith in
    let own : address_for x way ≡ Some a = ap (λ (y : TerminalValue). address_for y way) same
    ∙ h.its_own in
    subst (λ (n : ℕ). Contains (numbered t (x ∷ xs)) (a, (n, way))) place
    (Contains-append_left (owned t x) (numbered (t + 1) xs) (a, (t, way))
    (owned_to t x way a own))
numbered_to t (x ∷ xs) (suc k) way a h =
    let far : t + 1 + k ≡ t + suc k = omega arith in
    subst (λ (n : ℕ). Contains (numbered t (x ∷ xs)) (a, (n, way))) far
    (Contains-append_right (owned t x) (numbered (t + 1) xs) (a, (t + 1 + k, way))
    (numbered_to (t + 1) xs k way a (record {
      terminal = h.terminal;
      there = h.there;
      its_own =
          h.its_own;
    })))

-- an address is among the numbered ones exactly with the terminal and the way that it belongs to
pub owner_iff : (xs : List TerminalValue) (k : ℕ) (way : Way) (a : List ℕ)
    → Contains (numbered 0 xs) (a, (k, way)) ↔ IsAddressOf xs k way a
owner_iff xs k way a = (
  λ h.
      let i : IsOwnerAt 0 xs (a, (k, way)) = numbered_from 0 xs (a, (k, way)) h in
      let place : i.place ≡ k = (let e = i.terminal in omega (arith, e)) in
      subst (λ (n : ℕ). IsAddressOf xs n way a) place i.own,
  λ h.
      let place : 0 + k ≡ k = omega arith in
      subst (λ (n : ℕ). Contains (numbered 0 xs) (a, (n, way))) place (numbered_to 0 xs k way a h),
)

-- the addresses of the numbered list are the addresses, in their order
pub keys_selection_call_step : (t s : ℕ) (xs : List (List ℕ)) → keys_of (numbered_selects t s xs)
    ≡ xs
keys_selection_call_step t s [] = refl
keys_selection_call_step t s (x ∷ xs) = ap (λ ys. x ∷ ys) (keys_selection_call_step t (s + 1) xs)

pub keys_owned : (t : ℕ) (x : TerminalValue) → keys_of (owned t x) ≡ own_addresses x
keys_owned t x = ap (λ ys. x.poll ∷ ys) (keys_selection_call_step t 0 x.selects)

pub keys_numbered : (t : ℕ) (xs : List TerminalValue) → keys_of (numbered t xs) ≡ addresses xs
keys_numbered t [] = refl
keys_numbered t (x ∷ xs) = map-append (λ (e : Owner). e.0) (owned t x) (numbered (t + 1) xs)
    ∙ ap (λ ys. ys ++ keys_of (numbered (t + 1) xs)) (keys_owned t x)
    ∙ ap (λ ys. own_addresses x ++ ys) (keys_numbered (t + 1) xs)

-- one more terminal
pub numbered_push : (t : ℕ) (xs : List TerminalValue) (x : TerminalValue)
    → numbered t (xs ++ x ∷ []) ≡ numbered t xs ++ owned (t + length xs) x
numbered_push t [] x = append-nil (owned t x) ∙ ap (λ n. owned n x) (omega arith)
numbered_push t (y ∷ ys) x =
    let far : t + 1 + length ys ≡ t + suc (length ys) = omega arith in
    ap (λ zs. owned t y ++ zs) (numbered_push (t + 1) ys x
    ∙ ap (λ n. numbered (t + 1) ys ++ owned n x) far)
    ∙ sym (append_assoc (owned t y) (numbered (t + 1) ys) (owned (t + suc (length ys)) x))

-- one more selection address
pub selects_push : (t s : ℕ) (xs : List (List ℕ)) (x : List ℕ) → numbered_selects t s (xs ++ x ∷ [])
    ≡ numbered_selects t s xs ++ (x, (t, ToTerminal (s + length xs))) ∷ []
selects_push t s [] x = ap (λ n. (x, (t, ToTerminal n)) ∷ []) (omega arith)
selects_push t s (y ∷ ys) x =
    let far : s + 1 + length ys ≡ s + suc (length ys) = omega arith in
    ap (λ zs. (y, (t, ToTerminal s)) ∷ zs)
    (selects_push t (s + 1) ys x ∙ ap (λ n. numbered_selects t (s + 1) ys
    ++ (x, (t, ToTerminal n)) ∷ []) far)
