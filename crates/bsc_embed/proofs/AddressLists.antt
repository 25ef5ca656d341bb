-- The addresses of a list, read one after the other.
use Rattle.std.proofs.Common.{◌≡◌, ℕ, ◌<◌, ◌≤◌, ◌+◌, zero, suc, refl, arith, List, [], ◌∷◌, ◌++◌}
use Rattle.std.proofs.Common.{length, take, get_or, set, Option, Some, None, length-take}
use Rattle.std.proofs.lemmas.List.{take_more, take_more_set, get_or-take}
use Rattle.std.proofs.Common.{◌||◌, nat_eq, nat_lt, false, Err}
use Rattle.std.proofs.lemmas.Bool.Decides.{nat_tests}
use Rattle.bsc_bid.specs.declared.limits.TheConstants.{MAX_SELECTS}
use Rattle.bsc_embed.specs.Addresses.{address_in, addresses_in, before_address, terminal_in}
use Rattle.bsc_embed.specs.declared.interface.fault.Fault.TheVariants.{Address}
use Rattle.bsc_embed.specs.declared.interface.addresses.StoredAddresses.{StoredAddresses}
use Rattle.bsc_embed.specs.declared.interface.addresses.StoredAddress.{StoredAddress}

push_step : (o : Option (List ℕ)) (r q : Option (List (List ℕ))) (rest : List (List ℕ)) (a : List ℕ)
    → before_address o r ≡ Some rest
    → ((more : List (List ℕ)) → r ≡ Some more → q ≡ Some (more ++ a ∷ []))
    → before_address o q ≡ Some (rest ++ a ∷ [])
push_step None r q rest a e f = cc
push_step (Some b) None q rest a e f = cc
push_step (Some b) (Some more) q rest a e f =
    let k : rest ≡ b ∷ more = cc in
    rw (f more refl, k) refl

addresses_push : (ss : List StoredAddress) (rest : List (List ℕ)) (s : StoredAddress) (a : List ℕ)
    → addresses_in ss ≡ Some rest → address_in s ≡ Some a
    → addresses_in (ss ++ s ∷ []) ≡ Some (rest ++ a ∷ [])
addresses_push [] rest s a read one =
    let k : rest ≡ [] = cc in
    rw (one, k) refl
addresses_push (t ∷ ss) rest s a read one =
    push_step (address_in t) (addresses_in ss) (addresses_in (ss ++ s ∷ [])) rest a read
    (λ more e. addresses_push ss more s a e one)

before_none : (o : Option (List ℕ)) → before_address o None ≡ None
before_none None = refl
before_none (Some a) = refl

none_among : (ss : List StoredAddress) (i : ℕ) (d : StoredAddress) → i < length ss
    → address_in (get_or ss i d) ≡ None
    → addresses_in ss ≡ None
none_among [] i d l e = absurd (omega arith)
none_among (s ∷ ss) zero d l e = rw e refl
none_among (s ∷ ss) (suc i) d l e =
    rw (none_among ss i d (omega arith) e) (before_none (address_in s))

-- If one of the first addresses is none, they are no list of addresses.
pub addresses_none : (ss : List StoredAddress) (n i : ℕ) (d : StoredAddress) → i < n → n ≤ length ss
    → address_in (get_or ss i d) ≡ None
    → addresses_in (take n ss) ≡ None
addresses_none ss n i d l m e =
    none_among (take n ss) i d (omega (arith, length-take n ss)) (rw (get_or-take n ss i d l) e)

-- One more address is read.
pub address_taken : (ss : List StoredAddress) (as' : List (List ℕ)) (i : ℕ) (d : StoredAddress)
    (a : List ℕ) → i < length ss → i < length as'
    → addresses_in (take i ss) ≡ Some (take i as') → address_in (get_or ss i d) ≡ Some a
    → addresses_in (take (i + 1) ss) ≡ Some (take (i + 1) (set as' i a))
address_taken ss as' i d a l m read one =
    rw (take_more ss i d l, take_more_set as' i a m)
    (addresses_push (take i ss) (take i as') (get_or ss i d) a read one)

-- At the end every address is read.
pub addresses_read : (ss : List StoredAddress) (as' : List (List ℕ)) (i n : ℕ) → i ≤ n → n ≤ i
    → addresses_in (take i ss) ≡ Some (take i as')
    → addresses_in (take n ss) ≡ Some (take n as')
addresses_read ss as' i n l m read =
    let e : i ≡ n = omega arith in
    rw e at read

count_passes : (n : ℕ) → 0 < n → n ≤ MAX_SELECTS → (nat_eq n 0 || nat_lt MAX_SELECTS n) ≡ false
count_passes n l m = grind (arith, nat_tests)

-- A terminal of which a selection address is none.
pub not_terminal : (t : StoredAddresses) (poll : List ℕ) → 0 < t.count → t.count ≤ MAX_SELECTS
    → address_in t.poll ≡ Some poll → addresses_in (take t.count t.selects) ≡ None
    → Err Address ≡ terminal_in t
not_terminal t poll l m called none = rw (count_passes t.count l m, called, none) refl
