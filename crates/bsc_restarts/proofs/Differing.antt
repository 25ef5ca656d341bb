-- The channels of a station all differ, since the addresses of a line do.
use Rattle.std.proofs.Common.{◌≡◌, ◌≢◌, ◌∙◌, ◌<◌, ℕ, zero, suc, List, [], ◌∷◌, ◌++◌, length, map}
use Rattle.std.proofs.Common.{Some, refl, sym, ap, subst, append-nil, append_assoc, arith}
use Rattle.std.proofs.lemmas.List.{map-append}
use Rattle.std.specs.List.{AllByRecursion, AllPairs, flat_map}
use Rattle.std.specs.Prelude.{slice_index_or}
use Rattle.bsc_bid.specs.Terminal.{HasDistinctAddresses, TerminalValue, own_addresses}
use Rattle.bsc_bid.specs.Addresses.{AreDistinct, addresses}
use Rattle.bsc_spool.specs.declared.channel.Channel.{Channel}
use Rattle.bsc_spool.specs.declared.channel.Channel.TheVariants.{From, To}
use Rattle.bsc_spool.specs.declared.ends.Receiving.{Receiving}
use Rattle.bsc_spool.specs.declared.ends.Sending.{Sending}
use Rattle.bsc_keeping.specs.Own.{each_of, polled_at, receiving_of, selection_of, selections_at}
use Rattle.bsc_keeping.specs.Own.{selections_of, sending_of, sends_from, spool_of, spools_of}
use Rattle.bsc_keeping.specs.Own.{terminal_at}
use Rattle.bsc_bid.specs.declared.speaker.Speaker.TheVariants.{Control}
use Rattle.bsc_restarts.specs.Crashes.{AllDiffer}
use Rattle.bsc_restarts.specs.Kept.{ChannelsDiffer, receiving_channels, sending_channels}
use Rattle.bsc_restarts.proofs.Lists.{all_both, all_parts}

-- all of a list are other than this
abbrev AllOther : {X : Type 0} → X → List X → Type 0
AllOther {X} x xs = AllByRecursion (λ (other : X). other ≢ x) xs

-- no two of these are the same
abbrev NoneTwice : {X : Type 0} → List X → Type 0
NoneTwice [] = Unit {0}
NoneTwice (x ∷ xs) = AllOther x xs × NoneTwice xs

all_from_places : {X : Type 0} (P : X → Type 0) (d : X) (xs : List X)
    → ((i : ℕ) → i < length xs → P (slice_index_or xs i d)) → AllByRecursion P xs
all_from_places P d [] each = tt
all_from_places P d (x ∷ xs) each = (
  each 0 (omega arith),
  all_from_places P d xs (λ i within. each (suc i) (omega (arith, within))),
)

none_twice : {X : Type 0} (d : X) (xs : List X) → AllPairs (λ a b. a ≢ b) xs → NoneTwice xs
none_twice d [] pairs = tt
none_twice d (x ∷ xs) pairs = (
  all_from_places (λ other. other ≢ x) d xs
      (λ i within is. pairs 0 (suc i) d (omega arith) (omega (arith, within)) (sym is)),
  none_twice d xs
      (λ i j e before within. pairs (suc i) (suc j) e (omega (arith, before)) (omega (arith, within))),
)

-- two lists that have nothing in common
abbrev Apart : {X : Type 0} → List X → List X → Type 0
Apart {X} xs ys = AllByRecursion (λ (x : X). AllOther x ys) xs

twice_parts : {X : Type 0} (xs ys : List X) → NoneTwice (xs ++ ys)
    → NoneTwice xs × NoneTwice ys × Apart xs ys
twice_parts [] ys none = (tt, none, tt)
twice_parts (x ∷ xs) ys (others, none) =
    let rest = twice_parts xs ys none in
    let parts = all_parts (λ other. other ≢ x) xs ys others in
    ((parts.0, rest.0), rest.1, (parts.1, rest.2))

twice_both : {X : Type 0} (xs ys : List X) → NoneTwice xs → NoneTwice ys → Apart xs ys
    → NoneTwice (xs ++ ys)
twice_both [] ys first second apart = second
twice_both (x ∷ xs) ys (others, first) second (other, apart) =
    (all_both (λ o. o ≢ x) xs ys others other, twice_both xs ys first second apart)

-- what holds of all addresses holds of the selection addresses, and of the polling addresses
abbrev selects_in : List TerminalValue → List (List ℕ)
selects_in ts = flat_map (λ (t : TerminalValue). t.selects) ts

abbrev polls_in : List TerminalValue → List (List ℕ)
polls_in ts = map (λ (t : TerminalValue). t.poll) ts

all_selects : (P : List ℕ → Type 0) (ts : List TerminalValue) → AllByRecursion P (addresses ts)
    → AllByRecursion P (selects_in ts)
all_selects P [] all = tt
all_selects P (t ∷ ts) (one, all) =
    let parts = all_parts P t.selects (addresses ts) all in
    all_both P t.selects (selects_in ts) parts.0 (all_selects P ts parts.1)

all_polls : (P : List ℕ → Type 0) (ts : List TerminalValue) → AllByRecursion P (addresses ts)
    → AllByRecursion P (polls_in ts)
all_polls P [] all = tt
all_polls P (t ∷ ts) (one, all) =
    (one, all_polls P ts (all_parts P t.selects (addresses ts) all).1)

apart_selects : (xs : List (List ℕ)) (ts : List TerminalValue) → Apart xs (addresses ts)
    → Apart xs (selects_in ts)
apart_selects [] ts apart = tt
apart_selects (x ∷ xs) ts (one, apart) =
    (all_selects (λ o. o ≢ x) ts one, apart_selects xs ts apart)

selects_differ : (ts : List TerminalValue) → NoneTwice (addresses ts) → NoneTwice (selects_in ts)
selects_differ [] none = tt
selects_differ (t ∷ ts) (others, none) =
    let parts = twice_parts t.selects (addresses ts) none in
    twice_both t.selects (selects_in ts) parts.0 (selects_differ ts parts.1)
    (apart_selects t.selects ts parts.2)

polls_differ : (ts : List TerminalValue) → NoneTwice (addresses ts) → NoneTwice (polls_in ts)
polls_differ [] none = tt
polls_differ (t ∷ ts) (others, none) = (
  all_polls (λ o. o ≢ t.poll) ts (all_parts (λ o. o ≢ t.poll) t.selects (addresses ts) others).1,
  polls_differ ts (twice_parts t.selects (addresses ts) none).1,
)

-- channels to addresses that differ, and from such
abbrev address_of : Channel → List ℕ
address_of (From x) = x
address_of (To x) = x

others_to : (a : List ℕ) (bs : List (List ℕ)) → AllOther a bs
    → AllOther (To a) (map (λ b. To b) bs)
others_to a [] all = tt
others_to a (b ∷ bs) (one, all) = (λ is. one (ap address_of is), others_to a bs all)

differ_to : (bs : List (List ℕ)) → NoneTwice bs → AllDiffer (map (λ b. To b) bs)
differ_to [] none = tt
differ_to (b ∷ bs) (others, none) = (others_to b bs others, differ_to bs none)

others_from : (a : List ℕ) (bs : List (List ℕ)) → AllOther a bs
    → AllOther (From a) (map (λ b. From b) bs)
others_from a [] all = tt
others_from a (b ∷ bs) (one, all) = (λ is. one (ap address_of is), others_from a bs all)

differ_from : (bs : List (List ℕ)) → NoneTwice bs → AllDiffer (map (λ b. From b) bs)
differ_from [] none = tt
differ_from (b ∷ bs) (others, none) = (others_from b bs others, differ_from bs none)

-- a channel to an address is none from one
to_is_not_from : (a : List ℕ) (bs : List (List ℕ)) → AllOther (To a) (map (λ b. From b) bs)
to_is_not_from a [] = tt
to_is_not_from a (b ∷ bs) = (λ is. absurd cc, to_is_not_from a bs)

from_is_not_to : (a : List ℕ) (bs : List (List ℕ)) → AllOther (From a) (map (λ b. To b) bs)
from_is_not_to a [] = tt
from_is_not_to a (b ∷ bs) = (λ is. absurd cc, from_is_not_to a bs)

to_and_from : (tos froms : List (List ℕ)) → NoneTwice tos → NoneTwice froms
    → AllDiffer (map (λ a. To a) tos ++ map (λ b. From b) froms)
to_and_from [] froms first second = differ_from froms second
to_and_from (a ∷ tos) froms (others, first) second = (
  all_both (λ o. o ≢ To a) (map (λ x. To x) tos) (map (λ x. From x) froms)
      (others_to a tos others) (to_is_not_from a froms),
  to_and_from tos froms first second,
)

-- lists that are made place by place
each_front : {X : Type 0} (f : ℕ → List X) (n : ℕ)
    → each_of f (suc n) ≡ f 0 ++ each_of (λ i. f (suc i)) n
each_front f zero = sym (append-nil (f 0))
each_front f (suc n) =
    ap (λ xs. xs ++ f (suc n)) (each_front f n)
    ∙ append_assoc (f 0) (each_of (λ i. f (suc i)) n) (f (suc n))

each_indexed : {X Y : Type 0} (g : X → List Y) (d : X) (xs : List X)
    → each_of (λ i. g (slice_index_or xs i d)) (length xs) ≡ flat_map g xs
each_indexed g d [] = refl
each_indexed g d (x ∷ xs) =
    each_front (λ i. g (slice_index_or (x ∷ xs) i d)) (length xs)
    ∙ ap (λ ys. g x ++ ys) (each_indexed g d xs)

each_sending : (f : ℕ → List Sending) (n : ℕ)
    → sending_channels (each_of f n) ≡ each_of (λ i. sending_channels (f i)) n
each_sending f zero = refl
each_sending f (suc n) =
    map-append (λ (end : Sending). end.channel) (each_of f n) (f n)
    ∙ ap (λ cs. cs ++ sending_channels (f n)) (each_sending f n)

each_receiving : (f : ℕ → List Receiving) (n : ℕ)
    → receiving_channels (each_of f n) ≡ each_of (λ i. receiving_channels (f i)) n
each_receiving f zero = refl
each_receiving f (suc n) =
    map-append (λ (end : Receiving). end.channel) (each_of f n) (f n)
    ∙ ap (λ cs. cs ++ receiving_channels (f n)) (each_receiving f n)

one_each : {X Y : Type 0} (g : X → Y) (xs : List X) → flat_map (λ x. g x ∷ []) xs ≡ map g xs
one_each g [] = refl
one_each g (x ∷ xs) = ap (λ ys. g x ∷ ys) (one_each g xs)

-- the channels to the selection addresses of a terminal
selects_to : (xs : List (List ℕ))
    → each_of (λ s. To (slice_index_or xs s []) ∷ []) (length xs) ≡ map (λ x. To x) xs
selects_to xs = each_indexed (λ x. To x ∷ []) [] xs ∙ one_each (λ x. To x) xs

spool_channels : (t : TerminalValue)
    → receiving_channels (spools_of t) ≡ map (λ x. To x) t.selects
spool_channels t = each_receiving (spool_of t) (length t.selects) ∙ selects_to t.selects

selection_channels : (t : TerminalValue) (number : ℕ)
    → sending_channels (selections_of t number) ≡ map (λ x. To x) t.selects
selection_channels t number =
    each_sending (selection_of t number) (length t.selects) ∙ selects_to t.selects

pub terminal_channels_differ : (t : TerminalValue) → HasDistinctAddresses t
    → ChannelsDiffer (sends_from (Some t)) (spools_of t)
terminal_channels_differ t pairs =
    let none = none_twice [] (own_addresses t) pairs in
    subst (λ cs. AllDiffer (From t.poll ∷ cs)) (sym (spool_channels t))
    (from_is_not_to t.poll t.selects, differ_to t.selects none.1)

-- those of all terminals
map_flat : (ts : List TerminalValue)
    → flat_map (λ (t : TerminalValue). map (λ x. To x) t.selects) ts
    ≡ map (λ x. To x) (selects_in ts)
map_flat [] = refl
map_flat (t ∷ ts) =
    ap (λ cs. map (λ x. To x) t.selects ++ cs) (map_flat ts)
    ∙ sym (map-append (λ x. To x) t.selects (selects_in ts))

map_polls : (ts : List TerminalValue)
    → map (λ (t : TerminalValue). From t.poll) ts ≡ map (λ x. From x) (polls_in ts)
map_polls [] = refl
map_polls (t ∷ ts) = ap (λ cs. From t.poll ∷ cs) (map_polls ts)

each_same : {X : Type 0} (f g : ℕ → List X) → ((i : ℕ) → f i ≡ g i) → (n : ℕ)
    → each_of f n ≡ each_of g n
each_same f g same n = ap (λ h. each_of h n) (λ k i. same i k)

pub control_channels_differ : (ts : List TerminalValue) → AreDistinct ts
    → ChannelsDiffer (sending_of ts Control) (receiving_of ts Control)
control_channels_differ ts pairs =
    let none = none_twice [] (addresses ts) pairs in
    let no_terminal : TerminalValue = record { poll = []; selects = [] } in
    let sending : sending_channels (sending_of ts Control) ≡ map (λ x. To x) (selects_in ts) =
    each_sending (selections_at ts) (length ts)
    ∙ each_same (λ n. sending_channels (selections_at ts n))
    (λ n. map (λ x. To x) (terminal_at ts n).selects)
    (λ n. selection_channels (terminal_at ts n) n) (length ts)
    ∙ each_indexed (λ (t : TerminalValue). map (λ x. To x) t.selects) no_terminal ts
    ∙ map_flat ts in
    let receiving : receiving_channels (receiving_of ts Control) ≡ map (λ x. From x) (polls_in ts) =
    each_receiving (polled_at ts) (length ts)
    ∙ each_indexed (λ (t : TerminalValue). From t.poll ∷ []) no_terminal ts
    ∙ one_each (λ (t : TerminalValue). From t.poll) ts
    ∙ map_polls ts in
    subst AllDiffer (λ i. sym sending i ++ sym receiving i)
    (to_and_from (selects_in ts) (polls_in ts) (selects_differ ts none) (polls_differ ts none))
