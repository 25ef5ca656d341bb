-- A station that is filled with one record after another, and one channel after another.
use Rattle.std.proofs.Common.{◌≡◌, ◌∙◌, ◌≤◌, ◌<◌, ◌+◌, ℕ, zero, suc, ℤ, pos, List, [], ◌∷◌, ◌++◌, length, map, drop}
use Rattle.std.proofs.Common.{replicate, slice_index_or, refl, sym, ap, subst, add-one, get_or, set, Some, arith}
use Rattle.std.specs.Prelude.{Bool, if◌then◌else◌}
use Rattle.std.specs.List.{slice_get}
use Rattle.std.proofs.lemmas.Option.{same_Some, slice_get-get_or}
use Rattle.bsc_spool.specs.Contents.{Contents, IsNext, in_numbers, mark_at, records_from}
use Rattle.bsc_spool.specs.declared.store.Found.{Found}
use Rattle.bsc_spool.specs.declared.store.Progress.{Progress}
use Rattle.bsc_bid.specs.declared.kept.KeptSender.{KeptSender}
use Rattle.bsc_spool.specs.declared.channel.Channel.{Channel}
use Rattle.bsc_spool.specs.declared.ends.Receiving.{Receiving}
use Rattle.bsc_spool.specs.declared.ends.Sending.{Sending}
use Rattle.bsc_keeping.specs.Filled.{AddsAll, AddsChannel, AddsEach, AddsForgotten, forgotten_of}
use Rattle.bsc_keeping.specs.Filled.{offered_all, offered_each, recalled_each, recalled_of}
use Rattle.bsc_keeping.specs.Filled.{sent_again}

-- the rest begins with the element in this place
pub drop_next : {X : Type 0} (xs : List X) (i : ℕ) (x : X) → slice_get xs i ≡ Some x
    → drop i xs ≡ x ∷ drop (suc i) xs
drop_next [] i x is = cc
drop_next (y ∷ ys) zero x is = ap (λ z. z ∷ ys) (same_Some y x is)
drop_next (y ∷ ys) (suc i) x is = drop_next ys i x is

pub next_within : {X : Type 0} (xs : List X) (i : ℕ) (x : X) → slice_get xs i ≡ Some x
    → suc i ≤ length xs
next_within [] i x is = cc
next_within (y ∷ ys) zero x is = omega arith
next_within (y ∷ ys) (suc i) x is = omega (arith, next_within ys i x is)

pub index_is : {X : Type 0} (xs : List X) (i : ℕ) (x other : X) → slice_get xs i ≡ Some x
    → slice_index_or xs i other ≡ x
index_is [] i x other is = cc
index_is (y ∷ ys) zero x other is = same_Some y x is
index_is (y ∷ ys) (suc i) x other is = index_is ys i x other is

get_mapped : {X Y : Type 0} (f : X → Y) (xs : List X) (i : ℕ) (x : X) → slice_get xs i ≡ Some x
    → slice_get (map f xs) i ≡ Some (f x)
get_mapped f [] i x is = cc
get_mapped f (y ∷ ys) zero x is = ap (λ z. Some (f z)) (same_Some y x is)
get_mapped f (y ∷ ys) (suc i) x is = get_mapped f ys i x is

-- Two lists whose rests are the same, of which one is walked.
drop_one : {X : Type 0} (xs : List X) (i : ℕ) → drop (suc i) xs ≡ drop 1 (drop i xs)
drop_one [] zero = refl
drop_one [] (suc i) = refl
drop_one (x ∷ xs) zero = refl
drop_one (x ∷ xs) (suc i) = drop_one xs i

drop_set : {X : Type 0} (xs : List X) (i : ℕ) (y : X)
    → drop (suc i) (set xs i y) ≡ drop (suc i) xs
drop_set [] i y = refl
drop_set (x ∷ xs) zero y = refl
drop_set (x ∷ xs) (suc i) y = drop_set xs i y

-- the rests after this place are the same, too
pub rests_on : {X : Type 0} (ys xs : List X) (i : ℕ) (y : X) → drop i ys ≡ drop i xs
    → drop (i + 1) (set ys i y) ≡ drop (i + 1) xs
rests_on ys xs i y same =
    rw add-one (drop_set ys i y ∙ drop_one ys i ∙ ap (drop 1) same ∙ sym (drop_one xs i))

first_is : {X : Type 0} (xs : List X) (i : ℕ) (x other : X) (rest : List X)
    → drop i xs ≡ x ∷ rest → get_or xs i other ≡ x
first_is [] zero x other rest is = cc
first_is [] (suc i) x other rest is = cc
first_is (y ∷ ys) zero x other rest is = cc
first_is (y ∷ ys) (suc i) x other rest is = first_is ys i x other rest is

-- what is read in this place is the first of the rest
pub reads_first : {X : Type 0} (ys xs : List X) (i : ℕ) (x : X) → i < length xs
    → drop i ys ≡ drop i xs → drop i xs ≡ get_or ys i x ∷ drop (i + 1) xs
reads_first ys xs i x within same =
    let got = slice_get-get_or xs i x within in
    let first = drop_next xs i (get_or xs i x) got in
    let it = first_is ys i (get_or xs i x) x (drop (suc i) xs) (same ∙ first) in
    rw add-one (first ∙ ap (λ z. z ∷ drop (suc i) xs) (sym it))

pub reads_item : {X : Type 0} (xs : List X) (i : ℕ) (x : X) → i < length xs
    → x ≡ get_or xs i x → drop i xs ≡ x ∷ drop (i + 1) xs
reads_item xs i x within is =
    reads_first xs xs i x within refl ∙ ap (λ z. z ∷ drop (i + 1) xs) (sym is)

-- the mark after a record that was found is its own
pub mark_after : (records : List Found) (i : ℕ) (it : Found) → slice_get records i ≡ Some it
    → mark_at records (suc i) ≡ it.mark
mark_after records i it is =
    index_is _ i it.mark (pos 0) (get_mapped (λ (f : Found). f.mark) records i it is)

-- the records from one place on begin with that one
pub records_next : (records : List Found) (i : ℕ) (it : Found) → slice_get records i ≡ Some it
    → records_from i records ≡ it.«record» ∷ records_from (suc i) records
records_next records i it is =
    ap (map (λ (f : Found). f.«record»)) (drop_next records i it is)

-- nothing follows the last record
pub records_end : (records : List Found) (n : ℕ) → length records ≤ n
    → records_from n records ≡ []
records_end [] zero h = refl
records_end [] (suc n) h = refl
records_end (r ∷ rs) zero h = absurd (omega (arith, h))
records_end (r ∷ rs) (suc n) h = records_end rs n (omega (arith, h))

-- The next record to be read is the one in this place.
abbrev pub IsAt : List Found → ℕ → ℤ → ℕ → Type 0
IsAt records i mark more =
    (place : ℕ) × (place ≤ length records) × (place + more ≡ i) × (mark ≡ mark_at records place)

pub from_first : (records : List Found) (i : ℕ) → IsAt records i (pos 0) i
from_first records i = (zero, omega arith, omega arith, refl)

pub finds_next : (records : List Found) (i : ℕ) (mark : ℤ) (more : ℕ) (it : Found)
    → IsAt records i mark more → IsNext records mark more (Some it)
    → slice_get records i ≡ Some it
finds_next records i mark more it (place, within, sum, is) next =
    sym (subst (λ n. Some it ≡ slice_get records n) sum (next place within is))

pub moves_on : (records : List Found) (i : ℕ) (it : Found) (next : ℤ)
    → slice_get records i ≡ Some it → it.mark ≡ next → IsAt records (i + 1) next 0
moves_on records i it next here marked =
    let after : IsAt records (suc i) next 0 = (
      suc i,
      next_within records i it here,
      omega arith,
      sym marked ∙ sym (mark_after records i it here),
    ) in
    subst (λ n. IsAt records n next 0) (sym (add-one i)) after

-- What is known of a station to which records are offered.
module _ {P : Type 0} (offered : P → ℕ → ℕ → List ℕ → P) (t s : ℕ) where
  -- some records are offered, and then others
  pub offered_then : (xs ys : List (List ℕ)) (station : P)
      → offered_all offered t s (xs ++ ys) station
      ≡ offered_all offered t s ys (offered_all offered t s xs station)
  offered_then [] ys station = refl
  offered_then (x ∷ xs) ys station = offered_then xs ys (offered station t s x)

  -- the same record is offered once more
  pub offered_more : (n : ℕ) (r : List ℕ) (station : P)
      → offered (offered_all offered t s (replicate n r) station) t s r
      ≡ offered_all offered t s (replicate (suc n) r) station
  offered_more zero r station = refl
  offered_more (suc n) r station = offered_more n r (offered station t s r)

  -- the record in this place is offered, and the rest is left
  pub offered_next : (records : List Found) (i : ℕ) (it : Found) (station new last : P)
      → slice_get records i ≡ Some it → new ≡ offered station t s it.«record»
      → offered_all offered t s (records_from i records) station ≡ last
      → offered_all offered t s (records_from (i + 1) records) new ≡ last
  offered_next records i it station new last here made so_far =
      rw add-one
      (ap (offered_all offered t s (records_from (suc i) records)) made
      ∙ ap (λ rs. offered_all offered t s rs station) (sym (records_next records i it here))
      ∙ so_far)

  -- all that the store has is offered
  pub offered_whole : (it : Contents) (known n : ℕ) (station begun last : P)
      → begun ≡ offered_all offered t s (replicate known []) station → known ≡ it.known
      → length it.offered ≤ n
      → offered_all offered t s (records_from n it.offered) last
      ≡ offered_all offered t s (records_from known it.offered) begun
      → last ≡ offered_all offered t s (sent_again it) station
  offered_whole it known n station begun last empty knows ends so_far =
      ap (λ rs. offered_all offered t s rs last) (sym (records_end it.offered n ends))
      ∙ so_far
      ∙ ap (offered_all offered t s (records_from known it.offered)) empty
      ∙ sym (offered_then (replicate known []) (records_from known it.offered) station)
      ∙ ap
      (λ k. offered_all offered t s (replicate k [] ++ records_from k it.offered) station) knows

-- What is known of a station that gains records.
module _ {P : Type 0} (gains : P → ℕ → List ℕ → P → Type 0)
    (forgets : P → ℕ → ℕ → P → Type 0) (number : ℕ) where
  pub forgotten_more : (n : ℕ) (r : List ℕ) (old mid gained new : P)
      → AddsForgotten gains forgets number n old mid → gains mid number r gained → r ≡ []
      → forgets gained number (n + 1) new → AddsForgotten gains forgets number (n + 1) old new
  forgotten_more n r old mid gained new so_far gain empty forgot =
      let more : forgets gained number (suc n) new = rw add-one at forgot in
      rw add-one
      (mid, gained, so_far, subst (λ x. gains mid number x gained) empty gain, more)

  -- the record in this place is gained, and the rest is left
  pub gained_next : (records : List Found) (i : ℕ) (it : Found) (station new last : P)
      → slice_get records i ≡ Some it → gains station number it.«record» new
      → AddsAll gains forgets number (records_from (i + 1) records) new last
      → AddsAll gains forgets number (records_from i records) station last
  gained_next records i it station new last here gained left =
      let more : AddsAll gains forgets number (records_from (suc i) records) new last =
      rw add-one at left in
      let both : AddsAll gains forgets number (it.«record» ∷ records_from (suc i) records)
      station last = (new, gained, more) in
      subst (λ rs. AddsAll gains forgets number rs station last)
      (sym (records_next records i it here)) both

  -- none is left
  pub gained_all : (records : List Found) (n : ℕ) (station : P) → length records ≤ n
      → AddsAll gains forgets number (records_from n records) station station
  gained_all records n station ends =
      subst (λ rs. AddsAll gains forgets number rs station station)
      (sym (records_end records n ends)) refl

  -- all that the store has is gained
  pub added_whole : (forgets_printed : Bool) (it : Contents) (p : Progress) (f n : ℕ)
      (old mid new : P) → p ≡ in_numbers it
      → f ≡ (if forgets_printed then p.printed else 0)
      → AddsForgotten gains forgets number f old mid → length it.arrived ≤ n
      → (AddsAll gains forgets number (records_from n it.arrived) new new
      → AddsAll gains forgets number (records_from f it.arrived) mid new)
      → AddsChannel gains forgets forgets_printed it number old new
  added_whole forgets_printed it p f n old mid new is forgotten begun ends so_far =
      let count : f ≡ forgotten_of forgets_printed it =
      forgotten ∙ ap (λ (q : Progress). if forgets_printed then q.printed else 0) is in (
        mid,
        subst (λ k. AddsForgotten gains forgets number k old mid) count begun,
        subst (λ k. AddsAll gains forgets number (records_from k it.arrived) mid new) count
            (so_far (gained_all it.arrived n new ends)),
      )

-- The records of the channel of this end are offered, and the rest of the channels is left.
pub each_offered : {P : Type 0} (offered : P → ℕ → ℕ → List ℕ → P) (has : Channel → Contents)
    (ends : List Sending) (i : ℕ) (end : Sending) (station new last : P)
    → drop i ends ≡ end ∷ drop (i + 1) ends → (it : Contents) → it ≡ has end.channel
    → new ≡ offered_all offered end.terminal end.select (sent_again it) station
    → offered_each offered has (drop i ends) station ≡ last
    → offered_each offered has (drop (i + 1) ends) new ≡ last
each_offered offered has ends i end station new last first it same made so_far =
    ap (offered_each offered has (drop (i + 1) ends))
    (made ∙ ap (λ h. offered_all offered end.terminal end.select (sent_again h) station) same)
    ∙ ap (λ es. offered_each offered has es station) (sym first)
    ∙ so_far

-- What is kept of the channel of this end is recalled, and the rest of the channels is left.
pub each_recalled : {P : Type 0} (recalled : P → ℕ → ℕ → KeptSender → P)
    (has : Channel → Contents) (ends : List Sending) (i : ℕ) (end : Sending)
    (station new last : P) → drop i ends ≡ end ∷ drop (i + 1) ends → (it : Contents)
    → it ≡ has end.channel → new ≡ recalled station end.terminal end.select (recalled_of it)
    → recalled_each recalled has (drop i ends) station ≡ last
    → recalled_each recalled has (drop (i + 1) ends) new ≡ last
each_recalled recalled has ends i end station new last first it same made so_far =
    ap (recalled_each recalled has (drop (i + 1) ends))
    (made ∙ ap (λ h. recalled station end.terminal end.select (recalled_of h)) same)
    ∙ ap (λ es. recalled_each recalled has es station) (sym first)
    ∙ so_far

-- The records of the channel of this end are gained, and the rest of the channels is left.
pub each_gained : {P : Type 0} (gains : P → ℕ → List ℕ → P → Type 0)
    (forgets : P → ℕ → ℕ → P → Type 0) (forgets_printed : Bool) (has : Channel → Contents)
    (ends : List Receiving) (i : ℕ) (end : Receiving) (station new last : P)
    → drop i ends ≡ end ∷ drop (i + 1) ends → (it : Contents) → it ≡ has end.channel
    → AddsChannel gains forgets forgets_printed it end.number station new
    → AddsEach gains forgets forgets_printed has (drop (i + 1) ends) new last
    → AddsEach gains forgets forgets_printed has (drop i ends) station last
each_gained gains forgets forgets_printed has ends i end station new last first it same added
    left =
    let one : AddsChannel gains forgets forgets_printed (has end.channel) end.number station new =
    subst (λ h. AddsChannel gains forgets forgets_printed h end.number station new) same added in
    let both : AddsEach gains forgets forgets_printed has (end ∷ drop (i + 1) ends) station last =
    (new, one, left) in
    subst (λ es. AddsEach gains forgets forgets_printed has es station last) (sym first) both
