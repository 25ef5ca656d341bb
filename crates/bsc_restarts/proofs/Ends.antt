-- What a step changes of one channel, and what the store has of it once that is kept.
use Rattle.std.specs.Prelude.{drop, map}
use Rattle.std.proofs.Common.{◌≡◌, ◌∙◌, ◌≤◌, ◌+◌, ◌-◌, ◌&&◌, ℕ, nat_eq, Bool, true, false, List, []}
use Rattle.std.proofs.Common.{◌∷◌, ◌++◌, length, Option, Some, None, refl, sym, ap, append-nil}
use Rattle.std.proofs.Common.{append_assoc, arith, replicate, if◌then◌else◌}
use Rattle.std.proofs.lemmas.Bool.{and_parts}
use Rattle.std.proofs.lemmas.Bool.Decides.{nat_tests}
use Rattle.std.proofs.lemmas.List.{drop-append-le, drop-drop, drop-map, drop_at, length-append}
use Rattle.std.proofs.lemmas.List.{length-drop, length-map, map-append}
use Rattle.bsc_block.proofs.Forgotten.{length_forgotten}
use Rattle.bsc_bid.specs.declared.kept.KeptSender.{KeptSender}
use Rattle.bsc_spool.specs.Contents.{Contents, records_from}
use Rattle.bsc_spool.specs.declared.change.Change.TheVariants.{Arrived, Known, Printed}
use Rattle.bsc_spool.specs.declared.channel.Channel.{Channel}
use Rattle.bsc_spool.specs.declared.ends.Receiving.{Receiving}
use Rattle.bsc_spool.specs.declared.ends.Sending.{Sending}
use Rattle.bsc_spool.specs.declared.store.Found.{Found}
use Rattle.bsc_keeping.specs.Changes.{arrived_changes, in_doubt_of, known_changes, known_now}
use Rattle.bsc_keeping.specs.Changes.{printed_changes, received_now}
use Rattle.bsc_restarts.specs.Kept.{HasAllReceived, HasSentIf}
use Rattle.bsc_restarts.proofs.Parts.{ChangesTo}

-- at least as many of the records are known as before, and none was added; those that are known
-- since were waiting
pub record SentGrows (k : KeptSender) (rest : List (List ℕ)) (new : KeptSender)
    (left : List (List ℕ)) : Type 0 where
  pub known : k.known ≤ new.known
  pub there : new.known - k.known ≤ length rest
  pub rest_is : left ≡ drop (new.known - k.known) rest

-- so it is if there is such a channel, and there is one if there was
abbrev pub SentGrowsIf : Option KeptSender → List (List ℕ) → Option KeptSender → List (List ℕ)
    → Type 0
SentGrowsIf None rest new left = new ≡ None
SentGrowsIf (Some k) rest None left = ⊥
SentGrowsIf (Some k) rest (Some new) left = SentGrows k rest new left

-- records were added after those that had arrived
abbrev pub ReceivedGrows : List (List ℕ) → List (List ℕ) → Type 0
ReceivedGrows old new = (more : List (List ℕ)) × (new ≡ old ++ more)

pub grows_not : (xs : List (List ℕ)) → ReceivedGrows xs xs
grows_not xs = ([], sym (append-nil xs))

-- so it is if there is such a channel
pub grown_where : (b : Bool) (xs ys : List (List ℕ)) → ReceivedGrows xs ys
    → ReceivedGrows (if b then xs else []) (if b then ys else [])
grown_where true xs ys grows = grows
grown_where false xs ys grows = grows_not []

-- the numbers of a channel are as the station says
record HasNumbers (k : KeptSender) (old new : Contents) : Type 0 where
  known : new.known ≡ k.known
  in_doubt : new.in_doubt ≡ in_doubt_of k.doubt
  offered : new.offered ≡ old.offered

numbers_if : (b : Bool) (end : Sending) (k : KeptSender) (old new : Contents)
    → (nat_eq k.known end.known && nat_eq (in_doubt_of k.doubt) end.in_doubt) ≡ b
    → old.known ≡ end.known → old.in_doubt ≡ end.in_doubt
    → ChangesTo (if b then [] else Known end.channel k.known (in_doubt_of k.doubt) ∷ []) old new
    → HasNumbers k old new
numbers_if true end k old new same known in_doubt is =
    let both = and_parts (nat_eq k.known end.known) (nat_eq (in_doubt_of k.doubt) end.in_doubt) same
    in
    let first : k.known ≡ end.known = grind (arith, nat_tests, both.0) in
    let second : in_doubt_of k.doubt ≡ end.in_doubt = grind (arith, nat_tests, both.1) in
    record {
      known = ap (λ (c : Contents). c.known) is ∙ known ∙ sym first;
      in_doubt = ap (λ (c : Contents). c.in_doubt) is ∙ in_doubt ∙ sym second;
      offered = ap (λ (c : Contents). c.offered) is;
    }
numbers_if false end k old new same known in_doubt (mid, changed, is) =
    record {
      known = ap (λ (c : Contents). c.known) (is ∙ changed);
      in_doubt = ap (λ (c : Contents). c.in_doubt) (is ∙ changed);
      offered = ap (λ (c : Contents). c.offered) (is ∙ changed);
    }

-- the records of a channel from a later place on
pub rest_later : (offered : List Found) (known count : ℕ) (rest : List (List ℕ))
    → records_from known offered ≡ rest → known ≤ count
    → records_from count offered ≡ drop (count - known) rest
rest_later offered known count rest is few =
    let at : known + (count - known) ≡ count = omega (arith, few) in
    ap (λ p. map (λ (f : Found). f.«record») (drop p offered)) (sym at)
    ∙ ap (map (λ (f : Found). f.«record»)) (sym (drop-drop (count - known) known offered))
    ∙ sym (drop-map (λ (f : Found). f.«record») (count - known) (drop known offered))
    ∙ ap (drop (count - known)) is

-- the store has what the station sends also after the step
pub sent_after : (end : Sending) (k new : Option KeptSender) (rest left : List (List ℕ))
    (old it : Contents) → HasSentIf old k rest → SentGrowsIf k rest new left
    → old.known ≡ end.known → old.in_doubt ≡ end.in_doubt
    → ChangesTo (known_changes end new) old it
    → HasSentIf it new left × (it.known ≡ (known_now end new).known)
    × (it.in_doubt ≡ (known_now end new).in_doubt)
sent_after end k None rest left old it has grows known in_doubt is = (
  tt,
  ap (λ (c : Contents). c.known) is ∙ known,
  ap (λ (c : Contents). c.in_doubt) is ∙ in_doubt,
)
sent_after end None (Some new) rest left old it has grows known in_doubt is = absurd cc
sent_after end (Some k) (Some new) rest left old it has grows known in_doubt is =
    let n = numbers_if (nat_eq new.known end.known && nat_eq (in_doubt_of new.doubt) end.in_doubt)
    end new old it refl known in_doubt is in (
      record {
        few =
            omega (
              arith,
              n.known,
              ap length n.offered,
              has.few,
              has.known,
              grows.known,
              grows.there,
              ap length has.rest,
              length-map (drop old.known old.offered) (λ (f : Found). f.«record»),
              length-drop old.known old.offered,
            );
        known = n.known;
        in_doubt = n.in_doubt;
        rest =
            (λ i. records_from (n.known i) (n.offered i))
            ∙ rest_later old.offered old.known new.known rest has.rest (omega (arith, has.known, grows.known))
            ∙ ap (λ m. drop (new.known - m) rest) has.known
            ∙ sym grows.rest_is;
      },
      n.known,
      n.in_doubt,
    )

-- records that arrived are added
record HasGained (xs : List (List ℕ)) (old new : Contents) : Type 0 where
  gained : List Found
  arrived : new.arrived ≡ old.arrived ++ gained
  records : map (λ (f : Found). f.«record») gained ≡ xs

gains_all : (its : Channel) (xs : List (List ℕ)) (old new : Contents)
    → ChangesTo (map (Arrived its) xs) old new → HasGained xs old new
gains_all its [] old new is =
    record {
      gained = [];
      arrived = ap (λ (c : Contents). c.arrived) is ∙ sym (append-nil old.arrived);
      records = refl;
    }
gains_all its (x ∷ xs) old new (mid, (mark, changed), more) =
    let rest = gains_all its xs mid new more in
    let one : Found = record { mark = mark; «record» = x } in
    record {
      gained = one ∷ rest.gained;
      arrived =
          rest.arrived ∙ ap (λ (c : Contents). c.arrived ++ rest.gained) changed
          ∙ append_assoc old.arrived (one ∷ []) rest.gained;
      records = ap (λ rs. x ∷ rs) rest.records;
    }

-- what is kept as printed changes nothing of these
gains_if : (b : Bool) (its : Channel) (count : ℕ) (xs : List (List ℕ)) (old new : Contents)
    → ChangesTo ((if b then [] else Printed its count ∷ []) ++ map (Arrived its) xs) old new
    → HasGained xs old new
gains_if true its count xs old new changes = gains_all its xs old new changes
gains_if false its count xs old new (mid, changed, changes) =
    let rest = gains_all its xs mid new changes in
    record {
      gained = rest.gained;
      arrived =
          rest.arrived ∙ ap (λ (c : Contents). c.arrived ++ rest.gained) changed;
      records = rest.records;
    }

gains : (end : Receiving) (count : Option ℕ) (xs : List (List ℕ)) (old new : Contents)
    → ChangesTo (printed_changes end count ++ map (Arrived end.channel) xs) old new
    → HasGained xs old new
gains end None xs old new changes = gains_all end.channel xs old new changes
gains end (Some count) xs old new changes =
    gains_if (nat_eq count end.printed) end.channel count xs old new changes

abbrev characters : List Found → List (List ℕ)
characters found = map (λ (f : Found). f.«record») found

-- the store has what arrived also after the step
pub received_after : (end : Receiving) (count : Option ℕ) (records now : List (List ℕ))
    (old it : Contents) → HasAllReceived old records → ReceivedGrows records now
    → length old.arrived ≡ end.arrived
    → ChangesTo (printed_changes end count ++ arrived_changes end now) old it
    → HasAllReceived it now × (length it.arrived ≡ (received_now end count now).arrived)
received_after end count records now old it has (more, grows) known changes =
    let all = characters old.arrived in
    let as_many : length all ≡ length old.arrived =
    length-map old.arrived (λ (f : Found). f.«record») in
    let long : length records ≡ end.arrived =
    ap length has.same
    ∙ length_forgotten has.places all (omega (arith, as_many, has.few)) ∙ as_many ∙ known in
    let new_ones : drop end.arrived now ≡ more =
    ap (drop end.arrived) grows ∙ drop_at records more end.arrived long in
    let g = gains end count (drop end.arrived now) old it changes in
    let after : characters it.arrived ≡ all ++ more =
    ap characters g.arrived
    ∙ map-append (λ (f : Found). f.«record») old.arrived g.gained
    ∙ ap (λ rs. all ++ rs) (g.records ∙ new_ones) in
    let gained : length g.gained ≡ length more =
    omega (
      arith,
      length-map g.gained (λ (f : Found). f.«record»),
      ap length (g.records ∙ new_ones),
    ) in
    let number : length it.arrived ≡ length old.arrived + length more =
    omega (arith, ap length g.arrived, length-append old.arrived g.gained, gained) in (
      record {
        places = has.places;
        few = omega (arith, has.few, number);
        same =
            grows ∙ ap (λ rs. rs ++ more) has.same
            ∙ append_assoc (replicate has.places []) (drop has.places all) more
            ∙ ap (λ rs. replicate has.places [] ++ rs)
            (sym (drop-append-le has.places all more (omega (arith, as_many, has.few))))
            ∙ ap (λ rs. replicate has.places [] ++ drop has.places rs) (sym after);
      },
      omega (
        arith,
        number,
        known,
        long,
        ap length grows,
        length-append records more,
      ),
    )
