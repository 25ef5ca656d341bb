-- A stream splits into records in only one way, and the assembler finds it whatever the pieces are.
use Rattle.std.proofs.Common.{◌≡◌, ℕ, List, [], ◌∷◌, ◌++◌, length, take, drop, Err, refl, sym, ap}
use Rattle.std.proofs.Common.{ap₂, ◌∙◌, subst, append_assoc, append-nil, take-append-drop}
use Rattle.std.proofs.Math.Seq.{take-append_seam, drop-append_seam}
use Rattle.std.specs.List.{flat_map, concat}
use Rattle.bsc_carrier.specs.Record.{IsCarried, socket_record}
use Rattle.bsc_carrier.specs.Front.{stated_length, BeginsRecord, IsPartial, HasWrongLength}
use Rattle.bsc_carrier.specs.Assembler.{AssemblerValue, Fed}
use Rattle.bsc_carrier.specs.Stream.{Splits, Assembles, ended, goes_on, completes}
use Rattle.bsc_carrier.specs.declared.error.CarrierError.TheVariants.{Length}
use Rattle.bsc_carrier.proofs.Fronts.{stated_length_record, not_whole_and_partial}
use Rattle.bsc_carrier.proofs.Fronts.{not_whole_and_wrong, is_partial_nil, has_wrong_length_append}

-- The record that a stream begins with, and what follows it, are unique.
one_record : (a b x y : List ℕ) → IsCarried a → IsCarried b → socket_record a ++ x ≡ socket_record b
    ++ y → (a ≡ b) × (x ≡ y)
one_record a b x y carried_a carried_b same =
    let lengths : length a ≡ length b = sym (stated_length_record a x carried_a)
    ∙ ap stated_length same ∙ stated_length_record b y carried_b in
    let later : a ++ x ≡ b ++ y = ap (drop 2) same in (
      sym (take-append_seam a x) ∙ ap₂ take lengths later ∙ take-append_seam b y,
      sym (drop-append_seam a x) ∙ ap₂ drop lengths later ∙ drop-append_seam b y,
    )

record_begins_stream : (octets more rest : List ℕ) → IsCarried octets
    → BeginsRecord ((socket_record octets ++ more) ++ rest)
record_begins_stream octets more rest carried =
    (octets, more ++ rest, carried, append_assoc (socket_record octets) more rest)

pub one_splitting : (stream : List ℕ) (records others : List (List ℕ)) (rest other : List ℕ)
    → Splits stream records rest → Splits stream others other → (records ≡ others) × (rest ≡ other)
one_splitting stream [] [] rest other p q = (refl, sym p.whole ∙ q.whole)
one_splitting stream [] (b ∷ others) rest other p q =
    absurd
    (p.rest_begins_none (subst BeginsRecord (sym q.whole ∙ p.whole)
    (record_begins_stream b (flat_map socket_record others) other q.carried.0)))
one_splitting stream (a ∷ records) [] rest other p q =
    absurd
    (q.rest_begins_none (subst BeginsRecord (sym p.whole ∙ q.whole)
    (record_begins_stream a (flat_map socket_record records) rest p.carried.0)))
one_splitting stream (a ∷ records) (b ∷ others) rest other p q =
    let same = sym (append_assoc (socket_record a) (flat_map socket_record records) rest)
    ∙ sym p.whole ∙ q.whole ∙ append_assoc (socket_record b) (flat_map socket_record others)
    other in
    let one =
    one_record a b (flat_map socket_record records ++ rest)
    (flat_map socket_record others ++ other) p.carried.0 q.carried.0 same in
    let tails = one_splitting (flat_map socket_record records ++ rest) records others rest other
    (record { whole = refl; carried = p.carried.1; rest_begins_none = p.rest_begins_none })
    (record { whole = one.1; carried = q.carried.1; rest_begins_none = q.rest_begins_none }) in
    (ap₂ (λ x xs. x ∷ xs) one.0 tails.0, tails.1)

pub splits_when_fed : {old new : AssemblerValue} {pieces records : List (List ℕ)}
    → IsPartial old.begun → Assembles old pieces records new
    → Splits (old.begun ++ concat pieces) records new.begun × IsPartial new.begun
splits_when_fed {old = old} partial ended = (
  record {
    whole = append-nil old.begun;
    carried = tt;
    rest_begins_none =
        λ whole. not_whole_and_partial old.begun whole partial;
  },
  partial,
)
splits_when_fed {old = old} partial (goes_on {piece = piece} {pieces = pieces} taken fed more) =
    let (split, left) = splits_when_fed fed.1 more in
    let whole = sym (append_assoc old.begun piece (concat pieces))
    ∙ ap (λ l. l ++ concat pieces) (sym fed.2) ∙ split.whole in (
      record { whole = whole; carried = split.carried; rest_begins_none = split.rest_begins_none },
      left,
    )
splits_when_fed {old = old} {new = new} partial
    (completes {mid = mid} {piece = piece} {pieces = pieces} {records = records} taken fed more) =
    let none : IsPartial mid.begun = subst IsPartial (sym fed.3) is_partial_nil in
    let (split, left) = splits_when_fed none more in
    let record_of = socket_record mid.complete in
    let rest = drop taken piece ++ concat pieces in
    let later : rest ≡ flat_map socket_record records ++ new.begun = ap (λ l. l ++ rest) (sym fed.3)
    ∙ split.whole in
    let front : old.begun ++ piece ≡ record_of ++ drop taken piece =
    ap (λ l. old.begun ++ l) (sym (take-append-drop taken piece))
    ∙ sym (append_assoc old.begun (take taken piece) (drop taken piece))
    ∙ ap (λ l. l ++ drop taken piece) fed.2 in
    let whole = sym (append_assoc old.begun piece (concat pieces))
    ∙ ap (λ l. l ++ concat pieces) front
    ∙ append_assoc record_of (drop taken piece) (concat pieces)
    ∙ ap (λ l. record_of ++ l) later
    ∙ sym (append_assoc record_of (flat_map socket_record records) new.begun) in (
      record {
        whole = whole;
        carried = (fed.1, split.carried);
        rest_begins_none =
            split.rest_begins_none;
      },
      left,
    )

-- If `feed` returns `Length`, the stream has a wrong length after its records.
pub splits_when_wrong : (old mid new : AssemblerValue) (pieces records : List (List ℕ))
    (piece : List ℕ) → old.begun ≡ [] → Assembles old pieces records mid
    → Fed mid piece (Err Length) new → Splits (concat pieces ++ piece) records (mid.begun ++ piece)
    × HasWrongLength (mid.begun ++ piece)
splits_when_wrong old mid new pieces records piece none more fed =
    let split = (splits_when_fed (subst IsPartial (sym none) is_partial_nil) more).0 in
    let stream = mid.begun ++ piece in
    let wrong : HasWrongLength stream =
    subst HasWrongLength (take-append-drop 2 stream)
    (has_wrong_length_append (take 2 stream) (drop 2 stream)
    (subst HasWrongLength fed.1 fed.0)) in
    let front : concat pieces ≡ flat_map socket_record records ++ mid.begun =
    ap (λ l. l ++ concat pieces) (sym none) ∙ split.whole in
    let whole = ap (λ l. l ++ piece) front
    ∙ append_assoc (flat_map socket_record records) mid.begun piece in (
      record {
        whole = whole;
        carried = split.carried;
        rest_begins_none =
            λ begun. not_whole_and_wrong stream begun wrong;
      },
      wrong,
    )
