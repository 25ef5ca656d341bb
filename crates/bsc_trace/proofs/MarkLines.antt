-- The text of a mark is all of it, if it does not tell the addresses of a station.
use Rattle.std.proofs.Common.{◌≡◌, ◌≢◌, ℕ, List, Bool, true, false, codes, Option, Some, None, IfSome}
use Rattle.std.proofs.Common.{option_and_then, option_map, unwrap_or, if◌then◌else◌, bytes_eq, refl}
use Rattle.bsc_trace.specs.declared.ladder.row.Place.{Place}
use Rattle.bsc_trace.specs.declared.ladder.row.Place.TheVariants.{Station}
use Rattle.bsc_trace.specs.declared.ladder.row.Sign.TheVariants.{Named}
use Rattle.bsc_trace.specs.Marks.{MarkedValue, NumberedValue, after_this, answering_at, arrived_by}
use Rattle.bsc_trace.specs.Marks.{arrived_from, connection_in, named_or_answering}
use Rattle.bsc_trace.specs.Marks.{arrived_mark, arrived_to, control_mark, doubt_at, doubt_by}
use Rattle.bsc_trace.specs.Marks.{doubt_from, doubt_mark, doubt_sign, doubt_to, line_mark, mark_by}
use Rattle.bsc_trace.specs.Marks.{named_at, numbered_of, selects_in, sign_in}
use Rattle.bsc_trace.specs.Marks.{station_mark, terminal_mark, told_mark, trust_mark}
use Rattle.bsc_trace.specs.ReadBack.{TextsAreKept}
use Rattle.bsc_trace.specs.Words.{column_in}
use Rattle.bsc_text.specs.Words.{after_word, first_word}

abbrev pub Keeps : List ℕ → Option MarkedValue → Type 0
Keeps text o = IfSome o (λ m. m.mark.sign ≢ Named → m.text ≡ text)

and_then : {A : Type 0} (text : List ℕ) (f : A → Option MarkedValue) (o : Option A)
    → ((a : A) → Keeps text (f a)) → Keeps text (option_and_then f o)
and_then text f None h = tt
and_then text f (Some a) h = h a

mapped : {A : Type 0} (text : List ℕ) (f : A → MarkedValue) (o : Option A)
    → ((a : A) → (f a).mark.sign ≢ Named → (f a).text ≡ text) → Keeps text (option_map f o)
mapped text f None h = tt
mapped text f (Some a) h = h a

chosen : (text : List ℕ) (b : Bool) (x y : Option MarkedValue) → Keeps text x → Keeps text y
    → Keeps text (if b then x else y)
chosen text true x y p q = p
chosen text false x y p q = q

module _ (text : List ℕ) where
  named : (column : ℕ) (rest : List ℕ) → Keeps text (named_at column rest)
  named column rest = mapped text _ (selects_in rest) (λ selects other. absurd (other refl))

  answering : (rest : List ℕ) → Keeps text (answering_at text rest)
  answering rest =
      and_then text _ (connection_in rest)
      (λ number. mapped text _ (column_in number) (λ column other. refl))

  told_of : (n : NumberedValue) (o : Option (List ℕ)) → Keeps text (named_or_answering text n o)
  told_of n None = answering n.rest
  told_of n (Some addresses) = named n.column addresses

  station : (n : NumberedValue) → Keeps text (station_mark text n)
  station n =
      chosen text (bytes_eq n.rest (codes "began again")) _ _ (λ other. refl)
      (told_of n (after_this (codes "is") n.rest))

  terminal : (rest : List ℕ) → Keeps text (terminal_mark text rest)
  terminal rest = and_then text (station_mark text) (numbered_of 32 rest) station

  control : (rest : List ℕ) → Keeps text (control_mark text rest)
  control rest = chosen text (bytes_eq rest (codes "began again")) _ _ (λ other. refl) tt

  doubt : (place : Place) (rest : List ℕ) → Keeps text (doubt_at text place rest)
  doubt place rest = mapped text _ (doubt_sign rest) (λ sign other. refl)

  from_one : (rest : List ℕ) → Keeps text (doubt_from text rest)
  from_one rest =
      and_then text _ (numbered_of 32 rest) (λ n. doubt (Station n.column) n.rest)

  to_one : (rest : List ℕ) → Keeps text (doubt_to text rest)
  to_one rest =
      and_then text _ (numbered_of 46 rest)
      (λ n. and_then text _ (numbered_of 32 n.rest) (λ select. doubt _ select.rest))

  either_doubt : (word rest : List ℕ) → Keeps text (doubt_by text word rest)
  either_doubt word rest =
      chosen text (bytes_eq word (codes "from")) _ _ (from_one rest)
      (chosen text (bytes_eq word (codes "to")) _ _ (to_one rest) tt)

  doubted : (rest : List ℕ) → Keeps text (doubt_mark text rest)
  doubted rest =
      and_then text (doubt_by text (first_word rest)) (after_word rest)
      (either_doubt (first_word rest))

  line : (rest : List ℕ) → Keeps text (line_mark text rest)
  line rest =
      chosen text (bytes_eq rest (codes "line is no longer trusted")) _ _ (λ other. refl)
      (and_then text (doubt_mark text) (after_this (codes "doubt") rest) doubted)

  from_station : (rest : List ℕ) → Keeps text (arrived_from text rest)
  from_station rest = mapped text _ (numbered_of 58 rest) (λ n other. refl)

  to_station : (rest : List ℕ) → Keeps text (arrived_to text rest)
  to_station rest =
      and_then text _ (numbered_of 46 rest)
      (λ n. mapped text _ (numbered_of 58 n.rest) (λ select other. refl))

  either_arrived : (word rest : List ℕ) → Keeps text (arrived_by text word rest)
  either_arrived word rest =
      chosen text (bytes_eq word (codes "from")) _ _ (from_station rest)
      (chosen text (bytes_eq word (codes "to")) _ _ (to_station rest) tt)

  arrived : (rest : List ℕ) → Keeps text (arrived_mark text rest)
  arrived rest =
      and_then text (arrived_by text (first_word rest)) (after_word rest)
      (either_arrived (first_word rest))

  trust : (rest : List ℕ) → Keeps text (trust_mark text rest)
  trust rest =
      chosen text (bytes_eq (first_word rest) (codes "trusted:")) _ _ (λ other. refl) tt

  by_first : (word rest : List ℕ) → Keeps text (mark_by text word rest)
  by_first word rest =
      chosen text (bytes_eq word (codes "terminal")) _ _ (terminal rest)
      (chosen text (bytes_eq word (codes "control")) _ _ (control rest)
      (chosen text (bytes_eq word (codes "the")) _ _ (line rest)
      (chosen text (bytes_eq word (codes "arrived")) _ _ (arrived rest)
      (chosen text (bytes_eq word (codes "not")) _ _ (trust rest) tt))))

  signed : Keeps text (sign_in text)
  signed =
      and_then text (mark_by text (first_word text)) (after_word text) (by_first (first_word text))

  otherwise_told : (o : Option MarkedValue) → Keeps text o
      → (unwrap_or o (told_mark text)).mark.sign ≢ Named
      → (unwrap_or o (told_mark text)).text ≡ text
  otherwise_told None h other = refl
  otherwise_told (Some m) h other = h other

pub texts_are_kept : TextsAreKept
texts_are_kept text = otherwise_told text (sign_in text) (signed text)
