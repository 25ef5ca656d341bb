-- What arrives in the octets that a connection gives, under either framing.
use Rattle.std.proofs.Common.{◌≡◌, ◌≢◌, ℕ, Bool, true, false, List, [], ◌∷◌, ◌++◌, length, take}
use Rattle.std.proofs.Common.{Option, None, Some, inl, inr, not, Result, Ok, refl, sym, ◌∙◌, ap, ap₂, subst, append_assoc, append-nil}
use Rattle.std.proofs.Common.{arith}
use Rattle.std.proofs.lemmas.List.{take_all, map-append}
use Rattle.std.proofs.lemmas.List.Folds.{concat-append}
use Rattle.std.proofs.lemmas.List.Concat.{flat_map-append}
use Rattle.std.specs.List.{concat, flat_map}
use Rattle.bsc_carrier.specs.Assembler.{Fed}
use Rattle.bsc_carrier.specs.Front.{BeginsRecord}
use Rattle.bsc_carrier.specs.Record.{IsCarried, socket_record}
use Rattle.bsc_carrier.specs.declared.error.CarrierError.{CarrierError}
use Rattle.bsc_carrier.specs.declared.error.CarrierError.TheVariants.{Device}
use Rattle.bsc_carrier.specs.declared.fault.DeviceFault.{DeviceFault}
use Rattle.bsc_carrier.proofs.Fronts.{not_whole_and_partial, is_partial_nil}
use Rattle.bsc_connections.specs.declared.socket_records.SocketRecords.{SocketRecords}
use Rattle.bsc_connections.specs.declared.limits.TheConstants.{KEPT}
use Rattle.bsc_connections.specs.Framings.{GapsValue, Gathers, EndsAtGap, is_empty}
use Rattle.bsc_connections.specs.Parts.{connection_parts}
use Rattle.bsc_connections.specs.Connections.{Input, ReadsNoMore, untold_taken}
use Rattle.bsc_connections.specs.declared.connection.Taken.{Taken}
use Rattle.bsc_connections.specs.declared.connection.Taken.TheVariants.{Closed, Nothing}
use Rattle.bsc_connections.specs.Streams.{begun_of, GivesRecords, GivesByGaps, LosesNothing}
use Rattle.bsc_connections.specs.declared.framing.Framing as framing_of
use Rattle.std.specs.declared.io.Read as read
use Rattle.std.specs.declared.io.Write as write
use Rattle.bsc_carrier.proofs.Kept.{take_again}
use Rattle.bsc_connections.proofs.Sessions.{Fits}
use Rattle.bsc_frame.proofs.Elements.{all_append}

-- The framing of socket records: what a feed does, what a gap does, and the last transmission.
abbrev pub record_feeds : SocketRecords → List ℕ → Result (ℕ × Bool) CarrierError → SocketRecords
    → Type 0
record_feeds old piece result new = Fed old.assembler piece result new.assembler

abbrev pub record_ends : SocketRecords → Bool → SocketRecords → Type 0
record_ends old does_end new = (does_end ≡ false) × (new ≡ old)

abbrev pub record_last : SocketRecords → List ℕ
record_last records = records.assembler.complete

records_nothing : (f : SocketRecords) → GivesRecords f [] [] f
records_nothing f = record { records = append-nil (begun_of f); carried = tt; rest = λ none. none }

records_both : (a b c : SocketRecords) (g k : List ℕ) (h t : List (List ℕ))
    → GivesRecords a g h b → GivesRecords b k t c → GivesRecords a (g ++ k) (h ++ t) c
records_both a b c g k h t p q = record {
  records = sym (append_assoc (begun_of a) g k)
      ∙ ap (λ (l : List ℕ). l ++ k) p.records
      ∙ append_assoc (flat_map socket_record h) (begun_of b) k
      ∙ ap (λ (l : List ℕ). flat_map socket_record h ++ l) q.records
      ∙ sym (append_assoc (flat_map socket_record h) (flat_map socket_record t) (begun_of c))
      ∙ ap (λ (l : List ℕ). l ++ begun_of c) (sym (flat_map-append socket_record h t));
  carried = all_append IsCarried h t p.carried q.carried;
  rest = λ none. q.rest (p.rest none);
}

records_part : (a b : SocketRecords) (piece : List ℕ)
    → record_feeds a piece (Ok (length piece, false)) b → GivesRecords a piece [] b
records_part a b piece fed = record {
  records = sym fed.2;
  carried = tt;
  rest = λ none whole. not_whole_and_partial (begun_of b) whole fed.1;
}

records_whole : (a b : SocketRecords) (piece : List ℕ)
    → record_feeds a piece (Ok (length piece, true)) b → GivesRecords a piece (record_last b ∷ []) b
records_whole a b piece fed =
    let none_begun : begun_of b ≡ [] = fed.3 in
    let complete : List ℕ = record_last b in
    let all : begun_of a ++ piece ≡ socket_record complete =
    ap (λ (l : List ℕ). begun_of a ++ l) (sym (take_all (length piece) piece (omega arith)))
    ∙ fed.2 in
    record {
      records = all
          ∙ sym (append-nil (socket_record complete))
          ∙ sym (append-nil (socket_record complete ++ []))
          ∙ ap (λ (l : List ℕ). (socket_record complete ++ []) ++ l) (sym none_begun);
      carried = (fed.1, tt);
      rest =
          λ none whole. not_whole_and_partial [] (subst BeginsRecord none_begun whole)
          is_partial_nil;
    }

records_gap : (a b : SocketRecords) → record_ends a true b
    → GivesRecords a [] (record_last b ∷ []) b
records_gap a b (ends, same) = let clash : true ≡ false = ends in absurd cc

pub records_fit : Fits record_feeds record_ends record_last GivesRecords
records_fit = record {
  nothing = records_nothing;
  both = records_both;
  part = records_part;
  whole = records_whole;
  gap = records_gap;
}

-- ---- gaps

gaps_nothing : (f : GapsValue) → GivesByGaps f [] [] f
gaps_nothing f = λ sooner begun. record {
  between = [];
  later = sooner;
  whole = append-nil sooner;
  some = tt;
  first = refl;
  kept_of = begun;
}

gaps_both : (a b c : GapsValue) (g k : List ℕ) (h t : List (List ℕ)) → GivesByGaps a g h b
    → GivesByGaps b k t c → GivesByGaps a (g ++ k) (h ++ t) c
gaps_both a b c g k h t p q = λ sooner begun.
    let front = p sooner begun in
    let back = q front.later front.kept_of in
    record {
      between = front.between ++ back.between;
      later = back.later;
      whole = sym (append_assoc sooner g k)
          ∙ ap (λ (l : List ℕ). l ++ k) front.whole
          ∙ append_assoc (concat front.between) front.later k
          ∙ ap (λ (l : List ℕ). concat front.between ++ l) back.whole
          ∙ sym (append_assoc (concat front.between) (concat back.between) back.later)
          ∙ ap (λ (l : List ℕ). l ++ back.later) (sym (concat-append front.between back.between));
      some = all_append (λ octets. octets ≢ []) front.between back.between front.some back.some;
      first = ap₂ (λ (x y : List (List ℕ)). x ++ y) front.first back.first
          ∙ sym (map-append (take KEPT) front.between back.between);
      kept_of = back.kept_of;
    }

gaps_part : (a b : GapsValue) (piece : List ℕ) → Gathers a piece (Ok (length piece, false)) b
    → GivesByGaps a piece [] b
gaps_part a b piece fed = λ sooner begun. record {
  between = [];
  later = sooner ++ piece;
  whole = refl;
  some = tt;
  first = refl;
  kept_of = ap (λ (v : GapsValue). v.begun) fed.3
      ∙ ap (λ (front : List ℕ). take KEPT (front ++ piece)) begun ∙ take_again KEPT sooner piece;
}

gaps_whole : (a b : GapsValue) (piece : List ℕ) → Gathers a piece (Ok (length piece, true)) b
    → GivesByGaps a piece (b.complete ∷ []) b
gaps_whole a b piece fed = let clash : true ≡ false = fed.1 in absurd cc

gaps_gap : (a b : GapsValue) → EndsAtGap a true b → GivesByGaps a [] (b.complete ∷ []) b
gaps_gap a b (some, is) = λ sooner begun. record {
  between = sooner ∷ [];
  later = [];
  whole = sym (append-nil (sooner ++ []));
  some = (λ none. some (begun ∙ ap (take KEPT) none), tt);
  first = ap (λ (v : GapsValue). v.complete ∷ []) is ∙ ap (λ (l : List ℕ). l ∷ []) begun;
  kept_of = ap (λ (v : GapsValue). v.begun) is;
}

pub gaps_fit : Fits Gathers EndsAtGap (λ (gaps : GapsValue). gaps.complete) GivesByGaps
gaps_fit = record {
  nothing = gaps_nothing;
  both = gaps_both;
  part = gaps_part;
  whole = gaps_whole;
  gap = gaps_gap;
}

-- ---- the end of the input

nothing_begun : (begun : List ℕ) → not (is_empty begun) ≡ false → begun ≡ []
nothing_begun [] none = refl
nothing_begun (x ∷ begun) none = let clash : true ≡ false = none in absurd cc

module _ {R W : Type 0} (reader : read.Ghosts R) (writer : write.Ghosts W)
    (framing : framing_of.Ghosts GapsValue)
    (awaits : (gaps : GapsValue) → framing.awaits gaps ≡ not (is_empty gaps.begun)) where
  nothing_begun_at_end : (old new : Input R GapsValue)
      → ReadsNoMore reader framing None old new → old.framing.begun ≡ []
  nothing_begun_at_end old new (inl end) =
      nothing_begun old.framing.begun (sym (awaits old.framing) ∙ end.ended.0)
  nothing_begun_at_end old new (inr (inl refused)) =
      let clash : ◌≡◌ {A = Option CarrierError} None (Some refused.error) = refused.why_is in
      absurd cc
  nothing_begun_at_end old new (inr (inr device)) = absurd device

  -- A failed write that is told has a fault.
  untold_has_a_fault : {P : Type 0} (untold : Option DeviceFault)
      → Closed None ≡ untold_taken untold → P
  untold_has_a_fault None is =
      let clash : ◌≡◌ {A = Taken} (Closed None) Nothing = is in absurd cc
  untold_has_a_fault (Some why) is =
      let clash : ◌≡◌ {A = Taken} (Closed None) (Closed (Some (Device why))) = is in absurd cc

  pub loses_nothing : LosesNothing (connection_parts reader writer framing)
  loses_nothing old new (inl closed) = untold_has_a_fault old.untold closed.tells
  loses_nothing old new (inr c) =
      nothing_begun_at_end (record { reader = c.before; framing = old.framing })
      (record { reader = c.after; framing = new.framing }) c.reads
