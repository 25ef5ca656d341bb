-- The lines that are obeyed are those of the client.
use Rattle.std.proofs.Common.{◌≡◌, ℕ, List, [], ◌∷◌, ◌++◌, take, Bool, true, false}
use Rattle.std.proofs.Common.{refl, sym, ap, ◌∙◌, subst, map, filter, append_assoc}
use Rattle.std.proofs.Common.{append-nil, ◌==◌, cond}
use Rattle.std.proofs.Math.Seq.{take-length}
use Rattle.std.proofs.lemmas.List.Elements.{All-nil}
use Rattle.std.specs.List.{flat_map}
use Rattle.std.specs.Prelude.{if◌then◌else◌}
use Rattle.bsc_carrier.proofs.Kept.{take_again}
use Rattle.bsc_text.specs.Reading.{HasNoFeed}
use Rattle.bsc_station.specs.declared.party.Party as party_of
use Rattle.bsc_feed.specs.declared.client.Client.{Client}
use Rattle.bsc_feed.specs.Answering.{Serving}
use Rattle.bsc_feed.specs.Clients.{IsNew, TakesUnless}
use Rattle.bsc_feed.specs.Lines.{AreLines, LinesValue, kept_of, with_feed}
use Rattle.bsc_feed.specs.Sessions.{Event, Session, ended, is_heeded, lines_in, moves, octets_in}
use Rattle.bsc_feed.specs.Sessions.{takes, tells, step_of, waiting_of}
use Rattle.bsc_feed.specs.Sessions.{line_of_event}
use Rattle.bsc_feed.proofs.Dividing.{no_feed_append}
use Rattle.bsc_feed.proofs.Steps.{steps_lines, waits_as}

-- a filtered list, by its first element
filter_first : (p : List ℕ → Bool) (x : List ℕ) (xs : List (List ℕ))
    → filter p (x ∷ xs) ≡ (if p x then x ∷ [] else []) ++ filter p xs
filter_first p x xs = by (p x) refl
  where
    by : (b : Bool) → p x ≡ b → filter p (x ∷ xs) ≡ (if p x then x ∷ [] else []) ++ filter p xs
    by true e =
        ap (λ (b : Bool). cond b (x ∷ filter p xs) (filter p xs)) e
        ∙ ap (λ (b : Bool). (if b then x ∷ [] else []) ++ filter p xs) (sym e)
    by false e =
        ap (λ (b : Bool). cond b (x ∷ filter p xs) (filter p xs)) e
        ∙ ap (λ (b : Bool). (if b then x ∷ [] else []) ++ filter p xs) (sym e)

-- what is said of a session that begins after a half line
pub record Obeys {S : Type 0} (half : List ℕ) (old : Client) (events : List (Event S))
    (new : Client) : Type 0 where
  pub lines : List (List ℕ)
  pub last : List ℕ
  pub divided : AreLines (half ++ octets_in events) lines last
  pub obeyed : waiting_of old ++ filter is_heeded (map kept_of lines)
      ≡ lines_in events ++ waiting_of new

-- the octets of a half line and of what follows
regroup : (half part rest last : List ℕ) (lines : List (List ℕ))
    → AreLines ((half ++ part) ++ rest) lines last → AreLines (half ++ (part ++ rest)) lines last
regroup half part rest last lines divided = record {
  whole = sym (append_assoc half part rest) ∙ divided.whole;
  feedless = divided.feedless;
  half_feedless = divided.half_feedless;
}

-- one more line before lines
one_line : (half part front rest last : List ℕ) (lines : List (List ℕ)) → HasNoFeed half
    → HasNoFeed part → front ≡ with_feed part → AreLines rest lines last
    → AreLines (half ++ (front ++ rest)) ((half ++ part) ∷ lines) last
one_line half part front rest last lines none feedless is divided = record {
  whole =
      ap (λ l. half ++ (l ++ rest)) is
      ∙ sym (append_assoc half (with_feed part) rest)
      ∙ ap (λ l. l ++ rest) (sym (append_assoc half part (10 ∷ [])))
      ∙ ap (λ l. with_feed (half ++ part) ++ l) divided.whole
      ∙ sym (append_assoc (with_feed (half ++ part)) (flat_map with_feed lines) last);
  feedless = (no_feed_append half part none feedless, divided.feedless);
  half_feedless = divided.half_feedless;
}

module _ {S M : Type 0} (party : party_of.Ghosts S M) (serves : Serving S) where
  -- what an intermediate session gives
  abbrev Later : Client → List (Event S) → Client → Type 0
  Later mid events new =
      (half : List ℕ) → HasNoFeed half → mid.lines.begun ≡ kept_of half → Obeys half mid events new

  taken : (waits : Bool) (octets : List ℕ) (count : ℕ) (old mid new : Client)
      (events : List (Event S)) → old.waits ≡ waits → TakesUnless waits old octets count mid
      → Later mid events new → (half : List ℕ) → HasNoFeed half → old.lines.begun ≡ kept_of half
      → (lines : List (List ℕ)) × (last : List ℕ)
      × AreLines (half ++ (take count octets ++ octets_in events)) lines last
      × (waiting_of old ++ filter is_heeded (map kept_of lines) ≡ lines_in events ++ waiting_of new)
  taken true octets count old mid new events e (zero, same) later half none begun =
      let rest = later half none (ap (λ (c : Client). c.lines.begun) same ∙ begun) in (
        rest.lines,
        rest.last,
        subst (λ (n : ℕ). AreLines (half ++ (take n octets ++ octets_in events)) rest.lines rest.last)
            (sym zero) rest.divided,
        ap (λ (c : Client). waiting_of c ++ filter is_heeded (map kept_of rest.lines)) (sym same)
            ∙ rest.obeyed,
      )
  taken false octets count old mid new events e (false, ((all, feedless, is), same)) later half none begun =
      let held : mid.lines.begun ≡ kept_of (half ++ octets) =
      ap (λ (v : LinesValue). v.begun) is ∙ ap (λ l. kept_of (l ++ octets)) begun
      ∙ take_again 513 half octets in
      let rest = later (half ++ octets) (no_feed_append half octets none feedless) held in
      let whole : take count octets ≡ octets = ap (λ n. take n octets) all ∙ take-length octets in
      let waiting : waiting_of mid ≡ waiting_of old =
      waits_as mid false (ap (λ (c : Client). c.waits) same) ∙ sym (waits_as old false e) in (
        rest.lines,
        rest.last,
        subst (λ (l : List ℕ). AreLines (half ++ (l ++ octets_in events)) rest.lines rest.last)
            (sym whole) (regroup half octets (octets_in events) rest.last rest.lines rest.divided),
        ap (λ l. l ++ filter is_heeded (map kept_of rest.lines)) (sym waiting) ∙ rest.obeyed,
      )
  taken false octets count old mid new events e (true, ((part, feedless, within, front, is), same)) later half none begun =
      let kept : mid.lines.ended ≡ kept_of (half ++ part) =
      ap (λ (v : LinesValue). v.ended) is ∙ ap (λ l. kept_of (l ++ part)) begun
      ∙ take_again 513 half part in
      let rest =
      later [] (All-nil (λ octet. (octet == 10) ≡ false)) (ap (λ (v : LinesValue). v.begun) is) in
      let others = filter is_heeded (map kept_of rest.lines) in
      let waiting : waiting_of mid ≡ (if is_heeded (kept_of (half ++ part)) then kept_of (half ++ part) ∷ [] else []) =
      waits_as mid (is_heeded mid.lines.ended) (ap (λ (c : Client). c.waits) same)
      ∙ ap (λ (l : List ℕ). if is_heeded l then l ∷ [] else []) kept in (
        (half ++ part) ∷ rest.lines,
        rest.last,
        one_line half part (take count octets) (octets_in events) rest.last rest.lines none feedless
            front rest.divided,
        ap (λ l. l ++ filter is_heeded (kept_of (half ++ part) ∷ map kept_of rest.lines))
            (waits_as old false e)
            ∙ filter_first is_heeded (kept_of (half ++ part)) (map kept_of rest.lines)
            ∙ ap (λ l. l ++ others) (sym waiting) ∙ rest.obeyed,
      )

  pub obeys : {old new : Client} {before after : S} {events : List (Event S)}
      → Session party serves old before events new after → Later old events new
  obeys {old = old} ended half none begun = record {
    lines = [];
    last = half;
    divided = record { whole = append-nil half; feedless = tt; half_feedless = none };
    obeyed = append-nil (waiting_of old);
  }
  obeys {old = old} {new = new} (takes {mid = mid} {events = events} octets count by rest) half none begun =
      let (lines, last, divided, obeyed) =
      taken old.waits octets count old mid new events refl by (obeys rest) half none begun in
      record { lines = lines; last = last; divided = divided; obeyed = obeyed }
  obeys {old = old} {new = new} {before = before}
      (tells {mid = mid} {between = between} {events = events} told nexts rest) half none begun =
      let step = steps_lines party serves old before told mid between nexts in
      let later = obeys rest half none (ap (λ (v : LinesValue). v.begun) step.lines ∙ begun) in
      let event : Event S = step_of old before told between in
      let others = filter is_heeded (map kept_of later.lines) in
      record {
        lines = later.lines;
        last = later.last;
        divided =
            subst (λ (l : List ℕ). AreLines (half ++ (l ++ octets_in events)) later.lines later.last)
            (sym step.octets) later.divided;
        obeyed =
            ap (λ l. l ++ others) (sym step.obeyed)
            ∙ append_assoc (line_of_event event) (waiting_of mid) others
            ∙ ap (λ l. line_of_event event ++ l) later.obeyed
            ∙ sym (append_assoc (line_of_event event) (lines_in events) (waiting_of new));
      }
  obeys (moves rest) half none begun =
      let later = obeys rest half none begun in
      record { lines = later.lines; last = later.last; divided = later.divided; obeyed = later.obeyed }

  -- a session from the start
  pub obeys_each_line : (old new : Client) (before after : S) (events : List (Event S))
      → IsNew old → Session party serves old before events new after
      → (lines : List (List ℕ)) × (half : List ℕ) × AreLines (octets_in events) lines half
      × (filter is_heeded (map kept_of lines) ≡ lines_in events ++ waiting_of new)
  obeys_each_line old new before after events starts session =
      let all = obeys session [] (All-nil (λ octet. (octet == 10) ≡ false)) starts.begun in (
        all.lines,
        all.last,
        all.divided,
        ap (λ l. l ++ filter is_heeded (map kept_of all.lines)) (sym (waits_as old false starts.waits))
            ∙ all.obeyed,
      )
