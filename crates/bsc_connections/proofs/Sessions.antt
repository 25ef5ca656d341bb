-- What the streams of a connection carry, step by step.
use Rattle.std.proofs.Common.{◌≡◌, ◌≢◌, ℕ, Bool, true, false, List, [], ◌∷◌, ◌++◌, length}
use Rattle.std.proofs.Common.{slice_get, slice_set, Option, None, Some, Result, Ok, Err, ◌⊎◌, inl, inr}
use Rattle.std.proofs.Common.{refl, sym, ◌∙◌, ap, subst, append_assoc, append-nil, nat_eq}
use Rattle.std.proofs.KnownBytes.{Consumes-nil, Appends-nil, Consumes-trans, Appends-trans}
use Rattle.std.proofs.lemmas.Bool.{eqb-false}
use Rattle.std.proofs.lemmas.List.Concat.{flat_map-append}
use Rattle.std.specs.List.{flat_map}
use Rattle.std.specs.declared.net.socket_addr.SocketAddr.{SocketAddr}
use Rattle.std.specs.Io.KnownBytes.{Appends, Consumes, Keeps}
use Rattle.bsc_frame.specs.declared.message.Message.{Message}
use Rattle.bsc_frame.specs.Wire.{wire}
use Rattle.bsc_carrier.specs.declared.error.CarrierError.{CarrierError}
use Rattle.bsc_connections.specs.declared.awaited.Awaited.{Awaited}
use Rattle.bsc_connections.specs.declared.awaited.Awaited.TheVariants.{Octets, Newcomer, Gap}
use Rattle.bsc_connections.specs.declared.awaited.Awaited.TheVariants.{NotAccepted, NotAllowed}
use Rattle.bsc_connections.specs.declared.awaited.Awaited.TheVariants.{TimeOut, Stopped, Client}
use Rattle.bsc_connections.specs.declared.awaited.Waiter as waiter_of
use Rattle.bsc_connections.specs.declared.awaited.LiveError.{LiveError}
use Rattle.bsc_connections.specs.declared.awaited.Pace.{Pace}
use Rattle.bsc_connections.specs.declared.connection.Taken.{Taken}
use Rattle.bsc_connections.specs.declared.connection.Taken.TheVariants.{Nothing, Interrupted, Part}
use Rattle.bsc_connections.specs.declared.connection.Taken.TheVariants.{Whole}
use Rattle.bsc_connections.specs.declared.connection.Taken.TheVariants.{Closed}
use Rattle.bsc_bid.specs.declared.station.Station as station_of
use Rattle.bsc_connections.specs.Parts.{ConnectionParts, SessionParts}
use Rattle.bsc_connections.specs.Connections.{ConnectionValue, Takes, TakesOpen, Sends}
use Rattle.bsc_connections.specs.Histories.{Happening, WasHeard, WasSilent, HasJoined}
use Rattle.bsc_connections.specs.Histories.{HasClosed, WasRefused, WasIgnored, WasStopped}
use Rattle.bsc_connections.specs.Histories.{sent_where_some}
use Rattle.bsc_connections.specs.Histories.{if_same_place, arrived_in, arrived_at, sent_in, all_sent, IsNoJoining}
use Rattle.bsc_connections.specs.Histories.{NobodyJoins}
use Rattle.bsc_connections.specs.Attending.{SendsAll, IsTakenAt, ReadsAt, GapPasses, JoinsAs}
use Rattle.bsc_connections.specs.Attending.{Joins, Does, ended, goes_on, fails, fails_to_wait}
use Rattle.bsc_connections.specs.Attending.{awaits_gap, Answers, Around, Session, HearsIfAdmitted}
use Rattle.bsc_connections.specs.Attending.{is_open_at}
use Rattle.bsc_connections.specs.declared.monitor.Refusal.{Refusal}
use Rattle.bsc_connections.specs.declared.monitor.Refusal.TheVariants as refusal
use Rattle.bsc_connections.specs.Streams.{Carries, CarriedAt, CarriesFromStart, CarriesSinceJoining}
use Rattle.bsc_connections.specs.Streams.{CarriesHistory, carried_at}
use Rattle.bsc_connections.proofs.OnePlace.{other_place_unchanged, changed_place_has_new}
use Rattle.bsc_connections.proofs.OnePlace.{related_at_place, same_or_other_place}
use Rattle.bsc_connections.proofs.OnePlace.{arrived_at_same_place}
use Rattle.bsc_connections.proofs.OnePlace.{nothing_arrived_at_other_place}
use Rattle.bsc_carrier.specs.Cable.{ChangesAt}
use Rattle.bsc_frame.proofs.Elements.{all_append}

-- What arrives in the octets that are given fits what a framing does with them.
pub record Fits {F : Type 0} (feeds : F → List ℕ → Result (ℕ × Bool) CarrierError → F → Type 0)
    (ends : F → Bool → F → Type 0) (last : F → List ℕ)
    (gives : F → List ℕ → List (List ℕ) → F → Type 0) : Type 0 where
  pub nothing : (f : F) → gives f [] [] f
  pub both : (a b c : F) (g k : List ℕ) (h t : List (List ℕ)) → gives a g h b → gives b k t c
      → gives a (g ++ k) (h ++ t) c
  pub part : (a b : F) (piece : List ℕ) → feeds a piece (Ok (length piece, false)) b
      → gives a piece [] b
  pub whole : (a b : F) (piece : List ℕ) → feeds a piece (Ok (length piece, true)) b
      → gives a piece (last b ∷ []) b
  pub gap : (a b : F) → ends a true b → gives a [] (last b ∷ []) b

-- A peer joined at this place, and nothing else happened.
record HasJoinedAt (place : ℕ) (happened : List Happening) : Type 0 where
  pub peer : Option SocketAddr
  pub replaces : Bool
  pub is : happened ≡ HasJoined place peer replaces ∷ []

module _ {R W F : Type 0} (parts : ConnectionParts R W F)
    (gives : F → List ℕ → List (List ℕ) → F → Type 0)
    (fits : Fits parts.framing.feeds parts.framing.ends parts.framing.last gives) where
  abbrev C : Type 0
  C = ConnectionValue R W F

  abbrev Conveys : List (List ℕ) → List (List ℕ) → C → C → Type 0
  Conveys arrived sent old new = Carries parts gives (record { arrived = arrived; sent = sent }) old new

  abbrev Came : ℕ → List (List ℕ) → List (List ℕ) → List C → C → Type 0
  Came place arrived sent before now =
      CarriedAt parts gives place (record { arrived = arrived; sent = sent }) before now

  abbrev last : F → List ℕ
  last framing = parts.framing.last framing

  abbrev framed : List ℕ → List ℕ
  framed octets = parts.framing.framed octets

  abbrev remaining : R → Option (List ℕ)
  remaining reader = parts.reader.remaining reader

  abbrev contents : W → Option (List ℕ)
  contents writer = parts.writer.contents writer

  -- ---- one connection

  same_directions_of_same_ends : (r s : R) (w v : W) → ◌≡◌ {A = Option (R × W)} (Some (r, w)) (Some
      (s, v)) → (r ≡ s)
      × (w ≡ v)
  same_directions_of_same_ends r s w v is = (
    ap (λ (o : Option (R × W)). elim o [ None ↦ r | Some both ↦ both.0 ]) is,
    ap (λ (o : Option (R × W)). elim o [ None ↦ w | Some both ↦ both.1 ]) is,
  )

  directions_of_open_connection : (o : Option (R × W)) → o ≢ None
      → (r : R) × (w : W) × (o ≡ Some (r, w))
  directions_of_open_connection None is_up = absurd (is_up refl)
  directions_of_open_connection (Some (r, w)) is_up = (r, w, refl)

  carries_nothing : (c : C) → c.ends ≢ None → Conveys [] [] c c
  carries_nothing c is_up =
      let (r, w, is) = directions_of_open_connection c.ends is_up in
      record {
        reader_before = r;
        reader_now = r;
        writer_before = w;
        writer_now = w;
        was_open = is;
        is_open = is;
        given = [];
        read = Consumes-nil (remaining r);
        arrivals = fits.nothing c.framing;
        written = Appends-nil (contents w);
      }

  carries_in_turn : (h s k t : List (List ℕ)) (a b c : C) → Conveys h s a b → Conveys k t b c
      → Conveys (h ++ k) (s ++ t) a c
  carries_in_turn h s k t a b c p q =
      let (reader, writer) =
      same_directions_of_same_ends p.reader_now q.reader_before p.writer_now q.writer_before
      (sym p.is_open ∙ q.was_open) in
      let read : Consumes (remaining p.reader_now) (remaining q.reader_now) q.given =
      subst (λ (r : R). Consumes (remaining r) (remaining q.reader_now) q.given) (sym reader)
      q.read in
      let written : Appends (contents p.writer_now) (contents q.writer_now) (flat_map framed t) =
      subst (λ (w : W). Appends (contents w) (contents q.writer_now) (flat_map framed t))
      (sym writer) q.written in
      record {
        reader_before = p.reader_before;
        reader_now = q.reader_now;
        writer_before = p.writer_before;
        writer_now = q.writer_now;
        was_open = p.was_open;
        is_open = q.is_open;
        given = p.given ++ q.given;
        read =
            Consumes-trans (remaining p.reader_before) (remaining p.reader_now)
            (remaining q.reader_now) p.given q.given p.read read;
        arrivals =
            fits.both a.framing b.framing c.framing p.given q.given h k p.arrivals q.arrivals;
        written =
            subst (λ (l : List ℕ). Appends (contents p.writer_before) (contents q.writer_now) l)
            (sym (flat_map-append framed s t))
            (Appends-trans (contents p.writer_before) (contents p.writer_now)
            (contents q.writer_now) (flat_map framed s) (flat_map framed t) p.written written);
      }

  gives_same : (a b : F) → b ≡ a → gives a [] [] b
  gives_same a b same = subst (λ (f : F). gives a [] [] f) (sym same) (fits.nothing a)

  -- A transmission that is sent.
  carries_sent : (octets : List ℕ) (a b : C) → b.ends ≢ None → Sends parts octets a b
      → Conveys [] (octets ∷ []) a b
  carries_sent octets a b is_up (inl (closed, same)) =
      absurd (is_up (ap (λ (c : C). c.ends) same ∙ closed))
  carries_sent octets a b is_up (inr (inr (why, same))) =
      absurd (is_up (ap (λ (c : C). c.ends) same))
  carries_sent octets a b is_up (inr (inl w)) =
      record {
        reader_before = w.reader;
        reader_now = w.reader;
        writer_before = w.before;
        writer_now = w.after;
        was_open = w.was_open;
        is_open = w.stays_open;
        given = [];
        read = Consumes-nil (remaining w.reader);
        arrivals = gives_same a.framing b.framing w.held;
        written =
            subst (λ (l : List ℕ). Appends (contents w.before) (contents w.after) l)
            (sym (append-nil (framed octets))) w.written;
      }

  -- A transmission that a gap ends.
  carries_gap : (a b : C) → b.ends ≢ None → b.ends ≡ a.ends
      → parts.framing.ends a.framing true b.framing → Conveys (last b.framing ∷ []) [] a b
  carries_gap a b is_up same ends_it =
      let (r, w, is) = directions_of_open_connection b.ends is_up in
      record {
        reader_before = r;
        reader_now = r;
        writer_before = w;
        writer_now = w;
        was_open = sym same ∙ is;
        is_open = is;
        given = [];
        read = Consumes-nil (remaining r);
        arrivals = fits.gap a.framing b.framing ends_it;
        written = Appends-nil (contents w);
      }

  -- ---- one read

  Consumes-kept_nil : (a b : Option (List ℕ)) → Keeps a b → Consumes a b []
  Consumes-kept_nil None b kept = tt
  Consumes-kept_nil (Some x) None kept = absurd kept
  Consumes-kept_nil (Some x) (Some y) kept = sym kept

  carries_given_of_read : (taken : Taken) (a b : C) (t : TakesOpen parts taken a b)
      (given : List ℕ) (arrived : List (List ℕ))
      → Consumes (remaining t.before) (remaining t.after) given
      → gives a.framing given arrived b.framing → Conveys arrived [] a b
  carries_given_of_read taken a b t given arrived read arrivals =
      record {
        reader_before = t.before;
        reader_now = t.after;
        writer_before = t.writer;
        writer_now = t.writer;
        was_open = t.was_open;
        is_open = t.stays_open;
        given = given;
        read = read;
        arrivals = arrivals;
        written = Appends-nil (contents t.writer);
      }

  -- What a read with this result adds to what arrived.
  abbrev arrived_by : Taken → C → List (List ℕ)
  arrived_by Whole c = last c.framing ∷ []
  arrived_by _ c = []

  carries_read : (taken : Taken) (a b : C) → b.ends ≢ None → Takes parts a taken b
      → Conveys (arrived_by taken b) [] a b
  carries_read Nothing a b is_up (inl closed) =
      absurd (is_up (ap (λ (c : C). c.ends) closed.told ∙ closed.was_closed))
  carries_read Nothing a b is_up (inr t) =
      carries_given_of_read Nothing a b t [] []
      (Consumes-kept_nil (remaining t.before) (remaining t.after) t.reads.0)
      (gives_same a.framing b.framing t.reads.1)
  carries_read Interrupted a b is_up t =
      carries_given_of_read Interrupted a b t [] []
      (Consumes-kept_nil (remaining t.before) (remaining t.after) t.reads.0)
      (gives_same a.framing b.framing t.reads.1)
  carries_read (Closed why) a b is_up (inl closed) =
      absurd (is_up (ap (λ (c : C). c.ends) closed.told ∙ closed.was_closed))
  carries_read (Closed why) a b is_up (inr closes) = absurd (is_up closes.is_closed)
  carries_read Part a b is_up t =
      let (piece, read, fed) = t.reads in
      carries_given_of_read Part a b t piece [] read (fits.part a.framing b.framing piece fed)
  carries_read Whole a b is_up t =
      elim t.reads [
        | inl (piece, read, fed) ↦
            carries_given_of_read Whole a b t piece (last b.framing ∷ []) read
            (fits.whole a.framing b.framing piece fed)
        | inr end ↦
            carries_given_of_read Whole a b t [] (last b.framing ∷ []) end.none
            (fits.gap a.framing b.framing end.ended)
      ]

  was_open_if_carried : (arrived sent : List (List ℕ)) (a b : C) → Conveys arrived sent a b
      → a.ends ≢ None
  was_open_if_carried arrived sent a b p none =
      let clash : ◌≡◌ {A = Option (R × W)} (Some (p.reader_before, p.writer_before)) None =
      sym p.was_open ∙ none in absurd cc

  -- ---- the connection at one place

  came_nothing_if_unchanged : (place : ℕ) (before after : List C) (b : C) → after ≡ before
      → slice_get after place
      ≡ Some b → b.ends ≢ None → Came place [] [] before b
  came_nothing_if_unchanged place before after b same is is_up =
      (b, subst (λ (cs : List C). slice_get cs place ≡ Some b) same is, carries_nothing b is_up)

  came_in_turn : (place : ℕ) (h s k t : List (List ℕ)) (before between : List C) (b : C)
      → ((m : C) → slice_get between place ≡ Some m → m.ends ≢ None → Came place h s before m)
      → Came place k t between b → Came place (h ++ k) (s ++ t) before b
  came_in_turn place h s k t before between b first (m, at, later) =
      let (a, was, sooner) = first m at (was_open_if_carried k t m b later) in
      (a, was, carries_in_turn h s k t a m b sooner later)

  place_after_change : (at place : ℕ) (P : C → C → Type 0) (before after : List C) (b : C)
      → ChangesAt at P before after → slice_get after place ≡ Some b
      → ((at ≡ place) × ((a : C) × (slice_get before place ≡ Some a) × P a b))
      ⊎ ((nat_eq at place ≡ false) × (slice_get before place ≡ Some b))
  place_after_change at place P before after b (x, y, was, new, changed) is =
      let put : slice_get (slice_set before at y) place ≡ Some b =
      subst (λ (cs : List C). slice_get cs place ≡ Some b) new is in
      elim (same_or_other_place at place) [
        | inl same ↦
            inl (
              same,
              (
                x,
                subst (λ (n : ℕ). slice_get before n ≡ Some x) same was,
                subst (λ (c : C). P x c) (changed_place_has_new before at place y b same put)
                    changed,
              ),
            )
        | inr other ↦ inr (
          other,
          other_place_unchanged before at place y b (eqb-false at place
              other) put,
        )
      ]

  came_sent : (in_time : Bool) (due : Option Message) (place : ℕ) (before after : List C) (b : C)
      → SendsAll parts in_time due before after → slice_get after place ≡ Some b → b.ends ≢ None
      → Came place (arrived_at place (sent_where_some in_time due))
      (all_sent (sent_where_some in_time due)) before b
  came_sent in_time None place before after b same is is_up =
      came_nothing_if_unchanged place before after b same is is_up
  came_sent false (Some m) place before after b same is is_up =
      came_nothing_if_unchanged place before after b same is is_up
  came_sent true (Some m) place before after b all is is_up =
      let (a, was, sends) =
      related_at_place (Sends parts (wire m)) before after place b all is in
      (a, was, carries_sent (wire m) a b is_up sends)

  -- A read that ends no transmission.
  came_nothing_by_part : (taken : Taken) → ((c : C) → arrived_by taken c ≡ [])
      → (at place : ℕ) (before after : List C) (b : C)
      → IsTakenAt parts at before taken after
      → slice_get after place ≡ Some b → b.ends ≢ None → Came place [] [] before b
  came_nothing_by_part taken quiet at place before after b (inr (nowhere, nothing, same)) is is_up =
      came_nothing_if_unchanged place before after b same is is_up
  came_nothing_by_part taken quiet at place before after b (inl changes) is is_up =
      elim
      (place_after_change at place (λ b a. Takes parts b taken a) before after b changes is) [
        | inl (same, (a, was, takes)) ↦ (
          a,
          was,
          subst (λ (h : List (List ℕ)). Conveys h [] a b) (quiet b)
              (carries_read taken a b is_up takes),
        )
        | inr (other, was) ↦ (b, was, carries_nothing b is_up)
      ]

  -- A change at one place that ends a transmission.
  came_by_change : (at place : ℕ) (P : C → C → Type 0)
      → ((x y : C) → y.ends ≢ None → P x y → Conveys (last y.framing ∷ []) [] x y)
      → (before after : List C) (heard b : C)
      → ChangesAt at P before after → slice_get after at ≡ Some heard → slice_get after place
      ≡ Some b → b.ends ≢ None
      → Came place (if_same_place place at (last heard.framing)) [] before b
  came_by_change at place P conveys before after heard b changes there is is_up =
      elim (place_after_change at place P before after b changes is) [
        | inl (same, (a, was, changed)) ↦
            let one : Some heard ≡ Some b = sym there ∙ ap (λ (n : ℕ). slice_get after n) same
            ∙ is in
            let it : heard ≡ b = ap (λ (o : Option C). elim o [ None ↦ b | Some c ↦ c ]) one in
            let list : last b.framing ∷ [] ≡ if_same_place place at (last heard.framing) =
            ap (λ (c : C). last c.framing ∷ []) (sym it)
            ∙ sym (arrived_at_same_place at place (last heard.framing) same) in (
              a,
              was,
              subst (λ (h : List (List ℕ)). Conveys h [] a b) list
                  (conveys a b is_up changed),
            )
        | inr (other, was) ↦ (
          b,
          was,
          subst (λ (h : List (List ℕ)). Conveys h [] b b)
              (sym (nothing_arrived_at_other_place at place (last heard.framing) other))
              (carries_nothing b is_up),
        )
      ]

  -- A read that ends a transmission.
  came_by_whole_read : (at place : ℕ) (before after : List C) (heard b : C)
      → IsTakenAt parts at before Whole after
      → slice_get after at ≡ Some heard → slice_get after place ≡ Some b → b.ends ≢ None
      → Came place (if_same_place place at (last heard.framing)) [] before b
  came_by_whole_read at place before after heard b (inr (nowhere, nothing, same)) there is is_up =
      let clash : Whole ≡ Nothing = nothing in absurd cc
  came_by_whole_read at place before after heard b (inl changes) there is is_up =
      came_by_change at place (λ b a. Takes parts b Whole a)
      (λ x y y_up takes. carries_read Whole x y y_up takes) before after heard b changes there
      is is_up

  -- What was carried for a history was carried for an equal one.
  came_for_equal_history : (place : ℕ) (before : List C) (b : C) (happened told : List Happening)
      → happened ≡ told
      → Came place (arrived_at place told) (all_sent told) before b
      → Came place (arrived_at place happened) (all_sent happened) before b
  came_for_equal_history place before b happened told is came =
      subst (λ (hs : List Happening). Came place (arrived_at place hs) (all_sent hs) before b)
      (sym is) came

  -- ---- one step after another
  module _ {S M T : Type 0} (station : station_of.Ghosts S)
      (is_told : M → S → Happening → Result Bool LiveError → M → Type 0)
      (admits : M → S → ℕ → List ℕ → Bool) (may_answer : M → S → ℕ → Bool) (paces : M → Pace)
      (waiter : waiter_of.Ghosts T R W) where
    abbrev session : SessionParts S R W F M T
    session =
        record {
          station = station;
          connection = parts;
          is_told = is_told;
          admits = admits;
          may_answer = may_answer;
          paces = paces;
          waiter = waiter;
        }

    abbrev Now : Type 0
    Now = Session S C M T

    abbrev starts : F → Type 0
    starts framing = parts.framing.starts framing

    -- What a step did at this place: nobody joined there, or the peer that joined has the
    -- connection.
    abbrev Went : ℕ → List C → List Happening → C → Type 0
    Went place before happened b =
        (NobodyJoins place happened × Came place (arrived_at place happened) (all_sent happened)
        before b)
        ⊎ (HasJoinedAt place happened × starts b.framing)

    went_if_nothing_happened : (place : ℕ) (before : List C) (happened : List Happening) (b : C)
        → happened ≡ []
        → Came place [] [] before b → Went place before happened b
    went_if_nothing_happened place before happened b none came =
        inl (
          subst (NobodyJoins place) (sym none) tt,
          came_for_equal_history place before b happened
              [] none came,
        )

    nobody_joins_by_sending : (place : ℕ) (in_time : Bool) (due : Option Message)
        → NobodyJoins place (sent_where_some in_time due)
    nobody_joins_by_sending place in_time None = tt
    nobody_joins_by_sending place true (Some m) = (tt, tt)
    nobody_joins_by_sending place false (Some m) = (tt, tt)

    -- What is sent or withheld, or nothing, after something that happened.
    went_by_answer : (place : ℕ) (happening : Happening) (answer : Option Message)
        (old between : Now) (happened : List Happening) (result : Result Bool LiveError) (new : Now)
        (b : C) → IsNoJoining place happening
        → ((m : C) → slice_get between.connections place ≡ Some m → m.ends ≢ None
        → Came place (arrived_in place happening) (sent_in happening) old.connections m)
        → Answers session happening answer between happened result new
        → slice_get new.connections place ≡ Some b → b.ends ≢ None
        → Went place old.connections happened b
    went_by_answer place happening answer old between happened result new b none first a is is_up =
        let r = a.replies in
        let later : List Happening = sent_where_some r.in_time r.due in
        let happens : happened ≡ happening ∷ later = a.happens
        ∙ ap (λ (more : List Happening). happening ∷ more) r.happens in
        inl (
          subst (NobodyJoins place) (sym happens)
              (none, nobody_joins_by_sending place r.in_time r.due),
          came_for_equal_history place old.connections b happened (happening ∷ later) happens
              (came_in_turn place (arrived_in place happening) (sent_in happening)
              (arrived_at place later) (all_sent later) old.connections between.connections b first
              (came_sent r.in_time r.due place between.connections new.connections b r.sends is
              is_up)),
        )

    -- A transmission that was heard or ignored, after what brought it.
    went_by_arrival : (admitted : Bool) (at place : ℕ) (octets : List ℕ) (old between : Now)
        (happened : List Happening) (result : Result Bool LiveError) (new : Now) (b : C)
        → ((m : C) → slice_get between.connections place ≡ Some m → m.ends ≢ None
        → Came place (if_same_place place at octets) [] old.connections m)
        → HearsIfAdmitted session admitted at octets between happened result new
        → slice_get new.connections place ≡ Some b → b.ends ≢ None
        → Went place old.connections happened b
    went_by_arrival true at place octets old between happened result new b first h is is_up =
        went_by_answer place (WasHeard at octets) h.answer old between happened result new b tt
        first h.answers is is_up
    went_by_arrival false at place octets old between happened result new b first
        (station, same, told, waits) is is_up =
        inl (
          subst (NobodyJoins place) (sym told.0) (tt, tt),
          came_for_equal_history place old.connections b happened (WasIgnored at octets ∷ []) told.0
              (came_in_turn place (if_same_place place at octets) [] [] [] old.connections
              between.connections b first
              (came_nothing_if_unchanged place between.connections new.connections b same is
              is_up)),
        )

    went_by_read : (taken : Taken) (at place : ℕ) (old : Now) (happened : List Happening)
        (result : Result Bool LiveError) (new : Now) (b : C)
        → ReadsAt session at taken old happened result new
        → slice_get new.connections place ≡ Some b → b.ends ≢ None
        → Went place old.connections happened b
    went_by_read Whole at place old happened result new b (between, taken, h) is is_up =
        went_by_arrival
        (admits old.monitor old.station at (last h.connection.framing)) at place
        (last h.connection.framing) old (record old { connections = between }) happened result new b
        (λ m there m_up. came_by_whole_read at place old.connections between h.connection m taken
        h.at there m_up)
        h.heard is is_up
    went_by_read Nothing at place old happened result new b r is is_up =
        went_if_nothing_happened place old.connections happened b r.tells.0
        (came_nothing_by_part Nothing (λ c. refl) at place old.connections new.connections b
        r.is_taken is is_up)
    went_by_read Interrupted at place old happened result new b r is is_up =
        went_if_nothing_happened place old.connections happened b r.tells.0
        (came_nothing_by_part Interrupted (λ c. refl) at place old.connections new.connections b
        r.is_taken is is_up)
    went_by_read Part at place old happened result new b r is is_up =
        went_if_nothing_happened place old.connections happened b r.tells.0
        (came_nothing_by_part Part (λ c. refl) at place old.connections new.connections b
        r.is_taken is is_up)
    went_by_read (Closed why) at place old happened result new b r is is_up =
        inl (
          subst (NobodyJoins place) (sym r.tells.0) (tt, tt),
          came_for_equal_history place old.connections b happened (HasClosed at r.peer why ∷ [])
              r.tells.0
              (came_nothing_by_part (Closed why) (λ c. refl) at place old.connections
              new.connections b r.is_taken is is_up),
        )

    went_by_peer : (joined : Option (R × W)) (at place : ℕ) (speaker : S) (waiting : T)
        (old : Around C M) (happened : List Happening) (result : Result Bool LiveError)
        (new : Around C M) (b : C)
        → JoinsAs session at joined speaker waiting old happened result new
        → slice_get new.connections place ≡ Some b → b.ends ≢ None
        → Went place old.connections happened b
    went_by_peer None at place speaker waiting old happened result new b (same, none) is is_up =
        went_if_nothing_happened place old.connections happened b none.0
        (came_nothing_if_unchanged place old.connections new.connections b same is is_up)
    went_by_peer (Some ends) at place speaker waiting old happened result new b
        (changes, peer, named, joined) is is_up =
        let replaces : Bool = is_open_at (slice_get old.connections at) in
        elim (place_after_change at place (λ b a. (a.ends ≡ Some ends) × (a.written ≡ false) × starts a.framing)
        old.connections new.connections b changes is) [
          | inl (same, (a, was, (up, unwritten, fresh))) ↦ inr (
            record {
              peer = peer;
              replaces = replaces;
              is = joined.0 ∙ ap (λ (n : ℕ). HasJoined n peer replaces ∷ []) same;
            },
            fresh,
          )
          | inr (other, was) ↦
              inl (
                subst (NobodyJoins place) (sym joined.0) (eqb-false at place other, tt),
                came_for_equal_history place old.connections b happened
                    (HasJoined at peer replaces ∷ []) joined.0 (b, was, carries_nothing b is_up),
              )
        ]

    went_by_refusal : (peer : Option SocketAddr) (why : Refusal) (place : ℕ) (old new : List C)
        (happened : List Happening) (b : C)
        → new ≡ old → happened ≡ WasRefused peer why ∷ [] → slice_get new place ≡ Some b
        → b.ends ≢ None → Went place old happened b
    went_by_refusal peer why place old new happened b same refused is is_up =
        inl (
          subst (NobodyJoins place) (sym refused) (tt, tt),
          came_for_equal_history place old b happened (WasRefused peer why ∷ []) refused
              (came_nothing_if_unchanged place old new b same is is_up),
        )

    went_by_stop : (place : ℕ) (old new : List C) (happened : List Happening) (b : C)
        → new ≡ old → happened ≡ WasStopped ∷ [] → slice_get new place ≡ Some b → b.ends ≢ None
        → Went place old happened b
    went_by_stop place old new happened b same stopped is is_up =
        inl (
          subst (NobodyJoins place) (sym stopped) (tt, tt),
          came_for_equal_history place old b happened (WasStopped ∷ []) stopped
              (came_nothing_if_unchanged place old new b same is is_up),
        )

    went_by_joining : (given : Option ℕ) (place : ℕ) (old : Now)
        (happened : List Happening) (result : Result Bool LiveError) (new : Now) (b : C)
        → Joins session given old happened result new
        → slice_get new.connections place ≡ Some b → b.ends ≢ None
        → Went place old.connections happened b
    went_by_joining None place old happened result new b (same, turned, peer, named, refused) is
        is_up =
        went_by_refusal peer refusal.NoPlace place old.connections new.connections happened b same
        refused.0 is is_up
    went_by_joining (Some at) place old happened result new b (joined, joins, joining) is is_up =
        went_by_peer joined at place new.station new.waiter
        (record { connections = old.connections; monitor = old.monitor }) happened result
        (record { connections = new.connections; monitor = new.monitor }) b joining is is_up

    went_by_gap : (awaits : Bool) (at place : ℕ) (old : Now) (happened : List Happening)
        (result : Result Bool LiveError) (new : Now) (b : C)
        → GapPasses session at awaits old happened result new
        → slice_get new.connections place ≡ Some b → b.ends ≢ None
        → Went place old.connections happened b
    went_by_gap true at place old happened result new b h is is_up =
        went_by_arrival
        (admits old.monitor old.station at (last h.arrives.connection.framing)) at place
        (last h.arrives.connection.framing) old (record old { connections = h.between }) happened
        result new b
        (λ m there m_up. came_by_change at place
        (λ b a. (a.ends ≡ b.ends) × (a.written ≡ b.written)
        × parts.framing.ends b.framing true a.framing)
        (λ x y y_up ended. carries_gap x y y_up ended.0 ended.2) old.connections h.between
        h.arrives.connection m h.ended h.arrives.at there m_up)
        h.arrives.heard is is_up
    went_by_gap false at place old happened result new b (none, ok, same) is is_up =
        went_if_nothing_happened place old.connections happened b none
        (came_nothing_if_unchanged place old.connections new.connections b
        (ap (λ (now : Now). now.connections) same) is is_up)

    went_by_event : (awaited : Awaited) (place : ℕ) (old : Now) (happened : List Happening)
        (result : Result Bool LiveError) (new : Now) (b : C)
        → Does session awaited old happened result new
        → slice_get new.connections place ≡ Some b → b.ends ≢ None
        → Went place old.connections happened b
    went_by_event (Octets at) place old happened result new b (taken, reads) is is_up =
        went_by_read taken at place old happened result new b reads is is_up
    went_by_event Newcomer place old happened result new b (same, given, for_it, joins) is is_up =
        went_by_joining given place old happened result new b joins is is_up
    went_by_event NotAccepted place old happened result new b (same, kept, refused, waits) is
        is_up =
        went_by_refusal None refusal.NotAccepted place old.connections new.connections happened b kept
        refused.0 is is_up
    went_by_event NotAllowed place old happened result new b
        (same, (kept, turned, peer, named, refused)) is is_up =
        went_by_refusal peer refusal.NotAllowed place old.connections new.connections happened b kept
        refused.0 is is_up
    went_by_event (Gap at) place old happened result new b passes is is_up =
        went_by_gap (awaits_gap parts.framing.awaits (slice_get old.connections at)) at place old
        happened result new b passes is is_up
    went_by_event TimeOut place old happened result new b silent is is_up =
        went_by_answer place WasSilent silent.answer old old happened result new b tt
        (λ m there m_up. (m, there, carries_nothing m m_up)) silent.answers is is_up
    went_by_event Stopped place old happened result new b (same, kept, stopped, waits) is is_up =
        went_by_stop place old.connections new.connections happened b kept stopped.0 is is_up
    went_by_event Client place old happened result new b (none, ok, same) is is_up =
        went_if_nothing_happened place old.connections happened b none
        (came_nothing_if_unchanged place old.connections new.connections b
        (ap (λ (now : Now). now.connections) same) is is_up)

    -- A step, followed by what was carried after it.
    carries_with_step_first : (place : ℕ) (before between : List C) (happened history : List
        Happening) (now : C)
        → ((m : C) → slice_get between place ≡ Some m → m.ends ≢ None
        → Went place before happened m)
        → CarriesFromStart parts gives place history between now
        ⊎ CarriesSinceJoining parts gives place history now
        → CarriesFromStart parts gives place (happened ++ history) before now
        ⊎ CarriesSinceJoining parts gives place (happened ++ history) now
    carries_with_step_first place before between happened history now first (inr since) =
        inr (record {
          sooner = happened ++ since.sooner;
          peer = since.peer;
          replaces = since.replaces;
          later = since.later;
          is = ap (λ (hs : List Happening). happened ++ hs) since.is
              ∙ sym (append_assoc happened since.sooner
              (HasJoined place since.peer since.replaces ∷ since.later));
          last = since.last;
          joined = since.joined;
          nothing_arrived = since.nothing_arrived;
          carries = since.carries;
        })
    carries_with_step_first place before between happened history now first (inl (
      nobody,
      (
        m,
        there,
        later,
      ),
    )) =
        elim (first m there (was_open_if_carried (arrived_at place history) (all_sent history) m now
        later)) [
          | inr (joined, none) ↦
              inr (record {
                sooner = [];
                peer = joined.peer;
                replaces = joined.replaces;
                later = history;
                is = ap (λ (hs : List Happening). hs ++ history) joined.is;
                last = nobody;
                joined = m;
                nothing_arrived = none;
                carries = later;
              })
          | inl (none, (a, was, sooner)) ↦
              let both =
              carries_in_turn (arrived_at place happened) (all_sent happened)
              (arrived_at place history) (all_sent history) a m now sooner later in
              inl (
                all_append (IsNoJoining place) happened history none nobody,
                (
                  a,
                  was,
                  subst (λ (h : List (List ℕ)). Conveys h (all_sent (happened ++ history)) a now)
                      (sym (flat_map-append (arrived_in place) happened history))
                      (subst (λ (s : List (List ℕ)). Conveys
                      (arrived_at place happened ++ arrived_at place history) s a now)
                      (sym (flat_map-append sent_in happened history)) both),
                ),
              )
        ]

-- What was done at a place is what it carries, if nothing follows.
carries_one_step : {R W F : Type 0} (parts : ConnectionParts R W F)
    (gives : F → List ℕ → List (List ℕ) → F → Type 0) (place : ℕ)
    (before : List (ConnectionValue R W F)) (happened : List Happening) (now : ConnectionValue R W F)
    (nothing : Carries parts gives (record { arrived = []; sent = [] }) now now)
    → ((NobodyJoins place happened
    × CarriedAt parts gives place (carried_at place happened) before now)
    ⊎ (HasJoinedAt place happened × parts.framing.starts now.framing))
    → CarriesFromStart parts gives place happened before now
    ⊎ CarriesSinceJoining parts gives place happened now
carries_one_step parts gives place before happened now nothing (inl carried) = inl carried
carries_one_step parts gives place before happened now nothing (inr (joined, none)) =
    inr (record {
      sooner = [];
      peer = joined.peer;
      replaces = joined.replaces;
      later = [];
      is = joined.is;
      last = tt;
      joined = now;
      nothing_arrived = none;
      carries = nothing;
    })

pub carries_history : {S R W F M T : Type 0} (parts : SessionParts S R W F M T)
    (gives : F → List ℕ → List (List ℕ) → F → Type 0)
    (fits : Fits parts.connection.framing.feeds parts.connection.framing.ends
    parts.connection.framing.last gives) → CarriesHistory parts gives
carries_history {S} {R} {W} {F} {M} {T} parts gives fits old new [] place now (ended same) is is_up =
    inl (
      tt,
      came_nothing_if_unchanged parts.connection gives fits place old.connections new.connections
          now (ap (λ (s : Session S (ConnectionValue R W F) M T). s.connections) same) is is_up,
    )
carries_history {S} {R} {W} {F} {M} {T} parts gives fits old new [] place now (fails_to_wait f) is
    is_up =
    inl (
      tt,
      came_nothing_if_unchanged parts.connection gives fits place old.connections new.connections
          now (ap (λ (s : Session S (ConnectionValue R W F) M T). s.connections) f.others) is is_up,
    )
carries_history parts gives fits old new whole place now
    (goes_on {mid = mid} {happened = happened} {history = history} {is_more = is_more} step rest) is
    is_up =
    carries_with_step_first parts.connection gives fits parts.station parts.is_told parts.admits parts.may_answer parts.paces parts.waiter
    place old.connections mid.connections happened history now
    (λ m there m_up. went_by_event parts.connection gives fits parts.station parts.is_told
    parts.admits parts.may_answer parts.paces parts.waiter step.awaited place (record old { waiter = step.waiter }) happened (Ok is_more) mid
    m step.does there m_up)
    (carries_history parts gives fits mid new history place now rest is is_up)
carries_history parts gives fits old new happened place now (fails {error = error} step) is is_up =
    carries_one_step parts.connection gives place old.connections happened now
    (carries_nothing parts.connection gives fits now is_up)
    (went_by_event parts.connection gives fits parts.station parts.is_told parts.admits parts.may_answer parts.paces parts.waiter
    step.awaited place (record old { waiter = step.waiter }) happened (Err error) new now step.does
    is is_up)
